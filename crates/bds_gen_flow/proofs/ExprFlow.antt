-- The code of a well-typed expression leaves one more operand, of its type.
use Rattle.bds_check_names.specs.Rows.{row_of}
use Rattle.bds_value.specs.Methods.{signature_of}
use Rattle.std.proofs.Common.{◌≡◌, ◌+◌, ℕ, suc, List, [], ◌∷◌, ◌++◌, reverse, replicate, Option, Some, None, is_some, is_none, Result, Ok, Bool, true, false, not, ◌&&◌, ◌||◌, refl, sym, ◌∙◌, ap, subst, arith, if◌then◌else◌, rules, append_assoc, cond}
use Rattle.bds_code.specs.declared.effects.EffectFault.{EffectFault}
use Rattle.bds_value.specs.declared.value.At.{At}
use Rattle.bds_value.specs.declared.value.Ty.{Ty}
use Rattle.bds_value.specs.declared.value.Ty.TheVariants as ty
use Rattle.bds_tree.specs.declared.expr.PrefixOp.TheVariants as sign
use Rattle.bds_tree.specs.declared.expr.BinaryOp.TheVariants as op
use Rattle.bds_tree.specs.Tree.{Tree, FormTree, Trees, TreePairs, node, number, text, truth, name, call, group, list, mapping, item, key, method, prefix, binary, choice, dependency, none, more, no_pairs, more_pairs, type_of}
use Rattle.bds_value.specs.Fields.{is_solid}
use Rattle.bds_code.specs.declared.instr.Instr.{Instr}
use Rattle.bds_code.specs.declared.instr.Instr.TheVariants.{MakeList, MakeMap, Key, OutOfDate, PushBool, PushInt, Sub, Mul, Div, Rem, Neg, Not, Equal, NotEqual, Less, LessEqual, Greater, GreaterEqual, Item, Call}
use Rattle.bds_code.specs.declared.unit.Function.{Function}
use Rattle.bds_code.specs.declared.unit.Unit.{Unit as CodeUnit}
use Rattle.bds_code.specs.Operands.{giving, swapped, all_taken, pairs_taken, there, given}
use Rattle.bds_value.specs.Results.{◌>>=◌}
use Rattle.bds_code.specs.Row.{row, compared}
use Rattle.bds_verify.specs.Verified.{goes_on, target}
use Rattle.bds_check_names.specs.declared.names.Names.{Names}
use Rattle.bds_check_names.specs.declared.names.Head.{Head}
use Rattle.bds_check_names.specs.declared.names.Asked.{Asked}
use Rattle.bds_check_names.specs.declared.names.Asked.TheVariants.{Value, This}
use Rattle.bds_check_rules.specs.declared.rules.Rule.TheVariants as rule
use Rattle.bds_check_names.specs.Types.{is_known, differ, or_void, list_of, map_of, is_files, sum_ty, common_ty}
use Rattle.bds_value.specs.Types.{same_ty, list_item, map_item, is_plain, is_ordered}
use Rattle.bds_check_names.specs.Scopes.{found, function_named, is_value, is_missing, type_named}
use Rattle.bds_check_rules.specs.Pieces.{when, any_name, is_wrong_piece, text_rule}
use Rattle.std.specs.List.{list_any}
use Rattle.bds_check_rules.specs.Typing.{type_at, asked_map_item, first_value_type, asked_list_item, item_type, first_type, result_of, count as tree_count}
use Rattle.bds_check_rules.specs.Breaks.{breaks, any_pair_differs, map_rule, any_differs, list_rule, dependency_rule, name_rule, prefix_rule, call_rule, choice_rule, part_rule, method_rule}
use Rattle.bds_check_names.specs.Types.{lacks}
use Rattle.bds_check_size.specs.ExprSize.{pairs_size, listing_size, sum_size, expr_size, form_size, trees_size, sum_of, method_size}
use Rattle.bds_check_size.specs.declared.sums.Sum.{Sum}
use Rattle.bds_check_size.specs.Parts.{parts_size, parts_of}
use Rattle.bds_check_size.specs.Known.{look}
use Rattle.bds_check_typing.specs.Walk.{no_whole, is_open, items_asked, parameters_of}
use Rattle.bds_check_typing.specs.WellTyped.{asked_among_values, ArePairsWellTyped, asked_among, asked_of_item, AreItemsWellTyped, IsWellTyped, ArePartsWellTyped, AreArgumentsWellTyped, taken_behind}
use Rattle.bds_check_typing.specs.Known.{IsValueWritten, ArePartsWritten, AreValuesWritten, ArePairsWritten}
use Rattle.bds_check_typing.proofs.Written.{written-known}
use Rattle.bds_gen_expr.specs.Marks.{Mark, one}
use Rattle.bds_gen_expr.specs.declared.scope.Scope.{Scope}
use Rattle.bds_gen_expr.specs.Scope.{known, place_of, load, function_number}
use Rattle.bds_gen_expr.specs.ExprCode.{pairs_code, pair_count, pieces_code, listing, expr_code, form_code, trees_code, left_ty, between_size, method_code}
use Rattle.bds_gen_flow.specs.Flow.{Runs}
use Rattle.bds_gen_flow.proofs.Flow.{runs_then, runs_to, runs_none, runs_one}
use Rattle.bds_gen_flow.proofs.Branches.{runs_choice}
use Rattle.bds_gen_flow.proofs.Sums.{sum-fits}
use Rattle.bds_value.proofs.TypeLaws.{same_ty-true}
use Rattle.bds_gen_flow.proofs.RowEffects.{map-solid, take_entry-is, not_void, unknown-void, int-solid, bool-solid, text-solid, list-solid, given-is, swap_one, swap_two, compare-is, take_item-is, same-unless, int-known, bool-known, text-known}
use Rattle.bds_gen_flow.specs.Fits.{Fits}
use Rattle.bds_gen_flow.proofs.ExprParts.{when-none, or-deep-none, or-none, written-type, known-type, no_target, loads_on, ints, both-ints, both-bools, holds, both-among, two_runs, one_runs, sum_runs, found-is, some-is, common-is, grouped, sum-sizes, types_below, AllKnown, all-known, types_in, solid-reverse, all-taken, below-is, solid-types, arguments-are, call-row, list-of-is, item-again, among-fits, items-below, solid-again, value-choice, among-value, items-value, map-of-is, entry-again, pairs-fit, pairs_below, all-pairs-known, pairs-are, pairs-taken, among-values-value, keys-are, files-by, called}
use Rattle.bds_gen_flow.proofs.MethodFlow.{method_runs}
use Rattle.bds_gen_flow.proofs.TextFlow.{parts-run, pieces-fit}

module _ (u : CodeUnit) (f : Function) (Labels : ℕ → List Ty → Type 0) (Ticks : ℕ → Type 0) (sc : Scope) (names : Names) (fits : Fits u f sc names) where
  abbrev types : List ℕ → Option Ty
  types = look (known sc)

  abbrev Runs_here : List Mark → ℕ → ℕ → List Ty → List Ty → Type 0
  Runs_here = Runs u f Labels Ticks

  typed : (ms : List Mark) (p q : ℕ) (s : List Ty) (t w : Ty) → t ≡ w → Runs_here ms p q s (w ∷ s) → Runs_here ms p q s (t ∷ s)
  typed ms p q s t w e r = subst (λ x. Runs_here ms p q s (x ∷ s)) (sym e) r

  pub call_runs : (o : Option Head) (fn : List ℕ) (at : At) (void : Bool) (t : Ty) (es : Trees) (ms : List Mark) (p q e : ℕ) (s : List Ty) → function_named fn names.functions ≡ o → call_rule void o es ≡ None → t ≡ result_of o
      → is_known t ≡ true → AllKnown es → q + 1 ≡ e → Runs_here ms p q s (types_below es s) → Runs_here (ms ++ one at (Call (function_number sc fn))) p e s (t ∷ s)
  call_runs None fn at void t es ms p q e s n c is k ka eq r = absurd (search (rules, c))
  call_runs (Some h) fn at void t es ms p q e s n c is k ka eq r =
      let called_is = called void h es c in
      let there = fits.calls fn h n in
      let g : Function = there.0 in
      let params : g.params ≡ types_in es = there.2 ∙ arguments-are h.parameters es ka (fits.parameters fn h n) called_is.arguments called_is.count in
      let row_is : row u f (Call (function_number sc fn)) (types_below es s) ≡ Ok (g.ret ∷ s) =
      ap (λ o. there_in o) there.1 ∙ call-row g.params g.ret es s ka params (not_void g.ret (subst (λ x. is_known x ≡ true) (is ∙ sym there.3) k)) in
      typed (ms ++ one at (Call (function_number sc fn))) p e s t g.ret (is ∙ sym there.3)
      (runs_then u f Labels Ticks ms (one at (Call (function_number sc fn))) p q e s (types_below es s) (g.ret ∷ s) r (runs_one u f Labels Ticks (Call (function_number sc fn)) at q e (types_below es s) (g.ret ∷ s) eq refl refl row_is))
    where
      there_in : Option Function → Result (List Ty) EffectFault
      there_in o = there o (function_number sc fn) >>= λ callee. swapped (reverse callee.params) callee.ret (types_below es s)

  int_runs : (i : Instr) (a x : Tree) (at : At) (t : Ty) (p : ℕ) (s : List Ty) → target i ≡ None → goes_on i ≡ true → ((a b : Ty) (s : List Ty) → row u f i (b ∷ a ∷ s) ≡ swapped (ty.Int ∷ ty.Int ∷ []) ty.Int (b ∷ a ∷ s)) → t ≡ ty.Int
      → (ty.Int ≡ type_of a) × (ty.Int ≡ type_of x) → Runs_here (expr_code a sc p s) p (p + expr_size types a) s (type_of a ∷ s)
      → Runs_here (expr_code x sc (p + expr_size types a) (type_of a ∷ s)) (p + expr_size types a) (p + expr_size types a + expr_size types x) (type_of a ∷ s) (type_of x ∷ type_of a ∷ s)
      → Runs_here (expr_code a sc p s ++ (expr_code x sc (p + expr_size types a) (type_of a ∷ s) ++ one at i)) p (p + (expr_size types a + expr_size types x + 1)) s (t ∷ s)
  int_runs i a x at t p s j g r is e ra rx =
      typed (expr_code a sc p s ++ (expr_code x sc (p + expr_size types a) (type_of a ∷ s) ++ one at i)) p (p + (expr_size types a + expr_size types x + 1)) s t ty.Int is
      (two_runs u f Labels Ticks at i (expr_code a sc p s) (expr_code x sc (p + expr_size types a) (type_of a ∷ s)) p (p + expr_size types a) (p + expr_size types a + expr_size types x) (p + (expr_size types a + expr_size types x + 1)) s (type_of a) (type_of x) ty.Int j g (omega arith)
      (r (type_of a) (type_of x) s ∙ ints u f (type_of a) (type_of x) ty.Int s e.0 e.1 int-solid) ra rx)

  compared_runs : (i : Instr) (test : Ty → Bool) (a x : Tree) (at : At) (t : Ty) (p : ℕ) (s : List Ty) → target i ≡ None → goes_on i ≡ true → ((s : List Ty) → row u f i s ≡ compared test s) → t ≡ ty.Bool
      → is_known (type_of x) ≡ true → (type_of a ≡ type_of x) × (test (type_of x) ≡ true) → Runs_here (expr_code a sc p s) p (p + expr_size types a) s (type_of a ∷ s)
      → Runs_here (expr_code x sc (p + expr_size types a) (type_of a ∷ s)) (p + expr_size types a) (p + expr_size types a + expr_size types x) (type_of a ∷ s) (type_of x ∷ type_of a ∷ s)
      → Runs_here (expr_code a sc p s ++ (expr_code x sc (p + expr_size types a) (type_of a ∷ s) ++ one at i)) p (p + (expr_size types a + expr_size types x + 1)) s (t ∷ s)
  compared_runs i test a x at t p s j g r is kx e ra rx =
      typed (expr_code a sc p s ++ (expr_code x sc (p + expr_size types a) (type_of a ∷ s) ++ one at i)) p (p + (expr_size types a + expr_size types x + 1)) s t ty.Bool is
      (two_runs u f Labels Ticks at i (expr_code a sc p s) (expr_code x sc (p + expr_size types a) (type_of a ∷ s)) p (p + expr_size types a) (p + expr_size types a + expr_size types x) (p + (expr_size types a + expr_size types x + 1)) s (type_of a) (type_of x) ty.Bool j g (omega arith)
      (r (type_of x ∷ type_of a ∷ s) ∙ subst (λ y. compared test (type_of x ∷ y ∷ s) ≡ Ok (ty.Bool ∷ s)) (sym e.0) (compare-is test (type_of x) s (not_void (type_of x) kx) e.1)) ra rx)

  more_runs : (e : Tree) (es : Trees) (p : ℕ) (s : List Ty) → Runs_here (expr_code e sc p s) p (p + expr_size types e) s (type_of e ∷ s)
      → Runs_here (trees_code es sc (p + expr_size types e) (type_of e ∷ s)) (p + expr_size types e) (p + expr_size types e + trees_size types es) (type_of e ∷ s) (types_below es (type_of e ∷ s))
      → Runs_here (trees_code (more e es) sc p s) p (p + trees_size types (more e es)) s (types_below (more e es) s)
  more_runs e es p s re res =
      let q : ℕ = p + expr_size types e in
      let place : q + trees_size types es ≡ p + (expr_size types e + trees_size types es) = omega arith in
      runs_then u f Labels Ticks (expr_code e sc p s) (trees_code es sc q (type_of e ∷ s)) p q (p + (expr_size types e + trees_size types es)) s (type_of e ∷ s) (types_below es (type_of e ∷ s)) re
      (runs_to u f Labels Ticks (trees_code es sc q (type_of e ∷ s)) q (q + trees_size types es) (p + (expr_size types e + trees_size types es)) (type_of e ∷ s) (types_below es (type_of e ∷ s)) place res)

  -- a call of a function without a result
  pub void_call_runs : (o : Option Head) (fn : List ℕ) (at : At) (void : Bool) (t : Ty) (es : Trees) (ms : List Mark) (p q e : ℕ) (s : List Ty) → function_named fn names.functions ≡ o → call_rule void o es ≡ None → t ≡ result_of o
      → is_known t ≡ false → AllKnown es → q + 1 ≡ e → Runs_here ms p q s (types_below es s) → Runs_here (ms ++ one at (Call (function_number sc fn))) p e s s
  void_call_runs None fn at void t es ms p q e s n c is k ka eq r = absurd (search (rules, c))
  void_call_runs (Some h) fn at void t es ms p q e s n c is k ka eq r =
      let called_is = called void h es c in
      let there = fits.calls fn h n in
      let g : Function = there.0 in
      let params : g.params ≡ types_in es = there.2 ∙ arguments-are h.parameters es ka (fits.parameters fn h n) called_is.arguments called_is.count in
      let no_result : is_known g.ret ≡ false = subst (λ x. is_known x ≡ false) (is ∙ sym there.3) k in
      let row_is : row u f (Call (function_number sc fn)) (types_below es s) ≡ Ok s =
      ap (λ o. there_in o) there.1 ∙ ap (λ x. swapped (reverse x) g.ret (types_below es s)) params
      ∙ ap (λ x. all_taken (reverse (types_in es)) x >>= giving g.ret) (below-is es s)
      ∙ ap (λ r. r >>= giving g.ret) (all-taken (reverse (types_in es)) s (solid-reverse (types_in es) (solid-types es ka)))
      ∙ ap (λ b. Ok (cond b [] (g.ret ∷ []) ++ s)) (unknown-void g.ret no_result) in
      runs_then u f Labels Ticks ms (one at (Call (function_number sc fn))) p q e s (types_below es s) s r (runs_one u f Labels Ticks (Call (function_number sc fn)) at q e (types_below es s) s eq refl refl row_is)
    where
      there_in : Option Function → Result (List Ty) EffectFault
      there_in o = there o (function_number sc fn) >>= λ callee. swapped (reverse callee.params) callee.ret (types_below es s)

  -- a file becomes a list of one
  pub listing_runs : (at : At) (t : Ty) (b : Bool) (p q : ℕ) (s : List Ty) → same_ty t ty.Text ≡ b → is_files t ≡ true → p + (if b then 1 else 0) ≡ q → Runs_here (if b then one at (MakeList ty.Text 1) else []) p q (t ∷ s) (ty.List ty.Text ∷ s)
  listing_runs at t true p q s e h z =
      let same : ty.Text ≡ t = sym (same_ty-true t ty.Text e) in
      subst (λ x. Runs_here (one at (MakeList ty.Text 1)) p q (x ∷ s) (ty.List ty.Text ∷ s)) same
      (runs_one u f Labels Ticks (MakeList ty.Text 1) at p q (ty.Text ∷ s) (ty.List ty.Text ∷ s) z refl refl (swap_one ty.Text (ty.List ty.Text) s text-solid (list-solid ty.Text)))
  listing_runs at t false p q s e h z =
      let same : t ≡ ty.List ty.Text = files-by false (same_ty t (ty.List ty.Text)) t e refl (sym (ap (λ (b : Bool). b || same_ty t (ty.List ty.Text)) e) ∙ h) refl in
      let place : p ≡ q = omega (arith, z) in
      runs_to u f Labels Ticks [] p p q (t ∷ s) (ty.List ty.Text ∷ s) place (subst (λ x. Runs_here [] p p (t ∷ s) (x ∷ s)) same (runs_none u f Labels Ticks p (t ∷ s)))

  pub files_runs : (e : Tree) (at : At) (p q : ℕ) (s : List Ty) → is_files (type_of e) ≡ true → p + expr_size types e + listing_size (type_of e) ≡ q → Runs_here (expr_code e sc p s) p (p + expr_size types e) s (type_of e ∷ s)
      → Runs_here (expr_code e sc p s ++ listing at (type_of e)) p q s (ty.List ty.Text ∷ s)
  files_runs e at p q s h z r =
      runs_then u f Labels Ticks (expr_code e sc p s) (listing at (type_of e)) p (p + expr_size types e) q s (type_of e ∷ s) (ty.List ty.Text ∷ s) r
      (listing_runs at (type_of e) (same_ty (type_of e) ty.Text) (p + expr_size types e) q s refl h z)

  mutual
    pub expr_runs : (e : Tree) (asked : Asked) (p : ℕ) (s : List Ty) → is_value asked ≡ true → IsWellTyped e names asked → IsValueWritten e
        → Runs_here (expr_code e sc p s) p (p + expr_size types e) s (type_of e ∷ s)
    expr_runs (node at t fm) asked p s v w k = form_runs fm at t asked p s v w.0 w.1 w.2 k.0 k.1

    form_runs : (fm : FormTree) (at : At) (t : Ty) (asked : Asked) (p : ℕ) (s : List Ty) → is_value asked ≡ true → t ≡ type_at names asked fm → breaks names asked fm ≡ None
        → ArePartsWellTyped fm names asked → is_solid t ≡ true → ArePartsWritten fm → Runs_here (form_code fm at t sc p s) p (p + form_size types fm) s (t ∷ s)
    form_runs (number n) at t asked p s v is b w k kw = typed (one at (PushInt n)) p (p + 1) s t ty.Int is (runs_one u f Labels Ticks (PushInt n) at p (p + 1) s (ty.Int ∷ s) refl refl refl (given-is ty.Int s int-solid))
    form_runs (truth x) at t asked p s v is b w k kw = typed (one at (PushBool x)) p (p + 1) s t ty.Bool is (runs_one u f Labels Ticks (PushBool x) at p (p + 1) s (ty.Bool ∷ s) refl refl refl (given-is ty.Bool s bool-solid))
    form_runs (name x) at t asked p s v is b w k kw =
        let q = (when-none (is_missing names.finding (found x names)) rule.UnknownName None (or-deep-none (name_rule names x) (type_named x names) b)).0 in
        let there : found x names ≡ Some t = found-is names.finding (found x names) q ∙ ap (λ (y : Ty). Some y) (sym is) in
        runs_one u f Labels Ticks (load sc x) at p (p + 1) s (t ∷ s) refl (no_target (place_of sc x)) (loads_on (place_of sc x)) (fits.loads x t s there (written-known t k))
    form_runs (call fn es) at t asked p s v is b w k kw =
        let c : call_rule (is_value asked) (function_named fn names.functions) es ≡ None = or-deep-none (call_rule (is_value asked) (function_named fn names.functions) es) (type_at names asked (call fn es)) b in
        call_runs (function_named fn names.functions) fn at (is_value asked) t es (trees_code es sc p s) p (p + trees_size types es) (p + (trees_size types es + 1)) s refl c is (written-known t k) (all-known es kw) (omega arith)
        (trees_runs es (parameters_of (function_named fn names.functions)) p s w kw)
    form_runs (group e) at t asked p s v is b w k kw = typed (expr_code e sc p s) p (p + expr_size types e) s t (type_of e) is (expr_runs e (no_whole asked) p s (grouped asked v) w kw)
    form_runs (item a i) at t asked p s v is b w k kw =
        let ka : is_known (type_of a) ≡ true = known-type a kw.0 in
        let q = when-none (differ ty.Int (type_of i)) rule.WrongType (when (lacks (type_of a) (is_some (list_item (type_of a)))) rule.BadItem None) (or-deep-none (part_rule ty.Int (type_of a) (list_item (type_of a)) (type_of i)) (or_void (list_item (type_of a))) b) in
        let q2 = (when-none (lacks (type_of a) (is_some (list_item (type_of a)))) rule.BadItem None q.1).0 in
        let index_is : ty.Int ≡ type_of i = same-unless ty.Int (type_of i) int-known (known-type i kw.1) q.0 in
        let item_there : list_item (type_of a) ≡ Some t = some-is (is_known (type_of a)) (list_item (type_of a)) ka q2 ∙ ap (λ (y : Ty). Some y) (sym is) in
        let row_is : row u f Item (type_of i ∷ type_of a ∷ s) ≡ Ok (t ∷ s) = subst (λ x. row u f Item (x ∷ type_of a ∷ s) ≡ Ok (t ∷ s)) index_is (take_item-is (type_of a) t s (not_void (type_of a) ka) (not_void t (written-known t k)) item_there) in
        two_runs u f Labels Ticks at Item (expr_code a sc p s) (expr_code i sc (p + expr_size types a) (type_of a ∷ s)) p (p + expr_size types a) (p + expr_size types a + expr_size types i) (p + (expr_size types a + expr_size types i + 1)) s (type_of a) (type_of i) t refl refl (omega arith) row_is
        (expr_runs a Value p s refl w.0 kw.0) (expr_runs i Value (p + expr_size types a) (type_of a ∷ s) refl w.1 kw.1)
    form_runs (prefix sign.Neg a) at t asked p s v is b w k kw =
        let q = (when-none (differ ty.Int (type_of a)) rule.WrongType None (or-deep-none (prefix_rule sign.Neg (type_of a)) ty.Int b)).0 in
        let same : ty.Int ≡ type_of a = same-unless ty.Int (type_of a) int-known (known-type a kw) q in
        let row_is : row u f Neg (type_of a ∷ s) ≡ Ok (ty.Int ∷ s) = subst (λ x. row u f Neg (x ∷ s) ≡ Ok (ty.Int ∷ s)) same (swap_one ty.Int ty.Int s int-solid int-solid) in
        typed (expr_code a sc p s ++ one at Neg) p (p + (expr_size types a + 1)) s t ty.Int is (one_runs u f Labels Ticks at Neg (expr_code a sc p s) p (p + expr_size types a) (p + (expr_size types a + 1)) s (type_of a) ty.Int refl refl (omega arith) row_is (expr_runs a Value p s refl w kw))
    form_runs (prefix sign.Not a) at t asked p s v is b w k kw =
        let q = (when-none (differ ty.Bool (type_of a)) rule.WrongType None (or-deep-none (prefix_rule sign.Not (type_of a)) ty.Bool b)).0 in
        let same : ty.Bool ≡ type_of a = same-unless ty.Bool (type_of a) bool-known (known-type a kw) q in
        let row_is : row u f Not (type_of a ∷ s) ≡ Ok (ty.Bool ∷ s) = subst (λ x. row u f Not (x ∷ s) ≡ Ok (ty.Bool ∷ s)) same (swap_one ty.Bool ty.Bool s bool-solid bool-solid) in
        typed (expr_code a sc p s ++ one at Not) p (p + (expr_size types a + 1)) s t ty.Bool is (one_runs u f Labels Ticks at Not (expr_code a sc p s) p (p + expr_size types a) (p + (expr_size types a + 1)) s (type_of a) ty.Bool refl refl (omega arith) row_is (expr_runs a Value p s refl w kw))
    form_runs (binary a op.Or x) at t asked p s v is b w k kw =
        let e = both-bools u f (type_of a) (type_of x) (known-type a kw.0) (known-type x kw.1) b in
        let q : ℕ = p + expr_size types a in
        let right : ℕ = q + 3 in
        let test : Runs_here (expr_code a sc p s) p q s (ty.Bool ∷ s) = typed (expr_code a sc p s) p q s ty.Bool (type_of a) e.0 (expr_runs a Value p s refl w.0 kw.0) in
        let left : Runs_here (one at (PushBool true)) (suc q) (suc (suc q)) s (ty.Bool ∷ s) = runs_one u f Labels Ticks (PushBool true) at (suc q) (suc (suc q)) s (ty.Bool ∷ s) (omega arith) refl refl (given-is ty.Bool s bool-solid) in
        let other : Runs_here (expr_code x sc right s) right (right + expr_size types x) s (ty.Bool ∷ s) = typed (expr_code x sc right s) right (right + expr_size types x) s ty.Bool (type_of x) e.1 (expr_runs x Value right s refl w.1 kw.1) in
        let place : right + expr_size types x ≡ p + (expr_size types a + expr_size types x + 3) = omega arith in
        typed (form_code (binary a op.Or x) at t sc p s) p (p + (expr_size types a + expr_size types x + 3)) s t ty.Bool is
        (runs_to u f Labels Ticks (form_code (binary a op.Or x) at t sc p s) p (right + expr_size types x) (p + (expr_size types a + expr_size types x + 3)) s (ty.Bool ∷ s) place
        (runs_choice u f Labels Ticks at (expr_code a sc p s) (one at (PushBool true)) (expr_code x sc right s) p q (suc q) (suc (suc q)) right (right + expr_size types x) s (ty.Bool ∷ s) refl (omega arith) test left other))
    form_runs (binary a op.And x) at t asked p s v is b w k kw =
        let e = both-bools u f (type_of a) (type_of x) (known-type a kw.0) (known-type x kw.1) b in
        let q : ℕ = p + expr_size types a in
        let right : ℕ = q + 1 in
        let r : ℕ = right + expr_size types x in
        let test : Runs_here (expr_code a sc p s) p q s (ty.Bool ∷ s) = typed (expr_code a sc p s) p q s ty.Bool (type_of a) e.0 (expr_runs a Value p s refl w.0 kw.0) in
        let left : Runs_here (expr_code x sc right s) right r s (ty.Bool ∷ s) = typed (expr_code x sc right s) right r s ty.Bool (type_of x) e.1 (expr_runs x Value right s refl w.1 kw.1) in
        let other : Runs_here (one at (PushBool false)) (r + 1) (r + 1 + 1) s (ty.Bool ∷ s) = runs_one u f Labels Ticks (PushBool false) at (r + 1) (r + 1 + 1) s (ty.Bool ∷ s) refl refl refl (given-is ty.Bool s bool-solid) in
        let place : r + 1 + 1 ≡ p + (expr_size types a + expr_size types x + 3) = omega arith in
        typed (form_code (binary a op.And x) at t sc p s) p (p + (expr_size types a + expr_size types x + 3)) s t ty.Bool is
        (runs_to u f Labels Ticks (form_code (binary a op.And x) at t sc p s) p (r + 1 + 1) (p + (expr_size types a + expr_size types x + 3)) s (ty.Bool ∷ s) place
        (runs_choice u f Labels Ticks at (expr_code a sc p s) (expr_code x sc right s) (one at (PushBool false)) p q right r (r + 1) (r + 1 + 1) s (ty.Bool ∷ s) (omega arith) (omega arith) test left other))
    form_runs (binary a op.Add x) at t asked p s v is b w k kw =
        let sum : Sum = sum_of (type_of a) (type_of x) in
        let q : ℕ = p + expr_size types a in
        let r : ℕ = q + between_size sum in
        let z : ℕ = r + expr_size types x in
        let ka : is_known (type_of a) ≡ true = known-type a kw.0 in
        let kx : is_known (type_of x) ≡ true = known-type x kw.1 in
        let known_sum : is_known (sum_ty (type_of a) (type_of x)) ≡ true = subst (λ y. is_known y ≡ true) is (written-known t k) in
        let sizes = sum-sizes sum in
        sum_runs u f Labels Ticks at sum (expr_code a sc p s) (expr_code x sc r (left_ty sum (type_of a) ∷ s)) p q r z (p + (expr_size types a + expr_size types x + sum_size sum)) s (type_of a) (type_of x) t
        (sum-fits (type_of a) (type_of x) ka kx known_sum) is (written-type a kw.0) ka kx refl (omega (arith, sizes)) (expr_runs a Value p s refl w.0 kw.0) (expr_runs x Value r (left_ty sum (type_of a) ∷ s) refl w.1 kw.1)
    form_runs (binary a op.Sub x) at t asked p s v is b w k kw = int_runs Sub a x at t p s refl refl (λ a b s. refl) is (both-ints u f (type_of a) (type_of x) true s (known-type a kw.0) (known-type x kw.1) b) (expr_runs a Value p s refl w.0 kw.0) (expr_runs x Value (p + expr_size types a) (type_of a ∷ s) refl w.1 kw.1)
    form_runs (binary a op.Mul x) at t asked p s v is b w k kw = int_runs Mul a x at t p s refl refl (λ a b s. refl) is (both-ints u f (type_of a) (type_of x) true s (known-type a kw.0) (known-type x kw.1) b) (expr_runs a Value p s refl w.0 kw.0) (expr_runs x Value (p + expr_size types a) (type_of a ∷ s) refl w.1 kw.1)
    form_runs (binary a op.Div x) at t asked p s v is b w k kw = int_runs Div a x at t p s refl refl (λ a b s. refl) is (both-ints u f (type_of a) (type_of x) true s (known-type a kw.0) (known-type x kw.1) b) (expr_runs a Value p s refl w.0 kw.0) (expr_runs x Value (p + expr_size types a) (type_of a ∷ s) refl w.1 kw.1)
    form_runs (binary a op.Rem x) at t asked p s v is b w k kw = int_runs Rem a x at t p s refl refl (λ a b s. refl) is (both-ints u f (type_of a) (type_of x) true s (known-type a kw.0) (known-type x kw.1) b) (expr_runs a Value p s refl w.0 kw.0) (expr_runs x Value (p + expr_size types a) (type_of a ∷ s) refl w.1 kw.1)
    form_runs (binary a op.Equal x) at t asked p s v is b w k kw = compared_runs Equal is_plain a x at t p s refl refl (λ s. refl) is (known-type x kw.1) (both-among u f is_plain is_plain (type_of a) (type_of x) s (λ t h. h) (known-type a kw.0) (known-type x kw.1) b) (expr_runs a Value p s refl w.0 kw.0) (expr_runs x Value (p + expr_size types a) (type_of a ∷ s) refl w.1 kw.1)
    form_runs (binary a op.NotEqual x) at t asked p s v is b w k kw = compared_runs NotEqual is_plain a x at t p s refl refl (λ s. refl) is (known-type x kw.1) (both-among u f is_plain is_plain (type_of a) (type_of x) s (λ t h. h) (known-type a kw.0) (known-type x kw.1) b) (expr_runs a Value p s refl w.0 kw.0) (expr_runs x Value (p + expr_size types a) (type_of a ∷ s) refl w.1 kw.1)
    form_runs (binary a op.Less x) at t asked p s v is b w k kw = compared_runs Less is_ordered a x at t p s refl refl (λ s. refl) is (known-type x kw.1) (both-among u f is_ordered is_ordered (type_of a) (type_of x) s (λ t h. h) (known-type a kw.0) (known-type x kw.1) b) (expr_runs a Value p s refl w.0 kw.0) (expr_runs x Value (p + expr_size types a) (type_of a ∷ s) refl w.1 kw.1)
    form_runs (binary a op.AtMost x) at t asked p s v is b w k kw = compared_runs LessEqual is_ordered a x at t p s refl refl (λ s. refl) is (known-type x kw.1) (both-among u f is_ordered is_ordered (type_of a) (type_of x) s (λ t h. h) (known-type a kw.0) (known-type x kw.1) b) (expr_runs a Value p s refl w.0 kw.0) (expr_runs x Value (p + expr_size types a) (type_of a ∷ s) refl w.1 kw.1)
    form_runs (binary a op.Greater x) at t asked p s v is b w k kw = compared_runs Greater is_ordered a x at t p s refl refl (λ s. refl) is (known-type x kw.1) (both-among u f is_ordered is_ordered (type_of a) (type_of x) s (λ t h. h) (known-type a kw.0) (known-type x kw.1) b) (expr_runs a Value p s refl w.0 kw.0) (expr_runs x Value (p + expr_size types a) (type_of a ∷ s) refl w.1 kw.1)
    form_runs (binary a op.AtLeast x) at t asked p s v is b w k kw = compared_runs GreaterEqual is_ordered a x at t p s refl refl (λ s. refl) is (known-type x kw.1) (both-among u f is_ordered is_ordered (type_of a) (type_of x) s (λ t h. h) (known-type a kw.0) (known-type x kw.1) b) (expr_runs a Value p s refl w.0 kw.0) (expr_runs x Value (p + expr_size types a) (type_of a ∷ s) refl w.1 kw.1)
    form_runs (choice c a x) at t asked p s v is b w k kw =
        let r = or-none (differ ty.Bool (type_of c)) (differ (type_of a) (type_of x)) (when-none (differ ty.Bool (type_of c) || differ (type_of a) (type_of x)) rule.WrongType None (or-deep-none (choice_rule (type_of c) (type_of a) (type_of x)) (common_ty (type_of a) (type_of x)) b)).0 in
        let kc : ty.Bool ≡ type_of c = same-unless ty.Bool (type_of c) bool-known (known-type c kw.0) r.0 in
        let same : type_of a ≡ type_of x = same-unless (type_of a) (type_of x) (known-type a kw.1) (known-type x kw.2) r.1 in
        let t_is : t ≡ type_of a = is ∙ common-is (is_known (type_of a)) (is_known (type_of x)) (type_of a) (known-type a kw.1) (known-type x kw.2) in
        let q : ℕ = p + expr_size types c in
        let then_place : ℕ = q + 1 in
        let r2 : ℕ = then_place + expr_size types a in
        let other : ℕ = r2 + 1 in
        let end : ℕ = other + expr_size types x in
        let test : Runs_here (expr_code c sc p s) p q s (ty.Bool ∷ s) = typed (expr_code c sc p s) p q s ty.Bool (type_of c) kc (expr_runs c Value p s refl w.0 kw.0) in
        let left : Runs_here (expr_code a sc then_place s) then_place r2 s (t ∷ s) = typed (expr_code a sc then_place s) then_place r2 s t (type_of a) t_is (expr_runs a Value then_place s refl w.1 kw.1) in
        let right : Runs_here (expr_code x sc other s) other end s (t ∷ s) = typed (expr_code x sc other s) other end s t (type_of x) (t_is ∙ same) (expr_runs x Value other s refl w.2 kw.2) in
        let place : end ≡ p + (expr_size types c + 1 + expr_size types a + 1 + expr_size types x) = omega arith in
        runs_to u f Labels Ticks (form_code (choice c a x) at t sc p s) p end (p + (expr_size types c + 1 + expr_size types a + 1 + expr_size types x)) s (t ∷ s) place
        (runs_choice u f Labels Ticks at (expr_code c sc p s) (expr_code a sc then_place s) (expr_code x sc other s) p q then_place r2 other end s (t ∷ s) (omega arith) (omega arith) test left right)
    form_runs (text ps) at t asked p s v is b w k kw =
        let q = when-none (list_any (any_name (is_missing names.finding) names) ps) rule.UnknownName (when (list_any (is_wrong_piece names) ps) rule.WrongType None) (or-deep-none (text_rule names ps) ty.Text b) in
        let right = (when-none (list_any (is_wrong_piece names) ps) rule.WrongType None q.1).0 in
        typed (pieces_code sc at ps) p (p + parts_size (parts_of types ps)) s t ty.Text is (parts-run u f Labels Ticks sc names fits (parts_of types ps) at p s (pieces-fit u f Labels Ticks sc names fits ps right))
    form_runs (list es) at t asked p s v is b w k kw =
        let it : Ty = item_type (asked_list_item asked) (first_type es) in
        let l = list-of-is it t is (written-known t k) in
        let item_is : or_void (list_item t) ≡ it = item-again it t l.0 in
        let alike : any_differs it es ≡ false = among-fits asked es (or-deep-none (list_rule asked es) (list_of it) b) in
        let all_known : AllKnown es = all-known es kw in
        let row_is : row u f (MakeList (or_void (list_item t)) (tree_count es)) (types_below es s) ≡ Ok (t ∷ s) =
        ap (λ x. swapped (replicate (tree_count es) x) (ty.List x) (types_below es s)) item_is
        ∙ ap (λ x. all_taken (replicate (tree_count es) it) x >>= giving (ty.List it)) (items-below it es s l.1 all_known alike)
        ∙ ap (λ r. r >>= giving (ty.List it)) (all-taken (replicate (tree_count es) it) s (solid-again (tree_count es) it (not_void it l.1)))
        ∙ given-is (ty.List it) s (list-solid it) ∙ ap (λ x. Ok (x ∷ s)) (sym l.0) in
        let items = items_runs es (is_none (asked_list_item asked)) (items_asked (asked_list_item asked) (asked_among es asked)) p s (items-value (asked_list_item asked) (asked_among es asked) (among-value es asked)) w kw in
        runs_then u f Labels Ticks (trees_code es sc p s) (one at (MakeList (or_void (list_item t)) (tree_count es))) p (p + trees_size types es) (p + (trees_size types es + 1)) s (types_below es s) (t ∷ s) items
        (runs_one u f Labels Ticks (MakeList (or_void (list_item t)) (tree_count es)) at (p + trees_size types es) (p + (trees_size types es + 1)) (types_below es s) (t ∷ s) (omega arith) refl refl row_is)
    form_runs (mapping ps) at t asked p s v is b w k kw =
        let it : Ty = item_type (asked_map_item asked) (first_value_type ps) in
        let l = map-of-is it t is (written-known t k) in
        let item_is : or_void (map_item t) ≡ it = entry-again it t l.0 in
        let alike : any_pair_differs it ps ≡ false = pairs-fit asked ps (or-deep-none (map_rule asked ps) (map_of it) b) in
        let row_is : row u f (MakeMap (or_void (map_item t)) (pair_count ps)) (pairs_below ps s) ≡ Ok (t ∷ s) =
        ap (λ x. pairs_taken (pair_count ps) x (pairs_below ps s) >>= giving (ty.Map x)) item_is
        ∙ ap (λ x. pairs_taken (pair_count ps) it x >>= giving (ty.Map it)) (pairs-are it ps s l.1 (all-pairs-known ps kw) alike)
        ∙ ap (λ r. r >>= giving (ty.Map it)) (pairs-taken (pair_count ps) it s (not_void it l.1))
        ∙ given-is (ty.Map it) s (map-solid it) ∙ ap (λ x. Ok (x ∷ s)) (sym l.0) in
        let pairs = pairs_runs ps (is_none (asked_map_item asked)) (items_asked (asked_map_item asked) (asked_among_values ps asked)) it p s (items-value (asked_map_item asked) (asked_among_values ps asked) (among-values-value ps asked)) alike w kw in
        runs_then u f Labels Ticks (pairs_code ps sc p s) (one at (MakeMap (or_void (map_item t)) (pair_count ps))) p (p + pairs_size types ps) (p + (pairs_size types ps + 1)) s (pairs_below ps s) (t ∷ s) pairs
        (runs_one u f Labels Ticks (MakeMap (or_void (map_item t)) (pair_count ps)) at (p + pairs_size types ps) (p + (pairs_size types ps + 1)) (pairs_below ps s) (t ∷ s) (omega arith) refl refl row_is)
    form_runs (key a i) at t asked p s v is b w k kw =
        let ka : is_known (type_of a) ≡ true = known-type a kw.0 in
        let q = when-none (differ ty.Text (type_of i)) rule.WrongType (when (lacks (type_of a) (is_some (map_item (type_of a)))) rule.BadItem None) (or-deep-none (part_rule ty.Text (type_of a) (map_item (type_of a)) (type_of i)) (or_void (map_item (type_of a))) b) in
        let q2 = (when-none (lacks (type_of a) (is_some (map_item (type_of a)))) rule.BadItem None q.1).0 in
        let index_is : ty.Text ≡ type_of i = same-unless ty.Text (type_of i) text-known (known-type i kw.1) q.0 in
        let item_there : map_item (type_of a) ≡ Some t = some-is (is_known (type_of a)) (map_item (type_of a)) ka q2 ∙ ap (λ (y : Ty). Some y) (sym is) in
        let row_is : row u f Key (type_of i ∷ type_of a ∷ s) ≡ Ok (t ∷ s) = subst (λ x. row u f Key (x ∷ type_of a ∷ s) ≡ Ok (t ∷ s)) index_is (take_entry-is (type_of a) t s (not_void (type_of a) ka) (not_void t (written-known t k)) item_there) in
        two_runs u f Labels Ticks at Key (expr_code a sc p s) (expr_code i sc (p + expr_size types a) (type_of a ∷ s)) p (p + expr_size types a) (p + expr_size types a + expr_size types i) (p + (expr_size types a + expr_size types i + 1)) s (type_of a) (type_of i) t refl refl (omega arith) row_is
        (expr_runs a Value p s refl w.0 kw.0) (expr_runs i Value (p + expr_size types a) (type_of a ∷ s) refl w.1 kw.1)
    form_runs (method a m es) at t asked p s v is b w k kw =
        let z : ℕ = p + expr_size types a in
        let y : ℕ = z + trees_size types es in
        let sig = signature_of (type_of a) m (tree_count es) in
        let args = trees_runs es (taken_behind (type_of a) m es) z (type_of a ∷ s) w.1 kw.1 in
        let first = expr_runs a Value p s refl w.0 kw.0 in
        let b1 = or-deep-none (method_rule asked a (row_of (type_of a) m (tree_count es)) es) (type_at names asked (method a m es)) b in
        let both : Runs_here (expr_code a sc p s ++ trees_code es sc z (type_of a ∷ s)) p y s (types_below es (type_of a ∷ s)) =
        runs_then u f Labels Ticks (expr_code a sc p s) (trees_code es sc z (type_of a ∷ s)) p z y s (type_of a ∷ s) (types_below es (type_of a ∷ s)) first args in
        let run = method_runs u f Labels Ticks sig asked a es m at t (expr_code a sc p s ++ trees_code es sc z (type_of a ∷ s)) p y s refl (written-type a kw.0) b1 is (λ q. v) (all-known es kw.1) both in
        let end : y + method_size sig ≡ p + (expr_size types a + trees_size types es + method_size sig) = omega arith in
        let solid : given t ++ s ≡ t ∷ s = ap (λ c. cond c [] (t ∷ []) ++ s) (not_void t (written-known t k)) in
        let ms : List Mark = (expr_code a sc p s ++ trees_code es sc z (type_of a ∷ s)) ++ method_code at sig in
        let run2 : Runs_here ms p (p + (expr_size types a + trees_size types es + method_size sig)) s (t ∷ s) = subst (λ x. Runs_here ms p (p + (expr_size types a + trees_size types es + method_size sig)) s x) solid (runs_to u f Labels Ticks ms p (y + method_size sig) (p + (expr_size types a + trees_size types es + method_size sig)) s (given t ++ s) end run) in
        subst (λ x. Runs_here x p (p + (expr_size types a + trees_size types es + method_size sig)) s (t ∷ s)) (append_assoc (expr_code a sc p s) (trees_code es sc z (type_of a ∷ s)) (method_code at sig)) run2
    form_runs (dependency a x) at t asked p s v is b w k kw =
        let r = or-none (lacks (type_of a) (is_files (type_of a))) (lacks (type_of x) (is_files (type_of x))) (when-none (lacks (type_of a) (is_files (type_of a)) || lacks (type_of x) (is_files (type_of x))) rule.WrongType None (or-deep-none (dependency_rule (type_of a) (type_of x)) ty.Bool b)).0 in
        let fa : is_files (type_of a) ≡ true = holds u f (is_known (type_of a)) (is_files (type_of a)) (known-type a kw.0) r.0 in
        let fx : is_files (type_of x) ≡ true = holds u f (is_known (type_of x)) (is_files (type_of x)) (known-type x kw.1) r.1 in
        let right : ℕ = p + expr_size types a + listing_size (type_of a) in
        let z : ℕ = right + expr_size types x + listing_size (type_of x) in
        let end : ℕ = p + (expr_size types a + listing_size (type_of a) + (expr_size types x + listing_size (type_of x)) + 1) in
        let texts : Ty = ty.List ty.Text in
        let ca : List Mark = expr_code a sc p s in
        let cx : List Mark = expr_code x sc right (texts ∷ s) in
        let first : Runs_here (ca ++ listing at (type_of a)) p right s (texts ∷ s) = files_runs a at p right s fa refl (expr_runs a Value p s refl w.0 kw.0) in
        let second : Runs_here (cx ++ listing at (type_of x)) right z (texts ∷ s) (texts ∷ texts ∷ s) = files_runs x at right z (texts ∷ s) fx refl (expr_runs x Value right (texts ∷ s) refl w.1 kw.1) in
        let last : Runs_here (one at OutOfDate) z end (texts ∷ texts ∷ s) (ty.Bool ∷ s) = runs_one u f Labels Ticks OutOfDate at z end (texts ∷ texts ∷ s) (ty.Bool ∷ s) (omega arith) refl refl (swap_two texts texts ty.Bool s (list-solid ty.Text) (list-solid ty.Text) bool-solid) in
        let all_runs : Runs_here ((ca ++ listing at (type_of a)) ++ ((cx ++ listing at (type_of x)) ++ one at OutOfDate)) p end s (ty.Bool ∷ s) =
        runs_then u f Labels Ticks (ca ++ listing at (type_of a)) ((cx ++ listing at (type_of x)) ++ one at OutOfDate) p right end s (texts ∷ s) (ty.Bool ∷ s) first
        (runs_then u f Labels Ticks (cx ++ listing at (type_of x)) (one at OutOfDate) right z end (texts ∷ s) (texts ∷ texts ∷ s) (ty.Bool ∷ s) second last) in
        let order : (ca ++ listing at (type_of a)) ++ ((cx ++ listing at (type_of x)) ++ one at OutOfDate) ≡ ca ++ (listing at (type_of a) ++ (cx ++ (listing at (type_of x) ++ one at OutOfDate))) =
        append_assoc ca (listing at (type_of a)) ((cx ++ listing at (type_of x)) ++ one at OutOfDate) ∙ ap (λ y. ca ++ (listing at (type_of a) ++ y)) (append_assoc cx (listing at (type_of x)) (one at OutOfDate)) in
        typed (form_code (dependency a x) at t sc p s) p end s t ty.Bool is (subst (λ ms. Runs_here ms p end s (ty.Bool ∷ s)) order all_runs)

    pub trees_runs : (es : Trees) (ts : List Ty) (p : ℕ) (s : List Ty) → AreArgumentsWellTyped es names ts → AreValuesWritten es → Runs_here (trees_code es sc p s) p (p + trees_size types es) s (types_below es s)
    trees_runs none ts p s w k = runs_to u f Labels Ticks [] p p (p + 0) s s (omega arith) (runs_none u f Labels Ticks p s)
    trees_runs (more e es) [] p s w k = more_runs e es p s (expr_runs e Value p s refl w.0 k.0) (trees_runs es [] (p + expr_size types e) (type_of e ∷ s) w.1 k.1)
    trees_runs (more e es) (t ∷ ts) p s w k = more_runs e es p s (expr_runs e (This t) p s refl w.0 k.0) (trees_runs es ts (p + expr_size types e) (type_of e ∷ s) w.1 k.1)

    items_runs : (es : Trees) (lone : Bool) (asked : Asked) (p : ℕ) (s : List Ty) → is_value asked ≡ true → AreItemsWellTyped es names lone asked → AreValuesWritten es → Runs_here (trees_code es sc p s) p (p + trees_size types es) s (types_below es s)
    items_runs none lone asked p s v w k = runs_to u f Labels Ticks [] p p (p + 0) s s (omega arith) (runs_none u f Labels Ticks p s)
    items_runs (more e es) lone asked p s v w k =
        more_runs e es p s (expr_runs e (asked_of_item lone e asked) p s (value-choice (lone && not (is_open e)) Value asked refl v) w.0 k.0)
        (items_runs es (lone && is_open e) asked (p + expr_size types e) (type_of e ∷ s) v w.1 k.1)

    pairs_runs : (ps : TreePairs) (lone : Bool) (asked : Asked) (it : Ty) (p : ℕ) (s : List Ty) → is_value asked ≡ true → any_pair_differs it ps ≡ false → ArePairsWellTyped ps names lone asked → ArePairsWritten ps
        → Runs_here (pairs_code ps sc p s) p (p + pairs_size types ps) s (pairs_below ps s)
    pairs_runs no_pairs lone asked it p s v d w k = runs_to u f Labels Ticks [] p p (p + 0) s s (omega arith) (runs_none u f Labels Ticks p s)
    pairs_runs (more_pairs x y ps) lone asked it p s v d w k =
        let q : ℕ = p + expr_size types x in
        let z : ℕ = q + expr_size types y in
        let end : ℕ = p + (expr_size types x + expr_size types y + pairs_size types ps) in
        let place : z + pairs_size types ps ≡ end = omega arith in
        let key_is : ty.Text ≡ type_of x = keys-are it x y ps (known-type x k.0) d in
        let first : Runs_here (expr_code x sc p s) p q s (ty.Text ∷ s) = typed (expr_code x sc p s) p q s ty.Text (type_of x) key_is (expr_runs x Value p s refl w.0 k.0) in
        let second = expr_runs y (asked_of_item lone y asked) q (ty.Text ∷ s) (value-choice (lone && not (is_open y)) Value asked refl v) w.1 k.1 in
        let rest = pairs_runs ps (lone && is_open y) asked it z (type_of y ∷ ty.Text ∷ s) v (or-none (differ ty.Text (type_of x) || differ it (type_of y)) (any_pair_differs it ps) d).1 w.2 k.2 in
        runs_then u f Labels Ticks (expr_code x sc p s) (expr_code y sc q (ty.Text ∷ s) ++ pairs_code ps sc z (type_of y ∷ ty.Text ∷ s)) p q end s (ty.Text ∷ s) (pairs_below (more_pairs x y ps) s) first
        (runs_then u f Labels Ticks (expr_code y sc q (ty.Text ∷ s)) (pairs_code ps sc z (type_of y ∷ ty.Text ∷ s)) q z end (ty.Text ∷ s) (type_of y ∷ ty.Text ∷ s) (pairs_below (more_pairs x y ps) s) second
        (runs_to u f Labels Ticks (pairs_code ps sc z (type_of y ∷ ty.Text ∷ s)) z (z + pairs_size types ps) end (type_of y ∷ ty.Text ∷ s) (pairs_below (more_pairs x y ps) s) place rest))
