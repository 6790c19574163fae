-- The code of statements is of such marks.
use Rattle.std.proofs.Common.{◌≡◌, ◌≤◌, ◌+◌, ℕ, suc, List, [], ◌∷◌, ◌++◌, length, length-append, Option, Some, None, Bool, true, false, not, refl, sym, ◌∙◌, ap, subst, arith, rules, if◌then◌else◌}
use Rattle.std.specs.Prelude.{pos}
use Rattle.bds_value.specs.declared.change_numbers.TheConstants.{ASSIGN, ADD}
use Rattle.bds_value.specs.declared.method_numbers.TheConstants.{LIST_SIZE}
use Rattle.bds_value.specs.declared.methods.Method.{Method}
use Rattle.bds_value.specs.declared.methods.Method.TheVariants as by
use Rattle.bds_value.specs.declared.value.At.{At}
use Rattle.bds_value.specs.declared.value.Ty.{Ty}
use Rattle.bds_value.specs.declared.value.Ty.TheVariants as ty
use Rattle.bds_value.specs.Methods.{signature_of}
use Rattle.bds_tree.specs.StmtShape.{is_call}
use Rattle.bds_tree.specs.Tree.{Tree, Trees, node, number, text, truth, name, call, group, list, mapping, item, key, method, prefix, binary, choice, dependency, type_of}
use Rattle.bds_tree.specs.StmtTree.{SmallFormTree, small_declare, small_infer, small_assign, small_update, small_step, small_call, SmallTree, StmtTree, LineTree, BlockTree, StmtTrees, stmt, inner_block, empty, line, when, while, for, each, declare, infer, assign, update, step, call_line, print, println, error, exit, break, continue, return, wait, checkpoint, act_line, act, sys, task, dep, goal, par_call, par_block, block, no_stmts, more_stmts, no_stmt, a_stmt, no_right, a_right, switch, CaseTrees, CaseTree, no_cases, more_cases, a_case}
use Rattle.bds_code.specs.declared.instr.Instr.TheVariants.{PushText, PushInt, Drop, Show, Concat, Out, Stop, Exit, Return, Jump, JumpUnless, Tick, Load, Store, StoreGlobal, Less, Equal, Item, Update, Method as CallMethod, Wait, Save}
use Rattle.bds_verify.specs.Whole.{is_value_ty}
use Rattle.bds_check_names.specs.declared.names.Names.{Names}
use Rattle.bds_check_names.specs.declared.names.Site.{Site}
use Rattle.bds_check_names.specs.declared.names.Asked.{Asked}
use Rattle.bds_check_names.specs.declared.names.Asked.TheVariants.{Whole, Value, This}
use Rattle.bds_check_names.specs.Scopes.{function_named, with_local, inner as inner_site, in_loop as loop_site, in_switch as switch_site}
use Rattle.bds_check_names.specs.Slots.{slots, stmts_slots}
use Rattle.bds_check_names.specs.Types.{is_known, differ}
use Rattle.bds_check_rules.specs.declared.rules.Rule.TheVariants as rule
use Rattle.bds_check_rules.specs.StmtBreaks.{right_type, place_ty}
use Rattle.bds_check_rules.specs.Typing.{count as tree_count}
use Rattle.bds_check_typing.specs.StmtParts.{returned}
use Rattle.bds_check_typing.specs.WellTypedParts.{IsWellTypedMaybe, IsWellTypedSmallForm, IsWellTypedSmall, names_behind_small}
use Rattle.bds_check_typing.specs.WellTypedStmts.{AreWellTypedCases, IsWellTypedStmt, IsWellTypedLine, IsWellTypedBlock, AreWellTypedStmts, names_behind}
use Rattle.bds_check_typing.specs.Walk.{parameters_of}
use Rattle.bds_check_typing.specs.WellTyped.{IsWellTyped, taken_behind}
use Rattle.bds_check_typing.specs.Known.{IsValueWritten, IsCallWritten, IsMaybeWritten, IsSmallFormWritten, IsSmallWritten, IsStmtWritten, IsLineWritten, IsBlockWritten, AreStmtsWritten, AreCasesWritten}
use Rattle.bds_check_typing.specs.Proper.{IsInFile, IsProperExpr, AreProperExprs, IsProperMaybe, IsProperSmallForm, IsProperSmall, IsProperStmt, IsProperLine, IsProperBlock, AreProperStmts, AreProperCases}
use Rattle.bds_check_typing.proofs.Written.{written-known, list-written}
use Rattle.bds_check_size.specs.ExprSize.{expr_size}
use Rattle.bds_check_size.specs.Known.{Known, look}
use Rattle.bds_check_size.specs.StmtSize.{labels_size, cases_size, stmts_size, suffixes_size, steps_size, condition_size, maybe_small_size, known_behind_small, stmt_size}
use Rattle.bds_gen_expr.specs.declared.scope.Scope.{Scope}
use Rattle.bds_gen_expr.specs.Marks.{Mark, does, label, slot, count, one}
use Rattle.bds_gen_expr.specs.Scope.{types_in, known}
use Rattle.bds_gen_expr.specs.ExprCode.{expr_code, trees_code, files_code}
use Rattle.bds_gen_expr.proofs.Counts.{expr-count}
use Rattle.bds_gen_flow.proofs.ExprParts.{when-none, known-type}
use Rattle.bds_gen_flow.proofs.RowEffects.{same-unless}
use Rattle.bds_gen_stmt.specs.Spots.{Loop, Spot, inner, in_loop, in_switch, behind_slots, declared_local, store_new}
use Rattle.bds_gen_stmt.specs.PlaceCode.{kinds_of, steps_below, changes_place, change_number, steps_code, steps_of, variable_of, dropped_code, changed_code, call_code, small_form_code, small_code, behind_small}
use Rattle.bds_gen_stmt.specs.StmtCode.{condition_code, leap, behind, pars, stmts_pars, default_place, labels_code, label_code, cases_code, stmt_code, line_code, right_code, act_code, dropped_act_code, block_code, stmts_code}
use Rattle.bds_gen_stmt.proofs.ActCounts.{steps-count}
use Rattle.bds_gen_stmt.proofs.WholeCounts.{labels-count, label-count, whole-stmts-count, small-count, condition-count, known-small, whole-stmt-count}
use Rattle.bds_gen_stmt.proofs.Wholes.{AreWhole, whole-at, whole-then, int-value, written-value}
use Rattle.bds_gen_stmt.proofs.ExprTypes.{HasTypes, HaveTypes, type-value, expr-types, arguments-types}
use Rattle.bds_gen_stmt.proofs.ExprWhole.{size-positive, expr-whole, trees-whole, call-whole, called-whole, files-whole}
use Rattle.bds_gen_stmt.proofs.ActWhole.{below-values, below-many, place-many, value-whole, place-whole, step-whole, act-form-whole, right-whole, right-value}

-- The steps of a receiver

more-steps : (ks : List Bool) (k : Bool) (n m : ℕ) → length ks ≤ n → 1 ≤ m → length (ks ++ k ∷ []) ≤ n + m
more-steps ks k n m a b = let c : length (ks ++ k ∷ []) ≡ length ks + 1 = length-append ks (k ∷ []) in omega (arith, a, b, c)

receiver-many : (types : List ℕ → Option Ty) (e : Tree) → length (steps_of e) ≤ steps_size types e
receiver-many types (node at t (item a i)) = more-steps (steps_of a) false (steps_size types a) (expr_size types i) (receiver-many types a) (size-positive types i)
receiver-many types (node at t (key a k)) = more-steps (steps_of a) true (steps_size types a) (expr_size types k) (receiver-many types a) (size-positive types k)
receiver-many types (node at t _) = omega arith

module _ (files : ℕ) where
  abbrev W : List Mark → ℕ → Type 0
  W = AreWhole files

  receiver-whole : (e : Tree) (sc : Scope) (p : ℕ) → IsProperExpr files e → HasTypes e → W (steps_code e sc p []) p
  receiver-whole (node at t (item a x)) sc p pr h =
      let q : ℕ = p + steps_size (types_in sc) a in
      let many = receiver-many (types_in sc) a in
      let below = below-many (steps_of a) [] in
      whole-then files (steps_code a sc p []) (expr_code x sc q (steps_below (steps_of a) [])) p q (ap (λ n. p + n) (steps-count a sc p [])) (receiver-whole a sc p pr.1.0 h.1.0)
      (expr-whole files x sc q (steps_below (steps_of a) []) pr.1.1 h.1.1 (below-values (steps_of a) [] tt) (omega (arith, many, below)))
  receiver-whole (node at t (key a x)) sc p pr h =
      let q : ℕ = p + steps_size (types_in sc) a in
      let many = receiver-many (types_in sc) a in
      let below = below-many (steps_of a) [] in
      whole-then files (steps_code a sc p []) (expr_code x sc q (steps_below (steps_of a) [])) p q (ap (λ n. p + n) (steps-count a sc p [])) (receiver-whole a sc p pr.1.0 h.1.0)
      (expr-whole files x sc q (steps_below (steps_of a) []) pr.1.1 h.1.1 (below-values (steps_of a) [] tt) (omega (arith, many, below)))
  receiver-whole (node at t _) sc p pr h = tt

  -- Calls

  dropped-whole : (e : Tree) (at : At) (sc : Scope) (p : ℕ) → IsInFile files at → W (expr_code e sc p []) p → W (dropped_code e at sc p) p
  dropped-whole e at sc p i h =
      let q : ℕ = p + count (expr_code e sc p []) in
      whole-then files (expr_code e sc p []) (if not (is_known (type_of e)) then [] else one at Drop) p q refl h (by (not (is_known (type_of e))) q)
    where
      by : (b : Bool) (q : ℕ) → W (if b then [] else one at Drop) q
      by true q = tt
      by false q = (tt, i, tt)

  changed-whole : (m : Option Method) (e a : Tree) (es : Trees) (at : At) (sc : Scope) (p : ℕ) → IsInFile files at → IsProperExpr files a → AreProperExprs files es → HasTypes a → HaveTypes es → W (expr_code e sc p []) p → W (changed_code m e a es at sc p) p
  changed-whole (Some (by.Change n)) e a es at sc p i pa pe ha he w =
      let q : ℕ = p + steps_size (types_in sc) a in
      let below : List Ty = steps_below (steps_of a) [] in
      let z : ℕ = q + count (trees_code es sc q below) in
      let many = receiver-many (types_in sc) a in
      let len = below-many (steps_of a) [] in
      let last : List Mark = changes_place sc at (variable_of a) (steps_of a) n in
      whole-then files (steps_code a sc p []) (trees_code es sc q below ++ last) p q (ap (λ n. p + n) (steps-count a sc p [])) (receiver-whole a sc p pa ha)
      (whole-then files (trees_code es sc q below) last q z refl (trees-whole files es sc q below pe he (below-values (steps_of a) [] tt) (omega (arith, many, len))) (omega (arith, many), i, tt))
  changed-whole (Some (by.Plain n)) e a es at sc p i pa pe ha he w = dropped-whole e at sc p i w
  changed-whole (Some (by.File n)) e a es at sc p i pa pe ha he w = dropped-whole e at sc p i w
  changed-whole None e a es at sc p i pa pe ha he w = dropped-whole e at sc p i w

  line-call-whole : (e : Tree) (names : Names) (at : At) (sc : Scope) (p : ℕ) → IsInFile files at → is_call e ≡ true → IsProperExpr files e → IsWellTyped e names Whole → IsCallWritten e → W (call_code e at sc p) p
  line-call-whole (node place t (call f es)) names at sc p i c pr w k =
      let h = arguments-types es names (parameters_of (function_named f names.functions)) w.2 k.1 in
      dropped-whole (node place t (call f es)) at sc p i (call-whole files f es place sc p [] pr.0 pr.1.1 h tt (omega arith))
  line-call-whole (node place t (method a m es)) names at sc p i c pr w k =
      let ha = expr-types a names Value w.2.0 k.1.0 in
      let he = arguments-types es names (taken_behind (type_of a) m es) w.2.1 k.1.1 in
      changed-whole (signature_of (type_of a) m (tree_count es)) (node place t (method a m es)) a es at sc p i pr.1.1 pr.1.2 ha he (called-whole files a m es place sc p [] pr.0 pr.1.1 pr.1.2 ha he tt (omega arith))
  line-call-whole (node place t (number v)) names at sc p i c pr w k = absurd (search (rules, c))
  line-call-whole (node place t (text v)) names at sc p i c pr w k = absurd (search (rules, c))
  line-call-whole (node place t (truth v)) names at sc p i c pr w k = absurd (search (rules, c))
  line-call-whole (node place t (name v)) names at sc p i c pr w k = absurd (search (rules, c))
  line-call-whole (node place t (group v)) names at sc p i c pr w k = absurd (search (rules, c))
  line-call-whole (node place t (list v)) names at sc p i c pr w k = absurd (search (rules, c))
  line-call-whole (node place t (mapping v)) names at sc p i c pr w k = absurd (search (rules, c))
  line-call-whole (node place t (item a v)) names at sc p i c pr w k = absurd (search (rules, c))
  line-call-whole (node place t (key a v)) names at sc p i c pr w k = absurd (search (rules, c))
  line-call-whole (node place t (prefix o v)) names at sc p i c pr w k = absurd (search (rules, c))
  line-call-whole (node place t (binary a o v)) names at sc p i c pr w k = absurd (search (rules, c))
  line-call-whole (node place t (choice c1 a v)) names at sc p i c pr w k = absurd (search (rules, c))
  line-call-whole (node place t (dependency a v)) names at sc p i c pr w k = absurd (search (rules, c))

  -- Declarations

  new-whole : (b : Bool) (g n : ℕ) (at : At) (t : Ty) (p : ℕ) → IsInFile files at → is_value_ty t ≡ true → W (if b then one at (StoreGlobal g) else slot t ∷ does (Store n) at ∷ []) p
  new-whole true g n at t p i h = (tt, i, tt)
  new-whole false g n at t p i h = (h, (tt, i, tt))

  pub store-whole : (sp : Spot) (at : At) (t : Ty) (p : ℕ) → IsInFile files at → is_value_ty t ≡ true → W (store_new sp at t) p
  store-whole sp at t p i h = new-whole sp.at_top (length sp.scope.globals) sp.next at t p i h

  -- an expression at a statement
  plain-value : (e : Tree) (names : Names) (asked : Asked) (sc : Scope) (p : ℕ) → IsProperExpr files e → IsWellTyped e names asked → IsValueWritten e → W (expr_code e sc p []) p
  plain-value e names asked sc p pr w k = value-whole files e names asked sc p [] pr w k tt (omega arith)

  then-whole : (e : Tree) (ms : List Mark) (names : Names) (asked : Asked) (sc : Scope) (p : ℕ) → IsProperExpr files e → IsWellTyped e names asked → IsValueWritten e → ((q : ℕ) → W ms q) → W (expr_code e sc p [] ++ ms) p
  then-whole e ms names asked sc p pr w k h = whole-then files (expr_code e sc p []) ms p (p + count (expr_code e sc p [])) refl (plain-value e names asked sc p pr w k) (h (p + count (expr_code e sc p [])))

  small-form-whole : (x : SmallFormTree) (names : Names) (site : Site) (at : At) (sp : Spot) (p : ℕ) → IsInFile files at → IsProperSmallForm files x → IsWellTypedSmallForm x names → IsSmallFormWritten x → W (small_form_code x at sp p) p
  small-form-whole (small_declare t x None) names site at sp p i pr w k = let h = written-value t pr.0.0 pr.0.1 in (h, i, store-whole sp at t (suc p) i h)
  small-form-whole (small_declare t x (Some e)) names site at sp p i pr w k =
      then-whole e (store_new sp at t) names (This t) sp.scope p pr.2 w k.1 (λ q. store-whole sp at t q i (written-value t pr.0.0 pr.0.1))
  small-form-whole (small_infer x e) names site at sp p i pr w k = then-whole e (store_new sp at (type_of e)) names Value sp.scope p pr.1 w k (λ q. store-whole sp at (type_of e) q i (type-value e (expr-types e names Value w k)))
  small-form-whole (small_assign q e) names site at sp p i pr w k =
      let mid : ℕ = p + suffixes_size (types_in sp.scope) q.suffixes in
      let below : List Ty = steps_below (kinds_of q) [] in
      place-whole files q (expr_code e sp.scope mid below) names sp.scope at ASSIGN p i pr.0 w.0.0 k.0 (value-whole files e names (This (place_ty names q)) sp.scope mid below pr.1 w.1 k.1 (below-values (kinds_of q) [] tt) (place-many sp.scope q p))
  small-form-whole (small_update q o e) names site at sp p i pr w k =
      let mid : ℕ = p + suffixes_size (types_in sp.scope) q.suffixes in
      let below : List Ty = steps_below (kinds_of q) [] in
      place-whole files q (expr_code e sp.scope mid below) names sp.scope at (change_number o) p i pr.0 w.0.0 k.0 (value-whole files e names Value sp.scope mid below pr.1 w.1 k.1 (below-values (kinds_of q) [] tt) (place-many sp.scope q p))
  small-form-whole (small_step x) names site at sp p i pr w k = step-whole files x names sp.scope at p i pr w k
  small-form-whole (small_call e) names site at sp p i pr w k = line-call-whole e names at sp.scope p i pr.0 pr.1 w k

  small-whole : (x : Option SmallTree) (names : Names) (site : Site) (sp : Spot) (p : ℕ) → IsProperSmall files x → IsWellTypedSmall x names site → IsSmallWritten x → W (small_code x sp p) p
  small-whole None names site sp p pr w k = tt
  small-whole (Some x) names site sp p pr w k = small-form-whole x.form names site x.at sp p pr.0 pr.1 w.0 k

  condition-whole : (c : Option Tree) (names : Names) (at : At) (sc : Scope) (p : ℕ) → IsInFile files at → IsProperMaybe files c → IsWellTypedMaybe c names → IsMaybeWritten c → W (condition_code c at sc p) p
  condition-whole None names at sc p i pr w k = (tt, i, tt)
  condition-whole (Some e) names at sc p i pr w k = plain-value e names Value sc p pr w k

  leap-whole : (at : At) (l : Option Loop) (to : Loop → ℕ) (p : ℕ) → IsInFile files at → W (leap at l to) p
  leap-whole at None to p i = (tt, i, (tt, omega arith, tt))
  leap-whole at (Some l) to p i = (tt, i, (tt, omega arith, tt))

  -- Lines

  pub line-whole : (l : LineTree) (names : Names) (site : Site) (at : At) (sp : Spot) (n p : ℕ) → IsInFile files at → IsProperLine files l → IsWellTypedLine l names site → IsLineWritten l → W (line_code l at sp n p) p
  line-whole (declare t x no_right) names site at sp n p i pr w k = let h = written-value t pr.0.0 pr.0.1 in (h, i, store-whole sp at t (suc p) i h)
  line-whole (declare t x (a_right r)) names site at sp n p i pr w k =
      let q : ℕ = p + count (right_code r sp n p []) in
      whole-then files (right_code r sp n p []) (store_new sp at t) p q refl (right-whole files r names (This t) sp n p [] pr.2 w k.1 tt (omega arith)) (store-whole sp at t q i (written-value t pr.0.0 pr.0.1))
  line-whole (infer x r) names site at sp n p i pr w k =
      let q : ℕ = p + count (right_code r sp n p []) in
      whole-then files (right_code r sp n p []) (store_new sp at (right_type r)) p q refl (right-whole files r names Value sp n p [] pr.1 w k tt (omega arith)) (store-whole sp at (right_type r) q i (right-value r names Value w k))
  line-whole (assign q r) names site at sp n p i pr w k =
      let mid : ℕ = p + suffixes_size (types_in sp.scope) q.suffixes in
      let below : List Ty = steps_below (kinds_of q) [] in
      place-whole files q (right_code r sp n mid below) names sp.scope at ASSIGN p i pr.0 w.0.0 k.0 (right-whole files r names (This (place_ty names q)) sp n mid below pr.1 w.1 k.1 (below-values (kinds_of q) [] tt) (place-many sp.scope q p))
  line-whole (update q o r) names site at sp n p i pr w k =
      let mid : ℕ = p + suffixes_size (types_in sp.scope) q.suffixes in
      let below : List Ty = steps_below (kinds_of q) [] in
      place-whole files q (right_code r sp n mid below) names sp.scope at (change_number o) p i pr.0 w.0.0 k.0 (right-whole files r names Value sp n mid below pr.1 w.1 k.1 (below-values (kinds_of q) [] tt) (place-many sp.scope q p))
  line-whole (step x) names site at sp n p i pr w k = step-whole files x names sp.scope at p i pr w k
  line-whole (call_line e) names site at sp n p i pr w k = line-call-whole e names at sp.scope p i pr.0 pr.1 w k
  line-whole (print e) names site at sp n p i pr w k = then-whole e (does Show at ∷ does Out at ∷ []) names Value sp.scope p pr w k (λ q. (tt, i, (tt, i, tt)))
  line-whole (println None) names site at sp n p i pr w k = (omega arith, i, (tt, i, tt))
  line-whole (println (Some e)) names site at sp n p i pr w k =
      then-whole e (does Show at ∷ does (PushText (10 ∷ [])) at ∷ does Concat at ∷ does Out at ∷ []) names Value sp.scope p pr w k (λ q. (tt, i, (omega arith, i, (tt, i, (tt, i, tt)))))
  line-whole (error e) names site at sp n p i pr w k = then-whole e (does Stop at ∷ label [] ∷ []) names Value sp.scope p pr w k (λ q. (tt, i, (tt, omega arith, tt)))
  line-whole (exit e) names site at sp n p i pr w k = then-whole e (does Exit at ∷ label [] ∷ []) names Value sp.scope p pr w k (λ q. (tt, i, (tt, omega arith, tt)))
  line-whole break names site at sp n p i pr w k = leap-whole at sp.loop (λ l. l.end) p i
  line-whole continue names site at sp n p i pr w k = leap-whole at sp.loop (λ l. l.again) p i
  line-whole (return no_right) names site at sp n p i pr w k = (tt, i, (tt, omega arith, tt))
  line-whole (return (a_right r)) names site at sp n p i pr w k =
      let q : ℕ = p + count (right_code r sp n p []) in
      whole-then files (right_code r sp n p []) (does Return at ∷ label [] ∷ []) p q refl (right-whole files r names (returned site.returns) sp n p [] pr w k tt (omega arith)) (tt, i, (tt, omega arith, tt))
  line-whole (wait None) names site at sp n p i pr w k = (tt, i, tt)
  line-whole (wait (Some e)) names site at sp n p i pr w k =
      let q : ℕ = p + count (files_code e at sp.scope p []) in
      whole-then files (files_code e at sp.scope p []) (one at Wait) p q refl (files-whole files e at sp.scope p [] i pr (expr-types e names Value w k) tt (omega arith)) (tt, i, tt)
  line-whole (checkpoint None) names site at sp n p i pr w k = (tt, i, tt)
  line-whole (checkpoint (Some e)) names site at sp n p i pr w k = then-whole e (one at Save) names Value sp.scope p pr w k (λ q. (tt, i, tt))
  line-whole (act_line (act place f)) names site at sp n p i pr w k =
      let ms : List Mark = act_code (act place f) sp n p [] in
      let q : ℕ = p + count ms in
      whole-then files ms (dropped_act_code (act place f) at) p q refl (act-form-whole files f names place sp n p [] pr.0 pr.1 w.0 k tt (omega arith)) (dropping f)
    where
      dropping : (f : _) → W (dropped_act_code (act place f) at) (p + count (act_code (act place f) sp n p []))
      dropping (sys ps) = (tt, i, tt)
      dropping (task os b) = (tt, i, tt)
      dropping (dep os b) = tt
      dropping (goal e) = (tt, i, tt)
      dropping (par_call f es) = (tt, i, tt)
      dropping (par_block b) = (tt, i, tt)

  -- Statements

  mutual
    pub stmt-whole : (s : StmtTree) (names : Names) (site : Site) (sp : Spot) (n p : ℕ) → IsProperStmt files s → IsWellTypedStmt s names site → IsStmtWritten s → W (stmt_code s sp n p) p
    stmt-whole (stmt at (inner_block b)) names site sp n p pr w k = block-whole b names (inner_site names site) (inner sp) n p pr.1 w.0 k
    stmt-whole (stmt at empty) names site sp n p pr w k = tt
    stmt-whole (stmt at (line l)) names site sp n p pr w k = line-whole l names site at sp n p pr.0 pr.1 w.0 k
    stmt-whole (stmt at (when c a no_stmt)) names site sp n p pr w k =
        let i = pr.0 in
        let q : ℕ = p + expr_size (types_in sp.scope) c in
        let right : ℕ = q + 1 in
        let z : ℕ = right + count (stmt_code a (inner sp) n right) in
        let rest : List Mark = stmt_code a (inner sp) n right ++ (label [] ∷ []) in
        let behind : W rest right = whole-then files (stmt_code a (inner sp) n right) (label [] ∷ []) right z refl (stmt-whole a names (inner_site names site) (inner sp) n right pr.1.1 w.0.1 k.1) (tt, omega arith, tt) in
        whole-then files (expr_code c sp.scope p []) (does (JumpUnless _) at ∷ rest) p q (ap (λ n. p + n) (expr-count c sp.scope p [])) (plain-value c names Value sp.scope p pr.1.0 w.0.0 k.0) (tt, i, whole-at files rest right (suc q) (omega arith) behind)
    stmt-whole (stmt at (when c a (a_stmt b))) names site sp n p pr w k =
        let i = pr.0 in
        let q : ℕ = p + expr_size (types_in sp.scope) c in
        let right : ℕ = q + 1 in
        let z : ℕ = right + stmt_size a (known sp.scope) in
        let other : ℕ = z + 1 in
        let end : ℕ = other + stmt_size b (known sp.scope) in
        let sp2 : Spot = behind_slots (inner sp) (slots a) in
        let last : List Mark = stmt_code b sp2 (n + pars a) other ++ (label [] ∷ []) in
        let lw : W last other =
        whole-then files (stmt_code b sp2 (n + pars a) other) (label [] ∷ []) other (other + count (stmt_code b sp2 (n + pars a) other)) refl (stmt-whole b names (inner_site names site) sp2 (n + pars a) other pr.1.2 w.0.2 k.2) (tt, omega arith, tt) in
        let rest : List Mark = does (Jump end) at ∷ label [] ∷ last in
        let rw : W (stmt_code a (inner sp) n right ++ rest) right =
        whole-then files (stmt_code a (inner sp) n right) rest right z (ap (λ n. right + n) (whole-stmt-count a (inner sp) n right)) (stmt-whole a names (inner_site names site) (inner sp) n right pr.1.1 w.0.1 k.1)
        (tt, i, (tt, omega arith, whole-at files last other (suc z) (omega arith) lw)) in
        whole-then files (expr_code c sp.scope p []) (does (JumpUnless other) at ∷ (stmt_code a (inner sp) n right ++ rest)) p q (ap (λ n. p + n) (expr-count c sp.scope p [])) (plain-value c names Value sp.scope p pr.1.0 w.0.0 k.0)
        (tt, i, whole-at files (stmt_code a (inner sp) n right ++ rest) right (suc q) (omega arith) rw)
    stmt-whole (stmt at (while c b)) names site sp n p pr w k =
        let i = pr.0 in
        let from : ℕ = p + 1 in
        let q : ℕ = from + expr_size (types_in sp.scope) c in
        let body : ℕ = q + 1 in
        let end : ℕ = body + stmt_size b (known sp.scope) + 1 in
        let sp2 : Spot = in_loop sp p end in
        let ms : List Mark = stmt_code b sp2 n body in
        let rest : List Mark = ms ++ (does (Jump p) at ∷ label [] ∷ []) in
        let rw : W rest body = whole-then files ms (does (Jump p) at ∷ label [] ∷ []) body (body + count ms) refl (stmt-whole b names (loop_site names site) sp2 n body pr.1.1 w.0.1 k.1) (tt, i, (tt, omega arith, tt)) in
        let test : List Mark = expr_code c sp.scope from [] ++ (does (JumpUnless end) at ∷ rest) in
        let tw : W test from =
        whole-then files (expr_code c sp.scope from []) (does (JumpUnless end) at ∷ rest) from q (ap (λ n. from + n) (expr-count c sp.scope from [])) (plain-value c names Value sp.scope from pr.1.0 w.0.0 k.0) (tt, i, whole-at files rest body (suc q) (omega arith) rw) in
        (tt, omega arith, (tt, i, whole-at files test from (suc p) (omega arith) tw))
    stmt-whole (stmt at (for first c next b)) names site sp n p pr w k =
        let i = pr.0 in
        let k1 : Known = known_behind_small first (known sp.scope) in
        let head : Spot = behind_small first (inner sp) in
        let names1 : Names = names_behind_small first names (inner_site names site) in
        let same : known head.scope ≡ k1 = known-small first (inner sp) in
        let top : ℕ = p + maybe_small_size (types_in sp.scope) first in
        let from : ℕ = top + 1 in
        let q : ℕ = from + condition_size (look k1) c in
        let body : ℕ = q + 1 in
        let again : ℕ = body + stmt_size b k1 in
        let end : ℕ = again + maybe_small_size (look k1) next + 1 in
        let sp2 : Spot = in_loop head again end in
        let sp3 : Spot = behind_slots head (slots b) in
        let m1 : List Mark = small_code first (inner sp) p in
        let m2 : List Mark = condition_code c at head.scope from in
        let m3 : List Mark = stmt_code b sp2 n body in
        let m4 : List Mark = small_code next sp3 again in
        let r4 : List Mark = label [] ∷ (m4 ++ (does (Jump top) at ∷ label [] ∷ [])) in
        let w4 : W r4 again =
        (tt, omega arith, whole-then files m4 (does (Jump top) at ∷ label [] ∷ []) again (again + count m4) refl (small-whole next names1 (inner_site names1 site) sp3 again pr.1.2 w.0.2 k.2) (tt, i, (tt, omega arith, tt))) in
        let w3 : W (m3 ++ r4) body = whole-then files m3 r4 body again (ap (λ n. body + n) (whole-stmt-count b sp2 n body ∙ ap (stmt_size b) same)) (stmt-whole b names1 (loop_site names1 site) sp2 n body pr.1.3 w.0.3 k.3) w4 in
        let r2 : List Mark = does (JumpUnless end) at ∷ (m3 ++ r4) in
        let w2 : W (m2 ++ r2) from =
        whole-then files m2 r2 from q (ap (λ n. from + n) (condition-count c at head.scope from ∙ ap (λ z. condition_size (look z) c) same)) (condition-whole c names1 at head.scope from i pr.1.1 w.0.1 k.1) (tt, i, whole-at files (m3 ++ r4) body (suc q) (omega arith) w3) in
        whole-then files m1 (label [] ∷ does Tick at ∷ (m2 ++ r2)) p top (ap (λ n. p + n) (small-count first (inner sp) p)) (small-whole first names (inner_site names site) (inner sp) p pr.1.0 w.0.0 k.0)
        (tt, omega arith, (tt, i, whole-at files (m2 ++ r2) from (suc top) (omega arith) w2))
    stmt-whole (stmt at (each t x e b)) names site sp n p pr w k =
        let i = pr.0 in
        let list_slot : ℕ = sp.next in
        let count_slot : ℕ = sp.next + 1 in
        let lt : Ty = ty.List t in
        let own : Spot = declared_local (behind_slots (inner sp) 2) x t in
        let q : ℕ = p + expr_size (types_in sp.scope) e in
        let top : ℕ = q + 3 in
        let body : ℕ = top + 10 in
        let again : ℕ = body + stmt_size b (known own.scope) in
        let end : ℕ = again + 3 in
        let sp2 : Spot = in_loop own again end in
        let names1 : Names = with_local names x t in
        let ms : List Mark = stmt_code b sp2 n body in
        let last : List Mark = label [] ∷ does (PushInt (pos 1)) at ∷ does (Update false count_slot [] ADD) at ∷ does (Jump top) at ∷ label [] ∷ [] in
        let bw : W (ms ++ last) body =
        whole-then files ms last body (body + count ms) refl (stmt-whole b names1 (loop_site names1 site) sp2 n body pr.1.3 w.0.1 k.2) (tt, omega arith, (tt, i, (omega arith, i, (tt, i, (tt, omega arith, tt))))) in
        let same : lt ≡ type_of e = same-unless lt (type_of e) (written-known lt (list-written t k.0)) (known-type e k.1) (when-none (differ lt (type_of e)) rule.WrongType None w.1).0 in
        let lv : is_value_ty lt ≡ true = subst (λ z. is_value_ty z ≡ true) (sym same) (type-value e (expr-types e names Value w.0.0 k.1)) in
        let tv : is_value_ty t ≡ true = written-value t pr.1.0.0 pr.1.0.1 in
        let bring : List Mark = does (Load list_slot) at ∷ does (Load count_slot) at ∷ does Item at ∷ slot t ∷ does (Store (sp.next + 2)) at ∷ (ms ++ last) in
        let gw : W bring (q + 9) = (tt, i, (tt, i, (tt, i, (tv, (tt, i, whole-at files (ms ++ last) body _ (omega arith) bw))))) in
        let loop : List Mark = label [] ∷ does Tick at ∷ does (Load count_slot) at ∷ does (Load list_slot) at ∷ does (CallMethod LIST_SIZE) at ∷ does Less at ∷ does (JumpUnless end) at ∷ bring in
        let lw : W loop top = (tt, omega arith, (tt, i, (tt, i, (tt, i, (tt, i, (tt, i, (tt, i, whole-at files bring (q + 9) _ (omega arith) gw))))))) in
        whole-then files (expr_code e sp.scope p []) (slot lt ∷ does (Store list_slot) at ∷ does (PushInt (pos 0)) at ∷ slot ty.Int ∷ does (Store count_slot) at ∷ loop) p q (ap (λ n. p + n) (expr-count e sp.scope p [])) (plain-value e names Value sp.scope p pr.1.2 w.0.0 k.1)
        (lv, (tt, i, (tt, i, (int-value, (tt, i, whole-at files loop top _ (omega arith) lw)))))
    stmt-whole (stmt at (switch e cs)) names site sp n p pr w k =
        let i = pr.0 in
        let k0 : Known = known sp.scope in
        let t : Ty = type_of e in
        let q : ℕ = p + expr_size (types_in sp.scope) e in
        let tests : ℕ = q + 1 in
        let r : ℕ = tests + labels_size (types_in sp.scope) cs in
        let cases : ℕ = r + 1 in
        let end : ℕ = cases + cases_size cs k0 in
        let sb : Spot = in_switch sp end in
        let ml : List Mark = labels_code cs at sp.scope sp.next tests cases in
        let mc : List Mark = cases_code cs sb n cases in
        let last : List Mark = mc ++ (label [] ∷ []) in
        let lw : W last cases = whole-then files mc (label [] ∷ []) cases (cases + count mc) refl (cases-whole cs names site sb n cases refl pr.1.1 w.0.1 k.1) (tt, omega arith, tt) in
        let rw : W (ml ++ (does (Jump (default_place cs k0 cases)) at ∷ last)) tests =
        whole-then files ml (does (Jump (default_place cs k0 cases)) at ∷ last) tests r (ap (λ n. tests + n) (labels-count cs at sp tests cases)) (labels-whole cs names site at sp tests cases i pr.1.1 w.0.1 k.1) (tt, i, whole-at files last cases (suc r) (omega arith) lw) in
        whole-then files (expr_code e sp.scope p []) (slot t ∷ does (Store sp.next) at ∷ (ml ++ (does (Jump (default_place cs k0 cases)) at ∷ last))) p q (ap (λ n. p + n) (expr-count e sp.scope p [])) (plain-value e names Value sp.scope p pr.1.0 w.0.0 k.0)
        (type-value e (expr-types e names Value w.0.0 k.0), (tt, i, whole-at files (ml ++ (does (Jump (default_place cs k0 cases)) at ∷ last)) tests (suc q) (omega arith) rw))

    labels-whole : (cs : CaseTrees) (names : Names) (site : Site) (at : At) (sp : Spot) (p case : ℕ) → IsInFile files at → AreProperCases files cs → AreWellTypedCases cs names site → AreCasesWritten cs → W (labels_code cs at sp.scope sp.next p case) p
    labels-whole no_cases names site at sp p case i pr w k = tt
    labels-whole (more_cases (a_case place None ss) cs) names site at sp p case i pr w k =
        whole-at files (labels_code cs at sp.scope sp.next (p + 0) (case + stmts_size ss (known sp.scope))) (p + 0) p (omega arith) (labels-whole cs names site at sp (p + 0) (case + stmts_size ss (known sp.scope)) i pr.1 w.1 k.1)
    labels-whole (more_cases (a_case place (Some e) ss) cs) names site at sp p case i pr w k =
        let size : ℕ = expr_size (types_in sp.scope) e in
        let next : ℕ = p + (size + 4) in
        let tests : List Mark = does (Load sp.next) at ∷ does Equal at ∷ does (JumpUnless next) at ∷ does (Jump case) at ∷ label [] ∷ [] in
        let first : W (label_code (a_case place (Some e) ss) at sp.scope sp.next p case) p =
        whole-then files (expr_code e sp.scope p []) tests p (p + size) (ap (λ n. p + n) (expr-count e sp.scope p [])) (plain-value e names Value sp.scope p pr.0.1 w.0.0 k.0.0) (tt, i, (tt, i, (tt, i, (tt, i, (tt, omega arith, tt))))) in
        whole-then files (label_code (a_case place (Some e) ss) at sp.scope sp.next p case) (labels_code cs at sp.scope sp.next next (case + stmts_size ss (known sp.scope))) p next (ap (λ n. p + n) (label-count (a_case place (Some e) ss) at sp p case)) first
        (labels-whole cs names site at sp next (case + stmts_size ss (known sp.scope)) i pr.1 w.1 k.1)

    cases-whole : (cs : CaseTrees) (names : Names) (site : Site) (sp : Spot) (n p : ℕ) → sp.at_top ≡ false → AreProperCases files cs → AreWellTypedCases cs names site → AreCasesWritten cs → W (cases_code cs sp n p) p
    cases-whole no_cases names site sp n p low pr w k = tt
    cases-whole (more_cases (a_case place l ss) cs) names site sp n p low pr w k =
        let next : ℕ = p + stmts_size ss (known sp.scope) in
        let sb : Spot = behind_slots sp (stmts_slots ss) in (
          tt,
          omega arith,
          whole-then files (stmts_code ss sp n p) (cases_code cs sb (n + stmts_pars ss) next) p next (ap (λ n. p + n) (whole-stmts-count ss sp n p low)) (stmts-whole ss names (switch_site names site) sp n p pr.0.2 w.0.1 k.0.1)
              (cases-whole cs names site sb (n + stmts_pars ss) next low pr.1 w.1 k.1),
        )

    pub block-whole : (b : BlockTree) (names : Names) (site : Site) (sp : Spot) (n p : ℕ) → IsProperBlock files b → IsWellTypedBlock b names site → IsBlockWritten b → W (block_code b sp n p) p
    block-whole (block at ss) names site sp n p pr w k = stmts-whole ss names site sp n p pr.1 w k

    stmts-whole : (ss : StmtTrees) (names : Names) (site : Site) (sp : Spot) (n p : ℕ) → AreProperStmts files ss → AreWellTypedStmts ss names site → AreStmtsWritten ss → W (stmts_code ss sp n p) p
    stmts-whole no_stmts names site sp n p pr w k = tt
    stmts-whole (more_stmts s ss) names site sp n p pr w k =
        let q : ℕ = p + stmt_size s (known sp.scope) in
        whole-then files (stmt_code s sp n p) (stmts_code ss (behind s sp) (n + pars s) q) p q (ap (λ n. p + n) (whole-stmt-count s sp n p)) (stmt-whole s names site sp n p pr.0 w.0 k.0)
        (stmts-whole ss (names_behind s names site) site (behind s sp) (n + pars s) q pr.1 w.1 k.1)
