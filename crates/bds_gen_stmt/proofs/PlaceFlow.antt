-- Places and changes: the code of each takes what stands below it. Parts of acts, and slots.
use Rattle.std.proofs.Common.{◌≡◌, ◌+◌, ℕ, List, [], ◌∷◌, ◌++◌, map, reverse, slice_get, Option, Some, None, Result, Ok, Bool, true, false, not, ◌&&◌, ◌||◌, is_some, refl, sym, ◌∙◌, ap, subst, arith, rules, append_assoc}
use Rattle.std.specs.Prelude.{pos}
use Rattle.std.specs.List.{list_any, AllByRecursion}
use Rattle.bds_value.specs.declared.value.At.{At}
use Rattle.bds_value.specs.declared.value.Ty.{Ty, out-Ty}
use Rattle.bds_value.specs.declared.value.Ty.TheVariants as ty
use Rattle.bds_tree.specs.declared.stmt.UpdateOp.{UpdateOp}
use Rattle.bds_tree.specs.declared.stmt.UpdateOp.TheVariants as update_op
use Rattle.bds_tree.specs.declared.stmt.StepOp.{StepOp}
use Rattle.bds_tree.specs.declared.stmt.StepOp.TheVariants as step_op
use Rattle.bds_tree.specs.declared.token.Piece.{Piece}
use Rattle.bds_tree.specs.Tree.{Tree, Trees, name, list, type_of}
use Rattle.bds_tree.specs.StmtTree.{SuffixTree, at_index, at_key, PlaceTree, StepTree, step_after, step_before}
use Rattle.bds_value.specs.Fields.{is_solid}
use Rattle.bds_check_rules.specs.Breaks.{call_rule}
use Rattle.bds_check_names.specs.Types.{lacks}
use Rattle.bds_code.specs.declared.instr.Instr.TheVariants.{Store, Load, PushInt, Update, Spawn}
use Rattle.bds_code.specs.declared.unit.Function.{Function}
use Rattle.bds_code.specs.declared.unit.Unit.{Unit as CodeUnit}
use Rattle.bds_code.specs.declared.effects.EffectFault.{EffectFault}
use Rattle.bds_value.specs.Results.{◌>>=◌}
use Rattle.bds_value.specs.Types.{is_void}
use Rattle.bds_code.specs.Operands.{there, provided, taken, all_taken, giving, swapped}
use Rattle.bds_code.specs.MethodRows.{Operands}
use Rattle.bds_code.specs.Row.{row, slot_ty, variable_ty}
use Rattle.bds_code.specs.UpdateRows.{part_ty, change_rows, step_ty, added, added_at, counted, one_or_all}
use Rattle.bds_check_names.specs.declared.names.Names.{Names}
use Rattle.bds_check_names.specs.declared.names.Head.{Head}
use Rattle.bds_check_names.specs.declared.names.Site.{Site}
use Rattle.bds_check_names.specs.declared.names.Asked.TheVariants.{Value}
use Rattle.bds_check_rules.specs.declared.rules.Rule.{Rule}
use Rattle.bds_check_rules.specs.declared.rules.Rule.TheVariants as rule
use Rattle.bds_check_names.specs.Types.{is_known, differ, or_void, is_files, sum_ty}
use Rattle.bds_value.specs.Types.{same_ty, list_item, list_item_at, map_item}
use Rattle.bds_check_names.specs.Scopes.{found, function_named, is_missing, is_untyped, type_named}
use Rattle.bds_check_rules.specs.Pieces.{when as broken_if, any_name, is_wrong_piece, sys_rule}
use Rattle.bds_check_rules.specs.StmtBreaks.{part_ty as place_part_ty, place_ty, place_breaks, is_wrong_suffix, any_bad_suffix, wrong_rule, update_rule, stepped}
use Rattle.bds_check_typing.specs.WellTyped.{IsWellTyped}
use Rattle.bds_check_typing.specs.WellTypedParts.{AreWellTypedSuffixes, IsWellTypedPlace, IsWellTypedStep}
use Rattle.bds_check_typing.specs.Known.{IsValueWritten, IsSuffixWritten, IsPlaceWritten, IsStepWritten}
use Rattle.bds_check_size.specs.Known.{look}
use Rattle.bds_check_size.specs.declared.sums.Sum.{Sum}
use Rattle.bds_check_size.specs.declared.sums.Sum.TheVariants as sums
use Rattle.bds_check_size.specs.ExprSize.{sum_of, expr_size, files_size}
use Rattle.bds_check_size.specs.StmtSize.{suffixes_size, pieces_size}
use Rattle.bds_check_size.specs.Parts.{parts_of}
use Rattle.bds_gen_expr.specs.Marks.{Mark, does, one}
use Rattle.bds_gen_expr.specs.Scope.{known, VariablePlace, place_of, is_global_at, number_at, function_number}
use Rattle.bds_gen_expr.specs.ExprCode.{expr_code, pieces_code, files_code}
use Rattle.bds_gen_stmt.specs.Spots.{Spot}
use Rattle.bds_gen_stmt.specs.PlaceCode.{kind_of, kinds_of, suffixes_code, steps_below, changes_place, change_number, step_number, step_op_of, step_code}
use Rattle.bds_value.proofs.TypeLaws.{same_ty-refl}
use Rattle.bds_check_typing.proofs.Written.{written-known, list-item-written, list-part-written, map-part-written}
use Rattle.bds_value.proofs.TypeLaws.{same_ty-true}
use Rattle.bds_gen_flow.proofs.Sums.{SumFits, sum-fits, list-is}
use Rattle.bds_gen_flow.proofs.RowEffects.{not_void, int-solid, text-solid, list-solid, any-is, taken-is, given-is, item-is, entry-of-map, differ-choice, same-unless, int-known, text-known}
use Rattle.bds_gen_flow.specs.Flow.{Runs}
use Rattle.bds_gen_flow.proofs.Flow.{runs_then, runs_to, runs_none, runs_one, runs_does}
use Rattle.bds_gen_flow.specs.Fits.{Fits}
use Rattle.bds_gen_flow.proofs.ExprParts.{AllKnown, AreSolid, solid-reverse, all-taken, reverse-step, some-is, holds, when-none, or-none, found-is, known-type, types_below, call-row, called, arguments-are}
use Rattle.bds_gen_flow.proofs.TextFlow.{parts-run, pieces-fit}
use Rattle.bds_gen_flow.proofs.ExprFlow.{expr_runs, files_runs}
use Rattle.bds_gen_stmt.proofs.Matched.{Matches, variable-there, fits-of, found-written}

-- Steps

steps-solid : (ks : List Bool) → AreSolid (map step_ty ks)
steps-solid [] = tt
steps-solid (false ∷ ks) = (int-solid, steps-solid ks)
steps-solid (true ∷ ks) = (text-solid, steps-solid ks)

pub step-below : (t : Ty) (ts s : List Ty) → reverse ts ++ (t ∷ s) ≡ reverse (t ∷ ts) ++ s
step-below t ts s = sym (append_assoc (reverse ts) (t ∷ []) s) ∙ ap (λ x. x ++ s) (sym (reverse-step t ts))

steps-below : (ks : List Bool) (s : List Ty) → steps_below ks s ≡ reverse (map step_ty ks) ++ s
steps-below [] s = refl
steps-below (false ∷ ks) s = steps-below ks (ty.Int ∷ s) ∙ step-below ty.Int (map step_ty ks) s
steps-below (true ∷ ks) s = steps-below ks (ty.Text ∷ s) ∙ step-below ty.Text (map step_ty ks) s

steps-taken : (ks : List Bool) (s : List Ty) → all_taken (reverse (map step_ty ks)) (steps_below ks s) ≡ Ok s
steps-taken ks s =
    ap (all_taken (reverse (map step_ty ks))) (steps-below ks s) ∙ all-taken (reverse (map step_ty ks)) s (solid-reverse (map step_ty ks) (steps-solid ks))

-- the part to which steps lead
part-ty-is : (t : Ty) (xs : List SuffixTree) → is_solid t ≡ true → any_bad_suffix t xs ≡ false → (part_ty t (map kind_of xs) ≡ Ok (place_part_ty t xs)) × (is_solid (place_part_ty t xs) ≡ true)
part-ty-is t [] w h = (refl, w)
part-ty-is t (at_index e ∷ xs) w h =
    let it : Ty = or_void (list_item t) in
    let r = or-none (lacks t (is_some (list_item t))) (any_bad_suffix it xs) h in
    let iw : is_solid it ≡ true = list-part-written t w r.0 in
    let step = item-is t it (not_void it (written-known it iw)) (some-is (is_known t) (list_item t) (written-known t w) r.0) in
    let rest = part-ty-is it xs iw r.1 in
    (ap (λ r. r >>= λ u. part_ty u (map kind_of xs)) step ∙ rest.0, rest.1)
part-ty-is t (at_key e ∷ xs) w h =
    let it : Ty = or_void (map_item t) in
    let r = or-none (lacks t (is_some (map_item t))) (any_bad_suffix it xs) h in
    let iw : is_solid it ≡ true = map-part-written t w r.0 in
    let step = entry-of-map it (out-Ty t) (not_void it (written-known it iw)) (some-is (is_known t) (map_item t) (written-known t w) r.0) in
    let rest = part-ty-is it xs iw r.1 in
    (ap (λ r. r >>= λ u. part_ty u (map kind_of xs)) step ∙ rest.0, rest.1)

-- Changes

or-true : (b : Bool) → (b || true) ≡ true
or-true true = refl
or-true false = refl

added-by : (sum : Sum) (p e : Ty) (s : List Ty) → SumFits sum p e → sum_ty p e ≡ p → is_solid p ≡ true → is_known e ≡ true → added p (e ∷ s) ≡ Ok s
added-by sums.Numbers p e s h q w k =
    subst (λ x. added x (e ∷ s) ≡ Ok s) (sym h.0) (subst (λ x. added ty.Int (x ∷ s) ≡ Ok s) (sym h.1) (ap (λ l. added_at l ty.Int (ty.Int ∷ s)) ty.outs-Int ∙ taken-is ty.Int s int-solid))
added-by sums.ItemAdded p e s h q w k =
    let v : is_void e ≡ false = not_void e k in
    subst (λ x. added x (e ∷ s) ≡ Ok s) (sym (list-is p e h.0))
    (ap (λ l. added_at l (ty.List e) (e ∷ s)) (ty.outs-List e)
    ∙ ap (λ r. r >>= λ t. one_or_all (ty.List e) t (e ∷ s)) (item-is (ty.List e) e v (ap list_item_at (ty.outs-List e)))
    ∙ ap (λ r. r >>= λ r. provided (same_ty e r.0 || same_ty (ty.List e) r.0) r.1) (any-is e s v)
    ∙ ap (λ b. provided (b || same_ty (ty.List e) e) s) (same_ty-refl e))
added-by sums.ListsJoined p e s h q w k =
    let t : Ty = h.1.0 in
    let tv : is_void t ≡ false = not_void t (written-known t (list-item-written p t w h.1.1)) in
    let l : Ty = ty.List t in
    let pl : p ≡ l = list-is p t h.1.1 in
    subst (λ x. added p (x ∷ s) ≡ Ok s) h.0
    (subst (λ x. added x (x ∷ s) ≡ Ok s) (sym pl)
    (ap (λ y. added_at y l (l ∷ s)) (ty.outs-List t)
    ∙ ap (λ r. r >>= λ t. one_or_all l t (l ∷ s)) (item-is l t tv (ap list_item_at (ty.outs-List t)))
    ∙ ap (λ r. r >>= λ r. provided (same_ty t r.0 || same_ty l r.0) r.1) (any-is l s (list-solid t))
    ∙ ap (λ b. provided (same_ty t l || b) s) (same_ty-refl l) ∙ ap (λ b. provided b s) (or-true (same_ty t l))))
added-by sums.Texts p e s h q w k =
    subst (λ x. added x (e ∷ s) ≡ Ok s) (sym h ∙ q) (ap (λ l. added_at l ty.Text (e ∷ s)) ty.outs-Text ∙ ap (λ r. r >>= λ r. Ok r.1) (any-is e s (not_void e k)))

pub counted-is : (s : List Ty) → counted ty.Int (ty.Int ∷ s) ≡ Ok s
counted-is s = ap (λ b. provided b (ty.Int ∷ s) >>= taken ty.Int) (same_ty-refl ty.Int) ∙ taken-is ty.Int s int-solid

counts-by : (p e : Ty) (s : List Ty) → is_known p ≡ true → is_known e ≡ true → broken_if (differ ty.Int p || differ ty.Int e) rule.WrongType None ≡ None → counted p (e ∷ s) ≡ Ok s
counts-by p e s kp ke q =
    let r = or-none (differ ty.Int p) (differ ty.Int e) (when-none (differ ty.Int p || differ ty.Int e) rule.WrongType None q).0 in
    subst (λ x. counted x (e ∷ s) ≡ Ok s) (same-unless ty.Int p int-known kp r.0) (subst (λ x. counted ty.Int (x ∷ s) ≡ Ok s) (same-unless ty.Int e int-known ke r.1) (counted-is s))

abbrev pub change_of : UpdateOp → Ty → Operands
change_of update_op.Add = added
change_of _ = counted

pub change-there : (o : UpdateOp) → slice_get change_rows (change_number o) ≡ Some (change_of o)
change-there update_op.Add = refl
change-there update_op.Sub = refl
change-there update_op.Mul = refl
change-there update_op.Div = refl
change-there update_op.Rem = refl

pub change-is : (o : UpdateOp) (p e : Ty) (s : List Ty) → is_solid p ≡ true → is_known e ≡ true → update_rule o p e ≡ None → change_of o p (e ∷ s) ≡ Ok s
change-is update_op.Add p e s w k q =
    let kp : is_known p ≡ true = written-known p w in
    let same : sum_ty p e ≡ p = same_ty-true (sum_ty p e) p (differ-choice (is_known p) (is_known e) (same_ty (sum_ty p e) p) kp k (when-none (is_known p && is_known e && not (same_ty (sum_ty p e) p)) rule.WrongType None q).0) in
    added-by (sum_of p e) p e s (sum-fits p e kp k (ap is_known same ∙ kp)) same w k
change-is update_op.Sub p e s w k q = counts-by p e s (written-known p w) k q
change-is update_op.Mul p e s w k q = counts-by p e s (written-known p w) k q
change-is update_op.Div p e s w k q = counts-by p e s (written-known p w) k q
change-is update_op.Rem p e s w k q = counts-by p e s (written-known p w) k q

abbrev pub step_change : StepOp → Ty → Operands
step_change step_op.Increment = added
step_change step_op.Decrement = counted

step-there : (o : StepOp) → slice_get change_rows (step_number o) ≡ Some (step_change o)
step-there step_op.Increment = refl
step-there step_op.Decrement = refl

pub step-is : (o : StepOp) (p : Ty) (s : List Ty) → ty.Int ≡ p → step_change o p (ty.Int ∷ s) ≡ Ok s
step-is step_op.Increment p s e = subst (λ x. added x (ty.Int ∷ s) ≡ Ok s) e (ap (λ l. added_at l ty.Int (ty.Int ∷ s)) ty.outs-Int ∙ taken-is ty.Int s int-solid)
step-is step_op.Decrement p s e = subst (λ x. counted x (ty.Int ∷ s) ≡ Ok s) e (counted-is s)

module _ (u : CodeUnit) (F : Function) where
  pub update-is : (v : VariablePlace) (t p : Ty) (ks : List Bool) (what : ℕ) (change : Ty → Operands) (s rest : List Ty) → variable_ty u F (is_global_at v) (number_at v) ≡ Some t → slice_get change_rows what ≡ Some change
      → part_ty t ks ≡ Ok p → change p s ≡ Ok (steps_below ks rest) → row u F (Update (is_global_at v) (number_at v) ks what) s ≡ Ok rest
  update-is v t p ks what change s rest h c e r =
      ap (λ o. there o (number_at v) >>= λ w. there (slice_get change_rows what) what >>= λ change. part_ty w ks >>= λ p. change p s >>= all_taken (reverse (map step_ty ks))) h
      ∙ ap (λ o. there o what >>= λ change. part_ty t ks >>= λ p. change p s >>= all_taken (reverse (map step_ty ks))) c
      ∙ ap (λ o. o >>= λ p. change p s >>= all_taken (reverse (map step_ty ks))) e
      ∙ ap (λ o. o >>= all_taken (reverse (map step_ty ks))) r
      ∙ steps-taken ks rest

module _ (u : CodeUnit) (F : Function) (Labels : ℕ → List Ty → Type 0) (Ticks : ℕ → Type 0) (names : Names) (site : Site) (sp : Spot) (m : Matches u F names site sp) where
  abbrev Run : List Mark → ℕ → ℕ → List Ty → List Ty → Type 0
  Run = Runs u F Labels Ticks

  abbrev types : List ℕ → Option Ty
  types = look (known sp.scope)

  abbrev fits : Fits u F sp.scope names
  fits = fits-of u F names site sp m

  value-run : (e : Tree) (p : ℕ) (s : List Ty) → IsWellTyped e names Value → IsValueWritten e → Run (expr_code e sp.scope p s) p (p + expr_size types e) s (type_of e ∷ s)
  value-run e p s w k = expr_runs u F Labels Ticks sp.scope names fits e Value p s refl w k

  pub as-run : (e : Tree) (t : Ty) (p : ℕ) (s : List Ty) → t ≡ type_of e → IsWellTyped e names Value → IsValueWritten e → Run (expr_code e sp.scope p s) p (p + expr_size types e) s (t ∷ s)
  as-run e t p s same w k = subst (λ x. Run (expr_code e sp.scope p s) p (p + expr_size types e) s (x ∷ s)) (sym same) (value-run e p s w k)

  pub wrong-is : (t : Ty) (e : Tree) → is_known t ≡ true → IsValueWritten e → differ t (type_of e) ≡ false → t ≡ type_of e
  wrong-is t e kt k q = same-unless t (type_of e) kt (known-type e k) q

  suffixes-run : (xs : List SuffixTree) (p : ℕ) (s : List Ty) → AreWellTypedSuffixes xs names → AllByRecursion IsSuffixWritten xs → list_any is_wrong_suffix xs ≡ false
      → Run (suffixes_code xs sp.scope p s) p (p + suffixes_size types xs) s (steps_below (map kind_of xs) s)
  suffixes-run [] p s w k q = runs_to u F Labels Ticks [] p p (p + 0) s s (omega arith) (runs_none u F Labels Ticks p s)
  suffixes-run (at_index e ∷ xs) p s w k q =
      let r = or-none (differ ty.Int (type_of e)) (list_any is_wrong_suffix xs) q in
      let mid : ℕ = p + expr_size types e in
      let end : ℕ = p + (expr_size types e + suffixes_size types xs) in
      runs_then u F Labels Ticks (expr_code e sp.scope p s) (suffixes_code xs sp.scope mid (ty.Int ∷ s)) p mid end s (ty.Int ∷ s) (steps_below (map kind_of xs) (ty.Int ∷ s)) (as-run e ty.Int p s (wrong-is ty.Int e int-known k.0 r.0) w.0 k.0)
      (runs_to u F Labels Ticks (suffixes_code xs sp.scope mid (ty.Int ∷ s)) mid (mid + suffixes_size types xs) end (ty.Int ∷ s) (steps_below (map kind_of xs) (ty.Int ∷ s)) (omega arith) (suffixes-run xs mid (ty.Int ∷ s) w.1 k.1 r.1))
  suffixes-run (at_key e ∷ xs) p s w k q =
      let r = or-none (differ ty.Text (type_of e)) (list_any is_wrong_suffix xs) q in
      let mid : ℕ = p + expr_size types e in
      let end : ℕ = p + (expr_size types e + suffixes_size types xs) in
      runs_then u F Labels Ticks (expr_code e sp.scope p s) (suffixes_code xs sp.scope mid (ty.Text ∷ s)) p mid end s (ty.Text ∷ s) (steps_below (map kind_of xs) (ty.Text ∷ s)) (as-run e ty.Text p s (wrong-is ty.Text e text-known k.0 r.0) w.0 k.0)
      (runs_to u F Labels Ticks (suffixes_code xs sp.scope mid (ty.Text ∷ s)) mid (mid + suffixes_size types xs) end (ty.Text ∷ s) (steps_below (map kind_of xs) (ty.Text ∷ s)) (omega arith) (suffixes-run xs mid (ty.Text ∷ s) w.1 k.1 r.1))

  -- what a well-typed place says
  record PlaceIs (q : PlaceTree) : Type 0 where
    variable : variable_ty u F (is_global_at (place_of sp.scope q.name)) (number_at (place_of sp.scope q.name)) ≡ Some (type_named q.name names)
    suffixes : list_any is_wrong_suffix q.suffixes ≡ false
    part : part_ty (type_named q.name names) (kinds_of q) ≡ Ok (place_ty names q)
    written : is_solid (place_ty names q) ≡ true

  place-is : (q : PlaceTree) → place_breaks names q ≡ None → PlaceIs q
  place-is q b =
      let third : Option Rule = broken_if (any_bad_suffix (type_named q.name names) q.suffixes) rule.BadItem None in
      let second : Option Rule = broken_if (list_any is_wrong_suffix q.suffixes) rule.WrongType third in
      let r = when-none (is_missing names.finding (found q.name names)) rule.UnknownName second b in
      let f = found-is names.finding (found q.name names) r.0 in
      let r2 = when-none (list_any is_wrong_suffix q.suffixes) rule.WrongType third r.1 in
      let r3 = when-none (any_bad_suffix (type_named q.name names) q.suffixes) rule.BadItem None r2.1 in
      let parts = part-ty-is (type_named q.name names) q.suffixes (found-written u F q.name names site sp (type_named q.name names) m f) r3.0 in
      record {
        variable = variable-there u F q.name names site sp (type_named q.name names) m f;
        suffixes = r2.0;
        part = parts.0;
        written = parts.1;
      }

  pub place-written : (q : PlaceTree) → place_breaks names q ≡ None → is_solid (place_ty names q) ≡ true
  place-written q b = (place-is q b).written

  -- a place, an operand and the change
  pub place-run : (q : PlaceTree) (right : List Mark) (t : Ty) (at : At) (change : Ty → Operands) (n what p : ℕ) → IsWellTypedPlace q names → IsPlaceWritten q → slice_get change_rows what ≡ Some change
      → change (place_ty names q) (t ∷ steps_below (kinds_of q) []) ≡ Ok (steps_below (kinds_of q) [])
      → Run right (p + suffixes_size types q.suffixes) (p + suffixes_size types q.suffixes + n) (steps_below (kinds_of q) []) (t ∷ steps_below (kinds_of q) [])
      → Run (suffixes_code q.suffixes sp.scope p [] ++ (right ++ changes_place sp.scope at q.name (kinds_of q) what)) p (p + (suffixes_size types q.suffixes + n + 1)) [] []
  place-run q right t at change n what p w k there_is done run =
      let is = place-is q w.1 in
      let mid : ℕ = p + suffixes_size types q.suffixes in
      let end : ℕ = p + (suffixes_size types q.suffixes + n + 1) in
      let below : List Ty = steps_below (kinds_of q) [] in
      let last : List Mark = changes_place sp.scope at q.name (kinds_of q) what in
      let v : VariablePlace = place_of sp.scope q.name in
      runs_then u F Labels Ticks (suffixes_code q.suffixes sp.scope p []) (right ++ last) p mid end [] below [] (suffixes-run q.suffixes p [] w.0 k is.suffixes)
      (runs_then u F Labels Ticks right last mid (mid + n) end below (t ∷ below) [] run
      (runs_one u F Labels Ticks (Update (is_global_at v) (number_at v) (kinds_of q) what) at (mid + n) end (t ∷ below) [] (omega arith) refl refl
      (update-is u F v (type_named q.name names) (place_ty names q) (kinds_of q) what change (t ∷ below) [] is.variable there_is is.part done)))

  step-place : (x : StepTree) → IsWellTypedStep x names → IsWellTypedPlace (stepped x) names
  step-place (step_after q o) w = w
  step-place (step_before o q) w = w

  step-written : (x : StepTree) → IsStepWritten x → IsPlaceWritten (stepped x)
  step-written (step_after q o) w = w
  step-written (step_before o q) w = w

  pub step-run : (x : StepTree) (at : At) (p : ℕ) → IsWellTypedStep x names → IsStepWritten x → wrong_rule ty.Int (place_ty names (stepped x)) ≡ None
      → Run (step_code x at sp.scope p) p (p + (suffixes_size types (stepped x).suffixes + 2)) [] []
  step-run x at p w k b =
      let q : PlaceTree = stepped x in
      let wq = step-place x w in
      let mid : ℕ = p + suffixes_size types q.suffixes in
      let below : List Ty = steps_below (kinds_of q) [] in
      let written : is_solid (place_ty names q) ≡ true = place-written q wq.1 in
      let same : ty.Int ≡ place_ty names q = same-unless ty.Int (place_ty names q) int-known (written-known (place_ty names q) written) (when-none (differ ty.Int (place_ty names q)) rule.WrongType None b).0 in
      let push : Run (one at (PushInt (pos 1))) mid (mid + 1) below (ty.Int ∷ below) = runs_one u F Labels Ticks (PushInt (pos 1)) at mid (mid + 1) below (ty.Int ∷ below) refl refl refl (given-is ty.Int below int-solid) in
      let run = place-run q (one at (PushInt (pos 1))) ty.Int at (step_change (step_op_of x)) 1 (step_number (step_op_of x)) p wq (step-written x k) (step-there (step_op_of x)) (step-is (step_op_of x) (place_ty names q) below same) push in
      runs_to u F Labels Ticks (step_code x at sp.scope p) p (p + (suffixes_size types q.suffixes + 1 + 1)) (p + (suffixes_size types q.suffixes + 2)) [] [] (omega arith) run

  -- Acts

  pub pieces-run : (ps : List Piece) (at : At) (p : ℕ) (s : List Ty) → sys_rule names ps ≡ None → Run (pieces_code sp.scope at ps) p (p + pieces_size types ps) s (ty.Text ∷ s)
  pieces-run ps at p s b =
      let q = when-none (list_any (any_name (is_untyped names.finding) names) ps) rule.UnknownName (broken_if (list_any (is_wrong_piece names) ps) rule.WrongType None) b in
      let right = (when-none (list_any (is_wrong_piece names) ps) rule.WrongType None q.1).0 in
      parts-run u F Labels Ticks sp.scope names fits (parts_of types ps) at p s (pieces-fit u F Labels Ticks sp.scope names fits ps right)

  -- a file or a list of files
  pub files-run : (e : Tree) (at : At) (p : ℕ) (s : List Ty) → IsWellTyped e names Value → IsValueWritten e → lacks (type_of e) (is_files (type_of e)) ≡ false → Run (files_code e at sp.scope p s) p (p + files_size types e) s (ty.List ty.Text ∷ s)
  files-run e at p s w k l =
      files_runs u F Labels Ticks sp.scope names fits e at p (p + files_size types e) s (holds u F (is_known (type_of e)) (is_files (type_of e)) (known-type e k) l) (omega arith) (value-run e p s w k)

  pub no-rule : (b : Bool) (r : Rule) → broken_if b r None ≡ None → b ≡ false
  no-rule b r q = (when-none b r None q).0

  pub spawn-run : (o : Option Head) (fn : List ℕ) (at : At) (es : Trees) (ms : List Mark) (p q e : ℕ) (s : List Ty) → function_named fn names.functions ≡ o → call_rule false o es ≡ None → AllKnown es → q + 1 ≡ e
      → Run ms p q s (types_below es s) → Run (ms ++ one at (Spawn (function_number sp.scope fn))) p e s (ty.Text ∷ s)
  spawn-run None fn at es ms p q e s n c ka eq r = absurd (search (rules, c))
  spawn-run (Some h) fn at es ms p q e s n c ka eq r =
      let called_is = called false h es c in
      let there_is = fits.calls fn h n in
      let g : Function = there_is.0 in
      let params = there_is.2 ∙ arguments-are h.parameters es ka (fits.parameters fn h n) called_is.arguments called_is.count in
      let row_is : row u F (Spawn (function_number sp.scope fn)) (types_below es s) ≡ Ok (ty.Text ∷ s) = ap (λ o. there_in o) there_is.1 ∙ call-row g.params ty.Text es s ka params text-solid in
      runs_then u F Labels Ticks ms (one at (Spawn (function_number sp.scope fn))) p q e s (types_below es s) (ty.Text ∷ s) r (runs_one u F Labels Ticks (Spawn (function_number sp.scope fn)) at q e (types_below es s) (ty.Text ∷ s) eq refl refl row_is)
    where
      there_in : Option Function → Result (List Ty) EffectFault
      there_in o = there o (function_number sp.scope fn) >>= λ callee. swapped (reverse callee.params) ty.Text (types_below es s)

  -- Slots

  pub store-slot : (i : ℕ) (t : Ty) (at : At) (ms : List Mark) (p q : ℕ) (s w : List Ty) → slot_ty F i ≡ Some t → is_void t ≡ false → Run ms (p + 1) q s w → Run (does (Store i) at ∷ ms) p q (t ∷ s) w
  store-slot i t at ms p q s w h v r = runs_does u F Labels Ticks (Store i) at ms p q (t ∷ s) s w refl refl (ap (λ o. there o i >>= λ w. taken w (t ∷ s)) h ∙ taken-is t s v) r

  pub load-slot : (i : ℕ) (t : Ty) (at : At) (ms : List Mark) (p q : ℕ) (s w : List Ty) → slot_ty F i ≡ Some t → is_void t ≡ false → Run ms (p + 1) q (t ∷ s) w → Run (does (Load i) at ∷ ms) p q s w
  load-slot i t at ms p q s w h v r = runs_does u F Labels Ticks (Load i) at ms p q s (t ∷ s) w refl refl (ap (λ o. there o i >>= λ w. giving w s) h ∙ given-is t s v) r

  pub one-store : (i : ℕ) (t : Ty) (at : At) (p q : ℕ) (s : List Ty) → p + 1 ≡ q → slot_ty F i ≡ Some t → is_void t ≡ false → Run (one at (Store i)) p q (t ∷ s) s
  one-store i t at p q s e h v = runs_to u F Labels Ticks (one at (Store i)) p (p + 1) q (t ∷ s) s e (store-slot i t at [] p (p + 1) s s h v (runs_none u F Labels Ticks (p + 1) s))
