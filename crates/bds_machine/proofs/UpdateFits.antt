-- The row that changes a part of a variable keeps the types.
use Rattle.std.proofs.Common.{◌≡◌, ℕ, List, [], ◌∷◌, ◌++◌, length, map, reverse, slice_get, slice_set, Bool, true, false, Some, None, Ok, Err, refl, sym, ap, ◌∙◌, subst}
use Rattle.std.proofs.lemmas.List.{length-reverse, length-map}
use Rattle.std.specs.List.{AllByRecursion}
use Rattle.bds_value.specs.declared.value.Place.{Place}
use Rattle.bds_value.specs.declared.value.Place.TheVariants.{Index, Key}
use Rattle.bds_value.specs.declared.value.Ty.{Ty, out-Ty}
use Rattle.bds_value.specs.declared.value.Ty.TheVariants as ty
use Rattle.bds_value.specs.declared.value.Value.{Value}
use Rattle.bds_value.specs.Path.{fits_step, type_at_path}
use Rattle.bds_value.proofs.Limits.{limits-Text}
use Rattle.bds_value.specs.Options.{◌>>=◌}
use Rattle.bds_value.specs.Results as results
use Rattle.bds_code.specs.declared.unit.Function.{Function}
use Rattle.bds_code.specs.declared.unit.Unit.{Unit as CodeUnit}
use Rattle.bds_code.specs.Operands.{there, all_taken}
use Rattle.bds_code.specs.Row.{variable_ty}
use Rattle.bds_code.specs.UpdateRows.{step_ty, step_into, part_ty, change_rows}
use Rattle.bds_code.specs.UpdateRows as rows
use Rattle.bds_code_frames.specs.Stack.{Call, Stack, beside, with_slots}
use Rattle.bds_verify.specs.Threads.{Holds, Typed, IsCall}
use Rattle.bds_machine_values.specs.Operands.{taken_all}
use Rattle.bds_machine_values.specs.Faults.{Outcome, and_then}
use Rattle.bds_machine_values.specs.Updates.{step_of, path_of, value_changed, variable, assigned, updated}
use Rattle.bds_machine.proofs.ChangeFits.{IsTypedChange, change_there}
use Rattle.bds_machine.proofs.Fits.{Kept}
use Rattle.bds_machine.proofs.HeldFits.{IsHeld}
use Rattle.bds_machine.proofs.LawFits.{OperatorLaw, PartLaw, PutLaw, ChangeLaw}
use Rattle.bds_machine.proofs.PathLimits.{IsStep}
use Rattle.bds_machine.proofs.OperandFits.{kept_here, take_all, typed-reverse, int_there, text_there}
use Rattle.bds_machine.proofs.ResultFits.{FitsBoth}
use Rattle.bds_machine.proofs.SlotFits.{typed-get, typed-set}
use Rattle.bds_machine.proofs.TypesFits.{bind_ok, there-ok, all_taken-ok, item-ok, entry-ok}

step_there : (k : Bool) (t u : Ty) (x : Value) → step_into k t ≡ Ok u → Holds x (step_ty k) → (p : Place) × (step_of k x ≡ Some p) × (fits_step p (out-Ty t) ≡ Some u) × IsStep p
step_there false t u x h k = let n = int_there x k in (Index n.0, rw n.1 refl, rw (item-ok t u h, ty.outs-List u) refl, tt)
step_there true t u x h k = let s = text_there x k in (Key s.0, rw s.1 refl, rw (entry-ok t u h, ty.outs-Map u) refl, limits-Text x s.0 s.2 k.limits)

-- the steps are a path to a part of this type
path_there : (kinds : List Bool) (t p : Ty) (vs : List Value) → part_ty t kinds ≡ Ok p → Typed vs (map step_ty kinds) → (path : List Place) × (path_of kinds vs ≡ Some path) × (type_at_path path t ≡ Some p) × AllByRecursion IsStep path
path_there [] t p [] h typed = let same : t ≡ p = cc in ([], refl, ap Some same, tt)
path_there [] t p (v ∷ vs) h typed = absurd typed
path_there (k ∷ ks) t p [] h typed = absurd typed
path_there (k ∷ ks) t p (v ∷ vs) h typed =
    let r = bind_ok (step_into k t) (λ u. part_ty u ks) p h in
    let s = step_there k t r.0 v r.1 typed.0 in
    let rest = path_there ks r.0 p vs r.2 typed.1 in
    (s.0 ∷ rest.0, rw (s.1, rest.1) refl, rw s.2 rest.2, (s.3, rest.3))

module _ (u : CodeUnit) (f : Function) (next : List Ty) (c : Call) (below : Stack) where
  variable_there : (scope : Bool) (slot : ℕ) (t : Ty) (g : List Value) (d : Call) → variable_ty u f scope slot ≡ Some t → Typed g u.globals → Kept f next c d → (v : Value) × (variable scope slot g (d ∷ below) ≡ Some v) × Holds v t
  variable_there false slot t g d e typed kept = typed-get d.slots (f.params ++ f.locals) slot t kept.call.slots e
  variable_there true slot t g d e typed kept = typed-get g u.globals slot t typed e

  assigned_fits : (scope : Bool) (slot : ℕ) (t : Ty) (v : Value) (g : List Value) (d : Call) → variable_ty u f scope slot ≡ Some t → Typed g u.globals → Kept f next c d → Holds v t
      → FitsBoth f next c below u.globals (assigned scope slot v g (d ∷ below))
  assigned_fits false slot t v g d e typed kept h =
      let old = typed-get d.slots (f.params ++ f.locals) slot t kept.call.slots e in
      subst (λ o. FitsBoth f next c below u.globals (beside o (with_slots (slice_set d.slots slot v) d ∷ below) >>= λ old. Some (Ok (g, old.1)))) (sym old.1)
      (typed, (record { function = kept.function; place = kept.place; call = record { slots = typed-set d.slots (f.params ++ f.locals) slot t v kept.call.slots e h; ops = kept.call.ops } }, refl))
  assigned_fits true slot t v g d e typed kept h =
      let old = typed-get g u.globals slot t typed e in
      subst (λ o. FitsBoth f next c below u.globals (o >>= λ old. Some (Ok (slice_set g slot v, d ∷ below)))) (sym old.1) (typed-set g u.globals slot t v typed e h, (kept, refl))

  held_fits : (t : Ty) (r : Outcome Value) (go : Value → Outcome (List Value × Stack)) → IsHeld t r → ((v : Value) → Holds v t → FitsBoth f next c below u.globals (go v)) → FitsBoth f next c below u.globals (and_then r go)
  held_fits t None go h then = absurd h
  held_fits t (Some (Err e)) go h then = tt
  held_fits t (Some (Ok v)) go h then = then v h

  module _ (operators : OperatorLaw) (parts : PartLaw) (puts : PutLaw) (library : ChangeLaw) (scope : Bool) (slot : ℕ) (kinds : List Bool) (what : ℕ) (g : List Value) where
    -- behind the steps
    abbrev Stepped : List Value → List Value × Stack → Outcome (List Value × Stack)
    Stepped args steps =
        path_of kinds steps.0 >>= λ path.
        variable scope slot g steps.1 >>= λ v.
        and_then (value_changed what path v args) (λ new. assigned scope slot new g steps.1)

    stepped_fits : (n : ℕ) (shape rest : List Ty) (t p : Ty) (is : IsTypedChange what n p shape rest) (args steps : List Value) (d : Call) → variable_ty u f scope slot ≡ Some t → part_ty t kinds ≡ Ok p → Typed g u.globals
        → Typed args is.types → Typed steps (map step_ty kinds) → Kept f next c d → FitsBoth f next c below u.globals (Stepped args (steps, d ∷ below))
    stepped_fits n shape rest t p is args steps d has_type part typed hargs hsteps kept =
        let path = path_there kinds t p steps part hsteps in
        let v = variable_there scope slot t g d has_type typed kept in
        subst (λ o. FitsBoth f next c below u.globals (o >>= λ path. variable scope slot g (d ∷ below) >>= λ v. and_then (value_changed what path v args) (λ new. assigned scope slot new g (d ∷ below)))) (sym path.1)
        (subst (λ o. FitsBoth f next c below u.globals (o >>= λ v. and_then (value_changed what path.0 v args) (λ new. assigned scope slot new g (d ∷ below)))) (sym v.1)
        (held_fits t (value_changed what path.0 v.0 args) (λ new. assigned scope slot new g (d ∷ below)) (is.changes v.0 t path.0 args path.3 v.2 path.2 hargs)
        (λ new hn. assigned_fits scope slot t new g d has_type typed kept hn)))

    taken_fits : (n : ℕ) (shape rest : List Ty) (t p : Ty) → IsTypedChange what n p shape rest → variable_ty u f scope slot ≡ Some t → part_ty t kinds ≡ Ok p → rest ≡ reverse (map step_ty kinds) ++ next → Typed g u.globals → IsCall f shape c
        → FitsBoth f next c below u.globals (taken_all n (c ∷ below) >>= λ args. taken_all (length kinds) args.1 >>= Stepped args.0)
    taken_fits n shape rest t p is has_type part steps typed call =
        take_all (FitsBoth f next c below u.globals) f c below (reverse is.types) rest n c (λ args. taken_all (length kinds) args.1 >>= Stepped args.0) (is.count ∙ sym (length-reverse is.types))
        (kept_here f shape (reverse is.types ++ rest) c is.takes call)
        (λ vs d hvs kept.
        take_all (FitsBoth f next c below u.globals) f c below (reverse (map step_ty kinds)) next (length kinds) d (Stepped (reverse vs)) (sym (length-reverse (map step_ty kinds) ∙ length-map kinds step_ty))
        (record { function = kept.function; place = kept.place; call = subst (λ s. IsCall f s d) steps kept.call })
        (λ ws e hws kept. stepped_fits n shape rest t p is (reverse vs) (reverse ws) e has_type part typed (typed-reverse is.types vs hvs) (typed-reverse (map step_ty kinds) ws hws) kept))

    pub updated_fits : (shape : List Ty) → rows.updated (variable_ty u f scope slot) slot kinds what shape ≡ Ok next → Typed g u.globals → IsCall f shape c → FitsBoth f next c below u.globals (updated scope slot kinds what g (c ∷ below))
    updated_fits shape h typed call =
        let v = bind_ok (there (variable_ty u f scope slot) slot) (λ v. results.◌>>=◌ (there (slice_get change_rows what) what) (λ change. results.◌>>=◌ (part_ty v kinds) (λ p. results.◌>>=◌ (change p shape) (all_taken (reverse (map step_ty kinds)))))) next h in
        let change = bind_ok (there (slice_get change_rows what) what) (λ change. results.◌>>=◌ (part_ty v.0 kinds) (λ p. results.◌>>=◌ (change p shape) (all_taken (reverse (map step_ty kinds))))) next v.2 in
        let p = bind_ok (part_ty v.0 kinds) (λ p. results.◌>>=◌ (change.0 p shape) (all_taken (reverse (map step_ty kinds)))) next change.2 in
        let rest = bind_ok (change.0 p.0 shape) (all_taken (reverse (map step_ty kinds))) next p.2 in
        let row = change_there operators parts puts library what change.0 (there-ok (slice_get change_rows what) what change.0 change.1) in
        subst (λ o. FitsBoth f next c below u.globals (o >>= λ n. taken_all n (c ∷ below) >>= λ args. taken_all (length kinds) args.1 >>= Stepped args.0)) (sym row.1)
        (taken_fits row.0 shape rest.0 v.0 p.0 (row.2 p.0 shape rest.0 rest.1) (there-ok (variable_ty u f scope slot) slot v.0 v.1) p.1 (all_taken-ok (reverse (map step_ty kinds)) rest.0 next rest.2) typed call)
