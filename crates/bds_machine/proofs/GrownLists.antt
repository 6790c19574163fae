-- A number that is put at the end of a list where it stands.
use Rattle.std.proofs.Common.{◌≡◌, ℕ, ℤ, List, [], ◌∷◌, slice_get, slice_set, Bool, true, false, Option, Some, None, Ok, IsSome, refl, sym, ap, ◌∙◌, subst}
use Rattle.std.proofs.lemmas.List.{set-get_or}
use Rattle.std.proofs.lemmas.Option.{unwrap_or-slice_get}
use Rattle.bds_value.specs.declared.change_numbers.TheConstants.{ADD}
use Rattle.bds_value.specs.declared.value.Value.{Value}
use Rattle.bds_value.specs.declared.value.Value.TheVariants as value
use Rattle.bds_value.specs.Options.{◌>>=◌}
use Rattle.bds_code.specs.declared.instr.Instr.TheVariants.{Update}
use Rattle.bds_code_frames.specs.Stack.{Stack, moved, swapped, with_slots, with_place}
use Rattle.bds_machine_values.specs.Faults.{and_then}
use Rattle.bds_machine.specs.Stretches.{settled, sunk}
use Rattle.bds_machine_values.specs.Updates.{variable, assigned, value_changed}
use Rattle.bds_machine_values.proofs.Updating.{some_both, swapped_cell, swapped_back}

-- a value that is put where it stands changes nothing
pub set_held : (xs : List Value) (i : ℕ) (x : Value) → slice_get xs i ≡ Some x → slice_set xs i x ≡ xs
set_held xs i x e =
    let here = unwrap_or-slice_get xs i x in
    let back = set-get_or xs i x in
    let there = rw e at here in
    rw (sym there) at back

-- a slot's value that was taken out and put back leaves the calls as they were
pub held_back : (s mid end : Stack) (i : ℕ) (w x y : Value) → swapped i w s ≡ Some (x, mid) → swapped i x mid ≡ Some (y, end) → end ≡ s
held_back [] mid end i w x y e back = absurd (cc)
held_back (c ∷ below) mid end i w x y e back =
    let held = swapped_cell (slice_get c.slots i) (with_slots (slice_set c.slots i w) c ∷ below) mid x e in
    let put = swapped_cell (slice_get c.slots i) (with_slots (slice_set c.slots i x) c ∷ below) end x (swapped_back (c ∷ below) mid end i w x y x e back) in
    sym put.1 ∙ ap (λ slots. with_slots slots c ∷ below) (set_held c.slots i x held.0)

-- the variable is there, and the row goes on
module _ (scope : Bool) (slot : ℕ) (n : ℤ) (next : ℕ) (g : List Value) (s : Stack) where
  pub variable_there : IsSome (sunk (Update scope slot [] ADD) (value.Int n) next g s) → IsSome (variable scope slot g s)
  variable_there h = let r = some_both (variable scope slot g s) (λ old. and_then (value_changed ADD [] old (value.Int n ∷ [])) (λ new. settled scope slot new next g s)) h in subst IsSome (sym r.1) refl

  pub goes_there : (new : Value) → ((v : Value) → variable scope slot g s ≡ Some v → value_changed ADD [] v (value.Int n ∷ []) ≡ Some (Ok new)) → IsSome (sunk (Update scope slot [] ADD) (value.Int n) next g s) → IsSome (moved next s)
  goes_there new changed h =
      let r = some_both (variable scope slot g s) (λ old. and_then (value_changed ADD [] old (value.Int n ∷ [])) (λ new. settled scope slot new next g s)) h in
      let settles : IsSome (settled scope slot new next g s) = subst (λ o. IsSome (and_then o (λ new. settled scope slot new next g s))) (changed r.0 r.1) r.2 in
      let m = some_both (moved next s) (λ s. assigned scope slot new g s) settles in
      subst IsSome (sym m.1) refl

  pub grown_sunk : (new : Value) (g' : List Value) (s' : Stack) → ((v : Value) → variable scope slot g s ≡ Some v → value_changed ADD [] v (value.Int n ∷ []) ≡ Some (Ok new))
      → IsSome (sunk (Update scope slot [] ADD) (value.Int n) next g s) → settled scope slot new next g s ≡ Some (Ok (g', s')) → sunk (Update scope slot [] ADD) (value.Int n) next g s ≡ Some (Ok (g', s'))
  grown_sunk new g' s' changed h settles =
      let go = λ (old : Value). and_then (value_changed ADD [] old (value.Int n ∷ [])) (λ new. settled scope slot new next g s) in
      let r = some_both (variable scope slot g s) go h in
      ap (λ o. o >>= go) r.1 ∙ ap (λ o. and_then o (λ new. settled scope slot new next g s)) (changed r.0 r.1) ∙ settles

-- where the newest call goes may be said before its slot gets a value
pub settled_slot : (slot next : ℕ) (g : List Value) (s mid end : Stack) (old new : Value) → swapped slot new s ≡ Some (old, mid) → moved next mid ≡ Some end → settled false slot new next g s ≡ Some (Ok (g, end))
settled_slot slot next g [] mid end old new e m = absurd (cc)
settled_slot slot next g (c ∷ below) mid end old new e m =
    let cell = swapped_cell (slice_get c.slots slot) (with_slots (slice_set c.slots slot new) c ∷ below) mid old e in
    let goes : Some (with_slots (slice_set c.slots slot new) (with_place next c) ∷ below) ≡ Some end = ap (moved next) cell.1 ∙ m in
    rw cell.0 (ap (λ (o : Option Stack). o >>= λ s. Some (Ok (g, s))) goes)

-- after the slot, the newest call is there as before
pub moved_there : (slot next : ℕ) (s mid : Stack) (old new : Value) → swapped slot new s ≡ Some (old, mid) → IsSome (moved next mid)
moved_there slot next [] mid old new e = absurd (cc)
moved_there slot next (c ∷ below) mid old new e =
    let cell = swapped_cell (slice_get c.slots slot) (with_slots (slice_set c.slots slot new) c ∷ below) mid old e in
    subst (λ s. IsSome (moved next s)) cell.1 refl

pub settled_global : (slot next : ℕ) (g : List Value) (s end : Stack) (new : Value) → IsSome (slice_get g slot) → moved next s ≡ Some end → settled true slot new next g s ≡ Some (Ok (slice_set g slot new, end))
settled_global slot next g s end new there m =
    let r = some_both (slice_get g slot) (λ old. Some old) (by_there (slice_get g slot) there) in
    rw (m, r.1) refl
  where
    by_there : (o : Option Value) → IsSome o → IsSome (o >>= λ old. Some old)
    by_there None h = h
    by_there (Some x) h = refl
