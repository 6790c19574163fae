-- Rows that go on with the next place, or with another one.
use Rattle.std.proofs.Common.{◌≡◌, ◌+◌, ◌-◌, ℕ, List, [], ◌∷◌, reverse, slice_get, nat_eq, Bool, true, false, cond, Some, Ok, refl, sym, ap, ◌∙◌, subst, inl, inr}
use Rattle.bds_value.specs.declared.value.Ty.{Ty}
use Rattle.bds_value.specs.declared.value.Ty.TheVariants as ty
use Rattle.bds_value.specs.declared.value.Value.{Value}
use Rattle.bds_value.specs.Readers.{as_bool}
use Rattle.bds_code.specs.declared.instr.Instr.{Instr}
use Rattle.bds_code.specs.declared.instr.Instr.TheVariants.{Jump, JumpUnless, Tick}
use Rattle.bds_code.specs.declared.unit.Unit.{Unit as CodeUnit}
use Rattle.bds_code.specs.Row.{row}
use Rattle.bds_code_frames.specs.Stack.{Call, Stack, with_place}
use Rattle.bds_verify.specs.Pass.{is_tick}
use Rattle.bds_verify.specs.Threads.{IsCall, Typed}
use Rattle.bds_verify.specs.Verified.{IsFine, goes_on, target}
use Rattle.bds_machine.specs.declared.point.Point.TheVariants as point
use Rattle.bds_machine_values.specs.Operands.{taken_as}
use Rattle.bds_machine_values.specs.Faults.{Outcome}
use Rattle.bds_machine.specs.Calls.{On, Leaves, jumps, branches, ticks, tested}
use Rattle.bds_machine.specs.Table.{onward}
use Rattle.bds_machine.proofs.Effects.{turned-ok, void-ok}
use Rattle.bds_machine.proofs.Ends.{next_call, behind_typed, stops_well}
use Rattle.bds_machine.proofs.Fits.{Kept, FitsRow}
use Rattle.bds_machine.proofs.Moves.{Newest, Goes, Well, some_left, moves_well, ticks_well, ahead-next, ahead-to, newest_live, some_calls}
use Rattle.bds_machine.proofs.Takes.{then_is, takes_as, reads-Bool}
use Rattle.bds_machine.proofs.Wholes.{label-within, code_short}

module _ (u : CodeUnit) (g : List Value) (c : Call) (below : Stack) (t : ℕ) (n : Newest u g c below)
    (i : Instr) (next : List Ty) (at : slice_get n.f.code c.place ≡ Some i) (fine : IsFine u n.f (n.shapes c.function) c.place i next) where
  pub effect : row u n.f i (reverse (n.shapes c.function c.place)) ≡ Ok (reverse next)
  effect = turned-ok (row u n.f i (reverse (n.shapes c.function c.place))) next fine.effect

  -- to the next place
  pub falls_well : (g' : List Value) (d : Call) → goes_on i ≡ true → is_tick (Some i) ≡ false → Typed g' u.globals → Kept n.f (reverse next) (next_call u g c below t n) d
      → Well u (c ∷ below) t (On g' (d ∷ below) t)
  falls_well g' d on other typed k =
      let falls = fine.falls on in
      moves_well u g c below n t g' d (c.place + 1) typed k.function k.place (subst (λ s. IsCall n.f (reverse s) d) (sym falls.1) k.call) falls.0
      (ahead-next u c.function c.place n.f n.there n.within (ap is_tick at ∙ other))

  -- to a label
  pub jumps_well : (to : ℕ) (d : Call) → target i ≡ Some to → is_tick (Some i) ≡ false → d.function ≡ c.function → IsCall n.f (reverse next) d → Well u (c ∷ below) t (On g (with_place to d ∷ below) t)
  jumps_well to d is other ef call =
      let j = fine.jump to is in
      let l = label-within u n.f to next n.whole j.0 in
      moves_well u g c below n t g (with_place to d) to n.globals_typed ef refl
      (record { slots = call.slots; ops = subst (λ s. Typed d.ops (reverse s)) (sym (n.good.labels to next l j.0)) call.ops }) l
      (ahead-to u c.function c.place to n.f n.there n.within (ap is_tick at ∙ other) j.1 l)

  -- a row that goes on, or stops with a fault
  pub onward_well : (o : Outcome (List Value × Stack)) → goes_on i ≡ true → is_tick (Some i) ≡ false → FitsRow u n.f (reverse next) (next_call u g c below t n) below o
      → Goes u c below t (onward n.f c.place o t (λ x. On x.0 x.1 t))
  onward_well o on other (inl h) =
      let stop = stops_well u g c below t n h.0 in
      (stop.0, ap (λ o. onward n.f c.place o t (λ x. On x.0 x.1 t)) h.1 ∙ stop.1, stop.2)
  onward_well o on other (inr h) =
      (On h.0 (h.1 ∷ below) t, ap (λ o. onward n.f c.place o t (λ x. On x.0 x.1 t)) h.2, falls_well h.0 h.1 on other h.3 h.4)

module _ (u : CodeUnit) (g : List Value) (c : Call) (below : Stack) (t : ℕ) (n : Newest u g c below) where
  pub jump_row : (to : ℕ) (next : List Ty) → slice_get n.f.code c.place ≡ Some (Jump to) → IsFine u n.f (n.shapes c.function) c.place (Jump to) next → Goes u c below t (jumps to g (c ∷ below) t)
  jump_row to next at fine =
      let same = void-ok [] (reverse (n.shapes c.function c.place)) (reverse next) (effect u g c below t n (Jump to) next at fine) in
      (On g (with_place to c ∷ below) t, refl, jumps_well u g c below t n (Jump to) next at fine to c refl refl refl (record { slots = n.call.slots; ops = subst (Typed c.ops) same n.call.ops }))

  branch_row : (b : Bool) (to : ℕ) (next : List Ty) (d : Call) → slice_get n.f.code c.place ≡ Some (JumpUnless to) → IsFine u n.f (n.shapes c.function) c.place (JumpUnless to) next
      → Kept n.f (reverse next) (next_call u g c below t n) d → Goes u c below t (branches b to g (d ∷ below) t)
  branch_row true to next d at fine k = (On g (d ∷ below) t, refl, falls_well u g c below t n (JumpUnless to) next at fine g d refl refl n.globals_typed k)
  branch_row false to next d at fine k = (On g (with_place to d ∷ below) t, refl, jumps_well u g c below t n (JumpUnless to) next at fine to d refl refl k.function k.call)

  pub unless_row : (to : ℕ) (next : List Ty) → slice_get n.f.code c.place ≡ Some (JumpUnless to) → IsFine u n.f (n.shapes c.function) c.place (JumpUnless to) next
      → Goes u c below t (tested to g (next_call u g c below t n ∷ below) t)
  unless_row to next at fine =
      let d = next_call u g c below t n in
      let is = void-ok (ty.Bool ∷ []) (reverse (n.shapes c.function c.place)) (reverse next) (effect u g c below t n (JumpUnless to) next at fine) in
      let took = takes_as n.f (reverse next) d below as_bool ty.Bool reads-Bool (behind_typed u g c below t n (ty.Bool ∷ reverse next) is) in
      let r = branch_row took.value to next took.left at fine took.kept in
      (r.0, then_is (taken_as as_bool (d ∷ below)) (took.value, took.left ∷ below) (λ b. branches b.0 to g b.1 t) (Some r.0) took.is r.1, r.2)

  pub tick_row : (next : List Ty) → slice_get n.f.code c.place ≡ Some Tick → IsFine u n.f (n.shapes c.function) c.place Tick next
      → Goes u c below t (ticks g (c ∷ below) t (λ left. jumps (c.place + 1) g (c ∷ below) left))
  tick_row next at fine =
      let d = next_call u g c below t n in
      let same = void-ok [] (reverse (n.shapes c.function c.place)) (reverse next) (effect u g c below t n Tick next at fine) in
      let falls = fine.falls refl in
      elim (nat_eq t 0) as (λ b. nat_eq t 0 ≡ b → Goes u c below t (cond b (Some (Leaves point.Spent g (c ∷ below) t)) (Some (On g (d ∷ below) (t - 1))))) [
        | true ↦ (λ z. (Leaves point.Spent g (c ∷ below) t, refl, (λ h. absurd (cc), (newest_live u g c below n, some_calls c below))))
        | false ↦ (λ z. (
          On g (d ∷ below) (t - 1),
          refl,
          ticks_well u g c below n t d (c.place + 1) refl refl (record { slots = n.call.slots; ops = subst (Typed c.ops) (same ∙ ap reverse (sym falls.1)) n.call.ops }) falls.0
              (code_short u n.f n.whole) (some_left t z),
        ))
      ] refl
