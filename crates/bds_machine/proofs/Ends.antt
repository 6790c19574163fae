-- Rows that end the program.
use Rattle.std.proofs.Common.{◌≡◌, ◌+◌, ℕ, List, [], ◌∷◌, reverse, Some, Ok, refl, subst}
use Rattle.bds_value.specs.Statuses.{status_of}
use Rattle.bds_value.specs.declared.value.Ty.{Ty}
use Rattle.bds_value.specs.declared.value.Ty.TheVariants as ty
use Rattle.bds_value.specs.declared.value.Value.{Value}
use Rattle.bds_value.specs.declared.faults.RunFault.{RunFault}
use Rattle.bds_value.specs.declared.faults.RunFault.TheVariants.{Error}
use Rattle.bds_value.specs.Readers.{as_int, as_text}
use Rattle.bds_code.specs.declared.unit.Unit.{Unit as CodeUnit}
use Rattle.bds_code.specs.Operands.{swapped}
use Rattle.bds_code_frames.specs.Stack.{Call, Stack, with_place}
use Rattle.bds_verify.specs.Threads.{IsCall, Typed}
use Rattle.bds_machine.specs.declared.point.Point.TheVariants as point
use Rattle.bds_machine_values.specs.Operands.{taken_as}
use Rattle.bds_machine.specs.Calls.{Ends, stops}
use Rattle.bds_machine.specs.Table.{exits, fails}
use Rattle.bds_machine.proofs.Moves.{Newest, Goes}
use Rattle.bds_machine.proofs.Takes.{then_is, takes_as, reads-Int, reads-Text}
use Rattle.bds_machine.proofs.TypesFits.{swapped-ok}
use Rattle.bds_machine.proofs.Wholes.{line-there}

module _ (u : CodeUnit) (g : List Value) (c : Call) (below : Stack) (t : ℕ) (n : Newest u g c below) where
  abbrev pub shape : List Ty
  shape = reverse (n.shapes c.function c.place)

  -- the newest call, behind its instruction
  abbrev pub next_call : Call
  next_call = with_place (c.place + 1) c

  pub behind_typed : (types : List Ty) → shape ≡ types → IsCall n.f types next_call
  behind_typed types e = record { slots = n.call.slots; ops = subst (Typed c.ops) e n.call.ops }

  pub stops_well : (e : RunFault) → Goes u c below t (stops n.f c.place e t)
  stops_well e =
      let line = line-there u n.f c.place n.whole n.within in
      (Ends (point.Stop e line.0) t, then_is _ line.0 (λ at. Some (Ends (point.Stop e at) t)) (Some (Ends (point.Stop e line.0) t)) line.1 refl, tt)

  pub exits_well : (next : List Ty) → swapped (ty.Int ∷ []) ty.Void shape ≡ Ok next → Goes u c below t (exits (next_call ∷ below) t)
  exits_well next e =
      let r = swapped-ok (ty.Int ∷ []) ty.Void shape next e in
      let took = takes_as n.f r.0 next_call below as_int ty.Int reads-Int (behind_typed (ty.Int ∷ r.0) r.1) in
      (_, then_is (taken_as as_int (next_call ∷ below)) (took.value, took.left ∷ below) (λ n. Some (Ends (point.Exit (status_of n.0)) t)) _ took.is refl, tt)

  pub fails_well : (next : List Ty) → swapped (ty.Text ∷ []) ty.Void shape ≡ Ok next → Goes u c below t (fails n.f c.place (next_call ∷ below) t)
  fails_well next e =
      let r = swapped-ok (ty.Text ∷ []) ty.Void shape next e in
      let took = takes_as n.f r.0 next_call below as_text ty.Text reads-Text (behind_typed (ty.Text ∷ r.0) r.1) in
      let stop = stops_well (Error took.value) in
      (stop.0, then_is (taken_as as_text (next_call ∷ below)) (took.value, took.left ∷ below) (λ text. stops n.f c.place (Error text.0) t) _ took.is stop.1, stop.2)
