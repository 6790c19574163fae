use Rattle.std.proofs.Common.{◌≡◌, false, Some, Ok, sym, subst, [], ◌∷◌}
use Rattle.bds_value.specs.declared.change_numbers.TheConstants.{ADD}
use Rattle.bds_value.specs.declared.value.Value.TheVariants as value
use Rattle.bds_code_frames.specs.Stack.{stack, swapped}
use Rattle.bds_code_frames.proofs.Stacked.{same_frames}
use Rattle.bds_machine_values.specs.Updates.{value_changed}
use Rattle.bds_machine.proofs.Numbering.{same_number}
use Rattle.bds_machine_values.proofs.Updating.{slot_held, swapped_back}
use Rattle.bds_machine.proofs.GrownLists.{held_back}
use Rattle.bds_machine.proofs.growing.grow_slot.Goals as goal

pub returns-clause-done : goal.returns-clause-done
returns-clause-done c is =
    let s = stack c.args.frames.now in
    let mid = stack c.swap_slot-value.new.self in
    let new = c.grown-done.new.value in
    let x = c.swap_slot-value.result in (
      new,
      (λ v at. subst (λ w. value_changed ADD [] w (value.Int c.args.n ∷ []) ≡ Some (Ok new)) (slot_held s mid c.args.slot (value.Bool false) x v c.swap_slot-value.ensures at)
          (subst (λ n. value_changed ADD [] x (value.Int n ∷ []) ≡ Some (Ok new)) (sym (same_number c.args.n c.ranges.n)) (c.grown-done.ensures.done is))),
      (x, swapped_back s mid (stack c.swap_slot-placeholder.new.self) c.args.slot (value.Bool false) x c.swap_slot-placeholder.result new c.swap_slot-value.ensures c.swap_slot-placeholder.ensures),
    )

pub returns-clause-same : goal.returns-clause-same
returns-clause-same c is =
    let s = stack c.args.frames.now in
    let mid = stack c.swap_slot-value.new.self in
    let end = stack c.swap_slot-placeholder.new.self in
    let x = c.swap_slot-value.result in
    let back = subst (λ v. swapped c.args.slot v mid ≡ Some (c.swap_slot-placeholder.result, end)) (c.grown-done.ensures.same is) c.swap_slot-placeholder.ensures in
    same_frames c.swap_slot-placeholder.new.self c.args.frames.now (held_back s mid end c.args.slot (value.Bool false) x c.swap_slot-placeholder.result c.swap_slot-value.ensures back)
