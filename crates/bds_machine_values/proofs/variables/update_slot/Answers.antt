use Rattle.std.proofs.Common.{false, IsSome, Some, Ok, ap, sym, subst}
use Rattle.bds_value.specs.declared.value.Value.{Value}
use Rattle.bds_value.specs.declared.value.Value.TheVariants as value
use Rattle.bds_value.specs.Options.{◌>>=◌}
use Rattle.bds_code_frames.specs.Stack.{Stack, stack}
use Rattle.bds_machine_values.specs.Faults.{Leaves}
use Rattle.bds_machine_values.specs.Changes.{places_of, value_after}
use Rattle.bds_machine_values.specs.Updates.{assigned}
use Rattle.bds_machine_values.proofs.Updating.{some_first, leaves_then, slot_held, some_back, swapped_back}
use Rattle.bds_machine_values.proofs.variables.update_slot.Goals as goal

pub change_value-result-requires : goal.change_value-result-requires
change_value-result-requires c =
    let s = stack c.args.frames.now in
    let held = slot_held s (stack c.swap_slot-value.new.self) c.args.slot (value.Bool false) c.swap_slot-value.result c.requires.1 c.swap_slot-value.ensures c.requires.2 in
    subst (λ v. IsSome (value_after c.args.change (places_of c.args.route) v)) (sym held)
    (some_first _ (λ new. assigned false c.args.slot new c.requires.0 s) c.requires.3)

pub swap_slot-placeholder-requires : goal.swap_slot-placeholder-requires
swap_slot-placeholder-requires c =
    some_back (stack c.args.frames.now) (stack c.swap_slot-value.new.self) c.args.slot (value.Bool false) c.swap_slot-value.result c.change_value-result.new.value c.swap_slot-value.ensures

pub returns : goal.returns
returns c = λ g v at.
    let s = stack c.args.frames.now in
    let new = c.change_value-result.new.value in
    let held = slot_held s (stack c.swap_slot-value.new.self) c.args.slot (value.Bool false) c.swap_slot-value.result v c.swap_slot-value.ensures at in
    let back = swapped_back s (stack c.swap_slot-value.new.self) (stack c.swap_slot-placeholder.new.self) c.args.slot (value.Bool false) c.swap_slot-value.result c.swap_slot-placeholder.result new
    c.swap_slot-value.ensures c.swap_slot-placeholder.ensures in
    leaves_then (value_after c.args.change (places_of c.args.route) v) (λ new. assigned false c.args.slot new g s) new (g, stack c.swap_slot-placeholder.new.self) c.change_value-result.result
    (ap (λ o. o >>= λ (old : Value × Stack). Some (Ok (g, old.1))) back)
    (subst (λ v. Leaves (value_after c.args.change (places_of c.args.route) v) new c.change_value-result.result) held c.change_value-result.ensures)
