use Rattle.std.proofs.Common.{◌≡◌, IsSome, Some, subst, sym}
use Rattle.bds_value.specs.declared.value.Value.{Value}
use Rattle.bds_code_frames.specs.Stack.{stack}
use Rattle.bds_machine_values.specs.Faults.{Leaves, and_then}
use Rattle.bds_machine_values.specs.Changes.{places_of, value_after}
use Rattle.bds_machine_values.specs.Updates.{variable, assigned}
use Rattle.bds_machine_values.proofs.variables.update_variable.Goals as goal

pub update_global-requires : goal.update_global-requires
update_global-requires c =
    let g = c.args.globals.now in
    let s = stack c.args.frames.now in
    let h =
    subst
    (λ b. (v : Value) × (variable b c.args.slot g s ≡ Some v) × IsSome (and_then (value_after c.args.change (places_of c.args.route) v) (λ new. assigned b c.args.slot new g s)))
    c.if-is_global.true c.requires in
    (s, h.0, h.1, h.2)

pub update_slot-requires : goal.update_slot-requires
update_slot-requires c =
    let g = c.args.globals.now in
    let s = stack c.args.frames.now in
    let h =
    subst
    (λ b. (v : Value) × (variable b c.args.slot g s ≡ Some v) × IsSome (and_then (value_after c.args.change (places_of c.args.route) v) (λ new. assigned b c.args.slot new g s)))
    c.if-is_global.false c.requires in
    (g, h.0, h.1, h.2)

pub returns-then-is_global : goal.returns-then-is_global
returns-then-is_global c =
    let g = c.args.globals.now in
    let s = stack c.args.frames.now in
    subst
    (λ b. (v : Value) → variable b c.args.slot g s ≡ Some v → Leaves (and_then (value_after c.args.change (places_of c.args.route) v) (λ new. assigned b c.args.slot new g s)) (c.update_global.new.globals, s) c.update_global.result)
    (sym c.if-is_global.true) (c.update_global.ensures s)

pub returns-else-is_global : goal.returns-else-is_global
returns-else-is_global c =
    let g = c.args.globals.now in
    let s = stack c.args.frames.now in
    subst
    (λ b. (v : Value) → variable b c.args.slot g s ≡ Some v → Leaves (and_then (value_after c.args.change (places_of c.args.route) v) (λ new. assigned b c.args.slot new g s)) (g, stack c.update_slot.new.frames) c.update_slot.result)
    (sym c.if-is_global.false) (c.update_slot.ensures g)
