use Rattle.std.proofs.Common.{◌≡◌, List, Some, IsSome, subst, sym, ap, ◌∙◌}
use Rattle.bds_value.specs.declared.value.Value.{Value}
use Rattle.bds_value.specs.Options.{◌>>=◌}
use Rattle.bds_code_frames.specs.Stack.{Stack, stack}
use Rattle.bds_machine_values.specs.Changes.{path_taken, places_of, value_after}
use Rattle.bds_machine_values.specs.Faults.{Outcome, Leaves, and_then}
use Rattle.bds_machine_values.specs.Updates.{variable, assigned}
use Rattle.bds_machine_values.proofs.Updating.{some_both, args_there, path_there, update_left}
use Rattle.bds_machine_values.proofs.variables.update.Goals as goal

pub take_change-requires : goal.take_change-requires
take_change-requires c = args_there c.args.is_global c.args.slot c.args.kinds.now c.args.what c.args.globals.now (stack c.args.frames.now) c.requires

pub take_route-requires : goal.take_route-requires
take_route-requires c =
    let taken = c.in_ok-change.ensures in
    subst (λ kinds. IsSome (path_taken kinds (stack c.take_change.new.frames))) (sym c.as_slice.ensures)
    (path_there c.args.is_global c.args.slot c.args.kinds.now c.args.what c.args.globals.now (stack c.args.frames.now) (stack c.take_change.new.frames) taken.0 taken.1 c.requires)

pub update_variable-requires : goal.update_variable-requires
update_variable-requires c =
    let g = c.args.globals.now in
    let s = stack c.args.frames.now in
    let mid = stack c.take_change.new.frames in
    let end = stack c.take_route.new.frames in
    let taken = c.in_ok-change.ensures in
    let change = c.in_ok-change.change in
    let path = places_of c.in_ok-route.route in
    let steps = subst (λ kinds. path_taken kinds mid ≡ Some (path, end)) c.as_slice.ensures c.in_ok-route.ensures in
    let law = update_left c.args.is_global c.args.slot c.args.kinds.now c.args.what g s mid end taken.0 change path taken.1 taken.2 steps in
    let go : Value → Outcome (List Value × Stack) = λ v. and_then (value_after change path v) (λ new. assigned c.args.is_global c.args.slot new g end) in
    some_both (variable c.args.is_global c.args.slot g end) go (subst IsSome law c.requires)

pub returns : goal.returns
returns c =
    let g = c.args.globals.now in
    let s = stack c.args.frames.now in
    let mid = stack c.take_change.new.frames in
    let end = stack c.take_route.new.frames in
    let taken = c.in_ok-change.ensures in
    let change = c.in_ok-change.change in
    let path = places_of c.in_ok-route.route in
    let steps = subst (λ kinds. path_taken kinds mid ≡ Some (path, end)) c.as_slice.ensures c.in_ok-route.ensures in
    let law = update_left c.args.is_global c.args.slot c.args.kinds.now c.args.what g s mid end taken.0 change path taken.1 taken.2 steps in
    let go : Value → Outcome (List Value × Stack) = λ v. and_then (value_after change path v) (λ new. assigned c.args.is_global c.args.slot new g end) in
    let held = some_both (variable c.args.is_global c.args.slot g end) go (subst IsSome law c.requires) in
    let goes = law ∙ ap (λ o. o >>= go) held.1 in
    subst (λ o. Leaves o (c.update_variable.new.globals, stack c.update_variable.new.frames) c.update_variable.result) (sym goes) (c.update_variable.ensures held.0 held.1)
