use Rattle.std.proofs.Common.{◌≡◌, [], ◌∷◌, sym, subst}
use Rattle.bds_value.specs.declared.value.Value.TheVariants as value
use Rattle.bds_code_frames.specs.Stack.{stack}
use Rattle.bds_machine.specs.Stretches.{with_pushed}
use Rattle.bds_machine.proofs.Numbering.{read, same_number}
use Rattle.bds_machine.proofs.Resting.{pushed_moved, rest_is}
use Rattle.bds_machine.proofs.numbers.rest.Goals as goal

pub set_place-requires : goal.set_place-requires
set_place-requires c =
    let pushed = stack c.add_operand.new.self in
    pushed_moved (value.Int (read c.args.n)) c.args.next (stack c.args.frames.now) pushed c.in-Ok.ensures.ok

pub returns-in-Ok-clause-done : goal.returns-in-Ok-clause-done
returns-in-Ok-clause-done c is =
    let s = stack c.args.frames.now in
    let s' = stack c.set_place.new.self in
    let pushed = stack c.add_operand.new.self in
    subst (λ n. s' ≡ with_pushed (value.Int n ∷ []) c.args.next s) (sym (same_number c.args.n c.ranges.n))
    (rest_is (value.Int (read c.args.n)) c.args.next s pushed s' c.in-Ok.ensures.ok c.set_place.ensures)
