use Rattle.std.proofs.Common.{rules, ◌≡◌, [], ◌∷◌, Some, Ok, sym, ◌∙◌, subst}
use Rattle.bds_value.specs.declared.value.Value.TheVariants as value
use Rattle.bds_code_frames.specs.Stack.{stack}
use Rattle.bds_machine_values.specs.Updates.{value_changed}
use Rattle.bds_machine.specs.Stretches.{settled}
use Rattle.bds_machine.proofs.Numbering.{read, to_read}
use Rattle.bds_machine.proofs.Tops.{variable_by_last, last_updates, same_stack}
use Rattle.bds_machine.proofs.numbers.update_by_last.Goals as goal

pub held-requires : goal.held-requires
held-requires c = variable_by_last (stack c.args.frames.now) c.args.is_global c.args.slot c.args.what c.args.next
    c.args.globals.now c.requires.some c.requires.there

pub returns-in-Some-changed-clause-done : goal.returns-in-Some-changed-clause-done
returns-in-Some-changed-clause-done c is v s taken =
    let scope = c.args.is_global in
    let slot = c.args.slot in
    let what = c.args.what in
    let next = c.args.next in
    let g = c.args.globals.now in
    let s0 = stack c.args.frames.now in
    let s1 = stack c.take_operand-number.new.self in
    let end = Some (Ok (c.settle.new.globals, stack c.settle.new.frames)) in
    let n = c.in-Some.n in
    let old = c.in-Some-held.old in
    let new = c.in-Some-changed.new in
    let same_n : n ≡ read n = search rules in
    let same_old : old ≡ read old = search rules in
    let same_new : new ≡ read new = search rules in
    let changed = to_read (λ o m. value_changed what [] (value.Int o) (value.Int m ∷ []) ≡ Some (Ok (value.Int new)))
    (read old) (read n) (sym same_old) (sym same_n) c.in-Some-changed.ensures in
    let settles = last_updates v s0 s taken scope slot what n old new next g (c.in-Some.ensures v s taken)
    c.in-Some-held.ensures changed in
    let same_s = same_stack s0 s s1 v c.take_operand-number.result taken c.take_operand-number.ensures in
    settles
    ∙ subst (λ m. settled scope slot (value.Int m) next g s ≡ end) (sym same_new)
    (subst (λ s. settled scope slot (value.Int (read new)) next g s ≡ end) (sym same_s) c.settle.ensures.done)
