use Rattle.std.proofs.Common.{◌+◌, IsSome, ◌∙◌, subst}
use Rattle.std.proofs.lemmas.Result.{IfOk-weaker}
use Rattle.bds_code_frames.specs.Stack.{stack}
use Rattle.bds_machine.specs.Looks.{worked_rows}
use Rattle.bds_machine.proofs.Seeing.{far_is, far_there, far_ok, far_line, far_stops}
use Rattle.bds_machine.proofs.looks.look_far.Goals as goal

pub run_rows-requires-clause-fine : goal.run_rows-requires-clause-fine
run_rows-requires-clause-fine c =
    let f = c.args.function.now in
    let g = c.args.globals.now in
    let s = stack c.args.frames.now in
    far_there f c.args.instr.now (c.args.at + 1 + c.args.count) g 0 (worked_rows f c.args.count (c.args.at + 1) g s)
    (subst IsSome (far_is f c.args.instr.now c.args.count c.args.at g s 0 0 c.requires.fine) c.requires.fine)

pub look_last-requires-clause-fine : goal.look_last-requires-clause-fine
look_last-requires-clause-fine c =
    let f = c.args.function.now in
    let g = c.args.globals.now in
    let s = stack c.args.frames.now in
    subst IsSome (far_is f c.args.instr.now c.args.count c.args.at g s 0 0 c.requires.fine
    ∙ far_ok f c.args.instr.now (c.args.at + 1 + c.args.count) g 0 (worked_rows f c.args.count (c.args.at + 1) g s) (stack c.run_rows.new.frames) c.in-Ok.ensures) c.requires.fine

pub stop_at-requires : goal.stop_at-requires
stop_at-requires c =
    let f = c.args.function.now in
    let g = c.args.globals.now in
    let s = stack c.args.frames.now in
    λ e is. far_line f c.args.instr.now (c.args.at + 1 + c.args.count) g 0 (worked_rows f c.args.count (c.args.at + 1) g s) (stack c.run_rows.new.frames) c.in-Err.place c.in-Err.fault e c.in-Err.ensures is
    (subst IsSome (far_is f c.args.instr.now c.args.count c.args.at g s 0 0 c.requires.fine) c.requires.fine)

pub returns-in-Ok : goal.returns-in-Ok
returns-in-Ok c =
    let f = c.args.function.now in
    let g = c.args.globals.now in
    let s = stack c.args.frames.now in
    IfOk-weaker c.look_last.result _ _
    (λ p h t. far_is f c.args.instr.now c.args.count c.args.at g s 0 t c.requires.fine
    ∙ far_ok f c.args.instr.now (c.args.at + 1 + c.args.count) g t (worked_rows f c.args.count (c.args.at + 1) g s) (stack c.run_rows.new.frames) c.in-Ok.ensures ∙ h t)
    c.look_last.ensures

pub returns-in-Err : goal.returns-in-Err
returns-in-Err c =
    let f = c.args.function.now in
    let g = c.args.globals.now in
    let s = stack c.args.frames.now in
    IfOk-weaker c.stop_at.result _ _
    (λ p h t. far_is f c.args.instr.now c.args.count c.args.at g s 0 t c.requires.fine
    ∙ far_stops f c.args.instr.now (c.args.at + 1 + c.args.count) g t (worked_rows f c.args.count (c.args.at + 1) g s) (stack c.run_rows.new.frames) c.in-Err.place c.in-Err.fault h.0 c.in-Err.ensures h.1
    ∙ h.2 g (stack c.run_rows.new.frames) t)
    c.stop_at.ensures
