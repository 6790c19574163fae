use Rattle.std.proofs.Common.{◌≡◌, ◌+◌, ◌-◌, slice_get, IsSome, ap, ◌∙◌, subst, arith}
use Rattle.bds_value.specs.Options.{◌>>=◌}
use Rattle.bds_code_frames.specs.Stack.{stack}
use Rattle.bds_machine.specs.Looks.{at_place, worked_rows}
use Rattle.bds_machine_values.specs.Worked.{worked}
use Rattle.bds_machine.proofs.FarLooks.{rows_split, row_there, ran_fault}
use Rattle.bds_machine.proofs.LastLooks.{bound}
use Rattle.bds_machine.proofs.looks.run_rows.Goals as goal

pub loop-k-init : goal.loop-k-init
loop-k-init c =
    let f = c.args.function.now in
    let g = c.args.globals.now in
    let s = stack c.args.frames.now in
    let none : c.args.count ≡ c.args.count - 0 = omega arith in
    let here : c.args.from ≡ c.args.from + 0 = omega arith in
    ap (λ n. worked_rows f n c.args.from g s) none ∙ ap (λ p. worked_rows f (c.args.count - 0) p g s) here

pub instr_at-requires : goal.instr_at-requires
instr_at-requires c =
    let f = c.args.function.now in
    let g = c.args.globals.now in
    let s = stack c.loop-k.frames in
    let k = c.loop-k.k in
    bound (slice_get f.code (c.args.from + k)) (λ i. at_place (c.args.from + k) (worked i g s) (worked_rows f (c.args.count - (k + 1)) (c.args.from + (k + 1)) g))
    (subst IsSome (rows_split f c.args.count c.args.from k g (stack c.args.frames.now) s c.loop-k-test.true c.loop-k.invariant) c.requires.fine)

pub work-requires : goal.work-requires
work-requires c =
    let f = c.args.function.now in
    let g = c.args.globals.now in
    let s = stack c.loop-k.frames in
    let k = c.loop-k.k in
    let go = worked_rows f (c.args.count - (k + 1)) (c.args.from + (k + 1)) g in
    row_there (c.args.from + k) (worked c.instr_at.result.now g s) go
    (subst IsSome (rows_split f c.args.count c.args.from k g (stack c.args.frames.now) s c.loop-k-test.true c.loop-k.invariant ∙ ap (λ o. o >>= λ i. at_place (c.args.from + k) (worked i g s) go) c.instr_at.ensures) c.requires.fine)

pub loop-k-preserved : goal.loop-k-preserved
loop-k-preserved c =
    let f = c.args.function.now in
    let g = c.args.globals.now in
    let s = stack c.loop-k.frames in
    let k = c.loop-k.k in
    let go = worked_rows f (c.args.count - (k + 1)) (c.args.from + (k + 1)) g in
    rows_split f c.args.count c.args.from k g (stack c.args.frames.now) s c.loop-k-test.true c.loop-k.invariant
    ∙ ap (λ o. o >>= λ i. at_place (c.args.from + k) (worked i g s) go) c.instr_at.ensures ∙ ap (λ o. at_place (c.args.from + k) o go) c.in-Ok.ensures

pub returns-in-Err : goal.returns-in-Err
returns-in-Err c =
    let f = c.args.function.now in
    let g = c.args.globals.now in
    let s = stack c.loop-k.frames in
    let k = c.loop-k.k in
    let go = worked_rows f (c.args.count - (k + 1)) (c.args.from + (k + 1)) g in
    ran_fault (worked_rows f c.args.count c.args.from g (stack c.args.frames.now)) (c.args.from + k) (worked c.instr_at.result.now g s) go (stack c.work.new.frames) c.in-Err.fault
    (rows_split f c.args.count c.args.from k g (stack c.args.frames.now) s c.loop-k-test.true c.loop-k.invariant ∙ ap (λ o. o >>= λ i. at_place (c.args.from + k) (worked i g s) go) c.instr_at.ensures)
    c.in-Err.ensures

pub returns : goal.returns
returns c =
    let f = c.args.function.now in
    let g = c.args.globals.now in
    let s = stack c.loop-k.frames in
    let none : c.args.count - c.loop-k.k ≡ 0 = omega arith in
    c.loop-k.invariant ∙ ap (λ n. worked_rows f n (c.args.from + c.loop-k.k) g s) none
