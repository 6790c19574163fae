use Rattle.std.proofs.Common.{IsSome, Some, refl, ap, ◌∙◌}
use Rattle.bds_code_frames.specs.Stack.{stack, place_of}
use Rattle.bds_machine.proofs.Branches.{instr_there, small_place, stretch_runs, stretch_taken}
use Rattle.bds_machine.proofs.GoingTo.{goes_from}
use Rattle.bds_machine.proofs.Hurrying.{some_calls, came_here, came_fine, came_on, came_kept}
use Rattle.bds_machine.proofs.running.hurry.Goals as goal

pub loop-next-init : goal.loop-next-init
loop-next-init c =
    let g = c.args.globals.now in
    let s = stack c.args.frames.now in (
      came_here c.args.unit.now g s c.args.ticks.now c.requires.live
          (some_calls s (c.args.number, c.args.from) c.requires.place),
      c.requires.place,
    )

pub instr_at-instr-requires : goal.instr_at-instr-requires
instr_at-instr-requires c =
    let u = c.args.unit.now in
    let l = c.loop-next in
    let s = stack l.frames in
    let fine = came_fine u c.requires.verified c.args.globals.now l.globals (stack c.args.frames.now) s c.args.ticks.now
    l.ticks l.invariant.0 in
    instr_there u c.args.number l.at c.args.function.now l.globals s l.ticks l.invariant.1 c.requires.function fine

pub quick-requires-clause-small : goal.quick-requires-clause-small
quick-requires-clause-small c =
    let l = c.loop-next in
    small_place c.args.unit.now c.args.number l.at c.args.function.now l.globals (stack l.frames) l.ticks l.invariant.1
    c.requires.function c.instr_at-instr.result.now c.instr_at-instr.ensures c.requires.verified

pub quick-requires-clause-runs : goal.quick-requires-clause-runs
quick-requires-clause-runs c =
    let u = c.args.unit.now in
    let l = c.loop-next in
    let s = stack l.frames in
    let fine = came_fine u c.requires.verified c.args.globals.now l.globals (stack c.args.frames.now) s c.args.ticks.now
    l.ticks l.invariant.0 in
    stretch_runs u c.args.number l.at c.args.function.now l.globals s l.ticks l.invariant.1 c.requires.function fine

pub returns-in-None-clause-came : goal.returns-in-None-clause-came
returns-in-None-clause-came c =
    let l = c.loop-next in
    came_kept c.args.unit.now c.args.globals.now l.globals c.quick.new.globals (stack c.args.frames.now) l.frames
    c.quick.new.frames c.args.ticks.now l.ticks c.quick.new.ticks (c.in-None.ensures.same refl) l.invariant.0

pub returns-in-None-clause-place : goal.returns-in-None-clause-place
returns-in-None-clause-place c =
    ap (λ fs. place_of (stack fs)) (c.in-None.ensures.same refl).1 ∙ c.loop-next.invariant.1

pub loop-next-smaller : goal.loop-next-smaller
loop-next-smaller c =
    let u = c.args.unit.now in
    let l = c.loop-next in
    let s = stack l.frames in
    let g' = c.quick.new.globals in
    let s' = stack c.quick.new.frames in
    let t' = c.quick.new.ticks in
    let is : IsSome (Some c.in-Some.next) = refl in
    let taken = stretch_taken u c.args.number l.at c.args.function.now l.globals s l.ticks l.invariant.1
    c.requires.function g' s' t' (c.in-Some.ensures.done is) in
    let on = came_on u c.requires.verified c.args.globals.now l.globals (stack c.args.frames.now) s c.args.ticks.now
    l.ticks l.invariant.0 g' s' t' taken in
    on.1

pub loop-next-preserved : goal.loop-next-preserved
loop-next-preserved c =
    let u = c.args.unit.now in
    let l = c.loop-next in
    let s = stack l.frames in
    let g' = c.quick.new.globals in
    let s' = stack c.quick.new.frames in
    let t' = c.quick.new.ticks in
    let is : IsSome (Some c.in-Some.next) = refl in
    let taken = stretch_taken u c.args.number l.at c.args.function.now l.globals s l.ticks l.invariant.1
    c.requires.function g' s' t' (c.in-Some.ensures.done is) in
    let on = came_on u c.requires.verified c.args.globals.now l.globals (stack c.args.frames.now) s c.args.ticks.now
    l.ticks l.invariant.0 g' s' t' taken in
    (on.0, goes_from c.in-Some.next c.args.number l.at s s' c.in-Some.ensures.place l.invariant.1)
