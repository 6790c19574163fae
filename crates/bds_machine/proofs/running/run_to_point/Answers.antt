use Rattle.std.proofs.Common.{◌≡◌, true, Some, None, refl, sym, subst, slice_get, arith}
use Rattle.bds_code_frames.specs.Stack.{stack}
use Rattle.bds_code_frames.specs.declared.thread.Thread.{Thread}
use Rattle.bds_verify.specs.Threads.{AreLive}
use Rattle.bds_verify.specs.Verified.{VerifiedUnit}
use Rattle.bds_machine.specs.Answers.{is_awaited, IsAtRest, IsLeft}
use Rattle.bds_machine.specs.Running.{ComesTo}
use Rattle.bds_machine.specs.Stretches.{Came}
use Rattle.bds_machine.proofs.Branches.{instr_there, turned_of, fine_of}
use Rattle.bds_machine.proofs.Hurrying.{hurries_on_way}
use Rattle.bds_machine.proofs.Threads.{begins, goes_on_way, stays_on_way, comes_to, leaves_way, rests_on_way}
use Rattle.bds_machine.proofs.running.run_to_point.Goals as goal

pub loop-point-init : goal.loop-point-init
loop-point-init c = (
  begins c.args.unit.now c.args.thread.now c.args.ticks.now c.requires.ready c.requires.valid,
  subst (λ u. slice_get u.functions c.place-number.result.0 ≡ Some c.function_at-function.result.now)
      c.unit-code.ensures.same c.function_at-function.ensures,
)

pub hurry-at-requires-clause-verified : goal.hurry-at-requires-clause-verified
hurry-at-requires-clause-verified c = subst VerifiedUnit (sym c.unit-code.ensures.same) c.unit-code.ensures.verified

pub hurry-at-requires-clause-live : goal.hurry-at-requires-clause-live
hurry-at-requires-clause-live c =
    let l = c.loop-point in
    subst (λ u. AreLive u l.thread.globals (stack l.thread.frames)) (sym c.unit-code.ensures.same) l.invariant.0.live

pub instr_at-requires : goal.instr_at-requires
instr_at-requires c =
    let u = c.args.unit.now in
    let l = c.loop-point in
    let t1 = c.hurry-at.new.ticks in
    let mid : Thread = record {
      parent = l.thread.parent;
      status = l.thread.status;
      globals = c.hurry-at.new.globals;
      frames = c.hurry-at.new.frames;
    } in
    let came = subst (λ u. Came u l.thread.globals (stack l.thread.frames) l.ticks mid.globals (stack mid.frames) t1)
    c.unit-code.ensures.same c.hurry-at.ensures.came in
    let way = hurries_on_way u c.args.thread.now c.args.ticks.now l.thread l.ticks l.invariant.0 mid t1 refl refl came
    in
    let fine = fine_of u c.unit-code.result.now mid.globals (stack mid.frames) t1 c.unit-code.ensures.same
    (goes_on_way u c.unit-code.ensures.verified c.args.thread.now c.args.ticks.now mid t1 way) in
    instr_there c.unit-code.result.now c.place-newest.result.0 c.hurry-at.result c.function_of-function.result.now
    mid.globals (stack mid.frames) t1 c.hurry-at.ensures.place c.function_of-function.ensures fine

pub turn-requires-clause-fine : goal.turn-requires-clause-fine
turn-requires-clause-fine c =
    let u = c.args.unit.now in
    let l = c.loop-point in
    let t1 = c.hurry-at.new.ticks in
    let mid : Thread = record {
      parent = l.thread.parent;
      status = l.thread.status;
      globals = c.hurry-at.new.globals;
      frames = c.hurry-at.new.frames;
    } in
    let came = subst (λ u. Came u l.thread.globals (stack l.thread.frames) l.ticks mid.globals (stack mid.frames) t1)
    c.unit-code.ensures.same c.hurry-at.ensures.came in
    let way = hurries_on_way u c.args.thread.now c.args.ticks.now l.thread l.ticks l.invariant.0 mid t1 refl refl came
    in
    fine_of u c.unit-code.result.now mid.globals (stack mid.frames) t1 c.unit-code.ensures.same
    (goes_on_way u c.unit-code.ensures.verified c.args.thread.now c.args.ticks.now mid t1 way)

pub loop-point-smaller : goal.loop-point-smaller
loop-point-smaller c =
    let u = c.args.unit.now in
    let l = c.loop-point in
    let t1 = c.hurry-at.new.ticks in
    let mid : Thread = record {
      parent = l.thread.parent;
      status = l.thread.status;
      globals = c.hurry-at.new.globals;
      frames = c.hurry-at.new.frames;
    } in
    let came = subst (λ u. Came u l.thread.globals (stack l.thread.frames) l.ticks mid.globals (stack mid.frames) t1)
    c.unit-code.ensures.same c.hurry-at.ensures.came in
    let way = hurries_on_way u c.args.thread.now c.args.ticks.now l.thread l.ticks l.invariant.0 mid t1 refl refl came
    in
    let turned = turned_of u c.unit-code.result.now mid.globals c.turn.new.globals (stack mid.frames)
    (stack c.turn.new.frames) t1 c.turn.new.ticks c.in-Ok-None.field-0 None c.unit-code.ensures.same
    c.in-Ok-None.field-0-is c.in-Ok-None.ensures in
    let next : Thread = record {
      parent = l.thread.parent;
      status = l.thread.status;
      globals = c.turn.new.globals;
      frames = c.turn.new.frames;
    } in
    let fell = (stays_on_way u c.unit-code.ensures.verified c.args.thread.now c.args.ticks.now mid t1 way next
    c.turn.new.ticks refl refl turned.0 turned.1).1 in
    let less = came.less in
    omega (arith, fell, less)

pub loop-point-preserved : goal.loop-point-preserved
loop-point-preserved c =
    let u = c.args.unit.now in
    let l = c.loop-point in
    let t1 = c.hurry-at.new.ticks in
    let mid : Thread = record {
      parent = l.thread.parent;
      status = l.thread.status;
      globals = c.hurry-at.new.globals;
      frames = c.hurry-at.new.frames;
    } in
    let came = subst (λ u. Came u l.thread.globals (stack l.thread.frames) l.ticks mid.globals (stack mid.frames) t1)
    c.unit-code.ensures.same c.hurry-at.ensures.came in
    let way = hurries_on_way u c.args.thread.now c.args.ticks.now l.thread l.ticks l.invariant.0 mid t1 refl refl came
    in
    let turned = turned_of u c.unit-code.result.now mid.globals c.turn.new.globals (stack mid.frames)
    (stack c.turn.new.frames) t1 c.turn.new.ticks c.in-Ok-None.field-0 None c.unit-code.ensures.same
    c.in-Ok-None.field-0-is c.in-Ok-None.ensures in
    let next : Thread = record {
      parent = l.thread.parent;
      status = l.thread.status;
      globals = c.turn.new.globals;
      frames = c.turn.new.frames;
    } in (
      (stays_on_way u c.unit-code.ensures.verified c.args.thread.now c.args.ticks.now mid t1 way next c.turn.new.ticks
          refl refl turned.0 turned.1).0,
      subst (λ u. slice_get u.functions c.place-newest.result.0 ≡ Some c.function_of-function.result.now)
          c.unit-code.ensures.same c.function_of-function.ensures,
    )

pub returns-in-Ok-Some-clause-run : goal.returns-in-Ok-Some-clause-run
returns-in-Ok-Some-clause-run c =
    let u = c.args.unit.now in
    let l = c.loop-point in
    let t1 = c.hurry-at.new.ticks in
    let mid : Thread = record {
      parent = l.thread.parent;
      status = l.thread.status;
      globals = c.hurry-at.new.globals;
      frames = c.hurry-at.new.frames;
    } in
    let came = subst (λ u. Came u l.thread.globals (stack l.thread.frames) l.ticks mid.globals (stack mid.frames) t1)
    c.unit-code.ensures.same c.hurry-at.ensures.came in
    let way = hurries_on_way u c.args.thread.now c.args.ticks.now l.thread l.ticks l.invariant.0 mid t1 refl refl came
    in
    let p = c.in-Ok-Some.point in
    let turned = turned_of u c.unit-code.result.now mid.globals c.turn.new.globals (stack mid.frames)
    (stack c.turn.new.frames) t1 c.turn.new.ticks c.in-Ok-Some.field-0 (Some p) c.unit-code.ensures.same
    c.in-Ok-Some.field-0-is c.in-Ok-Some.ensures in
    let next : Thread = record {
      parent = l.thread.parent;
      status = l.thread.status;
      globals = c.turn.new.globals;
      frames = c.turn.new.frames;
    } in
    subst (λ q. ComesTo u c.args.thread.now c.args.ticks.now q next c.turn.new.ticks) (sym c.into_inner.ensures)
    (comes_to u c.unit-code.ensures.verified c.args.thread.now c.args.ticks.now mid t1 way next c.turn.new.ticks refl
    refl turned.0 p turned.1)

pub returns-in-Ok-Some-clause-left : goal.returns-in-Ok-Some-clause-left
returns-in-Ok-Some-clause-left c =
    let u = c.args.unit.now in
    let l = c.loop-point in
    let t1 = c.hurry-at.new.ticks in
    let mid : Thread = record {
      parent = l.thread.parent;
      status = l.thread.status;
      globals = c.hurry-at.new.globals;
      frames = c.hurry-at.new.frames;
    } in
    let came = subst (λ u. Came u l.thread.globals (stack l.thread.frames) l.ticks mid.globals (stack mid.frames) t1)
    c.unit-code.ensures.same c.hurry-at.ensures.came in
    let way = hurries_on_way u c.args.thread.now c.args.ticks.now l.thread l.ticks l.invariant.0 mid t1 refl refl came
    in
    let p = c.in-Ok-Some.point in
    let turned = turned_of u c.unit-code.result.now mid.globals c.turn.new.globals (stack mid.frames)
    (stack c.turn.new.frames) t1 c.turn.new.ticks c.in-Ok-Some.field-0 (Some p) c.unit-code.ensures.same
    c.in-Ok-Some.field-0-is c.in-Ok-Some.ensures in
    let next : Thread = record {
      parent = l.thread.parent;
      status = l.thread.status;
      globals = c.turn.new.globals;
      frames = c.turn.new.frames;
    } in
    subst (λ q. is_awaited q ≡ true → IsLeft u q next) (sym c.into_inner.ensures)
    (leaves_way u c.unit-code.ensures.verified c.args.thread.now c.args.ticks.now mid t1 way next c.turn.new.ticks refl
    refl turned.0 p turned.1)

pub returns-in-Ok-Some-clause-rest : goal.returns-in-Ok-Some-clause-rest
returns-in-Ok-Some-clause-rest c =
    let u = c.args.unit.now in
    let l = c.loop-point in
    let t1 = c.hurry-at.new.ticks in
    let mid : Thread = record {
      parent = l.thread.parent;
      status = l.thread.status;
      globals = c.hurry-at.new.globals;
      frames = c.hurry-at.new.frames;
    } in
    let came = subst (λ u. Came u l.thread.globals (stack l.thread.frames) l.ticks mid.globals (stack mid.frames) t1)
    c.unit-code.ensures.same c.hurry-at.ensures.came in
    let way = hurries_on_way u c.args.thread.now c.args.ticks.now l.thread l.ticks l.invariant.0 mid t1 refl refl came
    in
    let p = c.in-Ok-Some.point in
    let turned = turned_of u c.unit-code.result.now mid.globals c.turn.new.globals (stack mid.frames)
    (stack c.turn.new.frames) t1 c.turn.new.ticks c.in-Ok-Some.field-0 (Some p) c.unit-code.ensures.same
    c.in-Ok-Some.field-0-is c.in-Ok-Some.ensures in
    let next : Thread = record {
      parent = l.thread.parent;
      status = l.thread.status;
      globals = c.turn.new.globals;
      frames = c.turn.new.frames;
    } in
    subst (λ q. IsAtRest u q next) (sym c.into_inner.ensures)
    (rests_on_way u c.unit-code.ensures.verified c.args.thread.now c.args.ticks.now mid t1 way next c.turn.new.ticks
    refl refl turned.0 p turned.1)
