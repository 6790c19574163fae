use Rattle.std.proofs.Common.{List, refl, subst, sym, true, ◌≡◌}
use Rattle.bds_code_frames.specs.declared.thread.Thread.{Thread}
use Rattle.bds_tasks.specs.declared.task.Task.{Task}
use Rattle.bds_tasks.specs.Ends.{ended}
use Rattle.bds_tasks.specs.Tasks.{passes, runs}
use Rattle.bds_schedule.specs.Configuration.{at_point}
use Rattle.bds_state.specs.Parts.{Parts, with_tasks}
use Rattle.bds_state.specs.Valid.{IsValid}
use Rattle.bds_state.specs.Held.{AreHeld, AreHeldBut, NoneLost}
use Rattle.bds_state.proofs.HeldLaws.{ended_keeps}
use Rattle.bds_state.proofs.Kept.{stays_valid}
use Rattle.bds_engine_parts.specs.Seen.{seen}
use Rattle.bds_engine_stages.specs.declared.stage.Stage.TheVariants as stage
use Rattle.bds_engine_stages.specs.Steps.{Leads_to}
use Rattle.bds_engine_stages.proofs.Joining.{halts_err, tasks_put}
use Rattle.bds_rank.proofs.Numbered.{ended_above, ended_runs}
use Rattle.bds_engine_stages.proofs.PointSteps.{choice_of, next_faults, next_halts, task_ends, turns}
use Rattle.bds_engine_stages.proofs.points.next.Goals as goal

pub returns-in_err-k : goal.returns-in_err-k
returns-in_err-k g c = λ cpus budget used none.
    let log = g.H.Host.log in
    let s : Parts = c.args.state.now in
    let valid : IsValid s = c.is_valid.ensures in
    halts_err s cpus budget (seen s cpus budget used at_point) (log c.args.host.now) (log c.ask.new.self) s used c.from_residual.result c.from_residual.ensures.1
    (next_halts s cpus budget used valid none c.args.ready c.args.running c.requires.ready c.requires.running (choice_of s cpus budget used valid none c.args.ready c.args.running c.requires.many)
    (log c.args.host.now) (log c.ask.new.self) c.in_err-k.ensures.refused)

pub ended-requires-clause-number : goal.ended-requires-clause-number
ended-requires-clause-number g c = ended_above c.args.state.now.tasks c.args.running c.in-Ended.task c.requires.running (rw c.in-Ended.is at c.in_ok-k.ensures.answered).fitting

pub ended-requires-clause-runs : goal.ended-requires-clause-runs
ended-requires-clause-runs g c =
    subst (λ (p : Parts). passes (λ (t : Task). runs t.state) p.tasks c.in-Ended.task ≡ true) (sym c.state.view_is)
    (ended_runs c.args.state.now.tasks c.args.running c.in-Ended.task c.requires.running (rw c.in-Ended.is at c.in_ok-k.ensures.answered).fitting)

pub look_behind-requires : goal.look_behind-requires
look_behind-requires g c =
    let s : Parts = record { unit = c.state.inside.unit; threads = c.state.inside.threads; tasks = c.state.inside.tasks; rules = c.state.inside.rules; path = c.state.inside.path } in
    let n = c.in-Ended.task in
    let fitting = (rw c.in-Ended.is at c.in_ok-k.ensures.answered).fitting in
    let above = ended_above c.args.state.now.tasks c.args.running n c.requires.running fitting in
    let held = c.state.inside.held in
    let tasks = c.ended.new.self in
    subst (λ (threads : List Thread). NoneLost tasks → AreHeldBut n threads tasks held) (sym c.as_slice.ensures)
    (subst (λ (ts : List Task). NoneLost ts → AreHeldBut n s.threads ts held) (sym c.ended.ensures.tasks)
    (ended_keeps s.threads s.tasks n c.in-Ended.code held above c.state.invariant.1))

pub invariant_of-state : goal.invariant_of-state
invariant_of-state g c =
    let s : Parts = record { unit = c.state.inside.unit; threads = c.state.inside.threads; tasks = c.state.inside.tasks; rules = c.state.inside.rules; path = c.state.inside.path } in
    let fitting = (rw c.in-Ended.is at c.in_ok-k.ensures.answered).fitting in (
      subst (λ (ts : List Task). IsValid (with_tasks ts s)) (sym c.ended.ensures.tasks)
          ((stays_valid s c.state.invariant.0).task_ended c.in-Ended.task c.in-Ended.code (ended_above c.args.state.now.tasks c.args.running c.in-Ended.task c.requires.running fitting)
          (subst (λ (p : Parts). passes (λ (t : Task). runs t.state) p.tasks c.in-Ended.task ≡ true) (sym c.state.view_is) (ended_runs c.args.state.now.tasks c.args.running c.in-Ended.task c.requires.running fitting))),
      subst (λ (threads : List Thread). AreHeld threads c.ended.new.self c.look_behind.new.held) c.as_slice.ensures
          c.look_behind.ensures,
    )

pub returns-in-Run : goal.returns-in-Run
returns-in-Run g c = λ cpus budget used none.
    let log = g.H.Host.log in
    let s : Parts = c.args.state.now in
    let valid : IsValid s = c.is_valid.ensures in
    turns s cpus budget used valid none c.args.ready c.args.running c.requires.ready c.requires.running (choice_of s cpus budget used valid none c.args.ready c.args.running c.requires.many)
    (log c.args.host.now) (log c.ask.new.self) c.in-Run.k (rw c.in-Run.is at c.in_ok-k.ensures.answered)

pub returns-in-Ended : goal.returns-in-Ended
returns-in-Ended g c = λ cpus budget used none.
    let log = g.H.Host.log in
    let s : Parts = c.args.state.now in
    let s0 : Parts = record { unit = c.state.inside.unit; threads = c.state.inside.threads; tasks = c.state.inside.tasks; rules = c.state.inside.rules; path = c.state.inside.path } in
    let valid : IsValid s = c.is_valid.ensures in
    subst (λ z. Leads_to s cpus budget (seen s cpus budget used at_point) (log c.args.host.now) (log c.ask.new.self) z used stage.Point)
    (tasks_put s0 s c.state.view_is c.ended.new.self (ended c.in-Ended.task c.in-Ended.code) c.ended.ensures.tasks)
    (task_ends s cpus budget used valid none c.args.ready c.args.running c.requires.ready c.requires.running (choice_of s cpus budget used valid none c.args.ready c.args.running c.requires.many)
    (log c.args.host.now) (log c.ask.new.self) c.in-Ended.task c.in-Ended.code (rw c.in-Ended.is at c.in_ok-k.ensures.answered))

pub returns-in-Fault : goal.returns-in-Fault
returns-in-Fault g c = λ cpus budget used none.
    let log = g.H.Host.log in
    let s : Parts = c.args.state.now in
    let valid : IsValid s = c.is_valid.ensures in
    next_faults s cpus budget used valid none c.args.ready c.args.running c.requires.ready c.requires.running (choice_of s cpus budget used valid none c.args.ready c.args.running c.requires.many)
    s refl (log c.args.host.now) (log c.ask.new.self) (rw c.in-Fault.is at c.in_ok-k.ensures.answered)
