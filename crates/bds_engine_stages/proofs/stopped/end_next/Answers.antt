use Rattle.std.proofs.Common.{ℕ, List, subst, sym, true, ◌≡◌}
use Rattle.bds_host.specs.declared.asks.Ask.TheVariants.{Next}
use Rattle.bds_host.specs.declared.asks.Reply.TheVariants as reply
use Rattle.bds_host.specs.Host.{Answered, FoundNoRoom}
use Rattle.bds_tasks.specs.declared.task.Task.{Task}
use Rattle.bds_tasks.specs.Ends.{ended}
use Rattle.bds_tasks.specs.Tasks.{passes, runs}
use Rattle.bds_state.specs.Parts.{Parts, with_tasks}
use Rattle.bds_state.specs.Valid.{IsValid}
use Rattle.bds_state.specs.Held.{AreHeld}
use Rattle.bds_state.proofs.HeldLaws.{none_held}
use Rattle.bds_state.proofs.Kept.{stays_valid}
use Rattle.bds_engine_stages.specs.declared.stage.Stage.TheVariants as stage
use Rattle.bds_engine_stages.specs.Steps.{Leads_to}
use Rattle.bds_engine_stages.proofs.Joining.{halts_err, tasks_put}
use Rattle.bds_rank.proofs.Numbered.{ended_above, ended_runs}
use Rattle.bds_engine_stages.proofs.Stops.{end_comes, end_faults, end_halts}
use Rattle.bds_engine_stages.proofs.stopped.end_next.Goals as goal

pub returns-in_err-task : goal.returns-in_err-task
returns-in_err-task g c = λ cpus budget used d at.
    let log = g.H.Host.log in
    let s : Parts = c.args.state.now in
    halts_err s cpus budget d (log c.args.host.now) (log c.ask.new.self) s used c.from_residual.result c.from_residual.ensures.1
    (end_halts s cpus budget used c.args.cause d at c.args.running c.requires.running c.requires.some (log c.args.host.now) (log c.ask.new.self)
    (subst (λ (x : List ℕ). FoundNoRoom (log c.args.host.now) (log c.ask.new.self) (Next x c.args.running)) c.new-ready.ensures c.in_err-task.ensures.refused))

pub ended-requires-clause-number : goal.ended-requires-clause-number
ended-requires-clause-number g c = ended_above c.args.state.now.tasks c.args.running c.in-Ended.task c.requires.running (rw c.in-Ended.is at c.in_ok-task.ensures.answered).fitting

pub ended-requires-clause-runs : goal.ended-requires-clause-runs
ended-requires-clause-runs g c =
    subst (λ (p : Parts). passes (λ (t : Task). runs t.state) p.tasks c.in-Ended.task ≡ true) (sym c.state.view_is)
    (ended_runs c.args.state.now.tasks c.args.running c.in-Ended.task c.requires.running (rw c.in-Ended.is at c.in_ok-task.ensures.answered).fitting)

pub invariant_of-state : goal.invariant_of-state
invariant_of-state g c =
    let s : Parts = record { unit = c.state.inside.unit; threads = c.state.inside.threads; tasks = c.state.inside.tasks; rules = c.state.inside.rules; path = c.state.inside.path } in
    let fitting = (rw c.in-Ended.is at c.in_ok-task.ensures.answered).fitting in (
      subst (λ (ts : List Task). IsValid (with_tasks ts s)) (sym c.ended.ensures.tasks)
          ((stays_valid s c.state.invariant.0).task_ended c.in-Ended.task c.in-Ended.code (ended_above c.args.state.now.tasks c.args.running c.in-Ended.task c.requires.running fitting)
          (subst (λ (p : Parts). passes (λ (t : Task). runs t.state) p.tasks c.in-Ended.task ≡ true) (sym c.state.view_is) (ended_runs c.args.state.now.tasks c.args.running c.in-Ended.task c.requires.running fitting))),
      subst (λ (held : List ℕ). AreHeld s.threads c.ended.new.self held) (sym c.new-held.ensures)
          (none_held s.threads c.ended.new.self),
    )

pub returns-in-Ended : goal.returns-in-Ended
returns-in-Ended g c = λ cpus budget used d at.
    let log = g.H.Host.log in
    let s : Parts = c.args.state.now in
    let s0 : Parts = record { unit = c.state.inside.unit; threads = c.state.inside.threads; tasks = c.state.inside.tasks; rules = c.state.inside.rules; path = c.state.inside.path } in
    subst (λ z. Leads_to s cpus budget d (log c.args.host.now) (log c.ask.new.self) z used (stage.Stopping c.args.cause))
    (tasks_put s0 s c.state.view_is c.ended.new.self (ended c.in-Ended.task c.in-Ended.code) c.ended.ensures.tasks)
    (end_comes s cpus budget used c.args.cause d at c.args.running c.requires.running c.requires.some (log c.args.host.now) (log c.ask.new.self) c.in-Ended.task c.in-Ended.code
    (subst (λ (x : List ℕ). Answered (log c.args.host.now) (log c.ask.new.self) (Next x c.args.running) (reply.Ended c.in-Ended.task c.in-Ended.code)) c.new-ready.ensures (rw c.in-Ended.is at c.in_ok-task.ensures.answered)))

pub returns-in-Fault : goal.returns-in-Fault
returns-in-Fault g c = λ cpus budget used d at.
    let log = g.H.Host.log in
    let s : Parts = c.args.state.now in
    end_faults s cpus budget used c.args.cause d at c.args.running c.requires.running c.requires.some (log c.args.host.now) (log c.ask.new.self)
    (subst (λ (x : List ℕ). Answered (log c.args.host.now) (log c.ask.new.self) (Next x c.args.running) reply.Fault) c.new-ready.ensures (rw c.in-Fault.is at c.in_ok-task.ensures.answered))
