use Rattle.std.proofs.Common.{ℕ, List, Some, length, refl, subst, sym, true, ◌≡◌, ◌≤◌}
use Rattle.bds_host.specs.declared.asks.Ask.TheVariants.{Start}
use Rattle.bds_host.specs.declared.asks.Reply.TheVariants as reply
use Rattle.bds_host.specs.Host.{Answered, FoundNoRoom}
use Rattle.bds_tasks.specs.declared.task.Task.{Task}
use Rattle.bds_tasks.specs.Starts.{started}
use Rattle.bds_tasks.specs.Tasks.{passes, task_at, waits}
use Rattle.bds_schedule.specs.Configuration.{at_point}
use Rattle.bds_state.specs.Parts.{Parts, with_tasks}
use Rattle.bds_state.specs.Valid.{IsValid}
use Rattle.bds_state.specs.Held.{AreHeld}
use Rattle.bds_state.proofs.HeldLaws.{started_keeps, tasks_kept}
use Rattle.bds_state.proofs.Kept.{stays_valid}
use Rattle.bds_engine_parts.specs.Seen.{seen}
use Rattle.bds_engine_stages.specs.declared.stage.Stage.TheVariants as stage
use Rattle.bds_engine_stages.specs.Steps.{Leads_to}
use Rattle.bds_engine_stages.proofs.Joining.{halts_err, tasks_put}
use Rattle.bds_rank.proofs.Numbered.{starts_above, starts_waiting, starts_within}
use Rattle.bds_engine_stages.proofs.PointSteps.{halts, start_faults, start_halts, starts}
use Rattle.bds_engine_stages.proofs.points.start.Goals as goal

pub task-task-requires : goal.task-task-requires
task-task-requires g c = (
  starts_above c.args.cpus c.args.state.now.tasks c.args.n c.requires,
  subst (λ (p : Parts). c.args.n ≤ length p.tasks) (sym c.state.view_is) (starts_within c.args.cpus c.args.state.now.tasks c.args.n c.requires),
)

pub returns-in_err-cmd : goal.returns-in_err-cmd
returns-in_err-cmd g c = λ budget used.
    let log = g.H.Host.log in
    let s : Parts = c.args.state.now in
    halts_err s c.args.cpus budget (seen s c.args.cpus budget used at_point) (log c.args.host.now) (log c.args.host.now) s used c.from_residual.result c.from_residual.ensures.1
    (halts s c.args.cpus budget used (log c.args.host.now))

pub returns-in_err-ask : goal.returns-in_err-ask
returns-in_err-ask g c = λ budget used.
    let log = g.H.Host.log in
    let s : Parts = c.args.state.now in
    let t : Task = c.task-task.result.now in
    let there : task_at s.tasks c.args.n ≡ Some t = subst (λ (p : Parts). task_at p.tasks c.args.n ≡ Some t) c.state.view_is c.task-task.ensures in
    halts_err s c.args.cpus budget (seen s c.args.cpus budget used at_point) (log c.args.host.now) (log c.ask.new.self) s used c.from_residual-in_err-ask.result c.from_residual-in_err-ask.ensures.1
    (start_halts s c.args.cpus budget used c.args.n t c.requires there (log c.args.host.now) (log c.ask.new.self)
    (subst (λ (x : List ℕ). FoundNoRoom (log c.args.host.now) (log c.ask.new.self) (Start c.args.n t.attempt x)) c.in_ok-cmd.ensures c.in_err-ask.ensures.refused))

pub started-requires-clause-number : goal.started-requires-clause-number
started-requires-clause-number g c = starts_above c.args.cpus c.args.state.now.tasks c.args.n c.requires

pub started-requires-clause-waits : goal.started-requires-clause-waits
started-requires-clause-waits g c =
    subst (λ (p : Parts). passes (λ (t : Task). waits t.state) p.tasks c.args.n ≡ true) (sym c.state.view_is) (starts_waiting c.args.cpus c.args.state.now.tasks c.args.n c.requires)

pub invariant_of-state : goal.invariant_of-state
invariant_of-state g c =
    let s : Parts = record { unit = c.state.inside.unit; threads = c.state.inside.threads; tasks = c.state.inside.tasks; rules = c.state.inside.rules; path = c.state.inside.path } in
    subst (λ (ts : List Task). IsValid (with_tasks ts s) × AreHeld s.threads ts c.state.inside.held)
    (sym c.started.ensures) (
      (stays_valid s c.state.invariant.0).task_started c.args.n
          (subst (λ (p : Parts). passes (λ (t : Task). waits t.state) p.tasks c.args.n ≡ true) (sym c.state.view_is) (starts_waiting c.args.cpus c.args.state.now.tasks c.args.n c.requires)),
      tasks_kept s.threads s.tasks (started c.args.n s.tasks) c.state.inside.held (started_keeps c.args.n s.tasks)
          c.state.invariant.1,
    )

pub returns-in-Started : goal.returns-in-Started
returns-in-Started g c = λ budget used.
    let log = g.H.Host.log in
    let s : Parts = c.args.state.now in
    let s0 : Parts = record { unit = c.state.inside.unit; threads = c.state.inside.threads; tasks = c.state.inside.tasks; rules = c.state.inside.rules; path = c.state.inside.path } in
    let t : Task = c.task-task.result.now in
    let there : task_at s.tasks c.args.n ≡ Some t = subst (λ (p : Parts). task_at p.tasks c.args.n ≡ Some t) c.state.view_is c.task-task.ensures in
    subst (λ z. Leads_to s c.args.cpus budget (seen s c.args.cpus budget used at_point) (log c.args.host.now) (log c.ask.new.self) z used stage.Point)
    (tasks_put s0 s c.state.view_is c.started.new.self (started c.args.n) c.started.ensures)
    (starts s c.args.cpus budget used c.args.n t c.requires there (log c.args.host.now) (log c.ask.new.self)
    (subst (λ (x : List ℕ). Answered (log c.args.host.now) (log c.ask.new.self) (Start c.args.n t.attempt x) reply.Started) c.in_ok-cmd.ensures (rw c.in-Started.is at c.in_ok-ask.ensures.answered)))

pub returns-in-Fault : goal.returns-in-Fault
returns-in-Fault g c = λ budget used.
    let log = g.H.Host.log in
    let s : Parts = c.args.state.now in
    let t : Task = c.task-task.result.now in
    let there : task_at s.tasks c.args.n ≡ Some t = subst (λ (p : Parts). task_at p.tasks c.args.n ≡ Some t) c.state.view_is c.task-task.ensures in
    start_faults s c.args.cpus budget used c.args.n t s refl c.requires there (log c.args.host.now) (log c.ask.new.self)
    (subst (λ (x : List ℕ). Answered (log c.args.host.now) (log c.ask.new.self) (Start c.args.n t.attempt x) reply.Fault) c.in_ok-cmd.ensures (rw c.in-Fault.is at c.in_ok-ask.ensures.answered))
