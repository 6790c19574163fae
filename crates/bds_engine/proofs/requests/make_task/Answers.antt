use Rattle.std.proofs.Common.{◌≡◌, ◌<◌, ◌≤◌, ◌+◌, ◌^◌, ◌∙◌, ℕ, List, Some, length, refl, sym, ap, subst, arith}
use Rattle.std.proofs.lemmas.Option.{slice_get_within}
use Rattle.bds_value.specs.declared.TheConstants.{MAX_TEXT}
use Rattle.bds_value.specs.declared.value.Value.TheVariants as value
use Rattle.bds_value.specs.declared.faults.RunFault.TheVariants as run
use Rattle.bds_machine.specs.declared.point.Point.TheVariants as point
use Rattle.bds_machine.proofs.AnswerFits.{fits-Text}
use Rattle.bds_schedule.specs.Ids.{task_id}
use Rattle.bds_schedule.specs.Turns.{made_in}
use Rattle.bds_tasks.specs.Tasks.{added}
use Rattle.bds_state.specs.Parts.{Parts}
use Rattle.bds_engine_stages.specs.declared.stage.Stage.TheVariants as stage
use Rattle.bds_engine_stages.specs.Held.{GoesBack, IsOut}
use Rattle.bds_engine.proofs.Contacting.{breaks_same, halts_here, halts_so, out_tasks}
use Rattle.bds_engine.proofs.Fitting.{short_task}
use Rattle.bds_engine.proofs.Making.{makes_task, many_tasks}
use Rattle.bds_engine.proofs.Plans.{legal_made}
use Rattle.bds_engine.proofs.requests.make_task.Goals as goal

pub put_task-requires-clause-legal : goal.put_task-requires-clause-legal
put_task-requires-clause-legal c = legal_made c.args.k c.args.task (c.points_carry_what_fits.ensures c.args.state.now.unit (point.Task c.args.task) c.args.thread c.requires.left).legal

pub put_task-requires-clause-maker : goal.put_task-requires-clause-maker
put_task-requires-clause-maker c = slice_get_within c.args.state.now.threads c.args.k c.requires.place.old c.requires.place.there

pub returns-in_err-id-in-Ok : goal.returns-in_err-id-in-Ok
returns-in_err-id-in-Ok c = λ log. halts_so c.args.state.now c.put_task.new.state c.args.k c.args.thread (point.Task c.args.task) log c.from_residual.result c.from_residual.ensures.1

pub hand-requires : goal.hand-requires
hand-requires c =
    let s = c.args.state.now in
    let added_is : c.in-Ok.n ≡ length s.tasks + 1 = c.in-Ok.ensures.2 in
    let room = c.in-Ok.ensures.0 in
    let low : c.in-Ok.n < 2 ^ 32 = omega (arith, added_is, room) in
    let short : length c.in_ok-id-in-Ok.id ≤ MAX_TEXT = subst (λ (x : List ℕ). length x ≤ MAX_TEXT) (sym c.in_ok-id-in-Ok.ensures) (short_task c.in-Ok.n low) in
    let out : IsOut c.put_task.new.state c.args.k (point.Task c.args.task) c.args.thread =
    subst (λ (x : Parts). IsOut x c.args.k (point.Task c.args.task) c.args.thread) (sym c.in-Ok.ensures.1) (out_tasks s c.args.k (point.Task c.args.task) c.args.thread (added s.tasks (made_in c.args.k c.args.task)) c.requires) in
    (point.Task c.args.task, out, fits-Text (point.Task c.args.task) c.in_ok-id-in-Ok.id short refl)

pub returns-in-Ok : goal.returns-in-Ok
returns-in-Ok c = λ log.
    let s = c.args.state.now in
    let is : c.in_ok-id-in-Ok.id ≡ task_id (length s.tasks + 1) = c.in_ok-id-in-Ok.ensures ∙ ap task_id c.in-Ok.ensures.2 in
    makes_task s c.args.k c.args.thread c.args.task c.requires c.in_ok-id-in-Ok.id is c.in-Ok.ensures.0 c.hand.new.state c.hand.result
    (subst (λ (x : Parts). GoesBack c.args.k (Some (value.Text c.in_ok-id-in-Ok.id)) c.args.thread x c.hand.new.state stage.Point c.hand.result) c.in-Ok.ensures.1 c.hand.ensures) log

pub returns-in-Err-TooMany : goal.returns-in-Err-TooMany
returns-in-Err-TooMany c = λ log.
    let s = c.args.state.now in
    let clause = rw c.in-Err-TooMany.field-0-is at c.in-Err-TooMany.ensures in
    many_tasks s c.args.k c.args.thread c.args.task c.requires clause.0 c.put_task.new.state c.breaks.result (breaks_same s c.put_task.new.state c.args.thread run.TooManyTasks c.breaks.result clause.1 c.breaks.ensures) log

pub returns : goal.returns
returns c = λ log. halts_here c.args.state.now c.put_task.new.state c.args.k c.args.thread (point.Task c.args.task) log
