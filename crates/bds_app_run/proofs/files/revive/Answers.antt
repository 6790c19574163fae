use Rattle.std.proofs.Common.{List, map, subst, sym, ap, ◌∙◌}
use Rattle.bds_tasks.specs.declared.task.Task.{Task}
use Rattle.bds_tasks.specs.Tasks.{revived_task}
use Rattle.bds_state.specs.Held.{AreHeld}
use Rattle.bds_state.specs.Parts.{Parts, with_tasks}
use Rattle.bds_state.specs.Valid.{IsValid}
use Rattle.bds_state.proofs.HeldLaws.{revived_keeps, tasks_kept}
use Rattle.bds_state.proofs.Kept.{stays_valid}
use Rattle.bds_engine_parts.specs.Seen.{revived_state}
use Rattle.bds_app_run.proofs.files.revive.Goals as goal

pub invariant_of-state : goal.invariant_of-state
invariant_of-state c =
    let s : Parts = record { unit = c.state.inside.unit; threads = c.state.inside.threads; tasks = c.state.inside.tasks; rules = c.state.inside.rules; path = c.state.inside.path } in
    subst (λ (ts : List Task). IsValid (with_tasks ts s) × AreHeld s.threads ts c.state.inside.held)
    (sym c.revive.ensures) (
      (stays_valid s c.state.invariant.0).tasks_revived,
      tasks_kept s.threads s.tasks (map revived_task s.tasks) c.state.inside.held (revived_keeps s.tasks)
          c.state.invariant.1,
    )

pub returns : goal.returns
returns c =
    let s : Parts = record { unit = c.state.inside.unit; threads = c.state.inside.threads; tasks = c.state.inside.tasks; rules = c.state.inside.rules; path = c.state.inside.path } in
    c.look_at_threads.ensures
    ∙ ap (λ (ts : List Task). with_tasks ts s) c.revive.ensures ∙ ap (λ (z : Parts). revived_state z) c.state.view_is
