use Rattle.std.proofs.Common.{subst}
use Rattle.std.specs.List.{All}
use Rattle.bds_code.specs.UnitFields.{UnitFits}
use Rattle.bds_state_threads.specs.Numbers.{ThreadFits}
use Rattle.bds_tasks.specs.declared.task.Task.{Task}
use Rattle.bds_tasks.specs.TaskFields.{IsFieldState}
use Rattle.bds_state.specs.Fits.{NumbersFit}
use Rattle.bds_state.specs.Parts.{Parts}
use Rattle.bds_state.proofs.laws.numbers_fit.Goals as goal

pub returns : goal.returns
returns c =
    let s : Parts = record {
      unit = c.state.inside.unit;
      threads = c.state.inside.threads;
      tasks = c.state.inside.tasks;
      rules = c.state.inside.rules;
      path = c.state.inside.path;
    } in
    let fits : NumbersFit s = record {
      unit = subst UnitFits c.unit.ensures.same c.unit_fits.ensures;
      threads = subst (All ThreadFits) c.as_slice.ensures c.threads_fit.ensures;
      tasks = subst (All (λ (t : Task). IsFieldState t.state)) c.as_slice-2.ensures c.tasks_fit.ensures;
    } in
    subst NumbersFit c.state.view_is fits
