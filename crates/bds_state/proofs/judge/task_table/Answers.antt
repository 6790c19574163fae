use Rattle.std.proofs.Common.{List, subst, sym}
use Rattle.bds_tasks.specs.declared.task.Task.{Task}
use Rattle.bds_tasks.proofs.FitLaws.{fit_tasks}
use Rattle.bds_state.specs.Judged.{IsBadTask}
use Rattle.bds_state.specs.Judging.{IsFirstUnmade, IsUnmade}
use Rattle.bds_state.proofs.Faults.{unfit_bad, unmade_bad}
use Rattle.bds_state.proofs.judge.task_table.Goals as goal

pub returns-in-Some : goal.returns-in-Some
returns-in-Some c =
    unmade_bad c.args.threads c.args.tasks c.in-Some.n (fit_tasks c.args.tasks c.requires c.in-Ok.ensures.1)
    (subst (λ (ts : List Task). IsUnmade c.args.threads ts c.in-Some.n) c.as_slice.ensures c.in-Some.ensures)

pub returns-in-Err : goal.returns-in-Err
returns-in-Err c =
    subst (IsBadTask c.args.threads c.args.tasks) (sym c.earlier.ensures)
    (unfit_bad c.args.threads c.args.tasks c.in-Err.n c.first_unmade-unmade.result c.requires c.in-Err.ensures
    (subst (λ (ts : List Task). IsFirstUnmade c.args.threads ts c.first_unmade-unmade.result) c.as_slice.ensures
    c.first_unmade-unmade.ensures))
