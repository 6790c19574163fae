use Rattle.bds_app.proofs.WholeRun.{runs_are_whole}
use Rattle.bds_app.proofs.laws.runs_are_whole.Goals as goal

pub returns : goal.returns
returns c = runs_are_whole c.jobs_are_histories.ensures c.scripts_open_so.ensures c.histories_keep_the_laws.ensures
