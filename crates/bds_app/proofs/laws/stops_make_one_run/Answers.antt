use Rattle.bds_app.proofs.OneRun.{stops_make_one_run}
use Rattle.bds_app.proofs.laws.stops_make_one_run.Goals as goal

pub returns : goal.returns
returns c = stops_make_one_run c.scripts_open_so.ensures c.histories_keep_the_laws.ensures
