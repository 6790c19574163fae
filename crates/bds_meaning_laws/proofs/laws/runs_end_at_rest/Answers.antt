use Rattle.bds_meaning_laws.proofs.Room.{none_runs}
use Rattle.bds_meaning_laws.proofs.laws.runs_end_at_rest.Goals as goal

pub returns : goal.returns
returns c = none_runs
