use Rattle.bds_rank.proofs.Runs.{runs_lessen}
use Rattle.bds_rank.proofs.laws.runs_lessen.Goals as goal

pub returns : goal.returns
returns c = runs_lessen
