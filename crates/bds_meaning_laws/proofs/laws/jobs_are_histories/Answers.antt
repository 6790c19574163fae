use Rattle.bds_meaning_laws.proofs.Jobs.{jobs_are_histories}
use Rattle.bds_meaning_laws.proofs.laws.jobs_are_histories.Goals as goal

pub returns : goal.returns
returns c = jobs_are_histories
