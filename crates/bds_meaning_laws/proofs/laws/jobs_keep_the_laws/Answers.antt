use Rattle.bds_meaning_laws.proofs.Jobs.{jobs_keep_the_laws}
use Rattle.bds_meaning_laws.proofs.laws.jobs_keep_the_laws.Goals as goal

pub returns : goal.returns
returns c = jobs_keep_the_laws
