use Rattle.bds_meaning.proofs.Beginning.{begins_with_reads}
use Rattle.bds_meaning.proofs.laws.job_begins_with_reads.Goals as goal

pub returns : goal.returns
returns c = begins_with_reads
