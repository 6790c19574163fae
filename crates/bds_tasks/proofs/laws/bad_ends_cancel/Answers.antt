use Rattle.bds_tasks.proofs.CancelLaws.{ends_cancel}
use Rattle.bds_tasks.proofs.laws.bad_ends_cancel.Goals as goal

pub returns : goal.returns
returns c = ends_cancel
