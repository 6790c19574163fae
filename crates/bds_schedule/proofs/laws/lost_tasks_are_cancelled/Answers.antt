use Rattle.bds_schedule.proofs.Cancelling.{cancels_lost}
use Rattle.bds_schedule.proofs.laws.lost_tasks_are_cancelled.Goals as goal

pub returns : goal.returns
returns c = cancels_lost
