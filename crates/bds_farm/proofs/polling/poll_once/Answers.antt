use Rattle.std.proofs.Common.{refl}
use Rattle.bds_farm.specs.Inside.{LostPoll}
use Rattle.bds_farm.proofs.polling.poll_once.Goals as goal

pub returns-in-Err : goal.returns-in-Err
returns-in-Err g c = LostPoll.unasked refl
