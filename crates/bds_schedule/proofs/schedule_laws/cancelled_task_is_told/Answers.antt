use Rattle.std.specs.Prelude.{refl}
use Rattle.std.specs.Fmt as fmt
use Rattle.bds_schedule.proofs.schedule_laws.cancelled_task_is_told.Goals as goal

pub returns : goal.returns
unfolding fmt.digits
returns c = refl
