use Rattle.bds_rank.proofs.Runs.{runs_stay_sound}
use Rattle.bds_rank.proofs.laws.runs_stay_sound.Goals as goal

pub returns : goal.returns
returns c = runs_stay_sound
