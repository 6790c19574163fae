use Rattle.std.proofs.Common.{refl}
use Rattle.bds_rank.proofs.Keeping.{move_right}
use Rattle.bds_rank.proofs.laws.turns_are_of_ready.Goals as goal

pub returns : goal.returns
returns c files image step m right = move_right files image step m m.mode refl right
