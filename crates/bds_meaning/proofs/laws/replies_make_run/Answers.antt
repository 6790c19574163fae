use Rattle.bds_meaning.proofs.Replies.{walks}
use Rattle.bds_meaning.proofs.laws.replies_make_run.Goals as goal

pub returns : goal.returns
returns c = λ program. λ from to pairs leads. walks program from to pairs leads
