use Rattle.bds_front.proofs.OneScript.{free_line}
use Rattle.bds_front.proofs.laws.line_of_flaw_is_free.Goals as goal

pub returns : goal.returns
returns c = free_line
