use Rattle.bds_check_rules.proofs.PieceReads.{missing-is-unread}
use Rattle.bds_check_rules.proofs.laws.missing_names_are_as_written.Goals as goal

pub returns : goal.returns
returns c = missing-is-unread
