use Rattle.bds_app_fmt.proofs.FormattedAgain.{prints_itself}
use Rattle.bds_app_fmt.proofs.laws.canonical_text_is_printed_again.Goals as goal

pub returns : goal.returns
returns c = prints_itself
