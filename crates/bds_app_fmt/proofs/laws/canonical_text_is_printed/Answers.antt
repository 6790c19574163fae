use Rattle.bds_app_fmt.proofs.FormattedAgain.{given_canonical, prints_canonical}
use Rattle.bds_app_fmt.proofs.laws.canonical_text_is_printed.Goals as goal

pub returns : goal.returns
returns c = record { printed = prints_canonical; given = given_canonical }
