use Rattle.bds_check_laws.proofs.ShortTokens.{spelled-short}
use Rattle.bds_check_laws.proofs.laws.spelled_scripts_have_short_texts.Goals as goal

pub returns : goal.returns
returns c = spelled-short
