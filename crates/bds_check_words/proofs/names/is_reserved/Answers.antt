use Rattle.std.proofs.Common.{◌∙◌}
use Rattle.bds_check_words.proofs.Reserved.{words-reserved}
use Rattle.bds_check_words.proofs.names.is_reserved.Goals as goal

pub returns : goal.returns
returns c = c.is_one_of.ensures ∙ words-reserved c.args.name.now
