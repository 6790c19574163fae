-- proofs/ends/+ends/Answers.antt
use Rattle.std.proofs.Common.{◌∙◌}
use Rattle.bds_check_rules.proofs.LastEnds.{last_ends_so}
use Rattle.bds_check_rules.proofs.ends.+ends.Goals as goal

pub last_ends-returns-in-len1-up : goal.last_ends-returns-in-len1-up
last_ends-returns-in-len1-up n c = c.ends.ensures ∙ last_ends_so c.args.stmts.now c.last-item.result c.in-len1-up.len_at_least c.last-item.is
