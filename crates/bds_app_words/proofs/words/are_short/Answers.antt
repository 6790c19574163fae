use Rattle.std.proofs.Common.{rules, ◌∙◌, string_bytes}
use Rattle.bds_app_words.proofs.Short.{short_by}
use Rattle.bds_app_words.proofs.words.are_short.Goals as goal

pub returns-then-words-le-MAX_ITEMS : goal.returns-then-words-le-MAX_ITEMS
returns-then-words-le-MAX_ITEMS c = c.are_each_short.ensures ∙ short_by string_bytes c.args.words.now (search rules)
