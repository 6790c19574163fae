use Rattle.std.proofs.Common.{sym, ◌∙◌}
use Rattle.bds_farm.proofs.Numbers.{other_front}
use Rattle.bds_farm.proofs.lines.behind.Goals as goal

pub returns-else-eq : goal.returns-else-eq
returns-else-eq c =
    other_front c.args.words.now c.args.text.now c.split_at.result.0.now c.split_at.ensures.front
    (sym c.eq.ensures ∙ c.if-eq.false)
