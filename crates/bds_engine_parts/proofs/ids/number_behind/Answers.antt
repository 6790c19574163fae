use Rattle.std.proofs.Common.{sym, ◌∙◌}
use Rattle.bds_engine_parts.proofs.Naming.{read_behind, read_otherwise}
use Rattle.bds_engine_parts.proofs.ids.number_behind.Goals as goal

pub returns-then-eq : goal.returns-then-eq
returns-then-eq c =
    read_behind c.args.words.now c.args.text.now c.split_at.result.0.now c.split_at.result.1.now c.number_in.result
    c.split_at.ensures.front c.split_at.ensures.back (sym c.eq.ensures ∙ c.if-eq.true) c.number_in.ensures

pub returns-else-eq : goal.returns-else-eq
returns-else-eq c = read_otherwise c.args.words.now c.args.text.now c.split_at.result.0.now c.split_at.ensures.front (sym c.eq.ensures ∙ c.if-eq.false)
