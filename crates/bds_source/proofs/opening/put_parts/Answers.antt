use Rattle.std.proofs.Common.{map, arith}
use Rattle.bds_check_typing.specs.GivenValues.{set_by}
use Rattle.bds_source_terms.specs.View.{term_of}
use Rattle.bds_source.proofs.TopLevel.{parts_next, parts_none}
use Rattle.bds_source.proofs.opening.put_parts.Goals as goal

pub loop-part-preserved : goal.loop-part-preserved
loop-part-preserved c =
    parts_next (set_by c.args.settings.now) c.args.parts.now c.loop-part.part-index c.part-item.result c.loop-part.names c.put_part.new.names (map term_of c.loop-part.terms) (map term_of c.put_part.new.terms) _ (omega arith) c.part-item.is c.in_ok-put_part.ensures c.loop-part.invariant

pub returns : goal.returns
returns c = parts_none (set_by c.args.settings.now) c.args.parts.now c.loop-part.part-index c.loop-part.names (map term_of c.loop-part.terms) _ (omega arith) c.loop-part.invariant
