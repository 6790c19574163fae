use Rattle.std.proofs.Common.{◌≡◌, drop, map}
use Rattle.bds_tree.specs.StmtView.{part_of}
use Rattle.bds_check_typing.specs.GivenValues.{set_by}
use Rattle.bds_meaning.specs.Opening.{parts_term}
use Rattle.bds_source_terms.specs.View.{term_of, then_of}
use Rattle.bds_source.proofs.opening.put_parts.Given as goal

abbrev pub invariant-loop-part : goal.invariant-loop-part
invariant-loop-part l = then_of (map term_of l.terms) (parts_term (set_by l.settings) l.names (map part_of (drop l.part-index l.parts))) ≡ then_of (map term_of l.fn.terms) (parts_term (set_by l.settings) l.fn.names (map part_of l.parts))
