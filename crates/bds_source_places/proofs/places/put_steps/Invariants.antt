use Rattle.std.proofs.Common.{◌≡◌, ◌++◌, drop, map}
use Rattle.bds_tree.specs.StmtView.{suffix_of}
use Rattle.bds_meaning.specs.OpeningPlaces.{suffix_term}
use Rattle.bds_source_terms.specs.View.{term_of}
use Rattle.bds_source_places.proofs.places.put_steps.Given as goal

abbrev pub invariant-loop-suffix : goal.invariant-loop-suffix
invariant-loop-suffix l = map term_of l.terms ++ map (suffix_term l.names) (map suffix_of (drop l.suffix-index l.suffixes)) ≡ map term_of l.fn.terms ++ map (suffix_term l.names) (map suffix_of l.suffixes)
