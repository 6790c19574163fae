use Rattle.std.proofs.Common.{◌≡◌, ◌++◌, drop, map}
use Rattle.bds_tree.specs.StmtView.{suffix_of}
use Rattle.bds_meaning.specs.OpeningPlaces as places
use Rattle.bds_source_terms.specs.View.{into_of}
use Rattle.bds_source_places.proofs.places.ways_of.Given as goal

abbrev pub invariant-loop-suffix : goal.invariant-loop-suffix
invariant-loop-suffix l = map into_of l.ways ++ map places.into_of (map suffix_of (drop l.suffix-index l.suffixes)) ≡ map places.into_of (map suffix_of l.suffixes)
