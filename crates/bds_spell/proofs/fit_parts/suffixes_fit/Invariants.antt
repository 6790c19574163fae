use Rattle.std.proofs.Common.{◌≡◌, drop, map}
use Rattle.bds_tree.specs.StmtView.{suffix_of}
use Rattle.bds_spell.specs.StmtFits.{suffixes_fit}
use Rattle.bds_spell.proofs.fit_parts.suffixes_fit.Given as goal

abbrev pub invariant-loop-suffix : goal.invariant-loop-suffix
invariant-loop-suffix l = suffixes_fit (map suffix_of l.suffixes) l.most ≡ suffixes_fit (map suffix_of (drop l.suffix-index l.suffixes)) l.most
