use Rattle.std.proofs.Common.{◌≡◌, ◌++◌, drop, map}
use Rattle.bds_tree.specs.StmtView.{suffix_of}
use Rattle.bds_gen_stmt.specs.PlaceCode.{kind_of}
use Rattle.bds_gen_stmt_code.specs.GenParts.{steps_above, gen_suffixes}
use Rattle.bds_gen_stmt_code.proofs.places.write_suffixes.Given as goal

abbrev pub invariant-loop-suffix : goal.invariant-loop-suffix
invariant-loop-suffix l = record {
  code : gen_suffixes (map suffix_of (drop l.suffix-index l.suffixes)) l.scope l.shape l.function ≡ gen_suffixes (map suffix_of l.suffixes) l.scope l.fn.shape l.fn.function;
  shape : steps_above (map kind_of (map suffix_of (drop l.suffix-index l.suffixes))) l.shape ≡ steps_above (map kind_of (map suffix_of l.suffixes)) l.fn.shape;
  kinds : l.kinds ++ map kind_of (map suffix_of (drop l.suffix-index l.suffixes)) ≡ l.fn.kinds ++ map kind_of (map suffix_of l.suffixes);
}
