use Rattle.std.proofs.Common.{◌≡◌, ◌+◌, ◌≤◌, drop, map}
use Rattle.bds_tree.specs.StmtView.{suffix_of}
use Rattle.bds_check_size.specs.StmtSize.{suffixes_size}
use Rattle.bds_gen_expr.specs.Scope.{types_in}
use Rattle.bds_gen_size.specs.Capped.{capped}
use Rattle.bds_gen_size.proofs.places.suffixes_size.Given as goal

abbrev pub invariant-loop-suffix : goal.invariant-loop-suffix
invariant-loop-suffix l = record {
  most : l.sum ≤ 18446744073709551615;
  so_far : capped (l.sum + suffixes_size (types_in l.scope) (map suffix_of (drop l.suffix-index l.suffixes))) ≡ capped (suffixes_size (types_in l.scope) (map suffix_of l.suffixes));
}
