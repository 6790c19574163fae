use Rattle.std.proofs.Common.{◌≡◌, ◌+◌, ◌≤◌, drop}
use Rattle.bds_tree.specs.StmtView.{cases_of}
use Rattle.bds_check_size.specs.StmtSize.{labels_size}
use Rattle.bds_gen_expr.specs.Scope.{types_in}
use Rattle.bds_gen_size.specs.Capped.{capped}
use Rattle.bds_gen_size.proofs.stmts.labels_size.Given as goal

abbrev pub invariant-loop-case : goal.invariant-loop-case
invariant-loop-case l = record {
  most : l.sum ≤ 18446744073709551615;
  so_far : capped (l.sum + labels_size (types_in l.scope) (cases_of (drop l.case-index l.cases))) ≡ capped (labels_size (types_in l.scope) (cases_of l.cases));
}
