use Rattle.std.proofs.Common.{◌≡◌, ◌+◌, ◌≤◌, drop}
use Rattle.bds_tree.specs.StmtView.{stmts_of, cases_of}
use Rattle.bds_gen_expr.specs.Scope.{known}
use Rattle.bds_gen_size.specs.Capped.{capped, whole_stmts, whole_cases}
use Rattle.bds_gen_size.proofs.Behind.{Keeps}
use Rattle.bds_gen_size.proofs.stmts.+statements.Given as goal

abbrev pub invariant-stmts_size-loop-stmt : goal.invariant-stmts_size-loop-stmt
invariant-stmts_size-loop-stmt l = record {
  most : l.sum ≤ 18446744073709551615;
  so_far : capped (l.sum + whole_stmts (stmts_of (drop l.stmt-index l.stmts)) (known l.scope)) ≡ capped (whole_stmts (stmts_of l.stmts) (known l.fn.scope));
  kept : Keeps l.fn.scope l.scope;
}

abbrev pub invariant-cases_size-loop-case : goal.invariant-cases_size-loop-case
invariant-cases_size-loop-case l = record {
  most : l.sum ≤ 18446744073709551615;
  so_far : capped (l.sum + whole_cases (cases_of (drop l.case-index l.cases)) (known l.fn.scope)) ≡ capped (whole_cases (cases_of l.cases) (known l.fn.scope));
  same : l.scope ≡ l.fn.scope;
}
