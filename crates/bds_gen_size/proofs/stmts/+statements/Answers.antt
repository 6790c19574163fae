use Rattle.std.proofs.Common.{◌∙◌, arith}
use Rattle.std.specs.Option.{option_map}
use Rattle.bds_tree.specs.View.{tree_of}
use Rattle.bds_tree.specs.StmtView.{stmt_of, small_of}
use Rattle.bds_gen_expr.specs.Scope.{known}
use Rattle.bds_gen_size.proofs.Behind.{stmt-kept, stmt-known}
use Rattle.bds_gen_size.proofs.Counting.{stmts-next}
use Rattle.bds_gen_size.proofs.CaseSize.{cases-next}
use Rattle.bds_gen_size.proofs.ForSize.{for-size}
use Rattle.bds_gen_size.proofs.stmts.+statements.Goals as goal

pub stmts_size-loop-stmt-preserved : goal.stmts_size-loop-stmt-preserved
stmts_size-loop-stmt-preserved t c =
    let s = stmt_of c.stmt-item.result in
    let sc = c.loop-stmt.scope in
    let sc1 = c.stmt_size.new.scope in
    let sc2 = c.declare_stmt.new.scope in
    record {
      most = omega arith;
      so_far = stmts-next c.args.stmts.now c.loop-stmt.stmt-index c.stmt-item.result (known sc) (known sc2) c.loop-stmt.sum c.in_ok-size.size c.saturating_add-sum.result _ (omega arith) c.stmt-item.is c.in_ok-size.ensures.size c.saturating_add-sum.ensures
          (stmt-known s sc sc1 sc2 c.in_ok-size.ensures.names c.in_ok-declare_stmt.ensures) c.loop-stmt.invariant.so_far;
      kept = stmt-kept c.args.scope.now s sc sc1 sc2 c.in_ok-size.ensures.names c.in_ok-declare_stmt.ensures c.loop-stmt.invariant.kept;
    }

pub for_size-returns-clause-size : goal.for_size-returns-clause-size
for_size-returns-clause-size t c =
    for-size (option_map small_of c.args.first.now) (option_map tree_of c.args.condition.now) (option_map small_of c.args.step.now) (stmt_of c.args.inner.now) c.args.scope.now c.declare_small.new.scope c.stmt_size.new.scope
    c.small_size-first_part.result c.condition_size-test.result c.in_ok-body.body c.small_size-last_part.result c.for_sum.result c.in_ok-declare_small.ensures c.in_ok-body.ensures.names c.small_size-first_part.ensures c.condition_size-test.ensures
    c.in_ok-body.ensures.size c.small_size-last_part.ensures c.for_sum.ensures

pub cases_size-loop-case-preserved : goal.cases_size-loop-case-preserved
cases_size-loop-case-preserved t c = record {
  most = omega arith;
  so_far = cases-next c.args.cases.now c.loop-case.case-index c.case-item.result c.as_slice.result.now c.loop-case.scope c.args.scope.now c.loop-case.sum c.in_ok-size.size c.saturating_add-sum.result _ (omega arith) c.case-item.is c.as_slice.ensures c.loop-case.invariant.same c.in_ok-size.ensures.size
      c.saturating_add-sum.ensures c.loop-case.invariant.so_far;
  same = c.in_ok-size.ensures.names ∙ c.loop-case.invariant.same;
}
