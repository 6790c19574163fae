use Rattle.std.proofs.Common.{arith}
use Rattle.bds_gen_expr.specs.Scope.{types_in}
use Rattle.bds_gen_size.proofs.CaseSize.{labels-next}
use Rattle.bds_gen_size.proofs.stmts.labels_size.Goals as goal

pub loop-case-preserved : goal.loop-case-preserved
loop-case-preserved c = record {
  most = omega arith;
  so_far = labels-next (types_in c.args.scope.now) c.args.cases.now c.loop-case.case-index c.case-item.result c.loop-case.sum c.label_size-size.result c.saturating_add-sum.result _ (omega arith) c.case-item.is c.label_size-size.ensures c.saturating_add-sum.ensures c.loop-case.invariant.so_far;
}
