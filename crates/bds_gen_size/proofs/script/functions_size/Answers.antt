use Rattle.std.proofs.Common.{◌∙◌, ap, arith}
use Rattle.bds_tree.specs.StmtView.{part_of}
use Rattle.bds_gen_expr.specs.Numbers.{variables_of}
use Rattle.bds_gen_size.specs.Capped.{capped}
use Rattle.bds_gen_size.specs.ScriptParts.{declared_size}
use Rattle.bds_gen_size.proofs.ScriptLaws.{functions-next}
use Rattle.bds_gen_size.proofs.script.functions_size.Goals as goal

pub loop-part-preserved : goal.loop-part-preserved
loop-part-preserved c =
    let x = c.part-item.result in
    record {
      most = omega arith;
      so_far = functions-next c.args.parts.now c.loop-part.part-index x (variables_of c.args.scope.now.globals) c.loop-part.sum c.in_ok-size.size c.saturating_add-sum.result _ (omega arith) c.part-item.is
          (c.in_ok-size.ensures.size ∙ ap (λ s. capped (declared_size (part_of x) (variables_of s.globals))) c.loop-part.invariant.same) c.saturating_add-sum.ensures c.loop-part.invariant.so_far;
      same = c.in_ok-size.ensures.names ∙ c.loop-part.invariant.same;
    }
