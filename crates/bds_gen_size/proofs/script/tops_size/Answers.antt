use Rattle.std.proofs.Common.{◌≡◌, ◌∙◌, ap, arith}
use Rattle.bds_tree.specs.StmtView.{part_of}
use Rattle.bds_check_size.specs.ScriptSize.{behind_parts}
use Rattle.bds_gen_expr.specs.Scope.{known}
use Rattle.bds_gen_size.specs.Capped.{capped}
use Rattle.bds_check_typing.specs.GivenValues.{set_by}
use Rattle.bds_gen_size.specs.ScriptParts.{tops_size}
use Rattle.bds_gen_size.proofs.ScriptLaws.{tops-next, behind-next, part-locals}
use Rattle.bds_gen_size.proofs.script.tops_size.Goals as goal

pub loop-part-preserved : goal.loop-part-preserved
loop-part-preserved c =
    let xs = c.args.parts.now in
    let x = c.part-item.result in
    let i = c.loop-part.part-index in
    record {
      most = omega arith;
      so_far = tops-next (set_by c.args.settings.now) xs i x c.loop-part.scope c.part_size.new.scope c.loop-part.sum c.in_ok-size.size c.saturating_add-sum.result _ (omega arith) c.part-item.is c.in_ok-size.ensures.size c.saturating_add-sum.ensures c.in_ok-size.ensures.names c.loop-part.invariant.so_far;
      behind = behind-next xs i x c.loop-part.scope c.part_size.new.scope _ (omega arith) c.part-item.is c.in_ok-size.ensures.names c.loop-part.invariant.behind;
      bare = ap (λ s. s.locals) c.in_ok-size.ensures.names ∙ part-locals (part_of x) c.loop-part.scope ∙ c.loop-part.invariant.bare;
    }
