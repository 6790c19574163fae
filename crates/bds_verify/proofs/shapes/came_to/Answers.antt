use Rattle.bds_verify.proofs.ShapeLaws.{next_comes}
use Rattle.bds_verify.proofs.shapes.came_to.Goals as goal

pub loop-at-preserved : goal.loop-at-preserved
loop-at-preserved c = next_comes c.args.unit.now c.args.function.now c.loop-at.at c.loop-at.come c.in_ok-come.come
    c.loop-at.invariant c.in_ok-come.ensures
