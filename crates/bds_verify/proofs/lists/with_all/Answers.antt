use Rattle.bds_verify.proofs.NodeLaws.{leads_further}
use Rattle.bds_verify.proofs.lists.with_all.Goals as goal

pub loop-ty-preserved : goal.loop-ty-preserved
loop-ty-preserved c =
    let l = c.loop-ty in
    leads_further c.args.lists.now.nodes l.lists.nodes c.with_one.new.lists.nodes c.args.number l.last c.in_ok-last.last
    l.ty-index c.args.types.now c.ty-item.result
    c.loop-ty-test.true c.ty-item.is l.invariant c.in_ok-last.ensures
