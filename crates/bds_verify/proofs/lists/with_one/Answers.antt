use Rattle.bds_verify.proofs.NodeLaws.{added_one}
use Rattle.bds_verify.proofs.lists.with_one.Goals as goal

pub returns : goal.returns
returns c = added_one c.args.lists.now.nodes c.add.new.nodes c.in_ok-added.added c.args.number c.args.ty.now
    c.in_ok-added.ensures
