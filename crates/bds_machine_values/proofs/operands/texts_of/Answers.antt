use Rattle.bds_machine_values.proofs.Taking.{text_there}
use Rattle.bds_machine_values.proofs.operands.texts_of.Goals as goal

pub text_of_item-requires : goal.text_of_item-requires
text_of_item-requires c =
    let l = c.loop in
    text_there c.args.items l.items c.pop.new.self l.invariant.0.0 c.in-Some.item c.requires l.invariant.0.1 c.in-Some.ensures.items
