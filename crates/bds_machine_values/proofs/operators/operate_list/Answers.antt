use Rattle.bds_machine_values.proofs.Applied.{item_added}
use Rattle.bds_machine_values.proofs.operators.operate_list.Goals as goal

pub returns-in-ListAdd : goal.returns-in-ListAdd
returns-in-ListAdd c = item_added c.args.op c.args.ty c.args.items c.args.right c.append_item.result c.in-ListAdd.is c.requires c.append_item.ensures
