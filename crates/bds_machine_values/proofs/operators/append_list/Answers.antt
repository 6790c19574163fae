use Rattle.bds_machine_values.proofs.Applied.{list_joined}
use Rattle.bds_machine_values.proofs.operators.append_list.Goals as goal

pub returns : goal.returns
returns c = list_joined c.args.ty c.in-List.field-0 c.args.items c.in-List.more c.args.right c.append_items.result c.in-List.is c.requires c.append_items.ensures
