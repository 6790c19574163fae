use Rattle.std.proofs.Common.{Some, None, sym, ◌∙◌}
use Rattle.bds_value.specs.declared.value.Ty.{out-Ty}
use Rattle.bds_value.specs.Methods.{list_rows, item_rows}
use Rattle.bds_value.proofs.MethodLaws.{find_row-append}
use Rattle.bds_value.proofs.methods.list_method.Goals as goal

pub returns-in-Some : goal.returns-in-Some
returns-in-Some c =
    sym (find_row-append list_rows (item_rows (out-Ty c.args.item.now)) c.args.name.now c.args.count (Some c.in-Some.row) c.in-Some.ensures)

pub returns-in-None : goal.returns-in-None
returns-in-None c =
    c.item_method.ensures ∙ sym (find_row-append list_rows (item_rows (out-Ty c.args.item.now)) c.args.name.now c.args.count None c.in-None.ensures)
