use Rattle.std.proofs.Common.{Some, sym}
use Rattle.bds_value.specs.Methods.{text_rows, inner_rows}
use Rattle.bds_value.proofs.MethodLaws.{row_in-append}
use Rattle.bds_value.proofs.methods.text_row.Goals as goal

pub returns-in-Some : goal.returns-in-Some
returns-in-Some c = sym (row_in-append text_rows inner_rows c.args.wanted (Some c.in-Some.row) c.in-Some.ensures)
