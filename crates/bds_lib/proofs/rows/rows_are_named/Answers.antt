use Rattle.bds_lib.proofs.RowLaws.{method_known, row_named, change_known, change_row_named}
use Rattle.bds_lib.proofs.rows.rows_are_named.Goals as goal

pub returns-clause-method : goal.returns-clause-method
returns-clause-method c = method_known

pub returns-clause-named : goal.returns-clause-named
returns-clause-named c = row_named

pub returns-clause-change : goal.returns-clause-change
returns-clause-change c = change_known

pub returns-clause-change_named : goal.returns-clause-change_named
returns-clause-change_named c = change_row_named
