use Rattle.bds_code.proofs.MissingLaws.{row_names}
use Rattle.bds_code.proofs.laws.rows_name_what_is_missing.Goals as goal

pub returns : goal.returns
returns c = row_names
