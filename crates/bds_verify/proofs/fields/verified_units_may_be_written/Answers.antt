use Rattle.bds_verify.proofs.FieldUnits.{field-unit}
use Rattle.bds_verify.proofs.fields.verified_units_may_be_written.Goals as goal

pub returns : goal.returns
returns c = field-unit
