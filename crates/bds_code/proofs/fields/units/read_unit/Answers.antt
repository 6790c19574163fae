use Rattle.std.proofs.Common.{subst}
use Rattle.bds_value.specs.Fields.{AreBytes}
use Rattle.bds_value.proofs.CallLaws.{read_legal}
use Rattle.bds_code.specs.UnitFields.{IsFieldUnit, UnitFits}
use Rattle.bds_code.specs.UnitReading.{unit_at}
use Rattle.bds_code.specs.UnitSpelling.{unit_field}
use Rattle.bds_code.proofs.UnitFieldLaws.{unit_is_field}
use Rattle.bds_code.proofs.fields.units.read_unit.Goals as goal

pub returns-clause-legal : goal.returns-clause-legal
returns-clause-legal c = read_legal unit_at unit_field (λ u. IsFieldUnit u × UnitFits u) unit_is_field.spelled c.args.input.now c.read_parts.new.input c.read_parts.result (subst AreBytes c.as_slice.ensures c.are_bytes.ensures) c.read_parts.ensures.read
