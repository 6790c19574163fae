use Rattle.bds_code.proofs.InstrFieldLaws.{instr_is_field}
use Rattle.bds_code.proofs.UnitFieldLaws.{unit_is_field}
use Rattle.bds_code.proofs.laws.units_are_read_back.Goals as goal

pub returns-clause-instr : goal.returns-clause-instr
returns-clause-instr c = instr_is_field

pub returns-clause-unit : goal.returns-clause-unit
returns-clause-unit c = unit_is_field
