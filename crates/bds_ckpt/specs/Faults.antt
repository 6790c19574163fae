-- For private contracts alone: how the faults of fields, units and states are called here.
use Rattle.bds_value.specs.declared.faults.FieldFault.{FieldFault}
use Rattle.bds_value.specs.declared.faults.FieldFault.TheVariants as field
use Rattle.bds_verify.specs.declared.units.VerifyFault.{VerifyFault}
use Rattle.bds_verify.specs.declared.units.VerifyFault.TheVariants as unit
use Rattle.bds_state.specs.declared.judge.StateFault.{StateFault}
use Rattle.bds_state.specs.declared.judge.StateFault.TheVariants as state
use Rattle.bds_ckpt.specs.declared.fault.LoadFault.{LoadFault}
use Rattle.bds_ckpt.specs.declared.fault.LoadFault.TheVariants.{Short, BadTag, BadNumber, NotRising, Unverified, BadThread, BadFrame, BadTask, BadRule, NoMemory}

abbrev pub of_field : FieldFault → LoadFault
of_field (field.Short at) = Short at
of_field (field.BadTag at byte) = BadTag at byte
of_field (field.BadNumber at n) = BadNumber at n
of_field (field.NotRising at) = NotRising at
of_field field.NoMemory = NoMemory

abbrev pub of_unit : VerifyFault → LoadFault
of_unit (unit.Bad function at kind) = Unverified function at
of_unit unit.NoMemory = NoMemory

abbrev pub of_state : StateFault → LoadFault
of_state (state.BadThread n) = BadThread n
of_state (state.BadFrame n i) = BadFrame n i
of_state (state.BadTask n) = BadTask n
of_state (state.BadRule n) = BadRule n
of_state state.NoMemory = NoMemory
