-- Faults of methods as faults of a run. Want of memory is none: no definition of a result has it.
use Rattle.std.specs.Prelude.{Option, Some, None}
use Rattle.bds_value.specs.declared.faults.RunFault.{RunFault}
use Rattle.bds_value.specs.declared.faults.RunFault.TheVariants as run
use Rattle.bds_lib.specs.declared.faults.LibFault.{LibFault}
use Rattle.bds_lib.specs.declared.faults.LibFault.TheVariants as lib

abbrev pub lib_fault : LibFault → Option RunFault
lib_fault (lib.NoIndex i n) = Some (run.NoIndex i n)
lib_fault (lib.TooLong n) = Some (run.TooLong n)
lib_fault (lib.NotANumber t) = Some (run.NotANumber t)
lib_fault lib.NoMemory = None
