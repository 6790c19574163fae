-- Faults of values as faults of a run. Want of memory is none: no definition of a result has it.
use Rattle.std.specs.Prelude.{Option, Some, None}
use Rattle.bds_value.specs.declared.faults.OpFault.{OpFault}
use Rattle.bds_value.specs.declared.faults.OpFault.TheVariants as op
use Rattle.bds_value.specs.declared.faults.PutFault.{PutFault}
use Rattle.bds_value.specs.declared.faults.PutFault.TheVariants as put
use Rattle.bds_value.specs.declared.faults.RunFault.{RunFault}
use Rattle.bds_value.specs.declared.faults.RunFault.TheVariants as run

abbrev pub op_fault : OpFault → Option RunFault
op_fault op.ZeroDivisor = Some run.ZeroDivisor
op_fault (op.TooLong n) = Some (run.TooLong n)
op_fault op.NoMemory = None

abbrev pub put_fault : PutFault → Option RunFault
put_fault (put.NoIndex i n) = Some (run.NoIndex i n)
put_fault (put.NoKey k) = Some (run.NoKey k)
put_fault (put.TooLong n) = Some (run.TooLong n)
put_fault put.NoMemory = None
