use Rattle.std.proofs.Common.{◌≡◌}
use Rattle.bds_value.specs.declared.ids.Status.TheVariants.{Ready}
use Rattle.bds_verify.specs.Threads.{IsThread}
use Rattle.bds_rows_code.proofs.machine.every.run.Given as goal

abbrev pub invariant-loop : goal.invariant-loop
invariant-loop l = IsThread l.unit l.thread × (l.thread.status ≡ Ready)
