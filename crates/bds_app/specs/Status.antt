-- The exit status of each answer.
use Rattle.std.specs.Prelude.{ℕ}
use Rattle.bds_app_run.specs.declared.outcome.Outcome.{Outcome}
use Rattle.bds_app_run.specs.declared.outcome.Outcome.TheVariants.{Ended, Refused, BadFile, Device, Words, NoMemory, Ticks}

abbrev pub status : Outcome → ℕ
status (Ended n) = n
status Refused = 2
status BadFile = 3
status Device = 4
status Words = 5
status NoMemory = 6
status Ticks = 7
