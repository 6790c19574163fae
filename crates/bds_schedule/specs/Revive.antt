-- A saved configuration that goes on.
use Rattle.std.specs.Prelude.{ℕ, map}
use Rattle.bds_tasks.specs.Tasks.{revived_task}
use Rattle.bds_schedule.specs.Configuration.{Configuration, at_point}

-- each task without a good end waits again with the attempt that it had, no tick is used, and processors and budget are new; all else is as it was
abbrev pub revived : {S : Type 0} → Configuration S → ℕ → ℕ → Configuration S
revived c cpus budget = record { path = c.path; cpus = cpus; budget = budget; used = 0; threads = c.threads; tasks = map revived_task c.tasks; rules = c.rules; mode = at_point }
