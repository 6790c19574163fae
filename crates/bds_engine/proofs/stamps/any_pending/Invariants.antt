use Rattle.std.proofs.Common.{◌≡◌, drop}
use Rattle.std.specs.List.{list_any}
use Rattle.bds_tasks.specs.Tasks.{pending_makes}
use Rattle.bds_engine.proofs.stamps.any_pending.Given as goal

abbrev pub invariant-loop-file : goal.invariant-loop-file
invariant-loop-file l = list_any (pending_makes l.tasks) (drop l.file-index l.files) ≡ list_any (pending_makes l.tasks) l.files
