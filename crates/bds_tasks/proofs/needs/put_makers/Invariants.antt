use Rattle.std.proofs.Common.{◌≡◌, ◌++◌, drop}
use Rattle.bds_tasks.specs.Makers.{pending_makers}
use Rattle.bds_tasks.proofs.needs.put_makers.Given as goal

abbrev pub invariant-loop-file : goal.invariant-loop-file
invariant-loop-file l = l.out.items ++ pending_makers l.tasks l.makers.entries (drop l.file-index l.files) ≡ l.fn.out.items ++ pending_makers l.tasks l.makers.entries l.files
