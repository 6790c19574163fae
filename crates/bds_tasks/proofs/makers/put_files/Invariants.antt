use Rattle.std.proofs.Common.{take}
use Rattle.bds_tasks.specs.Makers.{HaveOne}
use Rattle.bds_tasks.proofs.makers.put_files.Given as goal

abbrev pub invariant-loop-file : goal.invariant-loop-file
invariant-loop-file l = HaveOne l.tasks (take l.file-index l.files) l.n l.fn.makers.entries l.makers.entries
