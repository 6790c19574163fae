use Rattle.std.proofs.Common.{◌≡◌, drop}
use Rattle.bds_goal.specs.Due.{first_unmade}
use Rattle.bds_goal.specs.Goals.{stamp_in}
use Rattle.bds_goal.proofs.due.first_unmade.Given as goal

abbrev pub invariant-loop-file : goal.invariant-loop-file
invariant-loop-file l = first_unmade (stamp_in l.files l.stamps) l.tasks l.rules (drop l.file-index l.files) ≡ first_unmade (stamp_in l.files l.stamps) l.tasks l.rules l.files
