use Rattle.std.proofs.Common.{◌≡◌, ◌++◌, drop, map}
use Rattle.bds_goal.specs.Goals.{stamp_in}
use Rattle.bds_goal.proofs.stamps.stamps_of.Given as goal

abbrev pub invariant-loop-file : goal.invariant-loop-file
invariant-loop-file l = l.found ++ map (stamp_in l.files l.stamps) (drop l.file-index l.some) ≡ map (stamp_in l.files l.stamps) l.some
