use Rattle.std.proofs.Common.{◌≡◌, ◌≤◌, take}
use Rattle.bds_check_typing.specs.Files.{folder}
use Rattle.bds_front.proofs.paths.folder_length.Given as goal

abbrev pub invariant-loop-i : goal.invariant-loop-i
invariant-loop-i l = (l.end ≤ l.i) × (take l.end l.path ≡ folder (take l.i l.path))
