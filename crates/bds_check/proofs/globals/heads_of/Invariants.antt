use Rattle.std.proofs.Common.{◌≡◌, ◌++◌, drop, map}
use Rattle.bds_tree.specs.StmtView.{part_of}
use Rattle.bds_check_typing.specs.Program.{heads_of}
use Rattle.bds_check.proofs.globals.heads_of.Given as goal

abbrev pub invariant-loop-part : goal.invariant-loop-part
invariant-loop-part l = l.heads ++ heads_of (map part_of (drop l.part-index l.parts)) ≡ heads_of (map part_of l.parts)
