use Rattle.std.proofs.Common.{◌≡◌, drop, map}
use Rattle.std.specs.List.{list_any}
use Rattle.bds_tree.specs.StmtView.{part_of}
use Rattle.bds_check_typing.specs.Program.{is_include}
use Rattle.bds_check.proofs.includes.any_include.Given as goal

abbrev pub invariant-loop-part : goal.invariant-loop-part
invariant-loop-part l = list_any is_include (map part_of (drop l.part-index l.parts)) ≡ list_any is_include (map part_of l.parts)
