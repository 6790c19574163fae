use Rattle.std.proofs.Common.{◌≡◌, ◌≤◌, [], take, drop, map}
use Rattle.bds_tree.specs.StmtView.{part_of}
use Rattle.bds_check_typing.specs.Program.{heads_of}
use Rattle.bds_check.proofs.WalkedParts.{PartsWalking}
use Rattle.bds_check.proofs.program.walk_parts.Given as goal

abbrev pub invariant-loop-i : goal.invariant-loop-i
invariant-loop-i l = record {
  all : l.all ≡ l.fn.all;
  within : l.before ≤ l.i;
  behind : drop l.before l.fn.all.functions ≡ heads_of (map part_of (drop l.i l.fn.parts));
  walking : PartsWalking l.fn.all l.fn.parts ([], l.fn.names) l.i l.parts (take l.before l.fn.all.functions, l.names);
}
