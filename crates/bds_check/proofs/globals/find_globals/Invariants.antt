use Rattle.std.proofs.Common.{◌≡◌, map}
use Rattle.bds_tree.specs.StmtView.{part_of}
use Rattle.bds_check_typing.specs.Program.{heads_of, finding_names, first_globals}
use Rattle.bds_check.proofs.WalkedParts.{Finding}
use Rattle.bds_check.proofs.globals.find_globals.Given as goal

abbrev pub invariant-loop-i : goal.invariant-loop-i
invariant-loop-i l = record {
  functions : l.names.functions ≡ heads_of (map part_of l.fn.parts);
  finding : l.names ≡ finding_names l.names.functions l.names.globals;
  walking : Finding (heads_of (map part_of l.fn.parts)) l.fn.parts first_globals l.i l.parts l.names.globals;
}
