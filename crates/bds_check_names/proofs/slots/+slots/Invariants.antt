-- proofs/slots/+slots/Invariants.antt
use Rattle.std.proofs.Common.{◌≡◌, ◌+◌, ◌≤◌, min, drop}
use Rattle.bds_tree.specs.StmtView.{stmts_of, cases_of}
use Rattle.bds_check_names.specs.Slots.{stmts_slots, cases_slots}
use Rattle.bds_check_names.proofs.slots.+slots.Given as goal

abbrev pub invariant-cases_slots-loop-case : goal.invariant-cases_slots-loop-case
invariant-cases_slots-loop-case l = record {
  most : l.sum ≤ 1000000;
  so_far : min (l.sum + cases_slots (cases_of (drop l.case-index l.cases))) 1000000 ≡ min (cases_slots (cases_of l.cases)) 1000000;
}

abbrev pub invariant-stmts_slots-loop-stmt : goal.invariant-stmts_slots-loop-stmt
invariant-stmts_slots-loop-stmt l = record {
  most : l.sum ≤ 1000000;
  so_far : min (l.sum + stmts_slots (stmts_of (drop l.stmt-index l.stmts))) 1000000 ≡ min (stmts_slots (stmts_of l.stmts)) 1000000;
}
