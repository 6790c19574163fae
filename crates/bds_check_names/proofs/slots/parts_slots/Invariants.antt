-- proofs/slots/parts_slots/Invariants.antt
use Rattle.std.proofs.Common.{◌≡◌, ◌+◌, ◌≤◌, min, drop, map}
use Rattle.bds_tree.specs.StmtView.{part_of}
use Rattle.bds_check_names.specs.Slots.{parts_slots}
use Rattle.bds_check_names.proofs.slots.parts_slots.Given as goal

abbrev pub invariant-loop-part : goal.invariant-loop-part
invariant-loop-part l = record {
  most : l.sum ≤ 1000000;
  so_far : min (l.sum + parts_slots (map part_of (drop l.part-index l.parts))) 1000000 ≡ min (parts_slots (map part_of l.parts)) 1000000;
}
