use Rattle.std.proofs.Common.{ℕ, ◌≤◌, Option, drop}
use Rattle.bds_farm.specs.Farm.{Halfway, line_at}
use Rattle.bds_farm.proofs.learning.learn_text.Given as goal

abbrev pub invariant-loop-i : goal.invariant-loop-i
invariant-loop-i l = record {
  within : l.start ≤ l.i;
  learnt : (last : Option ℕ)
      → Halfway (record { last = last; open_ends = l.fn.open_ends.items; ends = l.fn.ends.items }) l.text
      (line_at l.text l.start l.i) (drop l.i l.text)
      (record { last = last; open_ends = l.open_ends.items; ends = l.ends.items });
}
