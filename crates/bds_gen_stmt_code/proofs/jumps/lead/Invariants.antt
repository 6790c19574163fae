use Rattle.std.proofs.Common.{◌≡◌, ◌≤◌, drop, length}
use Rattle.bds_gen_stmt_code.specs.Leaps.{loop_to, led}
use Rattle.bds_gen_stmt_code.proofs.jumps.lead.Given as goal

abbrev pub invariant-loop-i : goal.invariant-loop-i
invariant-loop-i l = (l.function ≡ led (loop_to l.again l.end) (drop l.i l.leaps) l.fn.function) × (l.i ≤ length l.leaps)
