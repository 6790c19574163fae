use Rattle.std.proofs.Common.{◌≡◌, ◌≤◌, drop, length}
use Rattle.bds_gen_stmt_code.specs.Leaps.{led_out}
use Rattle.bds_gen_stmt_code.proofs.switches.lead_out.Given as goal

abbrev pub invariant-loop-i : goal.invariant-loop-i
invariant-loop-i l = (l.function ≡ led_out l.end (drop l.i l.leaps) l.fn.function) × (l.i ≤ length l.leaps)
