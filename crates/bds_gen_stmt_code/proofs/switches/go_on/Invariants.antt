use Rattle.std.proofs.Common.{◌≡◌, ◌++◌, drop}
use Rattle.bds_gen_stmt_code.specs.Leaps.{going_on}
use Rattle.bds_gen_stmt_code.proofs.switches.go_on.Given as goal

abbrev pub invariant-loop-leap : goal.invariant-loop-leap
invariant-loop-leap l = l.around ++ going_on (drop l.leap-index l.leaps) ≡ l.fn.around ++ going_on l.leaps
