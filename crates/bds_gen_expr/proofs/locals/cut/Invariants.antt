use Rattle.std.proofs.Common.{◌≡◌, take, length}
use Rattle.bds_gen_expr.proofs.locals.cut.Given as goal

abbrev pub invariant-loop-locals : goal.invariant-loop-locals
invariant-loop-locals l = take l.count l.locals ≡ take l.count l.fn.locals

abbrev pub decreases-loop-locals : goal.decreases-loop-locals
decreases-loop-locals l = length l.locals
