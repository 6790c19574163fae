use Rattle.std.proofs.Common.{◌≡◌, ◌++◌, drop}
use Rattle.bds_goal.specs.Marks.{cut, cut_where}
use Rattle.bds_goal.proofs.order.cut.Given as goal

abbrev pub invariant-loop-m : goal.invariant-loop-m
invariant-loop-m l = l.rest ++ cut_where l.found l.n (drop l.m-index l.numbers) ≡ cut l.n l.numbers
