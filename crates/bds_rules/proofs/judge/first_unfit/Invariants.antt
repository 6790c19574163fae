use Rattle.bds_rules.proofs.IndexLaws.{Judged}
use Rattle.bds_rules.proofs.judge.first_unfit.Given as goal

abbrev pub invariant-loop-i : goal.invariant-loop-i
invariant-loop-i l = Judged l.rules l.i l.makers.entries
