use Rattle.std.proofs.Common.{◌≡◌, length}
use Rattle.bds_check_words.specs.Answers.{joined}
use Rattle.bds_check_words.specs.WordSettings.{words_give}
use Rattle.bds_check_words.proofs.reading.put_words.Given as goal

abbrev pub invariant-loop-rest : goal.invariant-loop-rest
invariant-loop-rest l = joined l.initial.preset (words_give l.globals l.words) ≡ joined l.preset (words_give l.globals l.rest)

abbrev pub decreases-loop-rest : goal.decreases-loop-rest
decreases-loop-rest l = length l.rest
