use Rattle.std.proofs.Common.{◌≡◌, ◌++◌, drop, true}
use Rattle.bds_tree.specs.Words.{words}
use Rattle.bds_spell.specs.StmtWords.{parameters_words}
use Rattle.bds_spell.proofs.spell_parts.put_parameters.Given as goal

abbrev pub invariant-loop-parameter : goal.invariant-loop-parameter
invariant-loop-parameter l = words l.out ++ parameters_words l.first (drop l.parameter-index l.parameters) ≡ words l.fn.out ++ parameters_words true l.parameters
