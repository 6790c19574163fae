use Rattle.std.proofs.Common.{◌≡◌, ◌++◌, drop}
use Rattle.bds_gen_size.specs.GivenNames.{names_given}
use Rattle.bds_gen_size.proofs.settings.names_given.Given as goal

abbrev pub invariant-loop-given : goal.invariant-loop-given
invariant-loop-given l = l.names ++ names_given (drop l.given-index l.settings) ≡ names_given l.settings
