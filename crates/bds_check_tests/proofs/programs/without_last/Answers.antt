use Rattle.bds_check_tests.proofs.TestPrograms.{last_away}
use Rattle.bds_check_tests.proofs.programs.without_last.Goals as goal

pub returns : goal.returns
returns c = λ ps p whole.
    last_away c.args.parts.now c.pop.new.self c.pop.result ps p c.pop.ensures.items c.pop.ensures.some.1 whole
