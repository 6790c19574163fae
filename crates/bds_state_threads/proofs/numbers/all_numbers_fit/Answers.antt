use Rattle.std.proofs.Common.{subst}
use Rattle.std.specs.List.{All}
use Rattle.std.proofs.lemmas.List.{take_all}
use Rattle.std.proofs.lemmas.List.Elements.{All-more}
use Rattle.bds_value.specs.Fields.{NumbersFit}
use Rattle.bds_state_threads.proofs.numbers.all_numbers_fit.Goals as goal

pub loop-value-preserved : goal.loop-value-preserved
loop-value-preserved c =
    All-more NumbersFit c.args.values.now c.loop-value.value-index c.value-item.result c.loop-value-test.true c.loop-value.invariant (subst NumbersFit c.value-item.is c.numbers_fit.ensures)

pub returns : goal.returns
returns c = subst (All NumbersFit) (take_all c.loop-value.value-index c.args.values.now c.loop-value-test.false) c.loop-value.invariant
