use Rattle.std.proofs.Common.{subst}
use Rattle.std.specs.List.{All}
use Rattle.std.proofs.lemmas.List.{take_all}
use Rattle.std.proofs.lemmas.List.Elements.{All-more}
use Rattle.bds_state_threads.proofs.Wide.{LabelFits}
use Rattle.bds_state_threads.proofs.units.labels_fit.Goals as goal

pub loop-label-preserved : goal.loop-label-preserved
loop-label-preserved c =
    All-more LabelFits c.args.labels.now c.loop-label.label-index c.label-item.result c.loop-label-test.true c.loop-label.invariant (subst LabelFits c.label-item.is c.number_fits.ensures)

pub returns : goal.returns
returns c = subst (All LabelFits) (take_all c.loop-label.label-index c.args.labels.now c.loop-label-test.false) c.loop-label.invariant
