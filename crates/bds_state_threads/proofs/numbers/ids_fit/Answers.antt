use Rattle.std.proofs.Common.{subst}
use Rattle.std.specs.List.{All}
use Rattle.std.proofs.lemmas.List.{take_all}
use Rattle.std.proofs.lemmas.List.Elements.{All-more}
use Rattle.bds_state_threads.specs.Numbers.{IdFits}
use Rattle.bds_state_threads.proofs.numbers.ids_fit.Goals as goal

pub loop-i-preserved : goal.loop-i-preserved
loop-i-preserved c = All-more IdFits c.args.ids.now c.loop-i.i _ c.loop-i-test.true c.loop-i.invariant c.id_fits.ensures

pub returns : goal.returns
returns c = subst (All IdFits) (take_all c.loop-i.i c.args.ids.now c.loop-i-test.false) c.loop-i.invariant
