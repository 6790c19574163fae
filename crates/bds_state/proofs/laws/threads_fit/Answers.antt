use Rattle.std.proofs.Common.{subst}
use Rattle.std.specs.List.{All}
use Rattle.std.proofs.lemmas.List.{take_all}
use Rattle.std.proofs.lemmas.List.Elements.{All-more}
use Rattle.bds_state_threads.specs.Numbers.{ThreadFits}
use Rattle.bds_state.proofs.laws.threads_fit.Goals as goal

pub loop-thread-preserved : goal.loop-thread-preserved
loop-thread-preserved c =
    All-more ThreadFits c.args.threads.now c.loop-thread.thread-index c.thread-item.result c.loop-thread-test.true
    c.loop-thread.invariant (subst ThreadFits c.thread-item.is c.thread_fits.ensures)

pub returns : goal.returns
returns c = subst (All ThreadFits) (take_all c.loop-thread.thread-index c.args.threads.now c.loop-thread-test.false)
    c.loop-thread.invariant
