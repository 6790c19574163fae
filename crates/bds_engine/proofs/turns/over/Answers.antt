use Rattle.std.proofs.Common.{subst}
use Rattle.bds_tasks.specs.declared.task.Waited.{Waited}
use Rattle.bds_tasks.specs.declared.task.Waited.TheVariants.{Not, Well, Failed}
use Rattle.bds_engine.specs.Turn.{WaitsFor}
use Rattle.bds_engine.proofs.Turning.{wait_ends, wait_fails, waits_still, waits_there}
use Rattle.bds_engine.proofs.turns.over.Goals as goal

pub wake-requires : goal.wake-requires
wake-requires c = waits_there c.args.state.now c.args.k c.args.waited c.requires

pub returns-in-Not : goal.returns-in-Not
returns-in-Not c = λ cpus budget used log. waits_still c.args.state.now cpus budget used c.args.k c.is_valid.ensures (subst (λ (w : Waited). WaitsFor c.args.state.now c.args.k w) c.in-Not.is c.requires) log

pub returns-in-Well : goal.returns-in-Well
returns-in-Well c = λ cpus budget used log.
    wait_ends c.args.state.now cpus budget used c.args.k c.is_valid.ensures (subst (λ (w : Waited). WaitsFor c.args.state.now c.args.k w) c.in-Well.is c.requires) c.wake.new.state c.wake.result c.wake.ensures log

pub returns-in-Failed : goal.returns-in-Failed
returns-in-Failed c = λ cpus budget used log.
    wait_fails c.args.state.now cpus budget used c.args.k c.is_valid.ensures c.in-Failed.n c.in-Failed.code (subst (λ (w : Waited). WaitsFor c.args.state.now c.args.k w) c.in-Failed.is c.requires) log
