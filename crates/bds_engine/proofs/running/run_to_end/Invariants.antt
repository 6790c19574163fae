use Rattle.bds_engine_stages.specs.Steps.{HasCome}
use Rattle.bds_engine.specs.Remaining.{stage_left}
use Rattle.bds_engine.proofs.running.run_to_end.Given as goal

abbrev pub invariant-loop-end : goal.invariant-loop-end
invariant-loop-end g l =
    let log = g.H.Host.log in
    HasCome l.fn.state l.cpus l.ticks (log l.fn.host) l.state l.left l.stage (log l.host)

abbrev pub decreases-loop-end : goal.decreases-loop-end
decreases-loop-end g l = stage_left l.fn.state.unit l.state l.cpus l.left l.stage
