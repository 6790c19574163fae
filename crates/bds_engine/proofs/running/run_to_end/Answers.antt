use Rattle.std.proofs.Common.{sym, ◌∙◌}
use Rattle.bds_engine_stages.proofs.Ending.{begun, ends_there, goes_on, halts_there}
use Rattle.bds_engine.proofs.Ranking.{few_rules, step_less}
use Rattle.bds_engine.proofs.running.run_to_end.Goals as goal

pub loop-end-init : goal.loop-end-init
loop-end-init g c = begun c.args.state.now c.args.cpus c.args.ticks (g.H.Host.log c.args.host.now)

pub loop-end-preserved : goal.loop-end-preserved
loop-end-preserved g c =
    let log = g.H.Host.log in
    let h = c.loop-end.invariant in
    goes_on c.args.state.now c.args.cpus c.args.ticks (log c.args.host.now) c.loop-end.state c.step.new.state
    c.loop-end.left c.step.new.left c.loop-end.stage c.in-Ok.next (log c.loop-end.host) (log c.step.new.host) h
    (c.in-Ok.ensures c.args.ticks h.used h.d h.room h.left_is h.is)

pub loop-end-smaller : goal.loop-end-smaller
loop-end-smaller g c =
    let log = g.H.Host.log in
    let h = c.loop-end.invariant in
    step_less c.args.state.now c.args.cpus c.args.ticks (log c.args.host.now) c.is_valid.ensures
    (few_rules c.args.state.now c.is_valid.ensures) c.loop-end.state c.step.new.state c.loop-end.left
    c.step.new.left c.loop-end.stage c.in-Ok.next (log c.loop-end.host) (log c.step.new.host) h
    (c.in-Ok.ensures c.args.ticks h.used h.d h.room h.left_is h.is)

pub step-requires : goal.step-requires
step-requires g c = sym c.end_of.ensures ∙ c.in_default.is

pub returns-in-Some : goal.returns-in-Some
returns-in-Some g c =
    let log = g.H.Host.log in
    ends_there c.args.state.now c.args.cpus c.args.ticks (log c.args.host.now) c.loop-end.state c.loop-end.left
    c.loop-end.stage (log c.loop-end.host) c.in-Some.end c.loop-end.invariant (sym c.end_of.ensures ∙ c.in-Some.is)

pub returns-in-Err : goal.returns-in-Err
returns-in-Err g c =
    let log = g.H.Host.log in
    let h = c.loop-end.invariant in
    halts_there c.args.state.now c.args.cpus c.args.ticks (log c.args.host.now) c.loop-end.state c.step.new.state
    c.loop-end.left c.step.new.left c.loop-end.stage (log c.loop-end.host) (log c.step.new.host) c.in-Err.halt
    c.stop_of.result h (c.in-Err.ensures c.args.ticks h.used h.d h.room h.left_is h.is)
    c.stop_of.ensures.spent c.stop_of.ensures.none
