use Rattle.std.proofs.Common.{Err, subst}
use Rattle.bds_state.specs.Parts.{Parts}
use Rattle.bds_engine_stages.specs.declared.stage.Stage.TheVariants as stage
use Rattle.bds_engine_stages.specs.Steps.{Leads_to, StepsWithin}
use Rattle.bds_engine_stages.specs.declared.stop.Halt.TheVariants as halt
use Rattle.bds_engine.proofs.Turning.{halts_within, none_turns, turn_is}
use Rattle.bds_engine.proofs.turns.turn.Goals as goal

pub returns-in-Ok-Runs : goal.returns-in-Ok-Runs
returns-in-Ok-Runs g c = λ cpus budget used d room e at.
    let log = g.H.Host.log in
    let s : Parts = c.args.state.now in
    subst (λ z. StepsWithin s cpus budget z (log c.args.host.now) (log c.run.new.host) c.run.new.state c.run.new.left c.run.result) (turn_is s cpus budget used c.args.k d at)
    (c.run.ensures cpus budget used room e)

pub returns-in-Ok-Waits : goal.returns-in-Ok-Waits
returns-in-Ok-Waits g c = λ cpus budget used d room e at.
    let log = g.H.Host.log in
    let s : Parts = c.args.state.now in
    record { used = used; room = room; left_is = e; reaches = subst (λ z. Leads_to s cpus budget z (log c.args.host.now) (log c.args.host.now) c.over.new.state used c.over.result) (turn_is s cpus budget used c.args.k d at) (c.over.ensures cpus budget used (log c.args.host.now)) }

pub returns-in-Ok-Ended : goal.returns-in-Ok-Ended
returns-in-Ok-Ended g c = λ cpus budget used d room e at.
    let log = g.H.Host.log in
    let s : Parts = c.args.state.now in
    record { used = used; room = room; left_is = e; reaches = subst (λ z. Leads_to s cpus budget z (log c.args.host.now) (log c.args.host.now) s used stage.Point) (turn_is s cpus budget used c.args.k d at) (none_turns s cpus budget used c.args.k (log c.args.host.now) (rw c.in-Ok-Ended.field-0-is at c.in-Ok-Ended.ensures)) }

pub returns-in-Err : goal.returns-in-Err
returns-in-Err g c = λ cpus budget used d room e at.
    let log = g.H.Host.log in
    let s : Parts = c.args.state.now in
    subst (λ z. StepsWithin s cpus budget z (log c.args.host.now) (log c.args.host.now) s c.args.left.now (Err halt.NoMemory)) (turn_is s cpus budget used c.args.k d at)
    (halts_within s cpus budget used c.args.k room s c.args.left.now (log c.args.host.now))
