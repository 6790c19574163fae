use Rattle.std.proofs.Common.{◌≡◌, ◌∙◌, sym, subst, true}
use Rattle.std.proofs.lemmas.Option.{slice_get_within}
use Rattle.bds_code_frames.specs.declared.thread.Thread.{Thread}
use Rattle.bds_machine.specs.Answers.{IsAtRest, IsLeft, is_awaited}
use Rattle.bds_machine.specs.declared.point.Point.{Point}
use Rattle.bds_machine.specs.Running.{ComesTo}
use Rattle.bds_state.specs.Parts.{Parts}
use Rattle.bds_verify.specs.Threads.{IsThread}
use Rattle.bds_engine.proofs.Turning.{halts_within, place_of_taken, runs_within, takes_ready, takes_valid}
use Rattle.bds_engine.proofs.turns.run.Goals as goal

pub take-thread-requires : goal.take-thread-requires
take-thread-requires g c = slice_get_within c.args.state.now.threads c.args.k c.requires.thread c.requires.there

pub run_to_point-requires-clause-valid : goal.run_to_point-requires-clause-valid
run_to_point-requires-clause-valid g c =
    subst (λ (p : Parts). IsThread p.unit c.take-thread.result) (sym c.state.view_is)
    (takes_valid c.args.state.now c.take-thread.new.state c.args.k c.take-thread.result c.is_valid.ensures c.take-thread.ensures)

pub run_to_point-requires-clause-ready : goal.run_to_point-requires-clause-ready
run_to_point-requires-clause-ready g c = takes_ready c.args.state.now c.take-thread.new.state c.args.k c.take-thread.result c.requires c.take-thread.ensures

pub request-requires : goal.request-requires
request-requires g c =
    let s : Parts = c.take-thread.new.state in
    let p : Point = c.in-Ok.point in
    let to : Thread = c.run_to_point.new.thread in
    record {
      place = place_of_taken c.args.state.now s c.args.k c.take-thread.result to c.take-thread.ensures c.in-Ok.ensures.run.parent;
      ready = c.in-Ok.ensures.run.status ∙ takes_ready c.args.state.now s c.args.k c.take-thread.result c.requires c.take-thread.ensures;
      left = subst (λ (q : Parts). is_awaited p ≡ true → IsLeft q.unit p to) c.state.view_is c.in-Ok.ensures.left;
      rest = subst (λ (q : Parts). IsAtRest q.unit p to) c.state.view_is c.in-Ok.ensures.rest;
    }

pub returns-in-Ok : goal.returns-in-Ok
returns-in-Ok g c = λ cpus budget used room e.
    let log = g.H.Host.log in
    let s : Parts = c.args.state.now in
    let t : Thread = c.take-thread.result in
    let to : Thread = c.run_to_point.new.thread in
    runs_within s cpus budget used c.args.k c.take-thread.new.state t to c.take-thread.ensures (log c.args.host.now) (log c.request.new.host) c.request.new.state c.run_to_point.new.ticks c.request.result room
    c.is_valid.ensures (takes_ready s c.take-thread.new.state c.args.k t c.requires c.take-thread.ensures) c.args.left.now e c.in-Ok.point
    (subst (λ (q : Parts). ComesTo q.unit t c.args.left.now c.in-Ok.point to c.run_to_point.new.ticks) (c.state.view_is ∙ c.take-thread.ensures.parts) c.in-Ok.ensures.run) c.request.ensures

pub returns-in-Err : goal.returns-in-Err
returns-in-Err g c = λ cpus budget used room e. halts_within c.args.state.now cpus budget used c.args.k room c.take-thread.new.state c.run_to_point.new.ticks (g.H.Host.log c.args.host.now)
