use Rattle.std.proofs.Common.{refl, subst}
use Rattle.bds_host.specs.declared.asks.Reply.{Reply}
use Rattle.bds_host.specs.declared.asks.Reply.TheVariants as reply
use Rattle.bds_host.specs.Host.{Answered}
use Rattle.bds_machine.specs.declared.point.Point.TheVariants as point
use Rattle.bds_engine.proofs.Contacting.{ask_faulted, ask_halts, contact_asks, contact_gives, nothing_gives, nothing_request}
use Rattle.bds_engine.proofs.contacts.told.Goals as goal

pub returns-in_err-ask : goal.returns-in_err-ask
returns-in_err-ask g c =
    let log = g.H.Host.log in
    let s = c.args.state.now in
    ask_halts s s c.args.k c.args.thread (point.Asks c.args.ask) c.args.ask (contact_asks s c.args.k c.args.thread c.args.ask c.requires.out (nothing_request s.unit c.args.thread c.args.ask c.requires.nothing)) (log c.args.host.now) (log c.ask.new.self)
    c.in_err-ask.ensures.refused c.from_residual.result c.from_residual.ensures.1

pub returns-in-Done : goal.returns-in-Done
returns-in-Done g c =
    let log = g.H.Host.log in
    let s = c.args.state.now in
    contact_gives s c.args.k c.args.thread c.args.ask c.requires.out (nothing_request s.unit c.args.thread c.args.ask c.requires.nothing) c.hand.new.state (log c.args.host.now) (log c.ask.new.self) reply.Done c.hand.result
    (subst (λ (x : Reply). Answered (log c.args.host.now) (log c.ask.new.self) c.args.ask x) c.in-Done.is c.in_ok-ask.ensures.answered) refl
    (nothing_gives s c.hand.new.state c.args.k c.args.thread c.hand.result c.args.ask c.requires.nothing reply.Done c.hand.ensures)

pub returns-in-Missing : goal.returns-in-Missing
returns-in-Missing g c =
    let log = g.H.Host.log in
    let s = c.args.state.now in
    contact_gives s c.args.k c.args.thread c.args.ask c.requires.out (nothing_request s.unit c.args.thread c.args.ask c.requires.nothing) c.hand-in-Missing.new.state (log c.args.host.now) (log c.ask.new.self) reply.Missing c.hand-in-Missing.result
    (subst (λ (x : Reply). Answered (log c.args.host.now) (log c.ask.new.self) c.args.ask x) c.in-Missing.is c.in_ok-ask.ensures.answered) refl
    (nothing_gives s c.hand-in-Missing.new.state c.args.k c.args.thread c.hand-in-Missing.result c.args.ask c.requires.nothing reply.Missing c.hand-in-Missing.ensures)

pub returns-in-Fault : goal.returns-in-Fault
returns-in-Fault g c =
    let log = g.H.Host.log in
    let s = c.args.state.now in
    ask_faulted s s c.args.k c.args.thread (point.Asks c.args.ask) c.args.ask (contact_asks s c.args.k c.args.thread c.args.ask c.requires.out (nothing_request s.unit c.args.thread c.args.ask c.requires.nothing)) (log c.args.host.now) (log c.ask.new.self)
    (subst (λ (x : Reply). Answered (log c.args.host.now) (log c.ask.new.self) c.args.ask x) c.in-Fault.is c.in_ok-ask.ensures.answered) refl
