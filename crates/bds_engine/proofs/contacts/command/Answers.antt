use Rattle.std.proofs.Common.{refl, subst}
use Rattle.bds_host.specs.declared.asks.Ask.TheVariants as ask
use Rattle.bds_host.specs.declared.asks.Reply.{Reply}
use Rattle.bds_host.specs.declared.asks.Reply.TheVariants as reply
use Rattle.bds_host.specs.Host.{Answered}
use Rattle.bds_machine.specs.declared.point.Point.TheVariants as point
use Rattle.bds_engine.proofs.Contacting.{ask_faulted, ask_halts, command_ill, command_well, contact_asks, contact_gives}
use Rattle.bds_engine.proofs.contacts.command.Goals as goal

pub returns-in_err-code : goal.returns-in_err-code
returns-in_err-code g c =
    let log = g.H.Host.log in
    let s = c.args.state.now in
    ask_halts s s c.args.k c.args.thread (point.Asks (ask.Sys c.args.command)) (ask.Sys c.args.command) (contact_asks s c.args.k c.args.thread (ask.Sys c.args.command) c.requires (refl, tt)) (log c.args.host.now) (log c.ask.new.self)
    c.in_err-code.ensures.refused c.from_residual.result c.from_residual.ensures.1

pub returns-then-code-eq0 : goal.returns-then-code-eq0
returns-then-code-eq0 g c =
    let log = g.H.Host.log in
    let s = c.args.state.now in
    contact_gives s c.args.k c.args.thread (ask.Sys c.args.command) c.requires (refl, tt) c.text_given.new.state (log c.args.host.now) (log c.ask.new.self) (reply.SysDone c.in-SysDone.code c.in-SysDone.out) c.text_given.result
    (subst (λ (x : Reply). Answered (log c.args.host.now) (log c.ask.new.self) (ask.Sys c.args.command) x) c.in-SysDone.is c.in_ok-code.ensures.answered) refl
    (command_well s c.text_given.new.state c.args.k c.args.thread c.text_given.result c.in-SysDone.code c.in-SysDone.out c.if-code-eq0.true c.text_given.ensures)

pub returns-else-code-eq0 : goal.returns-else-code-eq0
returns-else-code-eq0 g c =
    let log = g.H.Host.log in
    let s = c.args.state.now in
    contact_gives s c.args.k c.args.thread (ask.Sys c.args.command) c.requires (refl, tt) s (log c.args.host.now) (log c.ask.new.self) (reply.SysDone c.in-SysDone.code c.in-SysDone.out) c.breaks.result
    (subst (λ (x : Reply). Answered (log c.args.host.now) (log c.ask.new.self) (ask.Sys c.args.command) x) c.in-SysDone.is c.in_ok-code.ensures.answered) refl
    (command_ill s s c.args.k c.args.thread c.breaks.result c.in-SysDone.code c.in-SysDone.out c.if-code-eq0.false (refl, c.breaks.ensures))

pub returns-in-Fault : goal.returns-in-Fault
returns-in-Fault g c =
    let log = g.H.Host.log in
    let s = c.args.state.now in
    ask_faulted s s c.args.k c.args.thread (point.Asks (ask.Sys c.args.command)) (ask.Sys c.args.command) (contact_asks s c.args.k c.args.thread (ask.Sys c.args.command) c.requires (refl, tt)) (log c.args.host.now) (log c.ask.new.self)
    (subst (λ (x : Reply). Answered (log c.args.host.now) (log c.ask.new.self) (ask.Sys c.args.command) x) c.in-Fault.is c.in_ok-code.ensures.answered) refl
