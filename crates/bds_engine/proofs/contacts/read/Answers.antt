use Rattle.std.proofs.Common.{List, ℕ, refl, subst}
use Rattle.bds_value.specs.declared.faults.RunFault.TheVariants as run
use Rattle.bds_host.specs.declared.asks.Ask.TheVariants as ask
use Rattle.bds_host.specs.declared.asks.Reply.{Reply}
use Rattle.bds_host.specs.declared.asks.Reply.TheVariants as reply
use Rattle.bds_host.specs.Host.{Answered}
use Rattle.bds_machine.specs.declared.point.Point.TheVariants as point
use Rattle.bds_engine_stages.specs.Held.{FailsSo}
use Rattle.bds_engine.specs.Given.{at_of}
use Rattle.bds_engine.proofs.Contacting.{ask_faulted, ask_halts, contact_asks, contact_gives, halts_so}
use Rattle.bds_engine.proofs.contacts.read.Goals as goal

pub returns-in_err-missing : goal.returns-in_err-missing
returns-in_err-missing g c =
    let s = c.args.state.now in
    halts_so s s c.args.k c.args.thread (point.Asks (ask.Read c.args.path)) (g.H.Host.log c.args.host.now) c.from_residual.result c.from_residual.ensures.1

pub returns-in_err-text : goal.returns-in_err-text
returns-in_err-text g c =
    let log = g.H.Host.log in
    let s = c.args.state.now in
    ask_halts s s c.args.k c.args.thread (point.Asks (ask.Read c.args.path)) (ask.Read c.args.path) (contact_asks s c.args.k c.args.thread (ask.Read c.args.path) c.requires (refl, tt)) (log c.args.host.now) (log c.ask.new.self)
    c.in_err-text.ensures.refused c.from_residual-in_err-text.result c.from_residual-in_err-text.ensures.1

pub returns-in-Bytes : goal.returns-in-Bytes
returns-in-Bytes g c =
    let log = g.H.Host.log in
    let s = c.args.state.now in
    contact_gives s c.args.k c.args.thread (ask.Read c.args.path) c.requires (refl, tt) c.text_given.new.state (log c.args.host.now) (log c.ask.new.self) (reply.Bytes c.in-Bytes.text) c.text_given.result
    (subst (λ (x : Reply). Answered (log c.args.host.now) (log c.ask.new.self) (ask.Read c.args.path) x) c.in-Bytes.is c.in_ok-text.ensures.answered) refl c.text_given.ensures

pub returns-in-Missing : goal.returns-in-Missing
returns-in-Missing g c =
    let log = g.H.Host.log in
    let s = c.args.state.now in
    contact_gives s c.args.k c.args.thread (ask.Read c.args.path) c.requires (refl, tt) s (log c.args.host.now) (log c.ask.new.self) reply.Missing c.breaks.result
    (subst (λ (x : Reply). Answered (log c.args.host.now) (log c.ask.new.self) (ask.Read c.args.path) x) c.in-Missing.is c.in_ok-text.ensures.answered) refl
    (refl, subst (λ (x : List ℕ). FailsSo s (at_of s.unit c.args.thread) (run.NoFile x) c.breaks.result) c.in_ok-missing.ensures c.breaks.ensures)

pub returns-in-Fault : goal.returns-in-Fault
returns-in-Fault g c =
    let log = g.H.Host.log in
    let s = c.args.state.now in
    ask_faulted s s c.args.k c.args.thread (point.Asks (ask.Read c.args.path)) (ask.Read c.args.path) (contact_asks s c.args.k c.args.thread (ask.Read c.args.path) c.requires (refl, tt)) (log c.args.host.now) (log c.ask.new.self)
    (subst (λ (x : Reply). Answered (log c.args.host.now) (log c.ask.new.self) (ask.Read c.args.path) x) c.in-Fault.is c.in_ok-text.ensures.answered) refl
