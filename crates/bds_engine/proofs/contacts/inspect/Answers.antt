use Rattle.std.proofs.Common.{◌≡◌, Some, pos, refl, sym, ap, ◌∙◌, subst}
use Rattle.bds_code.specs.declared.instr.Instr.TheVariants.{FileStamp}
use Rattle.bds_code.specs.declared.unit.Unit.{Unit as CodeUnit}
use Rattle.bds_host.specs.declared.asks.Ask.TheVariants as ask
use Rattle.bds_host.specs.declared.asks.Reply.{Reply}
use Rattle.bds_host.specs.declared.asks.Reply.TheVariants as reply
use Rattle.bds_host.specs.Host.{Answered}
use Rattle.bds_machine.specs.Answers.{AwaitsAnswer, value_of}
use Rattle.bds_machine.specs.declared.point.Point.TheVariants as point
use Rattle.bds_machine.proofs.PointTypes.{stamp-asked}
use Rattle.bds_schedule.specs.Replies.{answer_to, stamp_in}
use Rattle.bds_state.specs.Parts.{Parts}
use Rattle.bds_engine_stages.specs.declared.stage.Stage.TheVariants as stage
use Rattle.bds_engine_stages.specs.Held.{GoesBack}
use Rattle.bds_engine.proofs.Contacting.{ask_faulted, ask_halts, inspect_asks, inspect_gives, question_is}
use Rattle.bds_engine.proofs.Fitting.{stamp_fits}
use Rattle.bds_engine.proofs.contacts.inspect.Goals as goal

pub returns-in_err-there : goal.returns-in_err-there
returns-in_err-there g c =
    let log = g.H.Host.log in
    let s = c.args.state.now in
    ask_halts s s c.args.k c.args.thread (point.Asks (ask.Stamp c.args.path)) (ask.Stamp c.args.path) (inspect_asks s c.args.k c.args.thread c.args.path c.requires) (log c.args.host.now) (log c.ask.new.self)
    c.in_err-there.ensures.refused c.from_residual.result c.from_residual.ensures.1

pub question-question-requires : goal.question-question-requires
question-question-requires g c =
    let same : c.state.inside.unit ≡ c.args.state.now.unit = ap (λ (p : Parts). p.unit) c.state.view_is in
    let asked = stamp-asked c.args.state.now.unit c.args.path c.args.thread c.requires.left in
    let at = subst (λ (u : CodeUnit). (a : AwaitsAnswer u c.args.thread c.requires.left.type) → a.instruction ≡ c.instr_behind.result.now) same (c.instr_behind.ensures c.requires.left.type) c.requires.left.awaits in
    (asked.0, sym at ∙ asked.1)

pub answer-requires-clause-awaits : goal.answer-requires-clause-awaits
answer-requires-clause-awaits g c =
    let same : c.state.inside.unit ≡ c.args.state.now.unit = ap (λ (p : Parts). p.unit) c.state.view_is in
    let at = subst (λ (u : CodeUnit). (a : AwaitsAnswer u c.args.thread c.requires.left.type) → a.instruction ≡ c.instr_behind.result.now) same (c.instr_behind.ensures c.requires.left.type) c.requires.left.awaits in
    stamp_fits c.args.state.now.unit c.args.path c.args.thread c.requires.left c.question-question.result (at ∙ c.question-question.ensures)
    (record { there = c.in-Stamp.there; size = c.in-Stamp.size; time = pos 0 }) (value_of c.answer_to-given.result) (c.answer_to-given.ensures (pos 0))

pub returns-in-Stamp : goal.returns-in-Stamp
returns-in-Stamp g c =
    let log = g.H.Host.log in
    let s = c.args.state.now in
    let same : c.state.inside.unit ≡ c.args.state.now.unit = ap (λ (p : Parts). p.unit) c.state.view_is in
    let at = subst (λ (u : CodeUnit). (a : AwaitsAnswer u c.args.thread c.requires.left.type) → a.instruction ≡ c.instr_behind.result.now) same (c.instr_behind.ensures c.requires.left.type) c.requires.left.awaits in
    let q = question_is s c.args.k c.args.thread c.args.path c.requires c.requires.left.type c.requires.left.awaits (FileStamp c.question-question.result) (at ∙ c.question-question.ensures) in
    let r : Reply = reply.Stamp c.in-Stamp.there c.in-Stamp.size c.in-Stamp.time in
    let v = c.answer_to-given.ensures c.in-Stamp.time ∙ ap (λ x. Some (answer_to x (stamp_in r))) (sym q) in
    inspect_gives s c.args.k c.args.thread c.args.path c.requires c.answer.new.state (log c.args.host.now) (log c.ask.new.self) r c.answer.result
    (subst (λ (x : Reply). Answered (log c.args.host.now) (log c.ask.new.self) (ask.Stamp c.args.path) x) c.in-Stamp.is c.in_ok-there.ensures.answered) refl
    (subst (λ x. GoesBack c.args.k x c.args.thread s c.answer.new.state (stage.Turn c.args.k) c.answer.result) v c.answer.ensures)

pub returns-in-Fault : goal.returns-in-Fault
returns-in-Fault g c =
    let log = g.H.Host.log in
    let s = c.args.state.now in
    ask_faulted s s c.args.k c.args.thread (point.Asks (ask.Stamp c.args.path)) (ask.Stamp c.args.path) (inspect_asks s c.args.k c.args.thread c.args.path c.requires) (log c.args.host.now) (log c.ask.new.self)
    (subst (λ (x : Reply). Answered (log c.args.host.now) (log c.ask.new.self) (ask.Stamp c.args.path) x) c.in-Fault.is c.in_ok-there.ensures.answered) refl
