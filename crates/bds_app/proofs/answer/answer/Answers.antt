use Rattle.std.proofs.Common.{◌≡◌, ◌∙◌, Some, None, map, string_bytes, sym, subst}
use Rattle.bds_app_words.specs.Asked.{command_of}
use Rattle.bds_app_words.specs.declared.command.Command.TheVariants.{Run}
use Rattle.bds_app_words.specs.declared.command.Over.TheVariants.{Plain}
use Rattle.bds_app.specs.Answers.{DoesCommand}
use Rattle.bds_app.proofs.Nothing.{nothing_done}
use Rattle.bds_app_run.proofs.Quiet.{nothing_added}
use Rattle.bds_app_run.proofs.Saves.{quiet_call}
use Rattle.bds_app.proofs.answer.answer.Goals as goal

pub returns-in-Ok-clause-answers : goal.returns-in-Ok-clause-answers
returns-in-Ok-clause-answers g c =
    let log = g.H.Host.log in
    subst (λ x. DoesCommand x (log c.args.host) (log c.do_command.result.1) c.do_command.result.0) (sym c.in-Ok.ensures.meaning) c.do_command.ensures.does

pub returns-in-Ok-clause-saved : goal.returns-in-Ok-clause-saved
returns-in-Ok-clause-saved g c = λ call asks.
    let same : Some c.in-Ok.command ≡ Some (Run call.cpus call.ticks call.path call.words Plain) =
    sym c.in-Ok.ensures.meaning ∙ asks in
    c.do_command.ensures.saved call (cc same)

pub returns-in-Err-NotUnderstood-clause-answers : goal.returns-in-Err-NotUnderstood-clause-answers
returns-in-Err-NotUnderstood-clause-answers g c =
    let log = g.H.Host.log in
    subst (λ x. DoesCommand x (log c.args.host) (log c.tell.new.host) c.tell.result) (sym (rw c.in-Err-NotUnderstood.field-0-is at c.in-Err-NotUnderstood.ensures.meaning)) c.tell.ensures

pub returns-in-Err-NoMemory-clause-answers : goal.returns-in-Err-NoMemory-clause-answers
returns-in-Err-NoMemory-clause-answers g c = nothing_done (command_of (map string_bytes c.args.words.now)) _

pub returns-in-Err-NotUnderstood-clause-saved : goal.returns-in-Err-NotUnderstood-clause-saved
returns-in-Err-NotUnderstood-clause-saved g c = λ call asks.
    let none = rw c.in-Err-NotUnderstood.field-0-is at c.in-Err-NotUnderstood.ensures.meaning in
    let same : None ≡ Some (Run call.cpus call.ticks call.path call.words Plain) = sym none ∙ asks in
    absurd (cc same)

pub returns-in-Err-NoMemory-clause-saved : goal.returns-in-Err-NoMemory-clause-saved
returns-in-Err-NoMemory-clause-saved g c = λ call asks. quiet_call call _ _ (nothing_added _)
