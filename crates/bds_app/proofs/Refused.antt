-- A refusal was told last.
use Rattle.std.proofs.Common.{◌≡◌, []}
use Rattle.bds_host.specs.Host.{Log}
use Rattle.bds_host.specs.Message.{message_of}
use Rattle.bds_meaning.specs.Begin.{JobEnd, Reading}
use Rattle.bds_schedule.specs.Stages.{Done, Spent, DeviceFault}
use Rattle.bds_app_run.specs.Commands.{RunsScript, outcome_of}
use Rattle.bds_app_run.specs.declared.call.Call.{Call}
use Rattle.bds_app_run.specs.declared.outcome.Outcome.{Outcome}
use Rattle.bds_app_run.specs.declared.outcome.Outcome.TheVariants.{Refused}
use Rattle.bds_app_run.proofs.EndsAsMeant.{Last}
use Rattle.bds_app_run.proofs.ScriptLaws.{last_of}
use Rattle.bds_app.specs.Answers.{IsRefusal}

module _ (c : Call) (before after : Log) where
  refusal_at : (e : JobEnd) → Last c (Reading []) before after e → outcome_of e ≡ Refused → IsRefusal after
  refusal_at _ (Last.of_run program at (Done status) l m) is = absurd (cc is)
  refusal_at _ (Last.of_run program at Spent l m) is = absurd (cc is)
  refusal_at _ (Last.of_run program at DeviceFault l m) is = absurd (cc is)
  refusal_at _ (Last.of_refusal f log l g) is = record { log = log; text = message_of f; is = g }
  refusal_at _ Last.of_fault is = absurd (cc is)

  pub refused_last : (o : Outcome) → o ≡ Refused → RunsScript c before after o → IsRefusal after
  refused_last _ is (RunsScript.came e l) = refusal_at e (last_of c before after e l) is
  refused_last _ is (RunsScript.no_memory h) = absurd (cc is)
