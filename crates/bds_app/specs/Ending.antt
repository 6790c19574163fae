-- What the program ends with.
use Rattle.std.specs.Prelude.{◌≡◌, ◌<◌, ◌⊎◌, drop, ℕ, List}
use Rattle.bds_host.specs.Host.{Log, faults}
use Rattle.bds_app_run.specs.declared.outcome.Outcome.{Outcome}
use Rattle.bds_app_run.specs.declared.outcome.Outcome.TheVariants.{Device, NoMemory}
use Rattle.bds_app.specs.Answers.{Answers}
use Rattle.bds_app.specs.Causes.{Cause}
use Rattle.bds_app.specs.Complete.{AreEndsTold, HasPassedOnly, IsComplete, IsOnly, IsReplayedAgain}
use Rattle.bds_app.specs.FormattedAgain.{IsFormattedAgain, PrintsCanonicalText}
use Rattle.bds_app.specs.Histories.{AreSaved, FarmKeepsHistories, GoesOnFrom}
use Rattle.bds_app.specs.Status.{status}

-- a number is the status of an answer to these words, and what was asked and replied from one log to another is all that
-- belongs to it
pub record EndsWith (words : List (List ℕ)) (before log : Log) (number : ℕ) : Type 0 where
  pub answer : Outcome
  pub meaning : Answers words before log answer
  pub cause : Cause words before log answer
  pub device : faults before < faults log → (answer ≡ Device) ⊎ (answer ≡ NoMemory)
  pub complete : IsComplete words before log answer
  pub one : IsOnly words before log answer
  pub replayed : IsReplayedAgain words before log answer
  pub passes : HasPassedOnly words before log
  pub ends : AreEndsTold words before log
  pub canonical : PrintsCanonicalText words before log answer
  pub again : IsFormattedAgain words before log answer
  pub saved : AreSaved words before log
  pub goes_on : GoesOnFrom words before log answer
  pub farm_keeps : FarmKeepsHistories words before log answer
  pub told : number ≡ status answer

-- a process ends with the status of an answer to some words behind its own name, or nothing was asked and it ends as
-- where memory is wanting
pub data EndsProcess (before log : Log) (number : ℕ) : Type 0 where
  answered : (words : List (List ℕ)) → EndsWith (drop 1 words) before log number → EndsProcess before log number
  no_memory : log ≡ before → number ≡ status NoMemory → EndsProcess before log number
