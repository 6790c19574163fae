-- The call that words ask for.
use Rattle.std.proofs.Common.{◌≡◌, ℕ, List, ap, arith}
use Rattle.std.proofs.lemmas.List.Elements.{All-nil}
use Rattle.bds_app_words.specs.Ranges.{IsWithin}
use Rattle.bds_app_words.specs.declared.command.Command.{Command}
use Rattle.bds_app_words.specs.declared.command.Command.TheVariants.{Run, Resume}
use Rattle.bds_app_words.specs.declared.command.Over.{Over}
use Rattle.bds_app_words.specs.declared.command.Over.TheVariants.{Plain}
use Rattle.bds_app_run.specs.declared.call.Call.{Call}
use Rattle.bds_replay.specs.Log.{IsFieldJob}
use Rattle.bds_app.specs.Answers.{call_of, job_of_resume, job_of_run}

called : Call → Command → Call
called other (Run cpus ticks path ws over) = call_of cpus ticks path ws
called other _ = other

over_in : Command → Over
over_in (Run cpus ticks path ws over) = over
over_in _ = Plain

pub run_is : (cpus ticks : ℕ) (path : List ℕ) (ws : List (List ℕ)) (over : Over) (c : Call)
    → Run cpus ticks path ws over ≡ Run c.cpus c.ticks c.path c.words Plain
    → (call_of cpus ticks path ws ≡ c) × (over ≡ Plain)
unfolding called over_in
run_is cpus ticks path ws over c e = (ap (called c) e, ap over_in e)

-- what words ask for may stand in a log
pub field_of_run : (cpus ticks : ℕ) (path : List ℕ) (words : List (List ℕ)) (over : Over)
    → IsWithin (Run cpus ticks path words over) → IsFieldJob (job_of_run cpus ticks path words)
field_of_run cpus ticks path words over w = record { cpus = (w.0.0, w.0.1); ticks = w.0.2; few = w.2; words = w.3 }

pub field_of_resume : (cpus ticks : ℕ) (path : List ℕ) (over : Over) → IsWithin (Resume cpus ticks path over)
    → IsFieldJob (job_of_resume cpus ticks path)
field_of_resume cpus ticks path over w =
    record { cpus = (w.0.0, w.0.1); ticks = w.0.2; few = omega arith; words = All-nil _ }
