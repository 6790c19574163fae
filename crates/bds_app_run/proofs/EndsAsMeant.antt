-- Behind which step the job of a script ends.
use Rattle.std.proofs.Common.{◌≡◌, ◌++◌, ℕ, List, [], ◌∷◌, Result, Ok, Err, refl, subst}
use Rattle.std.specs.Prelude.{◌≢◌}
use Rattle.bds_host.specs.declared.asks.Ask.{Ask}
use Rattle.bds_host.specs.declared.asks.Ask.TheVariants.{Err as Tells}
use Rattle.bds_host.specs.declared.asks.Reply.{Reply}
use Rattle.bds_host.specs.declared.asks.Reply.TheVariants as reply
use Rattle.bds_host.specs.declared.faults.Fault.{Fault as AFault}
use Rattle.bds_host.specs.Host.{Log, Answered}
use Rattle.bds_host.specs.Message.{message_of}
use Rattle.bds_meaning.specs.Begin.{Job, JobEnd, ran, refused, Stage, Refusing, Running, AtEnd, or_faulting, opens_if, read_gives}
use Rattle.bds_meaning.specs.Begin as begin
use Rattle.bds_meaning.specs.Files.{Files}
use Rattle.bds_meaning.specs.Refusals.{Accepted}
use Rattle.bds_meaning.specs.Run.{Program, Conf, Moves}
use Rattle.bds_schedule.specs.Stages.{End, DeviceFault}
use Rattle.bds_schedule.specs.Steps.{Goes, Asks, Ends, Leads}
use Rattle.bds_app_run.specs.Job.{JobSteps, job_of}
use Rattle.bds_app_run.specs.declared.call.Call.{Call}

-- behind which step an end is there
pub data Last (call : Call) (from : Stage) (before after : Log) : JobEnd → Type 0 where
  of_run : (program : Program) (c : Conf) (e : End) → Leads (JobSteps call) from before (Running program c) after → Moves program c (Ends e) → Last call from before after (ran e)
  of_refusal : (f : AFault) (log : Log) → Leads (JobSteps call) from before (Refusing f) log → after ≡ log ++ (Tells (message_of f), reply.Done) ∷ [] → Last call from before after refused
  of_fault : Last call from before after (ran DeviceFault)

module _ (call : Call) (from : Stage) (before : Log) where
  abbrev L : Log → JobEnd → Type 0
  L after e = Last call from before after e

  not_opened : (job : Job) (r : Result Accepted AFault) (e : JobEnd) → opens_if job r ≢ AtEnd e
  not_opened job (Ok r) e q = cc q
  not_opened job (Err f) e q = cc q

  goes_last : (s t : Stage) (log : Log) (e : JobEnd) → Leads (JobSteps call) from before s log → JobSteps call s (Goes t) → t ≡ AtEnd e → L log e
  goes_last s t log e l (begin.Steps.long_path files next is long) q = absurd (cc q)
  goes_last s t log e l (begin.Steps.flawed files p text flaw f has told) q = absurd (cc q)
  goes_last s t log e l (begin.Steps.whole files program beyond is paths) q = absurd (not_opened (job_of call) _ e q)
  goes_last s t log e l (begin.Steps.run_goes program c d m) q = absurd (cc q)
  goes_last s t log e l (begin.Steps.run_ends program c x m) q = let same : ran x ≡ e = cc q in subst (λ z. L log z) same (Last.of_run program c x l m)

  refusal_last : (f : AFault) (log after : Log) (r : Reply) (e : JobEnd) → Leads (JobSteps call) from before (Refusing f) log → Answered log after (Tells (message_of f)) r → or_faulting (AtEnd refused) r ≡ AtEnd e → L after e
  refusal_last f log after reply.Done e l a q = let same : refused ≡ e = cc q in subst (λ z. L after z) same (Last.of_refusal f log l a.grown)
  refusal_last f log after reply.Fault e l a q = absurd (cc q)
  refusal_last f log after reply.NoRoom e l a q = absurd (a.told refl)
  refusal_last f log after (reply.Bytes text) e l a q = absurd (let no = a.fitting in cc no)
  refusal_last f log after reply.Missing e l a q = absurd (let no = a.fitting in cc no)
  refusal_last f log after (reply.Stamp there size time) e l a q = absurd (let no = a.fitting in cc no)
  refusal_last f log after (reply.SysDone code out) e l a q = absurd (let no = a.fitting in cc no)
  refusal_last f log after reply.Started e l a q = absurd (let no = a.fitting in cc no)
  refusal_last f log after (reply.Run k) e l a q = absurd (let no = a.fitting in cc no)
  refusal_last f log after (reply.Ended n code) e l a q = absurd (let no = a.fitting in cc no)

  not_read : (files : Files) (file : List ℕ) (r : Reply) (e : JobEnd) → read_gives files file r ≢ AtEnd e
  not_read files file (reply.Bytes text) e q = cc q
  not_read files file reply.Missing e q = cc q
  not_read files file (reply.Stamp there size time) e q = cc q
  not_read files file reply.Done e q = cc q
  not_read files file (reply.SysDone code out) e q = cc q
  not_read files file reply.Started e q = cc q
  not_read files file (reply.Run k) e q = cc q
  not_read files file (reply.Ended n code) e q = cc q
  not_read files file reply.Fault e q = cc q
  not_read files file reply.NoRoom e q = cc q

  asks_last : (s : Stage) (log after : Log) (a : Ask) (next : Reply → Stage) (r : Reply) (e : JobEnd) → Leads (JobSteps call) from before s log → JobSteps call s (Asks a next) → Answered log after a r → next r ≡ AtEnd e → L after e
  asks_last s log after a next r e l (begin.Steps.reads files file is short) answered q = absurd (not_read files file r e q)
  asks_last s log after a next r e l (begin.Steps.run_asks program c _ go m) answered q = absurd (cc q)
  asks_last s log after a next r e l (begin.Steps.refuses f) answered q = refusal_last f log after r e l answered q
  asks_last s log after a next r e l begin.Steps.faults answered q = let same : ran DeviceFault ≡ e = cc q in subst (λ z. L after z) same Last.of_fault

  pub last_at : (s : Stage) (after : Log) (e : JobEnd) → Leads (JobSteps call) from before s after → s ≡ AtEnd e → from ≢ AtEnd e → L after e
  last_at s after e Leads.here q other = absurd (other q)
  last_at s after e (Leads.goes u _ _ there step) q other = goes_last u s after e there step q
  last_at s after e (Leads.asks u mid _ a next r there step answered) q other = asks_last u mid after a next r e there step answered q
