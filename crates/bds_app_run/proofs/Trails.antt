-- What the log holds wherever the steps of a job lead.
use Rattle.std.proofs.Common.{◌≡◌, ◌∙◌, ℕ, List, [], Result, Ok, Err, refl, sym, subst, append-nil}
use Rattle.std.specs.Prelude.{◌≢◌}
use Rattle.bds_host.specs.declared.asks.Ask.{Ask}
use Rattle.bds_host.specs.declared.asks.Ask.TheVariants.{Read, Err as Tells}
use Rattle.bds_host.specs.declared.asks.Reply.{Reply}
use Rattle.bds_host.specs.declared.asks.Reply.TheVariants as reply
use Rattle.bds_host.specs.declared.faults.Fault.{Fault as AFault}
use Rattle.bds_host.specs.Host.{Log, Answered}
use Rattle.bds_host.specs.Message.{message_of}
use Rattle.bds_meaning.specs.Begin.{Job, JobEnd, ran, refused, Stage, Faulting, Running, AtEnd, or_faulting, opens_if, read_gives}
use Rattle.bds_meaning.specs.Files.{Files}
use Rattle.bds_meaning.specs.Refusals.{Accepted}
use Rattle.bds_meaning.specs.Run.{Program, Conf, Moves}
use Rattle.bds_schedule.specs.Stages.{End, Done, Spent, DeviceFault}
use Rattle.bds_schedule.specs.Steps.{Goes, Asks, Ends, Leads}
use Rattle.bds_meaning.specs.Threads.{thread_step}
use Rattle.bds_engine_parts.specs.Run.{FaultIsTold}
use Rattle.bds_engine_parts.proofs.Told.{IsClean, IsFaulted, IsSafe, Trail, View, view, at_clean, asks_clean, goes_clean, faulted_by, grown_by, next_faulted, next_told, safe, told_by}
use Rattle.bds_state.specs.Parts.{Parts}
use Rattle.bds_app_run.specs.Job.{JobSteps, job_of}
use Rattle.bds_app_run.specs.declared.call.Call.{Call}
use Rattle.bds_app_run.specs.Resume.{HoldsState, HoldsNone}
use Rattle.bds_meaning.specs.Begin as begin

-- how the log has grown where a job is so far
abbrev pub JobTrail : Stage → Log → Log → Type 0
JobTrail (Running program c) before after = Trail c.mode before after
JobTrail Faulting before after = IsFaulted before after
JobTrail (AtEnd (ran DeviceFault)) before after = FaultIsTold before after
JobTrail _ before after = IsClean before after

pub opened : (job : Job) (r : Result Accepted AFault) (b log : Log) → IsClean b log → JobTrail (opens_if job r) b log
opened job (Ok r) b log h = h
opened job (Err f) b log h = h

-- behind the read of a file
read_trail : (files : Files) (path : List ℕ) (b log after : Log) (r : Reply) → IsClean b log → Answered log after (Read path) r → JobTrail (read_gives files path r) b after
read_trail files path b log after (reply.Bytes text) h a = grown_by b log after (Read path) (reply.Bytes text) h a.grown refl
read_trail files path b log after reply.Missing h a = grown_by b log after (Read path) reply.Missing h a.grown refl
read_trail files path b log after (reply.Stamp there size time) h a = absurd (let no = a.fitting in cc)
read_trail files path b log after reply.Done h a = absurd (let no = a.fitting in cc)
read_trail files path b log after (reply.SysDone code out) h a = absurd (let no = a.fitting in cc)
read_trail files path b log after reply.Started h a = absurd (let no = a.fitting in cc)
read_trail files path b log after (reply.Run k) h a = absurd (let no = a.fitting in cc)
read_trail files path b log after (reply.Ended n code) h a = absurd (let no = a.fitting in cc)
read_trail files path b log after reply.Fault h a = faulted_by b log after (Read path) h a.grown
read_trail files path b log after reply.NoRoom h a = absurd (a.told refl)

-- behind a refusal
refused_trail : (f : AFault) (b log after : Log) (r : Reply) → IsClean b log → Answered log after (Tells (message_of f)) r → JobTrail (or_faulting (AtEnd refused) r) b after
refused_trail f b log after reply.Done h a = grown_by b log after (Tells (message_of f)) reply.Done h a.grown refl
refused_trail f b log after reply.Fault h a = faulted_by b log after (Tells (message_of f)) h a.grown
refused_trail f b log after reply.NoRoom h a = absurd (a.told refl)
refused_trail f b log after (reply.Bytes text) h a = absurd (let no = a.fitting in cc)
refused_trail f b log after reply.Missing h a = absurd (let no = a.fitting in cc)
refused_trail f b log after (reply.Stamp there size time) h a = absurd (let no = a.fitting in cc)
refused_trail f b log after (reply.SysDone code out) h a = absurd (let no = a.fitting in cc)
refused_trail f b log after reply.Started h a = absurd (let no = a.fitting in cc)
refused_trail f b log after (reply.Run k) h a = absurd (let no = a.fitting in cc)
refused_trail f b log after (reply.Ended n code) h a = absurd (let no = a.fitting in cc)

-- an end of a run
ended_trail : (program : Program) (c : Conf) (e : End) (b log : Log) → View c.mode → Trail c.mode b log → Moves program c (Ends e) → JobTrail (AtEnd (ran e)) b log
ended_trail program c e b log (View.fine f) h m = by e (subst (λ x. IsSafe x) m.1 (safe program.files (λ _. m.0) (thread_step program.functions) c f))
  where
    by : (e : End) → e ≢ DeviceFault → JobTrail (AtEnd (ran e)) b log
    by (Done status) other = at_clean c.mode b log f h
    by Spent other = at_clean c.mode b log f h
    by DeviceFault other = absurd (other refl)
ended_trail program c e b log (View.at_fault is) h m = absurd (let q = next_faulted program.files (λ _. m.0) (thread_step program.functions) c is in let no = m.1 in cc (q, no))
ended_trail program c e b log (View.at_told is) h m =
    let q : Ends DeviceFault ≡ Ends e = sym (next_told program.files (λ _. m.0) (thread_step program.functions) c is) ∙ m.1 in
    let same : DeviceFault ≡ e = cc q in
    subst (λ x. JobTrail (AtEnd (ran x)) b log) same (subst (λ x. Trail x b log) is h)

module _ (call : Call) where
  goes_trail : (s t : Stage) (b log : Log) → JobSteps call s (Goes t) → JobTrail s b log → JobTrail t b log
  goes_trail s t b log (begin.Steps.long_path files next is long) h = h
  goes_trail s t b log (begin.Steps.flawed files p text flaw f has told) h = h
  goes_trail s t b log (begin.Steps.whole files program beyond is paths) h = opened (job_of call) _ b log h
  goes_trail s t b log (begin.Steps.run_goes program c d m) h = goes_clean program.files (λ _. m.0) (thread_step program.functions) c d b log (view c.mode) h m.1
  goes_trail s t b log (begin.Steps.run_ends program c e m) h = ended_trail program c e b log (view c.mode) h m

  asks_trail : (s : Stage) (b log after : Log) (a : Ask) (next : Reply → Stage) (r : Reply) → JobSteps call s (Asks a next) → JobTrail s b log → Answered log after a r → JobTrail (next r) b after
  asks_trail s b log after a next r (begin.Steps.reads files file is short) h answered = read_trail files file b log after r h answered
  asks_trail s b log after a next r (begin.Steps.run_asks program c _ go m) h answered =
      asks_clean program.files (λ _. m.0) (thread_step program.functions) c b log after a go r (view c.mode) h m.1 answered.grown answered.told
  asks_trail s b log after a next r (begin.Steps.refuses f) h answered = refused_trail f b log after r h answered
  asks_trail s b log after a next r begin.Steps.faults h answered = told_by b log after r h answered.grown answered.told

  pub trail : (from : Stage) (b mid : Log) (s : Stage) (log : Log) → JobTrail from b mid → Leads (JobSteps call) from mid s log → JobTrail s b log
  trail from b mid s log first Leads.here = first
  trail from b mid s log first (Leads.goes u _ _ there step) = goes_trail u s b log step (trail from b mid u log first there)
  trail from b mid s log first (Leads.asks u log' _ a next r there step answered) = asks_trail u b log' log a next r step (trail from b mid u log' first there) answered

pub nothing_yet : (log : Log) → IsClean log log
nothing_yet log = record { pairs = []; grown = sym (append-nil log); clean = refl }

-- the read of a file

pub state_clean : (path : List ℕ) (s : Parts) (before log : Log) → HoldsState path s before log → IsClean before log
state_clean path s before log h = grown_by before before log (Read path) (reply.Bytes h.bytes) (nothing_yet before) h.read.grown refl

pub none_clean : (path : List ℕ) (f : AFault) (before log : Log) → HoldsNone path before log f → IsClean before log
none_clean path _ before log (HoldsNone.missing a) = grown_by before before log (Read path) reply.Missing (nothing_yet before) a.grown refl
none_clean path _ before log (HoldsNone.not_loadable bytes a none) = grown_by before before log (Read path) (reply.Bytes bytes) (nothing_yet before) a.grown refl
