-- Whether a reply of a job was a fault.
use Rattle.std.proofs.Common.{◌≡◌, ◌≢◌, ◌∙◌, ◌+◌, ◌⊎◌, inl, inr, append_assoc, ℕ, List, [], ◌∷◌, ◌++◌, Bool, true}
use Rattle.std.proofs.Common.{false, Result, Ok, Err, ap, sym, refl, subst, arith}
use Rattle.std.specs.List.{All}
use Rattle.std.proofs.lemmas.List.Elements.{All-cons, All-head, All-nil, All-tail}
use Rattle.bds_host.specs.declared.asks.Ask.{Ask}
use Rattle.bds_host.specs.declared.asks.Ask.TheVariants.{Read, Err as Tells}
use Rattle.bds_host.specs.declared.asks.Reply.{Reply}
use Rattle.bds_host.specs.declared.asks.Reply.TheVariants as reply
use Rattle.bds_host.specs.declared.asks.Reply.TheVariants.{NoRoom}
use Rattle.bds_host.specs.declared.faults.Fault.TheVariants as fault
use Rattle.bds_host.specs.Host.{Log, faults, is_fault}
use Rattle.bds_host.specs.Message.{message_of}
use Rattle.bds_host.proofs.Growing.{faults-append}
use Rattle.bds_meaning.specs.Begin.{AtEnd, JobEnd, Reading, ran, refused}
use Rattle.bds_schedule.specs.Stages.{Done, Spent, DeviceFault}
use Rattle.bds_state.specs.Parts.{Parts}
use Rattle.bds_engine_parts.specs.Seen.{revived_state}
use Rattle.bds_engine_parts.specs.Run.{Causes, FaultIsTold}
use Rattle.bds_engine_parts.specs.declared.stop.RunStop.{RunStop}
use Rattle.bds_engine_parts.specs.declared.stop.RunStop.TheVariants as run_stop
use Rattle.bds_engine_parts.proofs.Told.{IsClean}
use Rattle.bds_replay.specs.Log.{IsGiven, is_given}
use Rattle.bds_replay.specs.Recorded.{replies_of}
use Rattle.bds_replay.specs.declared.log.Job.{Job}
use Rattle.bds_app_run.specs.Commands.{OpensFile, ResumesFile, RunsScript, outcome_of, run_outcome}
use Rattle.bds_app_run.specs.Resume.{GoesOn, HoldsState}
use Rattle.bds_app_run.specs.Telling.{Says}
use Rattle.bds_app_run.specs.declared.call.Call.{Call}
use Rattle.bds_app_run.specs.declared.outcome.Outcome.{Outcome}
use Rattle.bds_app_run.specs.declared.outcome.Outcome.TheVariants.{BadFile, Device, NoMemory}
use Rattle.bds_app_run.specs.Jobs.{DoesAs, DoesJob, call_of}
use Rattle.bds_app_run.proofs.Telling.{Comes, clean_faults, device_comes, done_clean, says_comes}
use Rattle.bds_app_run.proofs.Trails.{JobTrail, none_clean, nothing_yet, state_clean, trail}
use Rattle.bds_app_log.specs.Logged.{is_logged}
use Rattle.bds_app_log.proofs.Again.{IsFit}

abbrev pub EndsHaveCauses : Type 0
EndsHaveCauses = (s : Parts) (cpus budget : ℕ) (before after : Log) → Causes s cpus budget before after

-- there was no memory; no reply was a fault; or one was, and that is told
abbrev pub Settles : Log → Log → Outcome → Type 0
Settles before after o = (o ≡ NoMemory) ⊎
    (((o ≢ Device) × (faults after ≡ faults before)) ⊎ ((o ≡ Device) × FaultIsTold before after))

pub settles_as : (before after : Log) (o o' : Outcome) → o ≡ o' → Settles before after o' → Settles before after o
settles_as before after o o' is h = subst (λ x. Settles before after x) (sym is) h

end_settles : (end : JobEnd) (before after : Log) → JobTrail (AtEnd end) before after
    → Settles before after (outcome_of end)
end_settles (ran (Done status)) before after t = inr (inl ((λ q. cc q), clean_faults before after t))
end_settles (ran Spent) before after t = inr (inl ((λ q. cc q), clean_faults before after t))
end_settles (ran DeviceFault) before after t = inr (inr (refl, t))
end_settles refused before after t = inr (inl ((λ q. cc q), clean_faults before after t))

script_settles : (c : Call) (before after : Log) (o : Outcome) → RunsScript c before after o → Settles before after o
script_settles c before after _ (RunsScript.came end l) =
    end_settles end before after (trail c (Reading []) before before (AtEnd end) after (nothing_yet before) l)
script_settles c before after _ (RunsScript.no_memory h) = inl refl

pub device_settles : (before after : Log) (o : Outcome) → (o ≡ NoMemory) ⊎ ((o ≡ Device) × FaultIsTold before after)
    → Settles before after o
device_settles before after o (inl none) = inl none
device_settles before after o (inr h) = inr (inr h)

-- where an ask was done behind a log without a fault
pub comes_settles : (ask : Ask) (answer : Outcome) (before log after : Log) (o : Outcome) → IsClean before log
    → answer ≢ Device → Comes ask answer before log after o → Settles before after o
comes_settles ask answer before log after o clean other (inl none) = inl none
comes_settles ask answer before log after o clean other (inr (inl h)) =
    inr (inl ((λ q. other (sym h.0 ∙ q)), done_clean log after ask h.1 ∙ clean_faults before log clean))
comes_settles ask answer before log after o clean other (inr (inr h)) = inr (inr h)

pub says_settles : (text : List ℕ) (before log after : Log) (o : Outcome) → IsClean before log
    → Says text BadFile log after o → Settles before after o
says_settles text before log after o clean told =
    comes_settles (Tells text) BadFile before log after o clean (λ q. cc q)
    (says_comes before log clean text BadFile after o told)

-- one reply stands before a fault that was told
told_behind : (before log after : Log) (ask : Ask) (r : Reply) → log ≡ before ++ (ask, r) ∷ []
    → faults ((ask, r) ∷ []) ≡ 0 → FaultIsTold log after → FaultIsTold before after
told_behind before log after ask r read clean h =
    let tail : Log = h.pairs ++ (h.ask, reply.Fault) ∷ (Tells (message_of fault.Device), h.reply) ∷ [] in
    let split : faults ((ask, r) ∷ h.pairs) ≡ faults ((ask, r) ∷ []) + faults h.pairs =
    faults-append ((ask, r) ∷ []) h.pairs in
    let rest : faults h.pairs ≡ 0 = h.clean in
    let none : faults ((ask, r) ∷ h.pairs) ≡ 0 = omega (arith, split, clean, rest) in
    record {
      pairs = (ask, r) ∷ h.pairs;
      ask = h.ask;
      reply = h.reply;
      grown = h.grown ∙ ap (λ l. l ++ tail) read ∙ append_assoc before ((ask, r) ∷ []) tail;
      clean = none;
      room = h.room;
    }

module _ (law : EndsHaveCauses) (cpus ticks : ℕ) (path : List ℕ) (before : Log) where
  goes_settles : (s : Parts) (log after : Log) (r : Result ℕ RunStop) → HoldsState path s before log
      → GoesOn cpus ticks s log after r → Settles before after (run_outcome r)
  goes_settles s log after (Ok status) held h =
      inr (inl (
        (λ q. cc q),
        (law (revived_state s) cpus ticks log after).clean (Done status) h (λ q. cc q)
            ∙ clean_faults before log (state_clean path s before log held),
      ))
  goes_settles s log after (Err run_stop.Ticks) held h =
      inr (inl (
        (λ q. cc q),
        (law (revived_state s) cpus ticks log after).clean Spent h (λ q. cc q)
            ∙ clean_faults before log (state_clean path s before log held),
      ))
  goes_settles s log after (Err run_stop.Device) held h =
      inr (inr (
        refl,
        told_behind before log after (Read path) (reply.Bytes held.bytes) held.read.grown refl
            ((law (revived_state s) cpus ticks log after).told h),
      ))
  goes_settles s log after (Err run_stop.NoMemory) held h = inl refl

  file_settles : (after : Log) (o : Outcome) → ResumesFile cpus ticks path before after o → Settles before after o
  file_settles after o (OpensFile.held s log _ holds h) =
      settles_as before after o (run_outcome h.0) h.1.1 (goes_settles s log after h.0 holds h.1.0)
  file_settles after o (OpensFile.bad_file f log _ none told) =
      says_settles (message_of f) before log after o (none_clean path f before log none) told
  file_settles after o (OpensFile.unread log _ a told) =
      device_settles before after o (device_comes before before (nothing_yet before) (Read path) log after o a.grown
      told)
  file_settles after _ (OpensFile.unloaded lacked) = inl refl

settles_by : EndsHaveCauses → (b : Bool) (j : Job) (before after : Log) (o : Outcome) → DoesAs b j before after o
    → Settles before after o
settles_by law true j before after o h = file_settles law j.cpus j.ticks j.path before after o h
settles_by law false j before after o h = script_settles (call_of j) before after o h

-- what the replies of a job show
pub job_settles : EndsHaveCauses → (j : Job) (before after : Log) (o : Outcome) → DoesJob j before after o
    → Settles before after o
job_settles law j before after o h = settles_by law j.resume j before after o h

kept_quiet : (before after : Log) (o : Outcome) → is_logged o ≡ true → Settles before after o
    → faults after ≡ faults before
kept_quiet before after o kept (inl none) =
    absurd (let no : is_logged NoMemory ≡ true = subst (λ x. is_logged x ≡ true) none kept in cc no)
kept_quiet before after o kept (inr (inl h)) = h.1
kept_quiet before after o kept (inr (inr h)) =
    absurd (let no : is_logged Device ≡ true = subst (λ x. is_logged x ≡ true) h.0 kept in cc no)

-- where a log is kept, no reply was a fault
pub job_quiet : EndsHaveCauses → (j : Job) (before pairs : Log) (o : Outcome) → DoesJob j before (before ++ pairs) o
    → is_logged o ≡ true → faults pairs ≡ 0
job_quiet law j before pairs o h kept =
    let same : faults (before ++ pairs) ≡ faults before =
    kept_quiet before (before ++ pairs) o kept (job_settles law j before (before ++ pairs) o h) in
    let split : faults (before ++ pairs) ≡ faults before + faults pairs = faults-append before pairs in
    omega (arith, same, split)

-- Replies by which something was answered

given : (r : Reply) → r ≢ NoRoom → is_fault r ≡ false → is_given r ≡ true
given (reply.Bytes text) told clean = refl
given reply.Missing told clean = refl
given (reply.Stamp there size time) told clean = refl
given reply.Done told clean = refl
given (reply.SysDone code out) told clean = refl
given reply.Started told clean = refl
given (reply.Run k) told clean = refl
given (reply.Ended task code) told clean = refl
given reply.Fault told clean = absurd (cc clean)
given reply.NoRoom told clean = absurd (told refl)

first_clean : (ask : Ask) (r : Reply) (rest : Log) → faults ((ask, r) ∷ rest) ≡ 0 → is_fault r ≡ false
first_clean ask (reply.Bytes text) rest h = refl
first_clean ask reply.Missing rest h = refl
first_clean ask (reply.Stamp there size time) rest h = refl
first_clean ask reply.Done rest h = refl
first_clean ask (reply.SysDone code out) rest h = refl
first_clean ask reply.Started rest h = refl
first_clean ask (reply.Run k) rest h = refl
first_clean ask (reply.Ended task code) rest h = refl
first_clean ask reply.Fault rest h = let e : faults ((ask, reply.Fault) ∷ rest) ≡ 1 + faults rest =
    faults-append ((ask, reply.Fault) ∷ []) rest in absurd (omega (arith, e, h))
first_clean ask reply.NoRoom rest h = refl

rest_clean : (p : Ask × Reply) (rest : Log) → faults (p ∷ rest) ≡ 0 → faults rest ≡ 0
rest_clean p rest h = let e : faults (p ∷ rest) ≡ faults (p ∷ []) + faults rest =
    faults-append (p ∷ []) rest in omega (arith, e, h)

pub all_given : (pairs : Log) → All IsFit pairs → faults pairs ≡ 0 → All IsGiven (replies_of pairs)
all_given [] fit clean = All-nil IsGiven
all_given (p ∷ pairs) fit clean =
    let here : IsFit p = All-head IsFit p pairs fit in
    All-cons IsGiven p.1 (replies_of pairs) (given p.1 here.told (first_clean p.0 p.1 pairs clean))
    (all_given pairs (All-tail IsFit p pairs fit) (rest_clean p pairs clean))
