-- What becomes of a log that is replayed.
use Rattle.std.proofs.Common.{◌≡◌, ◌≢◌, ◌++◌, ◌⊎◌, true, inl, inr, ℕ, List, [], ◌∷◌, refl, subst}
use Rattle.bds_host.specs.declared.asks.Ask.TheVariants.{Err as Tells}
use Rattle.bds_host.specs.declared.asks.Reply.{Reply}
use Rattle.bds_host.specs.declared.asks.Reply.TheVariants as reply
use Rattle.bds_host.specs.declared.faults.Fault.{Fault}
use Rattle.bds_host.specs.declared.faults.Fault.TheVariants as fault
use Rattle.bds_host.specs.Host.{Log, faults}
use Rattle.bds_host.specs.Message.{message_of}
use Rattle.bds_front.specs.Unique.{HasOneStep}
use Rattle.bds_engine_parts.specs.Run.{FaultIsTold}
use Rattle.bds_replay.specs.declared.log.Log.{Log as ReplyLog}
use Rattle.bds_app_run.specs.declared.outcome.Outcome.{Outcome}
use Rattle.bds_app_run.specs.declared.outcome.Outcome.TheVariants.{BadFile, Device, NoMemory}
use Rattle.bds_app_run.specs.Telling.{Says, TellsDevice}
use Rattle.bds_app_log.specs.Logged.{is_logged}
use Rattle.bds_app_log.specs.Replays.{HoldsLog, HoldsNoLog, IsDoneAgain, IsUnlike, PrintsAgain, ReplaysJob, ReplaysLog}
use Rattle.bds_app_log.specs.Replays.{all_done, printed_in}
use Rattle.bds_app_log.proofs.One.{same_by}
use Rattle.bds_app_log.proofs.OneReplay as again
use Rattle.bds_app_log.proofs.Settled.{no_device, replays_settles}
use Rattle.bds_app_run.proofs.FileLaws.{EndsHaveCauses, IsOneState}
use Rattle.bds_app_run.proofs.Telling.{Same}
use Rattle.bds_app.proofs.Logged.{told_if_device, unkept_none}

module _ (path : List ℕ) (before after : Log) where
  -- how it came out: there was no memory; a fault was told; what the job printed was printed; or it was told why not
  pub data Replayed : Outcome → Type 0 where
    no_memory : Replayed NoMemory
    device : FaultIsTold before after → Replayed Device
    alike : (l : ReplyLog) (log inner : Log) (came : Outcome) → HoldsLog path l before log → IsDoneAgain l inner [] came
        → is_logged came ≡ true
        → after ≡ log ++ all_done (printed_in inner) → Replayed came
    unlike : (l : ReplyLog) (log inner : Log) (left : List Reply) (came : Outcome) → HoldsLog path l before log
        → IsDoneAgain l inner left came → IsUnlike came left
        → after ≡ log ++ (Tells (message_of (fault.NotLoadable path)), reply.Done) ∷ [] → Replayed BadFile
    no_log : (f : Fault) (log : Log) → HoldsNoLog path before log f
        → after ≡ log ++ (Tells (message_of f), reply.Done) ∷ [] → Replayed BadFile

  at_device : ReplaysLog path before after Device → Replayed Device
  at_device h = Replayed.device (told_if_device before after Device (replays_settles path before after Device h) refl)

  said : (text : List ℕ) (log : Log) (o : Outcome) → (after ≡ log ++ (Tells text, reply.Done) ∷ [] → Replayed BadFile)
      → (o ≡ Device → Replayed Device) → Says text BadFile log after o → Replayed o
  said text log _ told on_fault (Says.said a) = told a.grown
  said text log _ told on_fault (Says.faulted mid _ a (TellsDevice.told_so r t)) = on_fault refl
  said text log _ told on_fault (Says.faulted mid _ a (TellsDevice.untold room)) = Replayed.no_memory
  said text log _ told on_fault (Says.no_memory room) = Replayed.no_memory

  printed : (l : ReplyLog) (log inner : Log) (came o : Outcome) → HoldsLog path l before log
      → IsDoneAgain l inner [] came → is_logged came ≡ true → (o ≡ Device → Replayed Device)
      → PrintsAgain (printed_in inner) came log after o → Replayed o
  printed l log inner came _ h done kept on_fault (PrintsAgain.printed e) = Replayed.alike l log inner came h done kept e
  printed l log inner came _ h done kept on_fault
      (PrintsAgain.faulted first rest ask mid _ split a (TellsDevice.told_so r t)) = on_fault refl
  printed l log inner came _ h done kept on_fault
      (PrintsAgain.faulted first rest ask mid _ split a (TellsDevice.untold room)) = Replayed.no_memory
  printed l log inner came _ h done kept on_fault (PrintsAgain.no_memory first rest ask split room) = Replayed.no_memory

  of_job : (l : ReplyLog) (log : Log) (o : Outcome) → HoldsLog path l before log → (o ≡ Device → Replayed Device)
      → ReplaysJob path l log after o → Replayed o
  of_job l log o h on_fault (ReplaysJob.alike inner came _ done kept prints) =
      printed l log inner came o h done kept on_fault prints
  of_job l log o h on_fault (ReplaysJob.unlike inner left came _ done other told) =
      said _ log o (λ e. Replayed.unlike l log inner left came h done other e) on_fault told
  of_job l log _ h on_fault (ReplaysJob.no_memory e) = Replayed.no_memory

  pub replayed : (o : Outcome) → ReplaysLog path before after o → Replayed o
  replayed o h = by o h (λ e. at_device (subst (λ x. ReplaysLog path before after x) e h))
    where
      by : (o : Outcome) → ReplaysLog path before after o → (o ≡ Device → Replayed Device) → Replayed o
      by o (ReplaysLog.held l log _ holds job) on_fault = of_job l log o holds on_fault job
      by o (ReplaysLog.bad_file f log _ none told) on_fault = said _ log o (λ e. Replayed.no_log f log none e) on_fault told
      by _ (ReplaysLog.unread log _ a (TellsDevice.told_so r told)) on_fault = on_fault refl
      by _ (ReplaysLog.unread log _ a (TellsDevice.untold room)) on_fault = Replayed.no_memory
      by _ (ReplaysLog.no_room room) on_fault = Replayed.no_memory
      by _ (ReplaysLog.unloaded bytes a) on_fault = Replayed.no_memory

  -- the answer, where it is known what was read and no reply was a fault
  module _ (one : HasOneStep) (law : EndsHaveCauses) (state : IsOneState) (o : Outcome)
      (given : ReplaysLog path before after o) where
    answers_as : (o' : Outcome) → again.Shown path before after o' → o' ≢ NoMemory → o' ≢ Device
        → faults after ≡ faults before → (o ≡ NoMemory) ⊎ (o ≡ o')
    answers_as o' h some well clean =
        by (same_by before after o o' (λ some' well' other well''. again.shown_same path before after one law state o o'
        (again.shown path before after o given some' well') h some' other)
        (replays_settles path before after o given) (inr (inl (well, clean))))
      where
        by : Same o o' → (o ≡ NoMemory) ⊎ (o ≡ o')
        by (inl same) = inr same
        by (inr (inl lacked)) = inl lacked
        by (inr (inr none)) = absurd (some none)

    pub replay_completes : (o' : Outcome) → again.Shown path before after o' → is_logged o' ≡ true
        → faults after ≡ faults before → (o ≡ NoMemory) ⊎ (o ≡ o')
    replay_completes o' h kept clean = answers_as o' h (λ none. unkept_none o' kept none) (no_device o' kept) clean

    pub replay_refuses : again.Shown path before after BadFile → faults after ≡ faults before
        → (o ≡ NoMemory) ⊎ (o ≡ BadFile)
    replay_refuses h clean = answers_as BadFile h (λ e. cc e) (λ e. cc e) clean
