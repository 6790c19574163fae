-- A log of asks has one answer of a replay.
use Rattle.std.proofs.Common.{◌≡◌, ◌≢◌, ◌∙◌, inl, inr, ℕ, List, [], ◌∷◌, ◌++◌, true, append_assoc, append-nil, ap, sym}
use Rattle.std.proofs.Common.{refl, subst}
use Rattle.bds_host.specs.declared.asks.Ask.TheVariants.{Read, Err as Tells}
use Rattle.bds_host.specs.declared.asks.Reply.{Reply}
use Rattle.bds_host.specs.declared.asks.Reply.TheVariants as reply
use Rattle.bds_host.specs.declared.asks.Reply.TheVariants.{Bytes}
use Rattle.bds_host.specs.declared.faults.Fault.{Fault}
use Rattle.bds_host.specs.Host.{Log, faults}
use Rattle.bds_schedule.specs.Determined.{replies_of}
use Rattle.bds_front.specs.Unique.{HasOneStep}
use Rattle.bds_replay.specs.Loading.{IsLogOf}
use Rattle.bds_replay.specs.Replayed.{IsReplayed}
use Rattle.bds_replay.specs.declared.log.Log.{Log as ReplyLog}
use Rattle.bds_app_run.specs.Telling.{Says, TellsDevice}
use Rattle.bds_app_run.specs.declared.outcome.Outcome.{Outcome}
use Rattle.bds_app_run.specs.declared.outcome.Outcome.TheVariants.{BadFile, Device, NoMemory, Ticks}
use Rattle.bds_app_run.proofs.Telling.{Same}
use Rattle.bds_app_log.specs.Logged.{is_logged}
use Rattle.bds_app_log.specs.Replays.{HoldsLog, HoldsNoLog, IsDoneAgain, IsUnlike, PrintsAgain, ReplaysJob, ReplaysLog}
use Rattle.bds_app_log.specs.Replays.{all_done, printed_in}
use Rattle.bds_app_log.proofs.Clean.{EndsHaveCauses, job_quiet}
use Rattle.bds_app_log.proofs.Jobs.{IsAgain, IsOneState, job_again}
use Rattle.bds_app_log.proofs.Logs.{log_is_one}
use Rattle.bds_app_log.proofs.One.{same_by}
use Rattle.bds_app_log.proofs.Same.{bytes_same, has_fault, reply_same}
use Rattle.bds_app_log.proofs.Settled.{replays_settles}

-- where a log's job came to an end by all its replies, it comes to no other
module _ (one : HasOneStep) (law : EndsHaveCauses) (state : IsOneState) (l : ReplyLog) (inner : Log) (came : Outcome)
    (done : IsDoneAgain l inner [] came) (kept : is_logged came ≡ true) where
  replies_are : IsReplayed l.replies (record { left = []; log = inner }) → l.replies ≡ replies_of inner
  replies_are (IsReplayed.so_far e) = e ∙ append-nil (replies_of inner)
  replies_are (IsReplayed.broken first rest ask unused log is refused) =
      absurd (has_fault first ask rest (ap (λ x. faults x) (sym log)
      ∙ job_quiet law l.job [] inner came done.does kept))

  done_once : (inner' : Log) (left : List Reply) (o : Outcome) → IsDoneAgain l inner' left o → o ≢ NoMemory
      → IsAgain inner inner' left came o
  done_once inner' left o again some =
      job_again one law state l.job [] inner inner' left came o done.does kept again.does some
      (subst (λ rs. IsReplayed rs (record { left = left; log = inner' })) (replies_are done.replayed)
      again.replayed)

  not_unlike : (inner' : Log) (left : List Reply) (o : Outcome) → IsDoneAgain l inner' left o → IsUnlike o left → ⊥
  not_unlike inner' left o again (inl (inl device)) =
      let r = done_once inner' left o again (λ q. let no = sym device ∙ q in cc no) in
      let no : is_logged Device ≡ true = subst (λ x. is_logged x ≡ true) (sym r.answer ∙ device) kept in cc no
  not_unlike inner' left o again (inl (inr ticks)) =
      let r = done_once inner' left o again (λ q. let no = sym ticks ∙ q in cc no) in
      let no : is_logged Ticks ≡ true = subst (λ x. is_logged x ≡ true) (sym r.answer ∙ ticks) kept in cc no
  not_unlike inner' left o again (inr h) =
      let r = done_once inner' left o again (λ q. let no : is_logged NoMemory ≡ true = subst (λ x. is_logged x ≡ true) q
      h.0 in cc no) in
      h.1 r.used

module _ (path : List ℕ) (before after : Log) where
  -- what a replay has shown: the job came to this answer again, or to none by its replies, or there was no log
  pub data Shown (o : Outcome) : Type 0 where
    alike : (l : ReplyLog) (log inner more : Log) → HoldsLog path l before log → after ≡ log ++ more
        → IsDoneAgain l inner [] o → is_logged o ≡ true → Shown o
    unlike : (l : ReplyLog) (log inner more : Log) (left : List Reply) (came : Outcome) → HoldsLog path l before log
        → after ≡ log ++ more → IsDoneAgain l inner left came → IsUnlike came left → o ≡ BadFile → Shown o
    no_log : (f : Fault) (log more : Log) → HoldsNoLog path before log f → after ≡ log ++ more → o ≡ BadFile → Shown o

  said_so : (text : List ℕ) (log : Log) (o : Outcome) → Says text BadFile log after o → o ≢ NoMemory → o ≢ Device
      → (more : Log) × ((after ≡ log ++ more) × (o ≡ BadFile))
  said_so text log _ (Says.said a) some well = ((Tells text, reply.Done) ∷ [], (a.grown, refl))
  said_so text log _ (Says.faulted mid _ a (TellsDevice.told_so r told)) some well = absurd (well refl)
  said_so text log _ (Says.faulted mid _ a (TellsDevice.untold room)) some well = absurd (some refl)
  said_so text log _ (Says.no_memory room) some well = absurd (some refl)

  alike_shown : (l : ReplyLog) (log inner : Log) (came o : Outcome) → HoldsLog path l before log
      → IsDoneAgain l inner [] came → is_logged came ≡ true → PrintsAgain (printed_in inner) came log after o
      → o ≢ NoMemory → o ≢ Device → Shown o
  alike_shown l log inner came _ h done kept (PrintsAgain.printed e) some well =
      Shown.alike l log inner (all_done (printed_in inner)) h e done kept
  alike_shown l log inner came _ h done kept
      (PrintsAgain.faulted first rest ask mid _ split a (TellsDevice.told_so r told)) some well = absurd (well refl)
  alike_shown l log inner came _ h done kept
      (PrintsAgain.faulted first rest ask mid _ split a (TellsDevice.untold room)) some well = absurd (some refl)
  alike_shown l log inner came _ h done kept (PrintsAgain.no_memory first rest ask split room) some well =
      absurd (some refl)

  job_shown : (l : ReplyLog) (log : Log) (o : Outcome) → HoldsLog path l before log → ReplaysJob path l log after o
      → o ≢ NoMemory → o ≢ Device → Shown o
  job_shown l log o h (ReplaysJob.alike inner came _ done kept prints) some well =
      alike_shown l log inner came o h done kept prints some well
  job_shown l log o h (ReplaysJob.unlike inner left came _ done differs told) some well =
      let w = said_so _ log o told some well in Shown.unlike l log inner w.0 left came h w.1.0 done differs w.1.1
  job_shown l log _ h (ReplaysJob.no_memory e) some well = absurd (some refl)

  pub shown : (o : Outcome) → ReplaysLog path before after o → o ≢ NoMemory → o ≢ Device → Shown o
  shown o (ReplaysLog.held l log _ h job) some well = job_shown l log o h job some well
  shown o (ReplaysLog.bad_file f log _ none told) some well = let w =
      said_so _ log o told some well in Shown.no_log f log w.0 none w.1.0 w.1.1
  shown _ (ReplaysLog.unread log _ a (TellsDevice.told_so r told)) some well = absurd (well refl)
  shown _ (ReplaysLog.unread log _ a (TellsDevice.untold room)) some well = absurd (some refl)
  shown _ (ReplaysLog.no_room room) some well = absurd (some refl)
  shown _ (ReplaysLog.unloaded bytes a) some well = absurd (some refl)

  module _ (one : HasOneStep) (law : EndsHaveCauses) (state : IsOneState) where
    read_first : (l : ReplyLog) (log more : Log) (h : HoldsLog path l before log) → after ≡ log ++ more
        → after ≡ before ++ (Read path, Bytes h.bytes) ∷ more
    read_first l log more h e = e ∙ ap (λ x. x ++ more) h.read.grown
        ∙ append_assoc before ((Read path, Bytes h.bytes) ∷ []) more

    same_log : (l l' : ReplyLog) (log log' more more' : Log) → HoldsLog path l before log → after ≡ log ++ more
        → HoldsLog path l' before log' → after ≡ log' ++ more' → l' ≡ l
    same_log l l' log log' more more' h e k f =
        let bytes = bytes_same path before after h.bytes more (read_first l log more h e) k.bytes log' more'
        k.read.grown f in
        log_is_one h.bytes l' l (subst (λ b. IsLogOf b l') bytes k.is) h.is

    no_none : (l : ReplyLog) (log log' more more' : Log) (f : Fault) → HoldsLog path l before log → after ≡ log ++ more
        → HoldsNoLog path before log' f → after ≡ log' ++ more' → ⊥
    no_none l log log' more more' _ h e (HoldsNoLog.missing a) f =
        let no : reply.Missing ≡ Bytes h.bytes =
        reply_same path before after h.bytes more (read_first l log more h e) reply.Missing log' more' a.grown f in
        cc no
    no_none l log log' more more' _ h e (HoldsNoLog.not_loadable bytes a none) f =
        let is = bytes_same path before after h.bytes more (read_first l log more h e) bytes log' more' a.grown f in
        none l (subst (λ b. IsLogOf b l) (sym is) h.is)

    shown_alike : (l : ReplyLog) (log inner more : Log) (o o' : Outcome) → HoldsLog path l before log
        → after ≡ log ++ more → IsDoneAgain l inner [] o → is_logged o ≡ true → Shown o' → o' ≢ NoMemory → o' ≡ o
    shown_alike l log inner more o o' h e done kept (Shown.alike l' log' inner' more' k f done' kept') some =
        let is = same_log l l' log log' more more' h e k f in
        (done_once one law state l inner o done kept inner' [] o' (subst (λ x. IsDoneAgain x inner' [] o') is done')
        some).answer
    shown_alike l log inner more o o' h e done kept (Shown.unlike l' log' inner' more' left came k f done' differs bad)
        some =
        let is = same_log l l' log log' more more' h e k f in
        absurd (not_unlike one law state l inner o done kept inner' left came
        (subst (λ x. IsDoneAgain x inner' left came) is done') differs)
    shown_alike l log inner more o o' h e done kept (Shown.no_log f log' more' none g bad) some =
        absurd (no_none l log log' more more' f h e none g)

    -- two answers that were shown
    pub shown_same : (o o' : Outcome) → Shown o → Shown o' → o ≢ NoMemory → o' ≢ NoMemory → o ≡ o'
    shown_same o o' (Shown.alike l log inner more h e done kept) k some other =
        sym (shown_alike l log inner more o o' h e done kept k other)
    shown_same o o' (Shown.unlike l log inner more left came h e done differs bad)
        (Shown.alike l' log' inner' more' k f done' kept) some other =
        shown_alike l' log' inner' more' o' o k f done' kept
        (Shown.unlike l log inner more left came h e done differs bad) some
    shown_same o o' (Shown.unlike l log inner more left came h e done differs bad)
        (Shown.unlike l' log' inner' more' left' came' k f done' differs' bad') some other = bad ∙ sym bad'
    shown_same o o' (Shown.unlike l log inner more left came h e done differs bad)
        (Shown.no_log f log' more' none g bad') some other = bad ∙ sym bad'
    shown_same o o' (Shown.no_log f log' more' none g bad) (Shown.alike l log inner more h e done kept) some other =
        shown_alike l log inner more o' o h e done kept (Shown.no_log f log' more' none g bad) some
    shown_same o o' (Shown.no_log f log' more' none g bad)
        (Shown.unlike l log inner more left came h e done differs bad') some other = bad ∙ sym bad'
    shown_same o o' (Shown.no_log f log more none e bad) (Shown.no_log f' log' more' none' g bad') some other =
        bad ∙ sym bad'

    -- two answers of a replay
    pub replays_same : (o o' : Outcome) → ReplaysLog path before after o → ReplaysLog path before after o' → Same o o'
    replays_same o o' h k =
        same_by before after o o' (λ some well other well'. shown_same o o' (shown o h some well)
        (shown o' k other well') some other)
        (replays_settles path before after o h) (replays_settles path before after o' k)
