-- A job over a farm: its log is that of turns, and nothing stands behind want of memory.
use Rattle.std.proofs.Common.{◌≡◌, ◌∙◌, ◌++◌, ℕ, Bool, true, false, List, [], ◌∷◌, refl, sym, ap, subst, append-nil}
use Rattle.std.proofs.lemmas.List.{append_cancel_left}
use Rattle.bds_host.specs.declared.asks.Ask.{Ask}
use Rattle.bds_host.specs.declared.asks.Reply.TheVariants.{NoRoom}
use Rattle.bds_host.specs.Host.{Log}
use Rattle.bds_farm.specs.Farming.{Farming, IsFarm, insides_of, pairs_of}
use Rattle.bds_farm.proofs.Splits.{Last, split_last}
use Rattle.bds_replay.specs.declared.log.Job.{Job}
use Rattle.bds_app_run.specs.declared.outcome.Outcome.{Outcome}
use Rattle.bds_app_run.specs.declared.outcome.Outcome.TheVariants.{NoMemory}
use Rattle.bds_app_run.specs.Jobs.{DoesAs, DoesJob, SavesIfScript, call_of}
use Rattle.bds_app_run.specs.Complete.{FilesAreDetermined, ScriptsAreDetermined}
use Rattle.bds_app_run.specs.Rooms.{FoundRoom, HaveRoom}
use Rattle.bds_app_farm.specs.Farmed.{FarmsJob, IsFarmed}
use Rattle.bds_app_farm.specs.Told.{IsDetermined, IsDeterminedAs, JobIsDetermined}
use Rattle.bds_app_farm.proofs.Lists.{nothing_behind}

-- The answer of a job

job_as : ScriptsAreDetermined → FilesAreDetermined → (resume : Bool) (j : Job) (before after : Log) (o : Outcome)
    → DoesAs resume j before after o → IsDeterminedAs resume j before after o
job_as scripts files true j before after o does = files j.cpus j.ticks j.path before after o does
job_as scripts files false j before after o does = scripts (call_of j) before after o does

pub job_determined : ScriptsAreDetermined → FilesAreDetermined → (j : Job) (before after : Log) (o : Outcome)
    → DoesJob j before after o → JobIsDetermined j before after o
job_determined scripts files j before after o does = job_as scripts files j.resume j before after o does

room_as : (resume : Bool) (j : Job) (before after : Log) (o : Outcome) → IsDeterminedAs resume j before after o
    → FoundRoom before after o
room_as true j before after o d = d.room
room_as false j before after o d = d.room

pub room_of : (j : Job) (before after : Log) (o : Outcome) → JobIsDetermined j before after o → FoundRoom before after o
room_of j before after o d = room_as j.resume j before after o d

-- Rooms

lacks : (front rest : Log) (ask : Ask) → HaveRoom (front ++ (ask, NoRoom) ∷ rest) → ⊥
lacks [] rest ask h = h.0 refl
lacks (p ∷ front) rest ask h = lacks front rest ask h.1

module _ (log front rest : Log) (ask : Ask) (is : log ≡ front ++ (ask, NoRoom) ∷ rest) where
  lacks_all : (pairs : Log) → HaveRoom pairs → log ≡ pairs → ⊥
  lacks_all pairs room e = lacks front rest ask (subst HaveRoom (sym e ∙ is) room)

  by_last : (pairs : Log) (last : Ask) → HaveRoom pairs → log ≡ pairs ++ (last, NoRoom) ∷ []
      → Last pairs (last, NoRoom) front (ask, NoRoom) rest → rest ≡ []
  by_last pairs last room e (Last.at_end same here) =
      let ends : pairs ++ (last, NoRoom) ∷ [] ≡ pairs ++ (ask, NoRoom) ∷ rest =
      sym e ∙ is ∙ ap (λ l. l ++ (ask, NoRoom) ∷ rest) (sym same) in
      nothing_behind _ _ rest (append_cancel_left pairs _ _ ends)
  by_last pairs last room e (Last.before_end more same) = absurd (lacks front more ask (subst HaveRoom same room))

  -- an ask without room is the last
  lacked_last : (o : Outcome) → FoundRoom [] log o → rest ≡ []
  lacked_last o (FoundRoom.all pairs _ room e) = absurd (lacks_all pairs room e)
  lacked_last _ (FoundRoom.but_last pairs last room e) =
      by_last pairs last room e (split_last pairs front rest (last, NoRoom) (ask, NoRoom) (sym e ∙ is))

  -- and there was no memory
  pub lacked_answer : (o : Outcome) → FoundRoom [] log o → o ≡ NoMemory
  lacked_answer o (FoundRoom.all pairs _ room e) = absurd (lacks_all pairs room e)
  lacked_answer _ (FoundRoom.but_last pairs last room e) = refl

farmed_by : (submit poll : List ℕ) (start : Log) (r : Farming) (o : Outcome) → FoundRoom [] r.log o
    → IsFarm submit poll start r → IsFarmed submit poll start r.inner r.log
farmed_by submit poll start r o room (IsFarm.all ts run log inner) = IsFarmed.whole ts r.queue run log inner
farmed_by submit poll start r o room (IsFarm.lost ts q asked more rest ask run begun log inner last) =
    let pairs = pairs_of submit poll ts in
    let own : Log = insides_of submit poll ts in
    let none = lacked_last r.log pairs rest ask log o room in
    IsFarmed.lacked ts q ask asked run begun (log ∙ ap (λ l. pairs ++ (ask, NoRoom) ∷ l) none)
    (inner ∙ ap (λ l. start ++ (own ++ (asked ++ l))) (last none) ∙ ap (λ l. start ++ (own ++ l)) (append-nil asked))

pub farms_job : ScriptsAreDetermined → FilesAreDetermined → (submit poll : List ℕ) (start : Log) (r : Farming) (j : Job)
    (o : Outcome) → DoesJob j [] r.log o → SavesIfScript j [] r.log → IsFarm submit poll start r
    → FarmsJob j submit poll start r.inner o
farms_job scripts files submit poll start r j o does saves farm =
    let room = room_of j [] r.log o (job_determined scripts files j [] r.log o does) in
    record { log = r.log; does = does; saves = saves; farmed = farmed_by submit poll start r o room farm }

-- as it is known behind the calls
pub farms_by : ScriptsAreDetermined → FilesAreDetermined → (submit poll : List ℕ) (start : Log) (r : Farming) (j : Job)
    (o : Outcome) (old inner : Log) → old ≡ [] → inner ≡ r.inner → DoesJob j old r.log o → SavesIfScript j old r.log
    → IsFarm submit poll start r → FarmsJob j submit poll start inner o
farms_by scripts files submit poll start r j o old inner none same does saves farm =
    subst (λ l. FarmsJob j submit poll start l o) (sym same)
    (farms_job scripts files submit poll start r j o (subst (λ l. DoesJob j l r.log o) none does)
    (subst (λ l. SavesIfScript j l r.log) none saves) farm)

-- and its answer is known by the log of the farm
pub determined : ScriptsAreDetermined → FilesAreDetermined → (j : Job) (submit poll : List ℕ) (before after : Log)
    (o : Outcome) → IsDetermined j submit poll before after o
determined scripts files j submit poll before after o h = job_determined scripts files j [] h.log o h.does
