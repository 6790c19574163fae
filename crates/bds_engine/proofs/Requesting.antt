-- Where requests lead that ask nothing but their stamps.
use Rattle.std.proofs.Common.{◌≡◌, ◌≢◌, ℕ, suc, ◌+◌, Bool, true, false, List, [], ◌∷◌, ◌++◌, length, map, None, Result, Ok, Err, refl, sym, ap, ◌∙◌, subst}
use Rattle.std.specs.Prelude.{nat_eq, if◌then◌else◌}
use Rattle.bds_value.specs.declared.ids.Id.{Id}
use Rattle.bds_value.specs.declared.value.At.{At}
use Rattle.bds_value.specs.declared.ids.Status.TheVariants as status
use Rattle.bds_value.specs.declared.value.Stamp.{Stamp}
use Rattle.bds_value.specs.declared.faults.RunFault.{RunFault}
use Rattle.bds_host.specs.Host.{Log}
use Rattle.bds_code_frames.specs.declared.frame.Frame.{Frame}
use Rattle.bds_code_frames.specs.declared.thread.Thread.{Thread}
use Rattle.bds_code_frames.specs.Stack.{stack}
use Rattle.bds_machine.specs.declared.point.Point.{Point}
use Rattle.bds_machine.specs.declared.point.Point.TheVariants as point
use Rattle.bds_tasks.specs.Tasks.{made_by as tasks_made_by, one_where}
use Rattle.bds_verify.specs.Threads.{HasParts}
use Rattle.bds_schedule.specs.Configuration.{Life, Ready, Waits, Closes, at_point, becomes, lives, with_life_from}
use Rattle.bds_schedule.specs.Configuration as meaning
use Rattle.bds_schedule.specs.Ids as names
use Rattle.bds_schedule.specs.Ids.{of_task, of_thread}
use Rattle.bds_schedule.specs.Requests.{AwaitsAll, AwaitsIds, Finishes, Needs, Stops}
use Rattle.bds_schedule.specs.Stages as stages
use Rattle.bds_schedule.specs.Steps.{Goes}
use Rattle.bds_schedule.specs.Turns as turns
use Rattle.bds_schedule.specs.Waiting as schedule
use Rattle.bds_schedule.specs.Waiting.{threads_behind, threads_from}
use Rattle.bds_sim.specs.Threads as sim
use Rattle.bds_sim.specs.MachineRun.{State}
use Rattle.bds_sim.specs.Row.{left, row_step}
use Rattle.bds_state.specs.Keeping.{waiting, with_thread}
use Rattle.bds_state.specs.MadeBy.{made_by}
use Rattle.bds_state.specs.Parts.{Parts}
use Rattle.bds_state.specs.Valid.{IsValid}
use Rattle.bds_engine_parts.specs.Look.{AreNamed}
use Rattle.bds_engine_parts.specs.Seen.{code_seen, id_seen, life_seen, seen, thread_seen, waiting_seen}
use Rattle.bds_engine_parts.proofs.Looking.{looks_same}
use Rattle.bds_engine_stages.specs.declared.stage.Stage.{Stage}
use Rattle.bds_engine_stages.specs.declared.stage.Stage.TheVariants as stage
use Rattle.bds_engine_stages.specs.declared.stage.Cause.TheVariants as cause
use Rattle.bds_engine_stages.specs.declared.stop.Halt.{Halt}
use Rattle.bds_engine_stages.specs.declared.stop.Halt.TheVariants as halt
use Rattle.bds_engine_stages.specs.Held.{FailsSo, FromPoint, FromRow, HasPlace, IsOut, before_row}
use Rattle.bds_engine_stages.specs.Steps.{IsAt}
use Rattle.bds_engine_stages.proofs.Rows.{put_back, quits, row_next}
use Rattle.bds_engine.specs.Given.{Breaks, WaitsThen, at_of}
use Rattle.bds_engine.proofs.Outcomes.{Comes, given_code, given_ready, go, goes_to, stops_so}

-- Threads while one is out

life_parent : (b : Bool) (x : Life sim.Parts) (t : meaning.Thread sim.Parts) → (if b then lives x t else t).parent ≡ t.parent
life_parent true x t = refl
life_parent false x t = refl

made_from : (j n k i : ℕ) (x : Life sim.Parts) (ts : List (meaning.Thread sim.Parts)) → threads_from n (λ t. nat_eq t.parent i) (with_life_from j k x ts) ≡ threads_from n (λ t. nat_eq t.parent i) ts
made_from j n k i x [] = refl
made_from j n k i x (t ∷ ts) =
    ap (λ p. one_where (nat_eq p i) n ++ threads_from (n + 1) (λ t. nat_eq t.parent i) (with_life_from (j + 1) k x ts)) (life_parent (nat_eq j k) x t)
    ∙ ap (λ ns. one_where (nat_eq t.parent i) n ++ ns) (made_from (j + 1) (n + 1) k i x ts)

made_behind : (k i : ℕ) (x : Life sim.Parts) (ts : List (meaning.Thread sim.Parts)) → threads_behind i (with_life_from 0 k x ts) ≡ threads_behind i ts
made_behind k i x [] = refl
made_behind k i x (t ∷ ts) = made_from 1 1 k i x ts

life_count : (j k : ℕ) (x : Life sim.Parts) (ts : List (meaning.Thread sim.Parts)) → length (with_life_from j k x ts) ≡ length ts
life_count j k x [] = refl
life_count j k x (t ∷ ts) = ap (λ n. suc n) (life_count (j + 1) k x ts)

seen_count : (ts : List Thread) → length (map thread_seen ts) ≡ length ts
seen_count [] = refl
seen_count (t ∷ ts) = ap (λ n. suc n) (seen_count ts)

waits_seen : (fs : List Frame) (ids : List names.Id) (m : sim.Parts) → fs ≢ [] → waiting_seen fs ids m ≡ Waits ids m
waits_seen [] ids m some = absurd (some refl)
waits_seen (f ∷ fs) ids m some = refl

module _ (s : Parts) (cpus budget used k : ℕ) (m : sim.Parts) (stamps : List Stamp) where
  abbrev pub at_row : State
  at_row = before_row s cpus budget used k m stamps

  pub count_there : length at_row.threads ≡ length s.threads
  count_there = life_count 0 k (Ready m) (map thread_seen s.threads) ∙ seen_count s.threads

  pub made_there : IsValid s → (i : ℕ) → schedule.made_by at_row i ≡ map id_seen (made_by i s)
  made_there valid i =
      ap (λ ns. map of_task (tasks_made_by i s.tasks) ++ map of_thread ns) (made_behind k i (Ready m) (map thread_seen s.threads))
      ∙ (looks_same s cpus budget used at_point valid).made_is i

module _ (s : Parts) (k : ℕ) (t : Thread) where
  -- the line of the row
  abbrev Row : Point → sim.Parts → Type 0
  Row p m = row_step s.unit m ≡ left s.unit p t.globals (stack t.frames)

  module _ (place : HasPlace s k t) (is_ready : t.status ≡ status.Ready) (cpus budget used : ℕ) (m : sim.Parts) where
    abbrev here : List Stamp → State
    here stamps = before_row s cpus budget used k m stamps

    -- a wait
    comes_waiting : (ids : List Id) (s' : Parts) (r : Result Stage Halt) → WaitsThen k ids t s s' r → Comes s.unit cpus budget used (becomes k (Waits (map id_seen ids) (go s k t place is_ready [])) at_point (here [])) s' r
    comes_waiting ids s' (Ok g) h =
        let w = h.1 in
        let old_status : w.next.status ≡ status.Ready = given_ready s k t place is_ready None w.next w.given in
        let parts : HasParts s.unit status.Ready w.next.globals w.next.frames = subst (λ x. HasParts s.unit x w.next.globals w.next.frames) old_status w.given.valid in
        let life : life_seen (status.Waiting ids) (waiting ids w.next) ≡ Waits (map id_seen ids) (go s k t place is_ready []) =
        waits_seen w.next.frames (map id_seen ids) (code_seen w.next) parts.1 ∙ ap (λ x. Waits (map id_seen ids) x) (given_code s k t place is_ready None w.next w.given) in
        let e : becomes k (Waits (map id_seen ids) (go s k t place is_ready [])) at_point (here []) ≡ seen (with_thread k (waiting ids w.next) s) cpus budget used at_point =
        put_back s cpus budget used k place.old place.there m (waiting ids w.next) (Waits (map id_seen ids) (go s k t place is_ready [])) at_point [] (ap (λ (x : Thread). x.parent) w.given.rest ∙ place.parent) life in (
          ap (λ (x : Parts). x.unit) w.parts,
          subst (λ z. IsAt s' cpus budget used g z) (ap (λ (x : Parts). seen x cpus budget used at_point) w.parts ∙ sym e)
              (subst (λ x. IsAt s' cpus budget used x (seen s' cpus budget used at_point)) (sym h.0) (IsAt.whole stage.Point)),
        )
    comes_waiting ids s' (Err halt.Spent) h = absurd h
    comes_waiting ids s' (Err halt.NoMemory) h = tt

  pub waits_for : (texts : List (List ℕ)) → IsOut s k (point.Wait texts) t → (ids : List Id) → AreNamed (length s.tasks) (length s.threads) texts (Ok ids) → (s' : Parts) (r : Result Stage Halt) → WaitsThen k ids t s s' r → (log : Log) → FromRow s k t (point.Wait texts) log log s' r
  waits_for texts out ids named s' r h log = λ cpus budget used m row.
      goes_to s cpus budget used (before_row s cpus budget used k m []) (becomes k (Waits (map id_seen ids) (go s k t out.place out.ready [])) at_point (before_row s cpus budget used k m [])) log s' r
      (row_next s cpus budget used k out.place.old out.place.there m [] (Needs (at_of s.unit t) (AwaitsIds texts) (go s k t out.place out.ready)) row
      ∙ ap (turns.awaited s.unit.files k (before_row s cpus budget used k m []) (at_of s.unit t) (go s k t out.place out.ready))
      (ap (λ n. names.ids_of (length s.tasks) n texts) (count_there s cpus budget used k m []) ∙ named.0))
      (comes_waiting out.place out.ready cpus budget used m ids s' r h)

  pub waits_none : (texts : List (List ℕ)) → IsOut s k (point.Wait texts) t → (f : RunFault) → names.ids_of (length s.tasks) (length s.threads) texts ≡ Err f → (s' : Parts) (r : Result Stage Halt) → Breaks s t f s' r → (log : Log) → FromRow s k t (point.Wait texts) log log s' r
  waits_none texts out f named s' r h log = λ cpus budget used m row.
      goes_to s cpus budget used (before_row s cpus budget used k m []) (stages.fails s.unit.files (before_row s cpus budget used k m []) (at_of s.unit t) f) log s' r
      (row_next s cpus budget used k out.place.old out.place.there m [] (Needs (at_of s.unit t) (AwaitsIds texts) (go s k t out.place out.ready)) row
      ∙ ap (turns.awaited s.unit.files k (before_row s cpus budget used k m []) (at_of s.unit t) (go s k t out.place out.ready))
      (ap (λ n. names.ids_of (length s.tasks) n texts) (count_there s cpus budget used k m []) ∙ named))
      (stops_so s k t out.place out.ready cpus budget used m [] (at_of s.unit t) f s' r h.0 h.1)

  pub waits_all : IsOut s k point.WaitAll t → IsValid s → (ids : List Id) → ids ≡ made_by k s → (s' : Parts) (r : Result Stage Halt) → WaitsThen k ids t s s' r → (log : Log) → FromRow s k t point.WaitAll log log s' r
  waits_all out valid ids e s' r h log = λ cpus budget used m row.
      goes_to s cpus budget used (before_row s cpus budget used k m []) (becomes k (Waits (map id_seen ids) (go s k t out.place out.ready [])) at_point (before_row s cpus budget used k m [])) log s' r
      (row_next s cpus budget used k out.place.old out.place.there m [] (Needs (at_of s.unit t) AwaitsAll (go s k t out.place out.ready)) row
      ∙ ap (λ is. Goes (becomes k (Waits is (go s k t out.place out.ready [])) at_point (before_row s cpus budget used k m []))) (made_there s cpus budget used k m [] valid k ∙ ap (map id_seen) (sym e)))
      (comes_waiting out.place out.ready cpus budget used m ids s' r h)

  -- the code has ended
  closed_seen : (ids : List Id) → t.frames ≡ [] → life_seen (status.Waiting ids) (waiting ids t) ≡ Closes (map id_seen ids) (code_seen t)
  closed_seen ids none = ap (λ fs. waiting_seen fs (map id_seen ids) (code_seen t)) none

  pub closes : HasPlace s k t → t.frames ≡ [] → IsValid s → (ids : List Id) → ids ≡ made_by k s → (s' : Parts) → s' ≡ with_thread k (waiting ids t) s → (g : Stage) → g ≡ stage.Point → (log : Log) → FromRow s k t point.Finished log log s' (Ok g)
  closes place none valid ids e s' is g at log = λ cpus budget used m row.
      let q : becomes k (Closes (map id_seen ids) (code_seen t)) at_point (before_row s cpus budget used k m []) ≡ seen (with_thread k (waiting ids t) s) cpus budget used at_point =
      put_back s cpus budget used k place.old place.there m (waiting ids t) (Closes (map id_seen ids) (code_seen t)) at_point [] place.parent (closed_seen ids none) in
      goes_to s cpus budget used (before_row s cpus budget used k m []) (becomes k (Closes (map id_seen ids) (code_seen t)) at_point (before_row s cpus budget used k m [])) log s' (Ok g)
      (row_next s cpus budget used k place.old place.there m [] (Finishes (code_seen t)) row
      ∙ ap (λ is. Goes (becomes k (Closes is (code_seen t)) at_point (before_row s cpus budget used k m []))) (made_there s cpus budget used k m [] valid k ∙ ap (map id_seen) (sym e))) (
        ap (λ (x : Parts). x.unit) is,
        subst (λ z. IsAt s' cpus budget used g z) (ap (λ (x : Parts). seen x cpus budget used at_point) is ∙ sym q)
            (subst (λ x. IsAt s' cpus budget used x (seen s' cpus budget used at_point)) (sym at) (IsAt.whole stage.Point)),
      )

  -- the program ends
  pub exits : HasPlace s k t → (status : ℕ) (log : Log) → FromPoint s k t (point.Exit status) log log s (Ok (stage.Stopping (cause.Exited status)))
  exits place status log = λ cpus budget used m row. quits s cpus budget used k place.old place.there m status log row

  pub stops_run : HasPlace s k t → t.status ≡ status.Ready → (f : RunFault) (at : At) (r : Result Stage Halt) → FailsSo s at f r → (log : Log) → FromPoint s k t (point.Stop f at) log log s r
  stops_run place is_ready f at r h log = λ cpus budget used m row.
      goes_to s cpus budget used (before_row s cpus budget used k m []) (stages.fails s.unit.files (before_row s cpus budget used k m []) at f) log s r
      (row_next s cpus budget used k place.old place.there m [] (Stops at f) row) (stops_so s k t place is_ready cpus budget used m [] at f s r refl h)
