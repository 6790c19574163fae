-- A thread that makes another, and one that saves: where that leads.
use Rattle.std.proofs.Common.{◌≡◌, ℕ, zero, suc, ◌+◌, ◌<◌, ◌≤◌, Bool, true, false, List, [], ◌∷◌, ◌++◌, length, map, Option, Some, None, Result, Ok, Err, slice_get, slice_set, refl, sym, ap, ◌∙◌, subst, inr, arith}
use Rattle.std.specs.Prelude.{nat_eq, nat_lt, if◌then◌else◌}
use Rattle.std.proofs.lemmas.Bool.{le-ltb, lt-ltb}
use Rattle.std.proofs.lemmas.List.{map-append}
use Rattle.bds_value.specs.declared.TheConstants.{MAX_THREADS}
use Rattle.bds_value.specs.declared.ids.Status.TheVariants as status
use Rattle.bds_value.specs.declared.value.Value.{Value}
use Rattle.bds_value.specs.declared.value.Value.TheVariants as value
use Rattle.bds_value.specs.declared.faults.RunFault.TheVariants as run
use Rattle.bds_host.specs.declared.asks.Ask.TheVariants as ask
use Rattle.bds_host.specs.declared.asks.Reply.{Reply}
use Rattle.bds_host.specs.declared.asks.Reply.TheVariants as reply
use Rattle.bds_host.specs.Host.{Log}
use Rattle.bds_code.specs.declared.unit.Unit.{Unit as CodeUnit}
use Rattle.bds_code_frames.specs.declared.thread.Thread.{Thread}
use Rattle.bds_code_frames.specs.Stack.{call_at, stack}
use Rattle.bds_machine.specs.declared.point.Point.{Point}
use Rattle.bds_machine.specs.declared.point.Point.TheVariants as point
use Rattle.bds_schedule.specs.Configuration.{Life, Ready, at_point, becomes, faulted, in_mode, lives, with_life_from}
use Rattle.bds_schedule.specs.Configuration as meaning
use Rattle.bds_schedule.specs.Ids.{thread_id}
use Rattle.bds_schedule.specs.Requests.{Needs, Saves, Spawns}
use Rattle.bds_schedule.specs.Stages.{checkpoint_of}
use Rattle.bds_schedule.specs.Stages as stages
use Rattle.bds_schedule.specs.Steps.{Asks as AsksNext}
use Rattle.bds_schedule.specs.Turns as turns
use Rattle.bds_schedule.specs.Turns.{comes, path_in, where_room}
use Rattle.bds_sim.specs.Threads.{given}
use Rattle.bds_sim.specs.Threads as sim
use Rattle.bds_sim.specs.MachineRun.{State}
use Rattle.bds_sim.specs.Row.{begins, left, locals_of, row_step}
use Rattle.bds_sim.proofs.schedule.Threads.{twice}
use Rattle.bds_state_threads.specs.Made.{IsBegun}
use Rattle.bds_state.specs.Changes.{HasSpawned, IsLive}
use Rattle.bds_state.specs.Fits.{NumbersFit}
use Rattle.bds_state.specs.Parts.{Parts}
use Rattle.bds_state.specs.Parts as parts
use Rattle.bds_state.specs.StateSpelling.{spells2}
use Rattle.bds_state.specs.Valid.{IsValid}
use Rattle.bds_engine_parts.specs.Image.{image, state_of}
use Rattle.bds_engine_parts.specs.Seen.{life_seen, seen, thread_seen}
use Rattle.bds_engine_parts.proofs.Images.{same_state}
use Rattle.bds_engine_stages.specs.declared.stage.Stage.{Stage}
use Rattle.bds_engine_stages.specs.declared.stage.Stage.TheVariants as stage
use Rattle.bds_engine_stages.specs.declared.stop.Halt.{Halt}
use Rattle.bds_engine_stages.specs.declared.stop.Halt.TheVariants as halt
use Rattle.bds_engine_stages.specs.Held.{FromRow, GoesBack, HasPlace, IsBack, IsOut, before_row}
use Rattle.bds_engine_stages.specs.Steps.{AsksThen, IsAt, or_faulted, with_threads}
use Rattle.bds_engine_stages.proofs.Joining.{asks_reach}
use Rattle.bds_engine_stages.proofs.Rows.{put_back, row_next, set_seen}
use Rattle.bds_engine.specs.Given.{BeginsThread, Breaks, at_of, path_or}
use Rattle.bds_engine.proofs.Contacting.{halts_here}
use Rattle.bds_engine.proofs.Outcomes.{Comes, given_code, given_ready, go, goes_to, next, stops_so}
use Rattle.bds_engine.proofs.Requesting.{count_there}

-- no memory to give a thread its answer
pub err_back : (s s' s1 : Parts) (k : ℕ) (t : Thread) (p : Point) (v : Option Value) (g : Stage) (h : Halt) → GoesBack k v t s s1 g (Err h) → (log : Log) → FromRow s k t p log log s' (Err h)
err_back s s' s1 k t p v g halt.Spent b log = absurd b
err_back s s' s1 k t p v g halt.NoMemory b log = halts_here s s' k t p log

-- Threads

not_this : (n k : ℕ) → k < n → nat_eq n k ≡ false
not_this n k h = by (nat_eq n k) refl
  where
    by : (b : Bool) → nat_eq n k ≡ b → nat_eq n k ≡ false
    by false e = e
    by true e = absurd (let q : n ≡ k = Rattle.std.proofs.lemmas.Bool.eqb-true n k e in omega (arith, q, h))

-- a thread behind all others is no earlier one
life_push : (n k : ℕ) (x : Life sim.Parts) (ts : List (meaning.Thread sim.Parts)) (y : meaning.Thread sim.Parts) → k < n + length ts → with_life_from n k x (ts ++ y ∷ []) ≡ with_life_from n k x ts ++ y ∷ []
life_push n k x [] y low = ap (λ b. (if b then lives x y else y) ∷ []) (not_this n k (omega (arith, low)))
life_push n k x (t ∷ ts) y low =
    let long : length (t ∷ ts) ≡ length ts + 1 = omega arith in
    ap (λ us. (if nat_eq n k then lives x t else t) ∷ us) (life_push (n + 1) k x ts y (omega (arith, low, long)))

get_set : (ts : List Thread) (k : ℕ) (old t from : Thread) → slice_get ts k ≡ Some old → slice_get (slice_set ts k t) k ≡ Some from → t ≡ from
get_set [] k old t from e f = absurd (cc e)
get_set (x ∷ xs) zero old t from e f = cc f
get_set (x ∷ xs) (suc k) old t from e f = get_set xs k old t from e f

set_get : (ts : List Thread) (k : ℕ) (old t : Thread) → slice_get ts k ≡ Some old → slice_get (slice_set ts k t) k ≡ Some t
set_get [] k old t e = absurd (cc e)
set_get (x ∷ xs) zero old t e = refl
set_get (x ∷ xs) (suc k) old t e = set_get xs k old t e

-- the maker lives
pub back_lives : (s s1 : Parts) (k : ℕ) (t : Thread) (v : Option Value) → HasPlace s k t → t.status ≡ status.Ready → IsBack k v t s s1 → IsLive s1.threads k
back_lives s s1 k t v place is_ready b = record {
  thread = b.next;
  there = subst (λ (x : Parts). slice_get x.threads k ≡ Some b.next) (sym b.parts) (set_get s.threads k place.old b.next place.there);
  live = λ e. let q : status.Ready ≡ status.Ended = sym (given_ready s k t place is_ready v b.next b.given) ∙ e in absurd (cc q);
}

pub get_low : (ts : List Thread) (k : ℕ) (old : Thread) → slice_get ts k ≡ Some old → k < length ts
get_low [] k old e = absurd (cc e)
get_low (x ∷ xs) zero old e = let long : length (x ∷ xs) ≡ length xs + 1 = omega arith in omega (arith, long)
get_low (x ∷ xs) (suc k) old e = let low : k < length xs = get_low xs k old e in let long : length (x ∷ xs) ≡ length xs + 1 = omega arith in omega (arith, low, long)

begun_seen : (u : CodeUnit) (maker function : ℕ) (args held : List Value) (t : Thread) → IsBegun u maker function args held t → thread_seen t ≡ record { parent = maker; life = Ready (begins u held function args) }
begun_seen u maker function args held t b =
    ap (λ p. record { parent = p; life = life_seen t.status t }) b.parent
    ∙ ap (λ x. record { parent = maker; life = life_seen x t }) b.status
    ∙ ap (λ g. record { parent = maker; life = Ready (record { globals = g; calls = stack t.frames }) }) b.globals
    ∙ ap (λ c. record { parent = maker; life = Ready (record { globals = held; calls = c }) }) b.frames
    ∙ ap (λ o. record { parent = maker; life = Ready (record { globals = held; calls = call_at function (args ++ locals_of o) ∷ [] }) }) (sym b.there)

module _ (s : Parts) (k : ℕ) (t : Thread) where
  module _ (function : ℕ) (args : List Value) (out : IsOut s k (point.Spawn function args) t) where
    spawn_next : (cpus budget used : ℕ) (m : sim.Parts) → row_step s.unit m ≡ left s.unit (point.Spawn function args) t.globals (stack t.frames)
        → next s cpus budget used (before_row s cpus budget used k m []) ≡ turns.spawned s.unit.files k (before_row s cpus budget used k m []) (at_of s.unit t) (begins s.unit t.globals function args) (go s k t out.place out.ready)
    spawn_next cpus budget used m row = row_next s cpus budget used k out.place.old out.place.there m [] (Needs (at_of s.unit t) (Spawns (begins s.unit t.globals function args)) (go s k t out.place out.ready)) row

    abbrev spawned_so : State → Bool → ℕ → stages.Move sim.Parts
    spawned_so d b n =
        where_room s.unit.files b d (at_of s.unit t) run.TooManyThreads
        (comes k (meaning.with_threads (d.threads ++ record { parent = k; life = Ready (begins s.unit t.globals function args) } ∷ []) d) (go s k t out.place out.ready (value.Text (thread_id n) ∷ [])))

    abbrev spawned_by : State → List ℕ → stages.Move sim.Parts
    spawned_by d x =
        where_room s.unit.files true d (at_of s.unit t) run.TooManyThreads
        (comes k (meaning.with_threads (d.threads ++ record { parent = k; life = Ready (begins s.unit t.globals function args) } ∷ []) d) (go s k t out.place out.ready (value.Text x ∷ [])))

    pub many_threads : MAX_THREADS ≤ length s.threads → (s' : Parts) (r : Result Stage Halt) → Breaks s t run.TooManyThreads s' r → (log : Log) → FromRow s k t (point.Spawn function args) log log s' r
    many_threads full s' r h log = λ cpus budget used m row.
        let d : State = before_row s cpus budget used k m [] in
        goes_to s cpus budget used d (stages.fails s.unit.files d (at_of s.unit t) run.TooManyThreads) log s' r
        (spawn_next cpus budget used m row
        ∙ ap (λ n. spawned_so d (nat_lt n MAX_THREADS) (length d.threads)) (count_there s cpus budget used k m [])
        ∙ ap (λ b. spawned_so d b (length d.threads)) (le-ltb (length s.threads) MAX_THREADS full))
        (stops_so s k t out.place out.ready cpus budget used m [] (at_of s.unit t) run.TooManyThreads s' r h.0 h.1)

    -- the maker has its number, and the new thread stands behind all others
    module _ (id : List ℕ) (is : id ≡ thread_id (length s.threads)) (room : length s.threads < MAX_THREADS) (s1 : Parts) (b : IsBack k (Some (value.Text id)) t s s1) where
      begun_there : (s' : Parts) (h : HasSpawned k function args s1 s') → thread_seen h.thread ≡ record { parent = k; life = Ready (begins s.unit t.globals function args) }
      begun_there s' h =
          let from : b.next ≡ h.from = get_set s.threads k out.place.old b.next h.from out.place.there (subst (λ (x : Parts). slice_get x.threads k ≡ Some h.from) b.parts h.there) in
          let globals : h.from.globals ≡ t.globals = ap (λ (x : Thread). x.globals) (sym from) ∙ ap (λ (x : Thread). x.globals) b.given.rest in
          begun_seen s1.unit k function args h.from.globals h.thread h.begun
          ∙ ap (λ (u : CodeUnit). record { parent = k; life = Ready (begins u h.from.globals function args) }) (ap (λ (x : Parts). x.unit) b.parts)
          ∙ ap (λ g. record { parent = k; life = Ready (begins s.unit g function args) }) globals

      threads_are : (m : sim.Parts) (s' : Parts) (h : HasSpawned k function args s1 s')
          → with_life_from 0 k (Ready (go s k t out.place out.ready (given (Some (value.Text id))))) (with_life_from 0 k (Ready m) (map thread_seen s.threads) ++ record { parent = k; life = Ready (begins s.unit t.globals function args) } ∷ [])
          ≡ map thread_seen s'.threads
      threads_are m s' h =
          let x : Life sim.Parts = Ready (go s k t out.place out.ready (given (Some (value.Text id)))) in
          let y : meaning.Thread sim.Parts = record { parent = k; life = Ready (begins s.unit t.globals function args) } in
          let low : k < length s.threads = get_low s.threads k out.place.old out.place.there in
          let count : length (with_life_from 0 k (Ready m) (map thread_seen s.threads)) ≡ length s.threads = count_there s 1 1 1 k m [] in
          let life : life_seen b.next.status b.next ≡ x = ap (λ z. life_seen z b.next) (given_ready s k t out.place out.ready (Some (value.Text id)) b.next b.given) ∙ ap (λ z. Ready z) (given_code s k t out.place out.ready (Some (value.Text id)) b.next b.given) in
          life_push 0 k x (with_life_from 0 k (Ready m) (map thread_seen s.threads)) y (omega (arith, low, count))
          ∙ ap (λ us. us ++ y ∷ []) (twice 0 k (Ready m) x (map thread_seen s.threads) ∙ ap (λ z. with_life_from 0 k z (map thread_seen s.threads)) (sym life)
          ∙ sym (set_seen k s.threads b.next out.place.old out.place.there (ap (λ (z : Thread). z.parent) b.given.rest ∙ out.place.parent)))
          ∙ ap (λ z. map thread_seen (slice_set s.threads k b.next) ++ z ∷ []) (sym (begun_there s' h))
          ∙ sym (map-append thread_seen (slice_set s.threads k b.next) (h.thread ∷ []))
          ∙ ap (λ (z : Parts). map thread_seen (z.threads ++ h.thread ∷ [])) (sym b.parts)
          ∙ ap (λ (z : Parts). map thread_seen z.threads) (sym h.parts)

      rest_same : (s' : Parts) (h : HasSpawned k function args s1 s') → (cpus budget used : ℕ) → with_threads (map thread_seen s'.threads) (seen s cpus budget used at_point) ≡ seen s' cpus budget used at_point
      rest_same s' h cpus budget used =
          ap (λ (z : Parts). with_threads (map thread_seen s'.threads) (seen z cpus budget used at_point))
          (ap (λ (z : Parts). parts.with_threads s'.threads z) (sym b.parts) ∙ ap (λ (z : Parts). parts.with_threads s'.threads z) (sym h.parts))

      comes_begun : (cpus budget used : ℕ) (m : sim.Parts) (s' : Parts) (r : Result Stage Halt) → BeginsThread k function args s1 s' r
          → Comes s.unit cpus budget used (comes k (meaning.with_threads ((before_row s cpus budget used k m []).threads ++ record { parent = k; life = Ready (begins s.unit t.globals function args) } ∷ []) (before_row s cpus budget used k m []))
          (go s k t out.place out.ready (value.Text id ∷ []))) s' r
      comes_begun cpus budget used m s' (Ok g) h =
          let w = h.1 in (
            ap (λ (z : Parts). z.unit) w.parts ∙ ap (λ (z : Parts). z.unit) b.parts,
            subst (λ z. IsAt s' cpus budget used g z)
                (sym (ap (λ us. with_threads us (seen s cpus budget used at_point)) (threads_are m s' w) ∙ rest_same s' w cpus budget used))
                (subst (λ z. IsAt s' cpus budget used z (seen s' cpus budget used at_point)) (sym h.0) (IsAt.whole stage.Point)),
          )
      comes_begun cpus budget used m s' (Err halt.Spent) h = absurd h
      comes_begun cpus budget used m s' (Err halt.NoMemory) h = tt

      pub begins_thread : (s' : Parts) (r : Result Stage Halt) → BeginsThread k function args s1 s' r → (log : Log) → FromRow s k t (point.Spawn function args) log log s' r
      begins_thread s' r h log = λ cpus budget used m row.
          let d : State = before_row s cpus budget used k m [] in
          goes_to s cpus budget used d
          (comes k (meaning.with_threads (d.threads ++ record { parent = k; life = Ready (begins s.unit t.globals function args) } ∷ []) d) (go s k t out.place out.ready (value.Text id ∷ []))) log s' r
          (spawn_next cpus budget used m row
          ∙ ap (λ n. spawned_so d (nat_lt n MAX_THREADS) n) (count_there s cpus budget used k m [])
          ∙ ap (λ b. spawned_so d b (length s.threads)) (lt-ltb (length s.threads) MAX_THREADS room)
          ∙ ap (λ x. spawned_by d x) (sym is))
          (comes_begun cpus budget used m s' r h)

  -- Saves

  module _ (path : Option (List ℕ)) (out : IsOut s k (point.Save path) t) (s1 : Parts) (b : IsBack k None t s s1) (valid : IsValid s1) (fits : NumbersFit s1) where
    path_is : (p : Option (List ℕ)) (c : State) → c.path ≡ s1.path → path_in c p ≡ path_or s1.path p
    path_is (Some x) c e = refl
    path_is None c e = ap checkpoint_of e

    back_is : (cpus budget used : ℕ) (m : sim.Parts) → comes k (before_row s cpus budget used k m []) (go s k t out.place out.ready []) ≡ seen s1 cpus budget used at_point
    back_is cpus budget used m =
        put_back s cpus budget used k out.place.old out.place.there m b.next (Ready (go s k t out.place out.ready [])) at_point [] (ap (λ (z : Thread). z.parent) b.given.rest ∙ out.place.parent)
        (ap (λ z. life_seen z b.next) (given_ready s k t out.place out.ready None b.next b.given) ∙ ap (λ z. Ready z) (given_code s k t out.place out.ready None b.next b.given))
        ∙ ap (λ (z : Parts). seen z cpus budget used at_point) (sym b.parts)

    image_is : (cpus budget used : ℕ) → image s.unit (seen s1 cpus budget used at_point) ≡ spells2 s1
    image_is cpus budget used =
        ap (λ (u : CodeUnit). spells2 (state_of u (seen s1 cpus budget used at_point))) (sym (ap (λ (z : Parts). z.unit) b.parts))
        ∙ ap spells2 (same_state s1 valid cpus budget used at_point)

    save_next : (cpus budget used : ℕ) (m : sim.Parts) → row_step s.unit m ≡ left s.unit (point.Save path) t.globals (stack t.frames)
        → next s cpus budget used (before_row s cpus budget used k m [])
        ≡ AsksNext (ask.Save (path_or s1.path path) (spells2 s1)) (λ q. stages.unless_fault (before_row s cpus budget used k m []) q (seen s1 cpus budget used at_point))
    save_next cpus budget used m row =
        let d : State = before_row s cpus budget used k m [] in
        row_next s cpus budget used k out.place.old out.place.there m [] (Needs (at_of s.unit t) (Saves path) (go s k t out.place out.ready)) row
        ∙ ap (λ (z : State). AsksNext (ask.Save (path_in d path) (image s.unit z)) (λ q. stages.unless_fault d q z)) (back_is cpus budget used m)
        ∙ ap (λ x. AsksNext (ask.Save x (image s.unit (seen s1 cpus budget used at_point))) (λ q. stages.unless_fault d q (seen s1 cpus budget used at_point))) (path_is path d (ap (λ (z : Parts). z.path) (sym b.parts)))
        ∙ ap (λ x. AsksNext (ask.Save (path_or s1.path path) x) (λ q. stages.unless_fault d q (seen s1 cpus budget used at_point))) (image_is cpus budget used)

    behind_save : (cpus budget used : ℕ) (d : State) (q : Reply) → IsAt s1 cpus budget used (or_faulted stage.Point q) (stages.unless_fault d q (seen s1 cpus budget used at_point))
    behind_save cpus budget used d (reply.Bytes text) = IsAt.whole stage.Point
    behind_save cpus budget used d reply.Missing = IsAt.whole stage.Point
    behind_save cpus budget used d (reply.Stamp there size time) = IsAt.whole stage.Point
    behind_save cpus budget used d reply.Done = IsAt.whole stage.Point
    behind_save cpus budget used d (reply.SysDone code text) = IsAt.whole stage.Point
    behind_save cpus budget used d reply.Started = IsAt.whole stage.Point
    behind_save cpus budget used d (reply.Run n) = IsAt.whole stage.Point
    behind_save cpus budget used d (reply.Ended n code) = IsAt.whole stage.Point
    behind_save cpus budget used d reply.Fault = IsAt.over stage.Faulted (in_mode faulted d) tt refl
    behind_save cpus budget used d reply.NoRoom = IsAt.whole stage.Point

    pub saves : (before after : Log) (r : Result Stage Halt) → AsksThen (ask.Save (path_or s1.path path) (spells2 s1)) before after (or_faulted stage.Point) r → FromRow s k t (point.Save path) before after s1 r
    saves before after r h = λ cpus budget used m row.
        let d : State = before_row s cpus budget used k m [] in
        asks_reach s cpus budget d tt before after (ask.Save (path_or s1.path path) (spells2 s1)) (λ q. stages.unless_fault d q (seen s1 cpus budget used at_point)) s1 used (or_faulted stage.Point) r
        (save_next cpus budget used m row, record { state = s1; unit = ap (λ (z : Parts). z.unit) b.parts; loads = record { spelled = inr refl; valid = valid; fits = fits }; is = refl })
        (ap (λ (z : Parts). z.unit) b.parts) (λ q answered. behind_save cpus budget used d q) h
