-- The state that a configuration is saved as is the one that it is seen from.
use Rattle.std.proofs.Common.{◌≡◌, ℕ, List, [], ◌∷◌, Some, map, reverse, slice_get, refl, sym, ap, ◌∙◌}
use Rattle.std.specs.Prelude.{zero, suc}
use Rattle.bds_value.specs.declared.ids.Id.{Id}
use Rattle.bds_value.specs.declared.ids.Id.TheVariants as id
use Rattle.bds_value.specs.declared.ids.Status.{Status}
use Rattle.bds_value.specs.declared.ids.Status.TheVariants as status
use Rattle.bds_value.specs.declared.value.Value.{Value}
use Rattle.bds_code.specs.declared.unit.Unit.{Unit as CodeUnit}
use Rattle.bds_code_frames.specs.declared.frame.Frame.{Frame}
use Rattle.bds_code_frames.specs.declared.thread.Thread.{Thread}
use Rattle.bds_code_frames.specs.Stack.{call_of, stack}
use Rattle.bds_schedule.specs.Configuration as meaning
use Rattle.bds_schedule.specs.Configuration.{Mode}
use Rattle.bds_sim.specs.Threads as sim
use Rattle.bds_state.specs.Parts.{Parts}
use Rattle.bds_state.specs.Valid.{IsValid}
use Rattle.bds_verify.specs.Threads.{IsThread}
use Rattle.bds_engine_parts.specs.Image.{id_of, frame_of, frames_of, thread_of, state_of}
use Rattle.bds_engine_parts.specs.Seen.{id_seen, waiting_seen, life_seen, thread_seen, seen}

back_and_forth : {X Y : Type 0} (f : X → Y) (g : Y → X) → ((x : X) → g (f x) ≡ x) → (xs : List X) → map g (map f xs) ≡ xs
back_and_forth f g e [] = refl
back_and_forth f g e (x ∷ xs) = ap (λ y. y ∷ map g (map f xs)) (e x) ∙ ap (λ ys. x ∷ ys) (back_and_forth f g e xs)

one_id : (i : Id) → id_of (id_seen i) ≡ i
one_id (id.Task n) = refl
one_id (id.Thread n) = refl

one_frame : (f : Frame) → frame_of (call_of f) ≡ f
one_frame f = ap (λ xs. record { function = f.function; place = f.place; slots = f.slots; operands = xs }) (Rattle.std.proofs.lemmas.List.reverse-reverse f.operands)

pub same_frames : (fs : List Frame) → frames_of (stack fs) ≡ fs
same_frames fs = ap reverse (back_and_forth call_of frame_of one_frame (reverse fs)) ∙ Rattle.std.proofs.lemmas.List.reverse-reverse fs

waited : (p : ℕ) (g : List Value) (ids : List Id) (fs frames : List Frame) → thread_of p (waiting_seen frames (map id_seen ids) (record { globals = g; calls = stack fs })) ≡ record { parent = p; status = status.Waiting ids; globals = g; frames = fs }
waited p g ids fs [] = ap (λ is. record { parent = p; status = status.Waiting is; globals = g; frames = frames_of (stack fs) }) (back_and_forth id_seen id_of one_id ids) ∙ ap (λ xs. record { parent = p; status = status.Waiting ids; globals = g; frames = xs }) (same_frames fs)
waited p g ids fs (f ∷ more) = ap (λ is. record { parent = p; status = status.Waiting is; globals = g; frames = frames_of (stack fs) }) (back_and_forth id_seen id_of one_id ids) ∙ ap (λ xs. record { parent = p; status = status.Waiting ids; globals = g; frames = xs }) (same_frames fs)

-- an ended thread has nothing else
same_thread : (u : CodeUnit) (p : ℕ) (s : Status) (g : List Value) (fs : List Frame) → IsThread u (record { parent = p; status = s; globals = g; frames = fs }) → thread_of p (life_seen s (record { parent = p; status = s; globals = g; frames = fs })) ≡ record { parent = p; status = s; globals = g; frames = fs }
same_thread u p status.Ready g fs h = ap (λ xs. record { parent = p; status = status.Ready; globals = g; frames = xs }) (same_frames fs)
same_thread u p (status.Waiting ids) g fs h = waited p g ids fs fs
same_thread u p status.Ended g fs h = ap (λ z. record { parent = p; status = status.Ended; globals = z; frames = [] }) (sym h.0) ∙ ap (λ z. record { parent = p; status = status.Ended; globals = g; frames = z }) (sym h.1)

abbrev thread_back : meaning.Thread sim.Parts → Thread
thread_back t = thread_of t.parent t.life

same_threads : (u : CodeUnit) (ts : List Thread) → ((n : ℕ) (t : Thread) → slice_get ts n ≡ Some t → IsThread u t) → map thread_back (map thread_seen ts) ≡ ts
same_threads u [] h = refl
same_threads u (t ∷ ts) h =
    ap (λ x. x ∷ map thread_back (map thread_seen ts)) (same_thread u t.parent t.status t.globals t.frames (h zero t refl))
    ∙ ap (λ xs. t ∷ xs) (same_threads u ts (λ n x e. h (suc n) x e))

pub same_state : (s : Parts) → IsValid s → (cpus budget used : ℕ) (mode : Mode) → state_of s.unit (seen s cpus budget used mode) ≡ s
same_state s v cpus budget used mode =
    ap (λ ts. record { unit = s.unit; threads = ts; tasks = s.tasks; rules = s.rules; path = s.path }) (same_threads s.unit s.threads (λ n t e. (v.threads.each n t e).valid))
