-- A thread that another makes is valid, and keeps the state so.
use Rattle.std.proofs.Common.{◌≡◌, ◌≢◌, ◌<◌, ℕ, List, [], ◌∷◌, ◌++◌, length, slice_get, slice_index_or, sym, ◌∙◌, subst}
use Rattle.std.proofs.lemmas.Option.{slice_get_within}
use Rattle.std.specs.List.{All}
use Rattle.bds_value.specs.declared.TheConstants.{MAX_THREADS}
use Rattle.bds_value.specs.declared.ids.Status.TheVariants.{Ended}
use Rattle.bds_value.specs.declared.value.Value.{Value}
use Rattle.bds_code.specs.declared.unit.Unit.{Unit as CodeUnit}
use Rattle.bds_code_frames.specs.declared.thread.Thread.{Thread}
use Rattle.bds_code_frames.specs.Counts.{IsCounted}
use Rattle.bds_state_threads.specs.Fields.{IsFieldStatus}
use Rattle.bds_state_threads.specs.Made.{IsBegun}
use Rattle.bds_verify.specs.Threads.{IsThread, Typed}
use Rattle.bds_state.specs.Changes.{IsLive}
use Rattle.bds_state.specs.Parts.{Parts, with_threads}
use Rattle.bds_state.specs.Valid.{AreThere, IsCountedThread, IsValid}
use Rattle.bds_state.proofs.Kept.{thread_added}
use Rattle.bds_state.proofs.Places.{found_at, live_parts, same_item}

pub live_globals : (u : CodeUnit) (t : Thread) → t.status ≢ Ended → IsThread u t → Typed t.globals u.globals
live_globals u t live h = (live_parts u t.status t.globals t.frames live h).globals_typed

-- what an index finds is the maker
pub found_live : (threads : List Thread) (maker : ℕ) (x : Thread) (h : IsLive threads maker)
    → x ≡ slice_index_or threads maker x → slice_index_or threads maker x ≡ h.thread
found_live threads maker x h e =
    sym e ∙ sym (same_item (slice_get threads maker) h.thread x h.there
    (found_at threads maker x (slice_get_within threads maker h.thread h.there) e))

pub begun_counted : (u : CodeUnit) (maker function : ℕ) (args globals : List Value) (t : Thread)
    → IsBegun u maker function args globals t → All IsCounted t.frames → IsCountedThread t
begun_counted u maker function args globals t h counted =
    record { ids = subst IsFieldStatus (sym h.status) tt; frames = counted }

-- with the thread at the end
pub spawned_valid : (s : Parts) → IsValid s → (maker function : ℕ) (args globals : List Value) (t : Thread)
    → length s.threads < MAX_THREADS → maker < length s.threads
    → IsBegun s.unit maker function args globals t → IsThread s.unit t → IsCountedThread t
    → IsValid (with_threads (s.threads ++ t ∷ []) s)
spawned_valid s v maker function args globals t room there begun valid counted =
    thread_added s v t room (subst (λ n. n < length s.threads) (sym begun.parent) there)
    (subst (AreThere (length s.tasks) (length s.threads)) (sym begun.status) tt) counted valid
