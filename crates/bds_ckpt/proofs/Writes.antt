-- What writing asks of a state holds of a valid one.
use Rattle.std.proofs.Common.{◌≡◌, ◌<◌, ◌+◌, ℕ, List, [], ◌∷◌, ◌++◌, length, take, get_or, reverse, slice_get, Option, Some, None, sym, ap, ◌∙◌, subst, arith, add-one, append_assoc, append-nil}
use Rattle.std.specs.List.{All, flat_map}
use Rattle.std.proofs.Math.Seq.{take-suc}
use Rattle.std.proofs.lemmas.List.Concat.{flat_map-append}
use Rattle.std.proofs.lemmas.Option.{slice_get-get_or}
use Rattle.std.proofs.lemmas.List.{reverse-reverse}
use Rattle.std.proofs.lemmas.List.Elements.{All-nil, All-cons}
use Rattle.bds_value.specs.declared.ids.Status.{Status}
use Rattle.bds_value.specs.declared.ids.Status.TheVariants.{Ready, Waiting, Ended}
use Rattle.bds_value.specs.declared.value.Ty.{Ty}
use Rattle.bds_value.specs.declared.value.Value.{Value}
use Rattle.bds_value.specs.Spelling.{IsWithinLimits}
use Rattle.bds_code.specs.declared.unit.Unit.{Unit as CodeUnit}
use Rattle.bds_code_frames.specs.declared.frame.Frame.{Frame}
use Rattle.bds_code_frames.specs.declared.thread.Thread.{Thread}
use Rattle.bds_code_frames.specs.Stack.{opened}
use Rattle.bds_verify.specs.Threads.{Shapes, IsThread, Typed}
use Rattle.bds_verify.specs.Verified.{VerifiedUnit}
use Rattle.bds_state_threads.specs.Fields.{IsFieldStatus}
use Rattle.bds_state_threads.specs.Judged.{FitsUnder, HasOwn}
use Rattle.bds_state_threads.proofs.Begun.{few-globals}
use Rattle.bds_state_threads.proofs.Chains.{thread-own, thread-frames}
use Rattle.bds_state_threads.proofs.Resting.{typed-reverse}
use Rattle.bds_state_threads.proofs.Typing.{typed-length}
use Rattle.bds_state_threads.proofs.Written.{all-at}
use Rattle.bds_state.specs.Parts.{Parts}
use Rattle.bds_state.specs.StateSpelling.{frame_field}
use Rattle.bds_state.specs.Valid.{IsValid}
use Rattle.bds_ckpt.specs.Short.{AreShort, IsShortFrame, IsShort}

short_values : (vs : List Value) (ts : List Ty) → Typed vs ts → All IsWithinLimits vs
short_values [] ts h = All-nil IsWithinLimits
short_values (v ∷ vs) [] h = absurd h
short_values (v ∷ vs) (t ∷ ts) h = All-cons IsWithinLimits v vs h.0.limits (short_values vs ts h.1)

short_turned : (vs : List Value) (ts : List Ty) → Typed (reverse vs) ts → All IsWithinLimits vs
short_turned vs ts h = short_values vs (reverse ts) (subst (λ x. Typed x (reverse ts)) (reverse-reverse vs) (typed-reverse (reverse vs) ts h))

module _ (u : CodeUnit) (v : VerifiedUnit u) (t : Thread) (valid : IsThread u t) where
  before_short : (shapes : Shapes u) (next : Option Frame) (x : Frame) → FitsUnder u shapes next x → IsShortFrame x
  before_short shapes None x b =
      record { slots = short_values x.slots (b.f.params ++ b.f.locals) b.call.slots; operands = short_turned x.operands (reverse (shapes x.function x.place)) b.call.ops }
  before_short shapes (Some y) x b =
      record { slots = short_values x.slots (b.f.params ++ b.f.locals) b.call.slots; operands = short_turned x.operands b.rest b.call.ops }

  frame_short : (n : ℕ) (x : Frame) → slice_get t.frames n ≡ Some x → IsShortFrame x
  frame_short n x e = let f = thread-frames u t valid n x e in before_short f.shapes (slice_get t.frames (n + 1)) x f.fits

  typed_short : Typed t.globals u.globals → AreShort t.globals
  typed_short h = record { count = let e = typed-length t.globals u.globals h in let few = few-globals u v in omega (arith, e, few); each = short_values t.globals u.globals h }

  own_short : (s : Status) → HasOwn u s t.globals t.frames → AreShort t.globals
  own_short Ready h = typed_short h.0
  own_short (Waiting ids) h = typed_short h.0
  own_short Ended h = subst AreShort (sym h.0) (record { count = omega arith; each = All-nil IsWithinLimits })

  thread_short : IsFieldStatus t.status → IsShort t
  thread_short status =
      record { status = status; globals = own_short t.status (thread-own u t valid); frames = all-at IsShortFrame t.frames frame_short }

pub short_threads : (s : Parts) → IsValid s → All IsShort s.threads
short_threads s h = all-at IsShort s.threads (λ n t e. let one = h.threads.each n t e in thread_short s.unit h.unit t one.valid one.counted.ids)

-- the frames that were put, and one more
pub one_frame : (old middle new : List ℕ) (fs : List Frame) (i : ℕ) → i < length fs → middle ≡ old ++ flat_map frame_field (take i fs)
    → ((f : Frame) → slice_get fs i ≡ Some f → new ≡ middle ++ frame_field f) → new ≡ old ++ flat_map frame_field (take (i + 1) fs)
one_frame old middle new fs i l before more =
    let x : Frame = get_or fs i (opened 0 0) in
    let step : new ≡ middle ++ frame_field x = more x (slice_get-get_or fs i (opened 0 0) l) in
    let grown : flat_map frame_field (take (i + 1) fs) ≡ flat_map frame_field (take i fs) ++ frame_field x =
    ap (λ n. flat_map frame_field (take n fs)) (add-one i) ∙ ap (flat_map frame_field) (take-suc fs i (opened 0 0) l)
    ∙ flat_map-append frame_field (take i fs) (x ∷ []) ∙ ap (λ t. flat_map frame_field (take i fs) ++ t) (append-nil (frame_field x)) in
    step ∙ ap (λ m. m ++ frame_field x) before ∙ append_assoc old (flat_map frame_field (take i fs)) (frame_field x) ∙ ap (λ t. old ++ t) (sym grown)
