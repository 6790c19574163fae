-- A valid thread may be in a file.
use Rattle.std.proofs.Common.{◌≡◌, ◌<◌, ◌≤◌, ◌+◌, ◌&&◌, ℕ, zero, suc, nat_le, List, [], ◌∷◌, ◌++◌, length, reverse, slice_get, Option, Some, None, Bool, true, refl, sym, ap, ◌∙◌, subst, arith}
use Rattle.std.specs.List.{All}
use Rattle.std.proofs.lemmas.Bool.{leb-true}
use Rattle.std.proofs.lemmas.List.{reverse-reverse}
use Rattle.std.proofs.lemmas.List.Elements.{All-nil, All-cons, All-head, All-tail}
use Rattle.bds_value.specs.declared.TheConstants.{MAX_COUNT, MAX_CALLS}
use Rattle.bds_value.specs.declared.ids.Status.{Status}
use Rattle.bds_value.specs.declared.ids.Status.TheVariants.{Ready, Waiting, Ended}
use Rattle.bds_value.specs.declared.value.Ty.{Ty}
use Rattle.bds_value.specs.declared.value.Value.{Value}
use Rattle.bds_value.specs.Fields.{IsFieldValue, IsValueTy, NumbersFit}
use Rattle.bds_code.specs.declared.unit.Unit.{Unit as CodeUnit}
use Rattle.bds_code_frames.specs.declared.frame.Frame.{Frame}
use Rattle.bds_code_frames.specs.declared.thread.Thread.{Thread}
use Rattle.bds_code_frames.specs.Counts.{IsCounted}
use Rattle.bds_code_frames.specs.Stack.{call_of}
use Rattle.bds_verify.specs.Threads.{Shapes, Holds, HasParts, IsThread, IsCall, Typed, AreLive}
use Rattle.bds_verify.specs.Verified.{VerifiedUnit}
use Rattle.bds_verify.specs.Whole.{are_value_tys, is_whole_unit}
use Rattle.bds_state_threads.specs.Fields.{AreFieldValues, IsFieldStatus, IsFieldFrame, IsFieldThread}
use Rattle.bds_state_threads.specs.Judged.{FitsUnder, HasOwn, IsFrame}
use Rattle.bds_state_threads.specs.Numbers.{FrameFits, ThreadFits}
use Rattle.bds_state_threads.proofs.Begun.{few-globals}
use Rattle.bds_state_threads.proofs.Chains.{thread-own, thread-frames}
use Rattle.bds_state_threads.proofs.Placed.{frame-at}
use Rattle.bds_state_threads.proofs.Resting.{typed-reverse}
use Rattle.bds_state_threads.proofs.Typing.{typed-length}

field-value : (v : Value) (t : Ty) → Holds v t → NumbersFit v → IsFieldValue v
field-value v t h n = (subst IsValueTy (sym h.type) h.nests, h.formed, h.limits, n)

field-values : (vs : List Value) (ts : List Ty) → Typed vs ts → All NumbersFit vs → All IsFieldValue vs
field-values [] ts h n = All-nil IsFieldValue
field-values (v ∷ vs) [] h n = absurd h
field-values (v ∷ vs) (t ∷ ts) h n =
    All-cons IsFieldValue v vs (field-value v t h.0 (All-head NumbersFit v vs n)) (field-values vs ts h.1 (All-tail NumbersFit v vs n))

turned-values : (vs : List Value) (ts : List Ty) → Typed (reverse vs) ts → All NumbersFit vs → All IsFieldValue vs
turned-values vs ts h n = field-values vs (reverse ts) (subst (λ x. Typed x (reverse ts)) (reverse-reverse vs) (typed-reverse (reverse vs) ts h)) n

pub all-at : {X : Type 0} (P : X → Type 0) (xs : List X) → ((n : ℕ) (x : X) → slice_get xs n ≡ Some x → P x) → All P xs
all-at P [] h = All-nil P
all-at P (x ∷ xs) h = All-cons P x xs (h 0 x refl) (all-at P xs (λ n y e. h (suc n) y e))

module _ (u : CodeUnit) (v : VerifiedUnit u) (t : Thread) (valid : IsThread u t) (fits : ThreadFits t) where
  call-field : (x : Frame) → FrameFits x → (ts us : List Ty) → Typed x.slots ts → Typed (reverse x.operands) us → IsFieldFrame x
  call-field x h ts us a b = record {
    slots = record { count = h.counted.slots; each = field-values x.slots ts a h.slots };
    operands = record { count = h.counted.operands; each = turned-values x.operands us b h.operands };
  }

  before-field : (shapes : Shapes u) (next : Option Frame) (x : Frame) → FrameFits x → FitsUnder u shapes next x → IsFieldFrame x
  before-field shapes None x h b = call-field x h (b.f.params ++ b.f.locals) (reverse (shapes x.function x.place)) b.call.slots b.call.ops
  before-field shapes (Some y) x h b = call-field x h (b.f.params ++ b.f.locals) b.rest b.call.slots b.call.ops

  frame-field : (n : ℕ) (x : Frame) → slice_get t.frames n ≡ Some x → IsFieldFrame x
  frame-field n x e =
      let f = thread-frames u t valid n x e in
      before-field f.shapes (slice_get t.frames (n + 1)) x (frame-at FrameFits t.frames n x fits.frames e) f.fits

  typed-globals : Typed t.globals u.globals → AreFieldValues t.globals
  typed-globals h = record {
    count = let e = typed-length t.globals u.globals h in let few = few-globals u v in omega (arith, e, few);
    each = field-values t.globals u.globals h fits.globals;
  }

  few-frames : length t.frames ≤ MAX_CALLS → length t.frames ≤ MAX_COUNT
  few-frames l = omega (arith, l)

  no-frames : t.frames ≡ [] → length t.frames ≤ MAX_COUNT
  no-frames e = subst (λ (fs : List Frame). length fs ≤ MAX_COUNT) (sym e) (omega arith)

  no-globals : t.globals ≡ [] → AreFieldValues t.globals
  no-globals e = subst AreFieldValues (sym e) (record { count = omega arith; each = All-nil IsFieldValue })

  own-field : (s : Status) → HasOwn u s t.globals t.frames → AreFieldValues t.globals × (length t.frames ≤ MAX_COUNT)
  own-field Ready h = (typed-globals h.0, few-frames h.2)
  own-field (Waiting ids) h = (typed-globals h.0, few-frames h.1)
  own-field Ended h = (no-globals h.0, no-frames h.1)

  pub thread-field : IsFieldStatus t.status → IsFieldThread t
  thread-field status =
      let own = own-field t.status (thread-own u t valid) in
      record { status = status; globals = own.0; count = own.1; frames = all-at IsFieldFrame t.frames frame-field }
