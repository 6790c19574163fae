-- The types of the operands at a place are the same, whichever way the places are judged.
use Rattle.std.proofs.Common.{◌≡◌, ◌≢◌, ◌<◌, ◌+◌, ℕ, zero, suc, List, [], ◌∷◌, ◌++◌, length, reverse, slice_get, Bool, true, false, Option, Some, None, Result, Ok, Err, arith, below_more, refl, sym, ap, ◌∙◌, subst}
use Rattle.std.specs.Bool.{Decides}
use Rattle.bds_value.specs.declared.value.Ty.{Ty}
use Rattle.bds_code.specs.declared.unit.Function.{Function}
use Rattle.bds_code.specs.declared.unit.Unit.{Unit as CodeUnit}
use Rattle.bds_code.specs.Operands.{given}
use Rattle.bds_code_frames.specs.declared.frame.Frame.{Frame}
use Rattle.bds_code_frames.specs.declared.thread.Thread.{Thread}
use Rattle.bds_code_frames.specs.Stack.{call_of}
use Rattle.bds_verify.specs.Threads.{Shapes, AreAllShapes, Stands, Waits, IsCall, IsThread}
use Rattle.bds_verify.specs.Verified.{VerifiedUnit}
use Rattle.bds_verify.proofs.Exact.{all_agree}
use Rattle.bds_state_threads.specs.declared.judge.ThreadFault.{ThreadFault}
use Rattle.bds_state_threads.specs.declared.judge.ThreadFault.TheVariants as fault
use Rattle.bds_state_threads.specs.Judged.{IsOwn, FitsUnder, IsFrame, IsFirstBad, IsThreadFault, JudgesFrames, JudgesThread}
use Rattle.bds_state_threads.proofs.Begun.{all-shapes, are-all}
use Rattle.bds_state_threads.proofs.Chains.{thread-valid, thread-own, thread-frames}

module _ (u : CodeUnit) (a b : Shapes u) (ja : AreAllShapes u a) (jb : AreAllShapes u b) where
  same_shapes : (n p : ℕ) (f : Function) → slice_get u.functions n ≡ Some f → p < length f.code → a n p ≡ b n p
  same_shapes n p f there l = sym (all_agree u f (a n) (ja n f there) p l).same ∙ (all_agree u f (b n) (jb n f there) p l).same

  fits-same : (next : Option Frame) (x : Frame) → FitsUnder u a next x → FitsUnder u b next x
  fits-same None x h =
      let e : reverse (a x.function x.place) ≡ reverse (b x.function x.place) = ap reverse (same_shapes x.function x.place h.f h.there h.within) in
      record { f = h.f; there = h.there; within = h.within; call = subst (λ s. IsCall h.f s (call_of x)) e h.call; chain = tt }
  fits-same (Some y) x h = record {
    f = h.f;
    g = h.g;
    at = h.at;
    there = h.there;
    callee_there = h.callee_there;
    behind = h.behind;
    calls = h.calls;
    within = h.within;
    rest = h.rest;
    result = ap reverse (sym (same_shapes x.function x.place h.f h.there h.within)) ∙ h.result;
    call = h.call;
  }

pub valid-by-parts : (u : CodeUnit) → VerifiedUnit u → (t : Thread) → IsOwn u t → ((n : ℕ) (x : Frame) → slice_get t.frames n ≡ Some x → IsFrame u t.frames n x) → IsThread u t
valid-by-parts u v t own h =
    thread-valid u (all-shapes u v) t (are-all u v) own
    (λ n x e. let f = h n x e in fits-same u f.shapes (all-shapes u v) f.judged (are-all u v) (slice_get t.frames (n + 1)) x f.fits)

pub fault-invalid : (u : CodeUnit) (t : Thread) (f : ThreadFault) → IsThreadFault u t f → f ≢ fault.NoMemory → IsThread u t → ⊥
fault-invalid u t fault.Thread h n v = h (thread-own u t v)
fault-invalid u t (fault.Frame i) h n v = h.1.bad (thread-frames u t v i h.1.x h.1.there)
fault-invalid u t fault.NoMemory h n v = n refl

-- frames that are judged, of a thread whose own part is valid
pub frames-judge : (u : CodeUnit) → VerifiedUnit u → (t : Thread) (r : Result (Unit {0}) ThreadFault) → IsOwn u t → JudgesFrames u t.frames r → JudgesThread u t r
frames-judge u v t (Ok x) own h = valid-by-parts u v t own h
frames-judge u v t (Err fault.Thread) own h = absurd h
frames-judge u v t (Err (fault.Frame n)) own h = (own, h)
frames-judge u v t (Err fault.NoMemory) own h = tt

-- a frame that isn't valid, behind valid ones
pub first-bad : (u : CodeUnit) (frames : List Frame) (i : ℕ) (b : Bool) → i < length frames → ((x : Frame) → slice_get frames i ≡ Some x → Decides b (IsFrame u frames i x)) → b ≡ false
    → ((k : ℕ) (x : Frame) → k < i → slice_get frames k ≡ Some x → IsFrame u frames k x) → IsFirstBad u frames i
first-bad u frames i b l d never before =
    let x = at-place frames i l in
    record { x = x.0; there = x.1; bad = λ h. absurd (let sure = (d x.0 x.1).1 h in let wrong : true ≡ false = sym sure ∙ never in cc); before = before }
  where
    at-place : (fs : List Frame) (i : ℕ) → i < length fs → (x : Frame) × (slice_get fs i ≡ Some x)
    at-place [] i l = absurd (omega arith)
    at-place (f ∷ fs) zero l = (f, refl)
    at-place (f ∷ fs) (suc i) l = at-place fs i (omega arith)

-- one more valid frame
pub more-frames : (u : CodeUnit) (frames : List Frame) (i : ℕ) (b : Bool) → ((x : Frame) → slice_get frames i ≡ Some x → Decides b (IsFrame u frames i x)) → b ≡ true
    → ((k : ℕ) (x : Frame) → k < i → slice_get frames k ≡ Some x → IsFrame u frames k x) → (k : ℕ) (x : Frame) → k < i + 1 → slice_get frames k ≡ Some x → IsFrame u frames k x
more-frames u frames i b d sure before k x l e =
    below_more (λ k. (x : Frame) → slice_get frames k ≡ Some x → IsFrame u frames k x) i (λ k l x e. before k x l e) (λ x e. (d x e).0 sure) k l x e
