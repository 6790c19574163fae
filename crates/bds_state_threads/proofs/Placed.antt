-- A frame of the right function, slots and operands is one that is valid, and the other way round.
use Rattle.std.proofs.Common.{◌≡◌, ◌<◌, ◌≤◌, ◌+◌, ℕ, zero, suc, List, [], ◌∷◌, ◌++◌, map, length, reverse, slice_get, Option, Some, None, Bool, true, false, refl, sym, ap, ◌∙◌, subst, arith}
use Rattle.std.specs.Bool.{Decides}
use Rattle.std.specs.List.{All}
use Rattle.std.proofs.lemmas.List.{reverse-reverse}
use Rattle.std.proofs.lemmas.List.Elements.{All-head, All-tail}
use Rattle.bds_value.specs.declared.value.Ty.{Ty}
use Rattle.bds_value.specs.declared.value.Value.{Value}
use Rattle.bds_code.specs.declared.unit.Function.{Function}
use Rattle.bds_code.specs.declared.unit.Unit.{Unit as CodeUnit}
use Rattle.bds_code_frames.specs.declared.frame.Frame.{Frame}
use Rattle.bds_code_frames.specs.Stack.{call_of, head_of}
use Rattle.bds_verify.specs.Threads.{Shapes, AreAllShapes, Stands, Waits, IsCall, Typed}
use Rattle.bds_verify.specs.Verified.{VerifiedUnit}
use Rattle.bds_state_threads.specs.Judged.{FitsUnder, IsFrame, frame_of, number_of, IsIn, IsCaller, HasOperands, IsCalledFrom, HasRest, IsPlaced}
use Rattle.bds_state_threads.proofs.Begun.{all-shapes, are-all}
use Rattle.bds_state_threads.proofs.Resting.{typed-reverse}

back : (os : List Value) (shape : List Ty) → Typed (reverse os) (reverse shape) → Typed os shape
back os shape h = subst (λ x. Typed x shape) (reverse-reverse os) (subst (λ y. Typed (reverse (reverse os)) y) (reverse-reverse shape) (typed-reverse (reverse os) (reverse shape) h))

module _ (u : CodeUnit) (shapes : Shapes u) (x : Frame) where
  fits-placed : (next : Option Frame) → FitsUnder u shapes next x → IsPlaced u shapes (number_of next) x
  fits-placed None h = record {
    f = h.f;
    there = h.there;
    inside = record { within = h.within; slots = h.call.slots };
    operands = back x.operands (shapes x.function x.place) h.call.ops;
  }
  fits-placed (Some y) h = record {
    f = h.f;
    there = h.there;
    inside = record { within = h.within; slots = h.call.slots };
    operands = record {
      g = h.g;
      there = h.callee_there;
      called = record { at = h.at; behind = h.behind; calls = h.calls };
      rest = record { rest = h.rest; result = h.result; typed = h.call.ops };
    };
  }

  placed-fits : (next : Option Frame) → IsPlaced u shapes (number_of next) x → FitsUnder u shapes next x
  placed-fits None h = record {
    f = h.f;
    there = h.there;
    within = h.inside.within;
    call = record { slots = h.inside.slots; ops = typed-reverse x.operands (shapes x.function x.place) h.operands };
    chain = tt;
  }
  placed-fits (Some y) h = record {
    f = h.f;
    g = h.operands.g;
    at = h.operands.called.at;
    there = h.there;
    callee_there = h.operands.there;
    behind = h.operands.called.behind;
    calls = h.operands.called.calls;
    within = h.inside.within;
    rest = h.operands.rest.rest;
    result = h.operands.rest.result;
    call = record { slots = h.inside.slots; ops = h.operands.rest.typed };
  }

  pub placed-decides : (next : Option Frame) (b : Bool) → Decides b (IsPlaced u shapes (number_of next) x) → Decides b (FitsUnder u shapes next x)
  placed-decides next b d = (λ sure. placed-fits next (d.0 sure), λ h. d.1 (fits-placed next h))

at-map : {X : Type 0} (field : Frame → X) (fs : List Frame) (n : ℕ) (x : Frame) (v : X) → slice_get (map field fs) n ≡ Some v → slice_get fs n ≡ Some x → field x ≡ v
at-map field [] n x v e h = absurd (cc)
at-map field (f ∷ fs) zero x v e h = let same : f ≡ x = cc in let is : field f ≡ v = cc in ap field (sym same) ∙ is
at-map field (f ∷ fs) (suc n) x v e h = at-map field fs n x v e h

-- a frame from what it is asked for
pub frame-parts : (fs : List Frame) (n : ℕ) (x : Frame) (head : ℕ × ℕ) (slots operands : List Value) → slice_get (map head_of fs) n ≡ Some head → slice_get (map (λ (f : Frame). f.slots) fs) n ≡ Some slots
    → slice_get (map (λ (f : Frame). f.operands) fs) n ≡ Some operands → slice_get fs n ≡ Some x → frame_of head.0 head.1 slots operands ≡ x
frame-parts fs n x head slots operands eh es eo h =
    let a : head_of x ≡ head = at-map head_of fs n x head eh h in
    let b : x.slots ≡ slots = at-map (λ (f : Frame). f.slots) fs n x slots es h in
    let c : x.operands ≡ operands = at-map (λ (f : Frame). f.operands) fs n x operands eo h in
    sym (ap (λ (p : ℕ × ℕ). frame_of p.0 p.1 x.slots x.operands) a ∙ ap (λ s. frame_of head.0 head.1 s x.operands) b ∙ ap (frame_of head.0 head.1 slots) c)

-- a frame is valid where it is for the types of the operands at each place
pub frame-decides : (u : CodeUnit) → VerifiedUnit u → (fs : List Frame) (n : ℕ) (next : Option ℕ) (y x : Frame) (b : Bool) → next ≡ number_of (slice_get fs (n + 1)) → y ≡ x
    → ((shapes : Shapes u) → AreAllShapes u shapes → Decides b (IsPlaced u shapes next y)) → Decides b (IsFrame u fs n x)
frame-decides u v fs n next y x b e same d = (
  λ sure. record { shapes = all-shapes u v; judged = are-all u v; fits = (decided (all-shapes u v) (are-all u v)).0 sure },
  λ h. (decided h.shapes h.judged).1 h.fits,
)
  where
    decided : (shapes : Shapes u) → AreAllShapes u shapes → Decides b (FitsUnder u shapes (slice_get fs (n + 1)) x)
    decided shapes judged = placed-decides u shapes x (slice_get fs (n + 1)) b (subst (λ o. Decides b (IsPlaced u shapes o x)) e (subst (λ z. Decides b (IsPlaced u shapes next z)) same (d shapes judged)))

-- the function of a frame, by what it is asked for
pub number-there : (fs : List Frame) (n : ℕ) (head : ℕ × ℕ) → slice_get (map head_of fs) n ≡ Some head → Some head.0 ≡ number_of (slice_get fs n)
number-there [] n head e = absurd (cc)
number-there (f ∷ fs) zero head e = let same : head_of f ≡ head = cc in ap (λ (p : ℕ × ℕ). Some p.0) (sym same)
number-there (f ∷ fs) (suc n) head e = number-there fs n head e

pub number-none : (fs : List Frame) (n : ℕ) → length fs ≤ n → None ≡ number_of (slice_get fs n)
number-none [] n l = refl
number-none (f ∷ fs) zero l = absurd (omega arith)
number-none (f ∷ fs) (suc n) l = number-none fs n (omega arith)

module _ (u : CodeUnit) (f : Function) (callee place : ℕ) (os : List Value) (shape : List Ty) where
  -- behind a call of a function that is there only the operands are left to be judged
  pub caller-decides : (g : Function) (b : Bool) → slice_get u.functions callee ≡ Some g → IsCalledFrom f place callee → Decides b (HasRest os shape g.ret) → Decides b (IsCaller u f callee place os shape)
  caller-decides g b there called d = (
    λ sure. record { g = g; there = there; called = called; rest = d.0 sure },
    λ h. d.1 (let e : Some g ≡ Some h.g = sym there ∙ h.there in let same : h.g ≡ g = cc in subst (λ (k : Function). HasRest os shape k.ret) same h.rest),
  )

module _ (u : CodeUnit) (next : Option ℕ) (x : Frame) (f : Function) (there : slice_get u.functions x.function ≡ Some f) (inside : IsIn f x.place x.slots) where
  -- and inside a function that is there
  pub place-decides : (shapes : Shapes u) (b : Bool) → Decides b (HasOperands u f next x.place x.operands (shapes x.function x.place)) → Decides b (IsPlaced u shapes next x)
  place-decides shapes b d = (
    λ sure. record { f = f; there = there; inside = inside; operands = d.0 sure },
    λ h. d.1 (let e : Some f ≡ Some h.f = sym there ∙ h.there in let same : h.f ≡ f = cc in subst (λ (k : Function). HasOperands u k next x.place x.operands (shapes x.function x.place)) same h.operands),
  )

-- the frame of a list by its number, from what holds of each
pub frame-at : {X : Type 0} (P : X → Type 0) (xs : List X) (n : ℕ) (x : X) → All P xs → slice_get xs n ≡ Some x → P x
frame-at P [] n x h e = absurd (cc)
frame-at P (y ∷ xs) zero x h e = let same : y ≡ x = cc in subst P same (All-head P y xs h)
frame-at P (y ∷ xs) (suc n) x h e = frame-at P xs n x (All-tail P y xs h) e

-- a part of a frame that is there
pub part-held : {X : Type 0} (P : Frame → Type 0) (Q : X → Type 0) (part : Frame → X) → ((f : Frame) → P f → Q (part f)) → (fs : List Frame) (n : ℕ) (v : X) → All P fs → slice_get (map part fs) n ≡ Some v → Q v
part-held P Q part good [] n v h e = absurd (cc)
part-held P Q part good (f ∷ fs) zero v h e = let same : part f ≡ v = cc in subst Q same (good f (All-head P f fs h))
part-held P Q part good (f ∷ fs) (suc n) v h e = part-held P Q part good fs n v (All-tail P f fs h) e
