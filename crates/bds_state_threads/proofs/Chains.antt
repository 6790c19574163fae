-- A thread is valid where its own part is, and each of its frames.
use Rattle.std.proofs.Common.{◌≡◌, ◌≢◌, ◌<◌, ◌≤◌, ◌+◌, ℕ, zero, suc, List, [], ◌∷◌, ◌++◌, map, length, reverse, slice_get, Option, Some, None, refl, sym, ap, ◌∙◌, subst, arith, add-one}
use Rattle.std.proofs.lemmas.List.{reverse-append, map-append, length-map, length-reverse}
use Rattle.bds_value.specs.declared.TheConstants.{MAX_CALLS}
use Rattle.bds_value.specs.declared.value.Value.{Value}
use Rattle.bds_value.specs.declared.ids.Status.{Status}
use Rattle.bds_value.specs.declared.ids.Status.TheVariants.{Ready, Waiting, Ended}
use Rattle.bds_code.specs.declared.unit.Unit.{Unit as CodeUnit}
use Rattle.bds_code_frames.specs.declared.frame.Frame.{Frame}
use Rattle.bds_code_frames.specs.declared.thread.Thread.{Thread}
use Rattle.bds_code_frames.specs.Stack.{Call, Stack, stack, call_of}
use Rattle.bds_verify.specs.Threads.{Shapes, AreAllShapes, AreBelow, AreCalls, AreLive, HasParts, IsThread, Stands, Waits, Typed}
use Rattle.bds_state_threads.specs.Judged.{HasOwn, IsOwn, FitsUnder, IsFrame}

stack-oldest : (x : Frame) (xs : List Frame) → stack (x ∷ xs) ≡ stack xs ++ call_of x ∷ []
stack-oldest x xs = ap (map call_of) (reverse-append (x ∷ []) xs) ∙ map-append call_of (reverse xs) (x ∷ [])

stack-length : (frames : List Frame) → length (stack frames) ≡ length frames
stack-length frames = length-map (reverse frames) call_of ∙ length-reverse frames

-- the function of the oldest call, or of the one above
abbrev last_of : ℕ → Stack → ℕ
last_of n [] = n
last_of n (c ∷ below) = last_of c.function below

last-append : (n : ℕ) (s : Stack) (c : Call) → last_of n (s ++ c ∷ []) ≡ c.function
last-append n [] c = refl
last-append n (d ∷ s) c = last-append d.function s c

module _ (u : CodeUnit) (shapes : Shapes u) where
  chain-more : (n : ℕ) (s : Stack) (c : Call) → AreBelow u shapes n s → Waits u shapes (last_of n s) c → AreBelow u shapes n (s ++ c ∷ [])
  chain-more n [] c h w = (w, tt)
  chain-more n (d ∷ s) c h w = (h.0, chain-more d.function s c h.1 w)

  chain-less : (n : ℕ) (s : Stack) (c : Call) → AreBelow u shapes n (s ++ c ∷ []) → AreBelow u shapes n s × Waits u shapes (last_of n s) c
  chain-less n [] c h = (tt, h.0)
  chain-less n (d ∷ s) c h = let r = chain-less d.function s c h.1 in ((h.0, r.0), r.1)

  -- a call that is older than all others
  oldest-more : (c : Call) (s : Stack) (x : Call) → AreCalls u shapes (c ∷ s) → Waits u shapes (last_of c.function s) x → AreCalls u shapes ((c ∷ s) ++ x ∷ [])
  oldest-more c s x h w = record { f = h.f; there = h.there; within = h.within; call = h.call; chain = chain-more c.function s x h.chain w }

  oldest-less : (c : Call) (s : Stack) (x : Call) → AreCalls u shapes ((c ∷ s) ++ x ∷ []) → AreCalls u shapes (c ∷ s) × Waits u shapes (last_of c.function s) x
  oldest-less c s x h =
      let r = chain-less c.function s x h.chain in
      (record { f = h.f; there = h.there; within = h.within; call = h.call; chain = r.0 }, r.1)

  -- the function of the oldest frame
  oldest-is : (y : Frame) (ys : List Frame) (c : Call) (s : Stack) → stack (y ∷ ys) ≡ c ∷ s → last_of c.function s ≡ y.function
  oldest-is y ys c s e = from (stack ys) (sym (stack-oldest y ys) ∙ e)
    where
      from : (t : Stack) → t ++ call_of y ∷ [] ≡ c ∷ s → last_of c.function s ≡ y.function
      from [] e =
          let a : call_of y ≡ c = cc in
          let b : [] ≡ s = cc in
          subst (λ r. last_of c.function r ≡ y.function) b (ap (λ (d : Call). d.function) (sym a))
      from (d ∷ t) e =
          let a : d ≡ c = cc in
          let b : t ++ call_of y ∷ [] ≡ s = cc in
          subst (λ r. last_of c.function r ≡ y.function) b (last-append c.function t (call_of y))

  -- each frame fits before the one behind it
  abbrev Fit : List Frame → Type 0
  Fit frames = (n : ℕ) (x : Frame) → slice_get frames n ≡ Some x → FitsUnder u shapes (slice_get frames (n + 1)) x

  later : (x : Frame) (xs : List Frame) → Fit (x ∷ xs) → Fit xs
  later x xs h n y e =
      subst (λ o. FitsUnder u shapes o y) (ap (slice_get (x ∷ xs)) (add-one (n + 1))) (h (n + 1) y (ap (slice_get (x ∷ xs)) (add-one n) ∙ e))

  pub calls-fit : (frames : List Frame) → Fit frames → AreCalls u shapes (stack frames)
  calls-fit [] h = tt
  calls-fit (x ∷ []) h = h 0 x refl
  calls-fit (x ∷ y ∷ ys) h =
      let rest : AreCalls u shapes (stack (y ∷ ys)) = calls-fit (y ∷ ys) (later x (y ∷ ys) h) in
      let w : Waits u shapes y.function (call_of x) = h 0 x refl in
      subst (AreCalls u shapes) (sym (stack-oldest x (y ∷ ys))) (from (stack (y ∷ ys)) refl rest w)
    where
      from : (s : Stack) → stack (y ∷ ys) ≡ s → AreCalls u shapes s → Waits u shapes y.function (call_of x) → AreCalls u shapes (s ++ call_of x ∷ [])
      from [] e r w = absurd (let l : length (y ∷ ys) ≡ 0 = sym (stack-length (y ∷ ys)) ∙ ap length e in omega (arith, l))
      from (c ∷ s) e r w = oldest-more c s (call_of x) r (subst (λ n. Waits u shapes n (call_of x)) (sym (oldest-is y ys c s e)) w)

  -- a frame before others that fit
  fits-more : (x y : Frame) (ys : List Frame) → Fit (y ∷ ys) → Waits u shapes y.function (call_of x) → Fit (x ∷ y ∷ ys)
  fits-more x y ys rest w zero z e = let same : x ≡ z = cc in subst (λ z. FitsUnder u shapes (Some y) z) same w
  fits-more x y ys rest w (suc n) z e =
      subst (λ o. FitsUnder u shapes o z) (ap (slice_get (x ∷ y ∷ ys)) (sym (add-one (suc n)))) (subst (λ o. FitsUnder u shapes o z) (ap (slice_get (y ∷ ys)) (add-one n)) (rest n z e))

  pub fits-calls : (frames : List Frame) → AreCalls u shapes (stack frames) → Fit frames
  fits-calls [] h n x e = absurd (cc)
  fits-calls (x ∷ []) h zero y e = let same : x ≡ y = cc in subst (λ z. FitsUnder u shapes None z) same h
  fits-calls (x ∷ []) h (suc n) y e = absurd (cc)
  fits-calls (x ∷ y ∷ ys) h n z e = fits-more x y ys (fits-calls (y ∷ ys) parts.0) parts.1 n z e
    where
      both : (s : Stack) → stack (y ∷ ys) ≡ s → AreCalls u shapes (s ++ call_of x ∷ []) → AreCalls u shapes s × Waits u shapes y.function (call_of x)
      both [] e r = absurd (let l : length (y ∷ ys) ≡ 0 = sym (stack-length (y ∷ ys)) ∙ ap length e in omega (arith, l))
      both (c ∷ s) e r = let p = oldest-less c s (call_of x) r in (p.0, subst (λ n. Waits u shapes n (call_of x)) (oldest-is y ys c s e) p.1)

      parts : AreCalls u shapes (stack (y ∷ ys)) × Waits u shapes y.function (call_of x)
      parts = both (stack (y ∷ ys)) refl (subst (AreCalls u shapes) (stack-oldest x (y ∷ ys)) h)

-- a thread's own part with frames that all fit
pub thread-valid : (u : CodeUnit) (shapes : Shapes u) (t : Thread) → AreAllShapes u shapes → IsOwn u t → Fit u shapes t.frames → IsThread u t
thread-valid u shapes t judged own fit = at t.status own
  where
    live : Typed t.globals u.globals → length t.frames ≤ MAX_CALLS → AreLive u t.globals (stack t.frames)
    live g few = record { shapes = shapes; judged = judged; globals_typed = g; calls = calls-fit u shapes t.frames fit; few = subst (λ n. n ≤ MAX_CALLS) (sym (stack-length t.frames)) few }

    at : (s : Status) → HasOwn u s t.globals t.frames → HasParts u s t.globals t.frames
    at Ready h = (live h.0 h.2, h.1)
    at (Waiting ids) h = live h.0 h.1
    at Ended h = h

pub thread-own : (u : CodeUnit) (t : Thread) → IsThread u t → IsOwn u t
thread-own u t h = at t.status h
  where
    few : AreLive u t.globals (stack t.frames) → length t.frames ≤ MAX_CALLS
    few live = subst (λ n. n ≤ MAX_CALLS) (stack-length t.frames) live.few

    at : (s : Status) → HasParts u s t.globals t.frames → HasOwn u s t.globals t.frames
    at Ready h = (h.0.globals_typed, h.1, few h.0)
    at (Waiting ids) h = (h.globals_typed, few h)
    at Ended h = h

no-item : {X : Type 0} (n : ℕ) (x : X) → slice_get [] n ≡ Some x → ⊥
no-item n x e = absurd (cc)

pub thread-frames : (u : CodeUnit) (t : Thread) → IsThread u t → (n : ℕ) (x : Frame) → slice_get t.frames n ≡ Some x → IsFrame u t.frames n x
thread-frames u t h n x e = at t.status h
  where
    live : AreLive u t.globals (stack t.frames) → IsFrame u t.frames n x
    live l = record { shapes = l.shapes; judged = l.judged; fits = fits-calls u l.shapes t.frames l.calls n x e }

    at : (s : Status) → HasParts u s t.globals t.frames → IsFrame u t.frames n x
    at Ready h = live h.0
    at (Waiting ids) h = live h
    at Ended h = absurd (no-item n x (subst (λ (fs : List Frame). slice_get fs n ≡ Some x) h.1 e))
