-- What a step leaves is valid, with less to run before the next tick.
use Rattle.std.proofs.Common.{◌≡◌, ◌≢◌, ◌<◌, ◌≤◌, ◌+◌, ◌-◌, ℕ, List, [], ◌∷◌, length, reverse, slice_get, nat_eq, Bool, true, false, cond, Option, Some, Ok, sym, ap, ◌∙◌, subst, arith, inl, inr}
use Rattle.std.specs.Prelude.{⊤}
use Rattle.std.proofs.lemmas.Bool.{cases_lt}
use Rattle.std.proofs.lemmas.Grind.{common_steps}
use Rattle.bds_value.specs.declared.TheConstants.{MAX_CALLS}
use Rattle.bds_value.specs.declared.value.Ty.{Ty}
use Rattle.bds_value.specs.declared.value.Value.{Value}
use Rattle.bds_code.specs.declared.instr.Instr.{Instr}
use Rattle.bds_code.specs.declared.instr.Instr.TheVariants.{Tick}
use Rattle.bds_code.specs.declared.unit.Function.{Function}
use Rattle.bds_code.specs.declared.unit.Unit.{Unit as CodeUnit}
use Rattle.bds_code.specs.Row.{row}
use Rattle.bds_code_frames.specs.Stack.{Call, Stack, place_of}
use Rattle.bds_verify.specs.Pass.{is_tick}
use Rattle.bds_verify.specs.Threads.{Shapes, AreAllShapes, AreBelow, AreLive, IsCall, Typed}
use Rattle.bds_verify.specs.Verified.{AreShapes, VerifiedUnit}
use Rattle.bds_verify.specs.Whole.{is_whole}
use Rattle.bds_machine.specs.declared.point.Point.{Point}
use Rattle.bds_machine.specs.declared.point.Point.TheVariants as point
use Rattle.bds_machine.specs.Answers.{awaited, is_awaited, IsAnswer}
use Rattle.bds_machine.specs.Calls.{Step, On, Leaves, Ends, received}
use Rattle.bds_machine.specs.Points.{asked}
use Rattle.bds_machine.specs.Weight.{ahead, ahead_in, weight}

-- the newest call awaits what an instruction asks, and is valid behind any answer
pub record LeavesWell (u : CodeUnit) (p : Point) (g : List Value) (s : Stack) : Type 0 where
  pub type : Ty
  pub function : ℕ
  pub at : ℕ
  pub f : Function
  pub instruction : Instr
  pub stands : place_of s ≡ Some (function, at + 1)
  pub there : slice_get u.functions function ≡ Some f
  pub code : slice_get f.code at ≡ Some instruction
  pub awaits : awaited instruction ≡ Some type
  pub call : Call
  pub below : Stack
  pub shape : List Ty
  pub next : List Ty
  pub typed : IsCall f shape call
  pub taken : row u f instruction shape ≡ Ok next
  pub asks : asked u instruction (call ∷ below) ≡ Some (Ok (p, s))
  pub valid : (v : Option Value) → IsAnswer v type → (s' : Stack) → received v s ≡ Some s' → AreLive u g s' × (s' ≢ [])

-- what is left where the code has ended, or no tick is left
abbrev pub Rests : CodeUnit → Point → List Value → Stack → Type 0
Rests u point.Finished g s = (s ≡ []) × AreLive u g []
Rests u point.Spent g s = AreLive u g s × (s ≢ [])
Rests u p g s = ⊤

pub awaited_rests : (u : CodeUnit) (p : Point) (g : List Value) (s : Stack) → is_awaited p ≡ true → Rests u p g s
awaited_rests u point.Finished g s h = absurd (cc)
awaited_rests u point.Spent g s h = absurd (cc)
awaited_rests u (point.Asks a) g s h = tt
awaited_rests u (point.Old a b) g s h = tt
awaited_rests u (point.Task a) g s h = tt
awaited_rests u (point.Declare a) g s h = tt
awaited_rests u (point.Goal a) g s h = tt
awaited_rests u (point.Spawn a b) g s h = tt
awaited_rests u (point.Wait a) g s h = tt
awaited_rests u point.WaitAll g s h = tt
awaited_rests u (point.Save a) g s h = tt
awaited_rests u (point.Exit a) g s h = tt
awaited_rests u (point.Stop a b) g s h = tt

-- what a step leaves
abbrev pub Well : CodeUnit → Stack → ℕ → Step → Type 0
Well u s t (On g' s' t') = AreLive u g' s' × (s' ≢ []) × (weight u s' t' < weight u s t)
Well u s t (Leaves p g' s' t') = (is_awaited p ≡ true → LeavesWell u p g' s') × Rests u p g' s'
Well u s t (Ends p t') = Unit {0}

-- a row has a step, which leaves what it should
abbrev pub Goes : CodeUnit → Call → Stack → ℕ → Option Step → Type 0
Goes u c below t o = (x : Step) × (o ≡ Some x) × Well u (c ∷ below) t x

pub some_calls : (c : Call) (below : Stack) → c ∷ below ≢ []
some_calls c below h = absurd (cc)

-- the newest call of a valid thread
pub record Newest (u : CodeUnit) (g : List Value) (c : Call) (below : Stack) : Type 0 where
  pub shapes : Shapes u
  pub judged : AreAllShapes u shapes
  pub globals_typed : Typed g u.globals
  pub f : Function
  pub there : slice_get u.functions c.function ≡ Some f
  pub within : c.place < length f.code
  pub call : IsCall f (reverse (shapes c.function c.place)) c
  pub chain : AreBelow u shapes c.function below
  pub few : length (c ∷ below) ≤ MAX_CALLS
  pub whole : is_whole u f ≡ true
  pub good : AreShapes u f (shapes c.function)

pub newest : (u : CodeUnit) (g : List Value) (c : Call) (below : Stack) → VerifiedUnit u → AreLive u g (c ∷ below) → Newest u g c below
newest u g c below v h = record {
  shapes = h.shapes;
  judged = h.judged;
  globals_typed = h.globals_typed;
  f = h.calls.f;
  there = h.calls.there;
  within = h.calls.within;
  call = h.calls.call;
  chain = h.calls.chain;
  few = h.few;
  whole = (v.functions c.function h.calls.f h.calls.there).whole;
  good = h.judged c.function h.calls.f h.calls.there;
}

pub newest_live : (u : CodeUnit) (g : List Value) (c : Call) (below : Stack) → Newest u g c below → AreLive u g (c ∷ below)
newest_live u g c below n = record {
  shapes = n.shapes;
  judged = n.judged;
  globals_typed = n.globals_typed;
  calls = record { f = n.f; there = n.there; within = n.within; call = n.call; chain = n.chain };
  few = n.few;
}

pub no_calls_live : (u : CodeUnit) (g : List Value) (c : Call) (below : Stack) → Newest u g c below → AreLive u g []
no_calls_live u g c below n = record { shapes = n.shapes; judged = n.judged; globals_typed = n.globals_typed; calls = tt; few = omega arith }

pub some_left : (t : ℕ) → nat_eq t 0 ≡ false → 0 < t
some_left t h = grind (arith, common_steps)

shorter : (b : Bool) (n p : ℕ) → p < n → cond b 0 (n - (p + 1) + 1) < n - p + 1
shorter true n p l = omega arith
shorter false n p l = omega arith

forward : (b : Bool) (n p to : ℕ) → p < to → to < n → cond b 0 (n - to + 1) < n - p + 1
forward true n p to l m = omega arith
forward false n p to l m = omega arith

pub at_most : (b : Bool) (n p : ℕ) → cond b 0 (n - p + 1) ≤ n + 1
at_most true n p = omega arith
at_most false n p = omega arith

module _ (u : CodeUnit) where
  pub ahead-at : (n p : ℕ) (f : Function) → slice_get u.functions n ≡ Some f → ahead u n p ≡ cond (is_tick (slice_get f.code p)) 0 (length f.code - p + 1)
  unfolding ahead
  ahead-at n p f there = ap (λ o. ahead_in o p) there

  pub ahead-next : (n p : ℕ) (f : Function) → slice_get u.functions n ≡ Some f → p < length f.code → is_tick (slice_get f.code p) ≡ false → ahead u n (p + 1) < ahead u n p
  unfolding ahead
  ahead-next n p f there l still = rw (there, still) (shorter (is_tick (slice_get f.code (p + 1))) (length f.code) p l)

  -- a jump, back only to a Tick
  pub ahead-to : (n p to : ℕ) (f : Function) → slice_get u.functions n ≡ Some f → p < length f.code → is_tick (slice_get f.code p) ≡ false
      → (to ≤ p → slice_get f.code to ≡ Some Tick) → to < length f.code → ahead u n to < ahead u n p
  ahead-to n p to f there l still tick lt =
      let a = ahead-at n p f there in
      let b = ahead-at n to f there in
      rw (b, a, still) (elim (cases_lt p to) [ inl fwd ↦ forward (is_tick (slice_get f.code to)) (length f.code) p to fwd lt | inr back ↦ rw (tick back) (omega arith) ])

  lighter : (c d : Call) (below : Stack) (t q : ℕ) → d.function ≡ c.function → d.place ≡ q → ahead u c.function q < ahead u c.function c.place → weight u (d ∷ below) t < weight u (c ∷ below) t
  unfolding weight
  lighter c d below t q ef ep l =
      let e : ahead u d.function d.place ≡ ahead u c.function q = ap (λ n. ahead u n d.place) ef ∙ ap (ahead u c.function) ep in
      omega arith

  -- a tick outweighs the longest code
  lighter_tick : (c d : Call) (below : Stack) (t : ℕ) (f : Function) → slice_get u.functions d.function ≡ Some f → length f.code ≤ 16777216 → 0 < t
      → weight u (d ∷ below) (t - 1) < weight u (c ∷ below) t
  unfolding weight
  lighter_tick c d below t f there short some =
      let e = ahead-at d.function d.place f there in
      let m = at_most (is_tick (slice_get f.code d.place)) (length f.code) d.place in
      let k : ahead u d.function d.place ≤ length f.code + 1 = rw e m in
      omega arith

  module _ (g : List Value) (c : Call) (below : Stack) (n : Newest u g c below) where
    -- the newest call at another place, beside other globals
    pub moves_live : (g' : List Value) (d : Call) (q : ℕ) → Typed g' u.globals → d.function ≡ c.function → d.place ≡ q → IsCall n.f (reverse (n.shapes c.function q)) d → q < length n.f.code
        → AreLive u g' (d ∷ below)
    moves_live g' d q typed ef ep call l = record {
      shapes = n.shapes;
      judged = n.judged;
      globals_typed = typed;
      calls = record {
        f = n.f;
        there = subst (λ k. slice_get u.functions k ≡ Some n.f) (sym ef) n.there;
        within = subst (λ p. p < length n.f.code) (sym ep) l;
        call = subst (λ k. IsCall n.f (reverse (n.shapes k d.place)) d) (sym ef) (subst (λ p. IsCall n.f (reverse (n.shapes c.function p)) d) (sym ep) call);
        chain = subst (λ k. AreBelow u n.shapes k below) (sym ef) n.chain;
      };
      few = n.few;
    }

    pub moves_well : (t : ℕ) (g' : List Value) (d : Call) (q : ℕ) → Typed g' u.globals → d.function ≡ c.function → d.place ≡ q → IsCall n.f (reverse (n.shapes c.function q)) d → q < length n.f.code
        → ahead u c.function q < ahead u c.function c.place → Well u (c ∷ below) t (On g' (d ∷ below) t)
    moves_well t g' d q typed ef ep call l less = (moves_live g' d q typed ef ep call l, some_calls d below, lighter c d below t q ef ep less)

    pub ticks_well : (t : ℕ) (d : Call) (q : ℕ) → d.function ≡ c.function → d.place ≡ q → IsCall n.f (reverse (n.shapes c.function q)) d → q < length n.f.code → length n.f.code ≤ 16777216 → 0 < t
        → Well u (c ∷ below) t (On g (d ∷ below) (t - 1))
    ticks_well t d q ef ep call l short some = (
      moves_live g d q n.globals_typed ef ep call l,
      some_calls d below,
      lighter_tick c d below t n.f (subst (λ k. slice_get u.functions k ≡ Some n.f) (sym ef) n.there) short some,
    )
