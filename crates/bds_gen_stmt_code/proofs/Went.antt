-- What a part of a body leaves behind it, whatever loop is around.
use Rattle.std.proofs.Common.{◌≡◌, ◌+◌, ℕ, suc, Option, Some, None, List, [], ◌∷◌, ◌++◌, length, length-append, refl, sym, ◌∙◌, ap, arith, append_assoc, append-nil}
use Rattle.std.proofs.lemmas.List.{length-set}
use Rattle.bds_value.specs.declared.value.At.{At}
use Rattle.bds_code.specs.declared.instr.Instr.{Instr}
use Rattle.bds_code.specs.declared.unit.Function.{Function}
use Rattle.bds_gen_expr.specs.Gen.{act, patched}
use Rattle.bds_gen_expr.specs.Marks.{Mark, does, label, slot, count, slot_count, put, written}
use Rattle.bds_gen_expr.proofs.Written.{written-append, length-written, patched-written, patched-act}
use Rattle.bds_gen_stmt.specs.Spots.{Loop, Spot}
use Rattle.bds_gen_stmt_code.specs.Bodies.{slots_of, spot_of, next_number, place_in, in_body, with_function, with_body}
use Rattle.bds_gen_stmt_code.specs.GenLoops.{in_new_loop}
use Rattle.bds_gen_stmt_code.specs.Leaps.{led}
use Rattle.bds_gen_stmt_code.specs.declared.body.Body.{Body}
use Rattle.bds_gen_stmt_code.specs.declared.body.Leap.{Leap}
use Rattle.bds_gen_stmt_code.specs.declared.body.Unfinished.{Unfinished}
use Rattle.bds_gen_stmt_code.proofs.Led.{AreFrom, AreBefore, from-lower, before-higher, both-from, both-before, led_in, in-none, in-append, in-written, in-patched, led-slots, AreRising, both-rising, nowhere, led-append, led-written, led-patched}

-- these marks where that loop is around, these functions, and this spot; jumps that lead ahead stand in what was written, each in a place of its own, and lead to 0
pub record Went (ms : Option Loop → List Mark) (fs : List Function) (sp : Spot) (u v : Unfinished) : Type 0 where
  pub new : List Leap
  pub leaps : v.body.leaps ≡ u.body.leaps ++ new
  pub low : AreFrom (place_in u) new
  pub high : AreBefore (place_in v) new
  pub rising : AreRising new
  pub unset : led nowhere new v.body.function ≡ v.body.function
  pub is : (o : Option Loop) → led_in o new v.body.function ≡ written u.body.function (ms o)
  pub spot : spot_of v.body ≡ sp
  pub finished : v.finished ≡ u.finished ++ fs
  pub first : v.first ≡ u.first

-- Slots

pub slots-written : (ms : List Mark) (f : Function) → slots_of (written f ms) ≡ slots_of f + slot_count ms
slots-written [] f = omega arith
slots-written (does i at ∷ ms) f = slots-written ms (put f (does i at))
slots-written (label s ∷ ms) f = slots-written ms (put f (label s))
slots-written (slot t ∷ ms) f =
    let e = slots-written ms (put f (slot t)) in
    let l = length-append f.locals (t ∷ []) in
    omega (arith, e, l)

pub same-slots : (f g : Function) (ms : List Mark) → g ≡ written f ms → slot_count ms ≡ 0 → slots_of g ≡ slots_of f
same-slots f g ms e h = let a = ap slots_of e in let b = slots-written ms f in omega (arith, a, b, h)

abbrev spot-with : Spot → ℕ → Spot
spot-with sp n = record sp { next = n }

pub same-spot : (b : Body) (g : Function) (ms : List Mark) → g ≡ written b.function ms → slot_count ms ≡ 0 → spot_of (in_body b g) ≡ spot_of b
same-spot b g ms e h = ap (λ n. spot-with (spot_of b) n) (same-slots b.function g ms e h)

-- Places

pub place-behind : (ms : Option Loop → List Mark) (fs : List Function) (sp : Spot) (u v : Unfinished) → Went ms fs sp u v → place_in v ≡ place_in u + count (ms None)
place-behind ms fs sp u v w = ap (λ (f : Function). length f.code) (w.is None) ∙ length-written (ms None) u.body.function

pub number-behind : (ms : Option Loop → List Mark) (fs : List Function) (sp : Spot) (u v : Unfinished) → Went ms fs sp u v → next_number v ≡ next_number u + length fs
number-behind ms fs sp u v w =
    let a = ap length w.finished in
    let b = length-append u.finished fs in
    let c = w.first in
    omega (arith, a, b, c)

-- One behind the other

pub went-then : (ms ns : Option Loop → List Mark) (fs gs : List Function) (s1 s2 : Spot) (u v w : Unfinished) → Went ms fs s1 u v → Went ns gs s2 v w → Went (λ o. ms o ++ ns o) (fs ++ gs) s2 u w
went-then ms ns fs gs s1 s2 u v w a b =
    let up = place-behind ms fs s1 u v a in
    let far = place-behind ns gs s2 v w b in
    record {
      new = a.new ++ b.new;
      leaps = b.leaps ∙ ap (λ l. l ++ b.new) a.leaps ∙ append_assoc u.body.leaps a.new b.new;
      low = both-from a.new b.new (place_in u) a.low (from-lower b.new (place_in v) (place_in u) (omega (arith, up)) b.low);
      high = both-before a.new b.new (place_in w) (before-higher a.new (place_in v) (place_in w) (omega (arith, far)) a.high) b.high;
      rising = both-rising a.new b.new (place_in v) a.high b.low a.rising b.rising;
      unset =
          led-append nowhere a.new b.new w.body.function ∙ ap (led nowhere a.new) (b.unset ∙ b.is None) ∙ led-written nowhere a.new v.body.function (ns None) a.high
          ∙ ap (λ f. written f (ns None)) a.unset ∙ sym (b.is None);
      is = λ o.
          in-append o a.new b.new w.body.function ∙ ap (led_in o a.new) (b.is o) ∙ in-written o a.new v.body.function (ns o) a.high ∙ ap (λ f. written f (ns o)) (a.is o)
          ∙ sym (written-append (ms o) (ns o) u.body.function);
      spot = b.spot;
      finished = b.finished ∙ ap (λ l. l ++ gs) a.finished ∙ append_assoc u.finished fs gs;
      first = b.first ∙ a.first;
    }

-- the same, said otherwise
pub went-as : (ms ns : Option Loop → List Mark) (fs gs : List Function) (s1 s2 : Spot) (u v : Unfinished) → ((o : Option Loop) → ms o ≡ ns o) → fs ≡ gs → s1 ≡ s2 → Went ms fs s1 u v → Went ns gs s2 u v
went-as ms ns fs gs s1 s2 u v e h k a = record {
  new = a.new;
  leaps = a.leaps;
  low = a.low;
  high = a.high;
  rising = a.rising;
  unset = a.unset;
  is = λ o. a.is o ∙ ap (written u.body.function) (e o);
  spot = a.spot ∙ k;
  finished = a.finished ∙ ap (λ l. u.finished ++ l) h;
  first = a.first;
}

-- where nothing follows a part but marks
pub went-behind : (ms : Option Loop → List Mark) (ns : Option Loop → List Mark) (fs : List Function) (s1 s2 : Spot) (u v w : Unfinished) → Went ms fs s1 u v → Went ns [] s2 v w → Went (λ o. ms o ++ ns o) fs s2 u w
went-behind ms ns fs s1 s2 u v w a b = went-as (λ o. ms o ++ ns o) (λ o. ms o ++ ns o) (fs ++ []) fs s2 s2 u w (λ o. refl) (append-nil fs) refl (went-then ms ns fs [] s1 s2 u v w a b)

-- Marks alone

pub went-body : (u : Unfinished) (b : Body) (ms : List Mark) (sp : Spot) → b.function ≡ written u.body.function ms → b.leaps ≡ u.body.leaps → spot_of b ≡ sp → Went (λ o. ms) [] sp u (with_body u b)
went-body u b ms sp e l s = record {
  new = [];
  leaps = l ∙ sym (append-nil u.body.leaps);
  low = tt;
  high = tt;
  rising = tt;
  unset = refl;
  is = λ o. in-none o b.function ∙ e;
  spot = s;
  finished = sym (append-nil u.finished);
  first = refl;
}

pub went-function : (u : Unfinished) (g : Function) (ms : List Mark) (sp : Spot) → g ≡ written u.body.function ms → slot_count ms ≡ 0 → spot_of u.body ≡ sp → Went (λ o. ms) [] sp u (with_function u g)
went-function u g ms sp e h s = went-body u (in_body u.body g) ms sp e refl (same-spot u.body g ms e h ∙ s)

-- where the instruction that was written last is changed later
pub went-turned : (ms : Option Loop → List Mark) (fs : List Function) (sp : Spot) (u v : Unfinished) (at : At) (j i : Instr) (n : ℕ) → n ≡ place_in u → Went ms fs sp (with_function u (act u.body.function at j)) v
    → Went (λ o. does i at ∷ ms o) fs sp u (with_function v (patched v.body.function n i))
went-turned ms fs sp u v at j i n e a =
    let f : Function = u.body.function in
    let long = length-append f.code (j ∷ []) in
    let set = length-set v.body.function.code n i in
    record {
      new = a.new;
      leaps = a.leaps;
      low = from-lower a.new (place_in (with_function u (act f at j))) (place_in u) (omega (arith, long)) a.low;
      high = before-higher a.new (place_in v) (length (patched v.body.function n i).code) (omega (arith, set)) a.high;
      rising = a.rising;
      unset = led-patched nowhere a.new v.body.function n i (from-lower a.new (place_in (with_function u (act f at j))) (suc n) (omega (arith, long, e)) a.low) ∙ ap (λ g. patched g n i) a.unset;
      is = λ o.
          in-patched o a.new v.body.function n i (from-lower a.new (place_in (with_function u (act f at j))) (suc n) (omega (arith, long, e)) a.low)
          ∙ ap (λ g. patched g n i) (a.is o)
          ∙ patched-written (ms o) (act f at j) n i (omega (arith, long, e))
          ∙ ap (λ g. written g (ms o)) (ap (λ k. patched (act f at j) k i) e ∙ patched-act f at j i);
      spot = a.spot;
      finished = a.finished;
      first = a.first;
    }

-- a loop's jumps are led, and those of the loop around it come back
pub went-loop : (ms : Option Loop → List Mark) (fs : List Function) (sp : Spot) (u v : Unfinished) (l : Loop) → Went ms fs sp (in_new_loop u) v
    → Went (λ o. ms (Some l)) fs sp u (with_body v (record v.body { function = led l v.body.leaps v.body.function; leaps = u.body.leaps }))
went-loop ms fs sp u v l a = record {
  new = [];
  leaps = sym (append-nil u.body.leaps);
  low = tt;
  high = tt;
  rising = tt;
  unset = refl;
  is = λ o. in-none o (led l v.body.leaps v.body.function) ∙ ap (λ js. led l js v.body.function) a.leaps ∙ a.is (Some l);
  spot = led-spot l v.body a.spot;
  finished = a.finished;
  first = a.first;
}
  where
    led-spot : (l : Loop) (b : Body) → spot_of b ≡ sp → spot_of (record b { function = led l b.leaps b.function; leaps = u.body.leaps }) ≡ sp
    led-spot l b e = ap (λ n. spot-with (spot_of b) n) (led-slots l b.leaps b.function) ∙ e
