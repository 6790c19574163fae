-- The jumps of a loop that lead ahead: what is set at them stays apart from what is written behind.
use Rattle.std.proofs.Common.{◌≡◌, ◌<◌, ◌≤◌, ℕ, zero, suc, Option, Some, None, List, [], ◌∷◌, ◌++◌, length, slice_set, refl, sym, ◌∙◌, ap, arith, Bool, true, false, if◌then◌else◌}
use Rattle.std.specs.List.{AllByRecursion}
use Rattle.std.proofs.lemmas.List.{length-set}
use Rattle.bds_code.specs.declared.instr.Instr.{Instr}
use Rattle.bds_code.specs.declared.instr.Instr.TheVariants.{Jump}
use Rattle.bds_code.specs.declared.unit.Function.{Function}
use Rattle.bds_gen_expr.specs.Marks.{Mark, written}
use Rattle.bds_gen_expr.specs.Gen.{patched}
use Rattle.bds_gen_expr.proofs.Written.{patched-written}
use Rattle.bds_gen_stmt.specs.Spots.{Loop}
use Rattle.bds_gen_stmt_code.specs.Bodies.{slots_of}
use Rattle.bds_gen_stmt_code.specs.Leaps.{target, led, loop_to, led_out, going_on}
use Rattle.bds_gen_stmt_code.specs.declared.body.Leap.{Leap}
use Rattle.std.specs.Prelude.{⊤}

-- Two places

set-nil : {X : Type 0} (n : ℕ) (v : X) → slice_set [] n v ≡ []
set-nil zero v = refl
set-nil (suc n) v = refl

set-swap : {X : Type 0} (xs : List X) (i j : ℕ) (a b : X) → i < j → slice_set (slice_set xs i a) j b ≡ slice_set (slice_set xs j b) i a
set-swap [] i j a b h = ap (λ l. slice_set l j b) (set-nil i a) ∙ set-nil j b ∙ sym (ap (λ l. slice_set l i a) (set-nil j b) ∙ set-nil i a)
set-swap (x ∷ xs) i zero a b h = absurd (omega (arith, h))
set-swap (x ∷ xs) zero (suc j) a b h = refl
set-swap (x ∷ xs) (suc i) (suc j) a b h = ap (λ l. x ∷ l) (set-swap xs i j a b (omega (arith, h)))

pub patched-swap : (f : Function) (i j : ℕ) (a b : Instr) → i < j → patched (patched f i a) j b ≡ patched (patched f j b) i a
patched-swap f i j a b h = ap (λ c. record f { code = c }) (set-swap f.code i j a b h)

-- Jumps from a place on, and before one

abbrev pub AreFrom : ℕ → List Leap → Type 0
AreFrom p js = AllByRecursion (λ j. p ≤ j.place) js

abbrev pub AreBefore : ℕ → List Leap → Type 0
AreBefore p js = AllByRecursion (λ j. j.place < p) js

pub from-lower : (js : List Leap) (p q : ℕ) → q ≤ p → AreFrom p js → AreFrom q js
from-lower [] p q h a = tt
from-lower (j ∷ js) p q h a = let first = a.0 in (omega (arith, h, first), from-lower js p q h a.1)

pub before-higher : (js : List Leap) (p q : ℕ) → p ≤ q → AreBefore p js → AreBefore q js
before-higher [] p q h a = tt
before-higher (j ∷ js) p q h a = let first = a.0 in (omega (arith, h, first), before-higher js p q h a.1)

pub both-from : (js ks : List Leap) (p : ℕ) → AreFrom p js → AreFrom p ks → AreFrom p (js ++ ks)
both-from [] ks p a b = b
both-from (j ∷ js) ks p a b = (a.0, both-from js ks p a.1 b)

pub both-before : (js ks : List Leap) (p : ℕ) → AreBefore p js → AreBefore p ks → AreBefore p (js ++ ks)
both-before [] ks p a b = b
both-before (j ∷ js) ks p a b = (a.0, both-before js ks p a.1 b)

-- each in a place of its own
abbrev pub AreRising : List Leap → Type 0
AreRising [] = ⊤
AreRising (j ∷ js) = AreFrom (suc j.place) js × AreRising js

pub both-rising : (js ks : List Leap) (p : ℕ) → AreBefore p js → AreFrom p ks → AreRising js → AreRising ks → AreRising (js ++ ks)
both-rising [] ks p a b r s = s
both-rising (j ∷ js) ks p a b r s = let first = a.0 in (both-from js ks (suc j.place) r.0 (from-lower ks p (suc j.place) (omega (arith, first)) b), both-rising js ks p a.1 b r.1 s)

-- What is led

pub led-append : (l : Loop) (js ks : List Leap) (f : Function) → led l (js ++ ks) f ≡ led l js (led l ks f)
led-append l [] ks f = refl
led-append l (j ∷ js) ks f = ap (λ g. patched g j.place (Jump (target l j))) (led-append l js ks f)

pub led-length : (l : Loop) (js : List Leap) (f : Function) → length (led l js f).code ≡ length f.code
led-length l [] f = refl
led-length l (j ∷ js) f = length-set (led l js f).code j.place (Jump (target l j)) ∙ led-length l js f

pub led-slots : (l : Loop) (js : List Leap) (f : Function) → slots_of (led l js f) ≡ slots_of f
led-slots l [] f = refl
led-slots l (j ∷ js) f = led-slots l js f

pub led-written : (l : Loop) (js : List Leap) (f : Function) (ms : List Mark) → AreBefore (length f.code) js → led l js (written f ms) ≡ written (led l js f) ms
led-written l [] f ms h = refl
led-written l (j ∷ js) f ms h =
    let same = led-length l js f in
    let first = h.0 in
    ap (λ g. patched g j.place (Jump (target l j))) (led-written l js f ms h.1) ∙ patched-written ms (led l js f) j.place (Jump (target l j)) (omega (arith, same, first))

pub led-patched : (l : Loop) (js : List Leap) (f : Function) (n : ℕ) (i : Instr) → AreFrom (suc n) js → led l js (patched f n i) ≡ patched (led l js f) n i
led-patched l [] f n i h = refl
led-patched l (j ∷ js) f n i h =
    let first = h.0 in
    ap (λ g. patched g j.place (Jump (target l j))) (led-patched l js f n i h.1) ∙ patched-swap (led l js f) n j.place i (Jump (target l j)) (omega (arith, first))

-- in a loop, or outside of any, where nothing is led

abbrev pub led_in : Option Loop → List Leap → Function → Function
led_in None js f = f
led_in (Some l) js f = led l js f

pub in-none : (o : Option Loop) (f : Function) → led_in o [] f ≡ f
in-none None f = refl
in-none (Some l) f = refl

pub in-append : (o : Option Loop) (js ks : List Leap) (f : Function) → led_in o (js ++ ks) f ≡ led_in o js (led_in o ks f)
in-append None js ks f = refl
in-append (Some l) js ks f = led-append l js ks f

pub in-written : (o : Option Loop) (js : List Leap) (f : Function) (ms : List Mark) → AreBefore (length f.code) js → led_in o js (written f ms) ≡ written (led_in o js f) ms
in-written None js f ms h = refl
in-written (Some l) js f ms h = led-written l js f ms h

pub in-patched : (o : Option Loop) (js : List Leap) (f : Function) (n : ℕ) (i : Instr) → AreFrom (suc n) js → led_in o js (patched f n i) ≡ patched (led_in o js f) n i
in-patched None js f n i h = refl
in-patched (Some l) js f n i h = led-patched l js f n i h

-- The jumps of a `switch`

-- a jump whose place isn't known yet
abbrev pub nowhere : Loop
nowhere = loop_to 0 0

pub out-length : (end : ℕ) (js : List Leap) (f : Function) → length (led_out end js f).code ≡ length f.code
out-length end [] f = refl
out-length end (j ∷ js) f = by j.ends (out-length end js f)
  where
    by : (b : Bool) → length (led_out end js f).code ≡ length f.code → length (if b then patched (led_out end js f) j.place (Jump end) else led_out end js f).code ≡ length f.code
    by true e = length-set (led_out end js f).code j.place (Jump end) ∙ e
    by false e = e

pub out-slots : (end : ℕ) (js : List Leap) (f : Function) → slots_of (led_out end js f) ≡ slots_of f
out-slots end [] f = refl
out-slots end (j ∷ js) f = by j.ends (out-slots end js f)
  where
    by : (b : Bool) → slots_of (led_out end js f) ≡ slots_of f → slots_of (if b then patched (led_out end js f) j.place (Jump end) else led_out end js f) ≡ slots_of f
    by true e = e
    by false e = e

pub on-from : (js : List Leap) (p : ℕ) → AreFrom p js → AreFrom p (going_on js)
on-from [] p h = tt
on-from (j ∷ js) p h = by j.ends (on-from js p h.1)
  where
    by : (b : Bool) → AreFrom p (going_on js) → AreFrom p (if b then going_on js else j ∷ going_on js)
    by true r = r
    by false r = (h.0, r)

pub on-before : (js : List Leap) (p : ℕ) → AreBefore p js → AreBefore p (going_on js)
on-before [] p h = tt
on-before (j ∷ js) p h = by j.ends (on-before js p h.1)
  where
    by : (b : Bool) → AreBefore p (going_on js) → AreBefore p (if b then going_on js else j ∷ going_on js)
    by true r = r
    by false r = (h.0, r)

pub on-rising : (js : List Leap) → AreRising js → AreRising (going_on js)
on-rising [] h = tt
on-rising (j ∷ js) h = by j.ends (on-rising js h.1)
  where
    by : (b : Bool) → AreRising (going_on js) → AreRising (if b then going_on js else j ∷ going_on js)
    by true r = r
    by false r = (on-from js (suc j.place) h.0, r)

pub out-patched : (end : ℕ) (js : List Leap) (f : Function) (n : ℕ) (i : Instr) → AreFrom (suc n) js → led_out end js (patched f n i) ≡ patched (led_out end js f) n i
out-patched end [] f n i h = refl
out-patched end (j ∷ js) f n i h = by j.ends (out-patched end js f n i h.1)
  where
    by : (b : Bool) → led_out end js (patched f n i) ≡ patched (led_out end js f) n i
        → (if b then patched (led_out end js (patched f n i)) j.place (Jump end) else led_out end js (patched f n i)) ≡ patched (if b then patched (led_out end js f) j.place (Jump end) else led_out end js f) n i
    by true e = let first = h.0 in ap (λ g. patched g j.place (Jump end)) e ∙ patched-swap (led_out end js f) n j.place i (Jump end) (omega (arith, first))
    by false e = e

-- first those that end it, and then those that go on
pub led-on : (again other end : ℕ) (js : List Leap) (f : Function) → AreRising js → led (loop_to again other) (going_on js) (led_out end js f) ≡ led (loop_to again end) js f
led-on again other end [] f h = refl
led-on again other end (j ∷ js) f h = by j.ends (led-on again other end js f h.1)
  where
    by : (b : Bool) → led (loop_to again other) (going_on js) (led_out end js f) ≡ led (loop_to again end) js f
        → led (loop_to again other) (if b then going_on js else record { place = j.place; ends = b } ∷ going_on js) (if b then patched (led_out end js f) j.place (Jump end) else led_out end js f)
        ≡ patched (led (loop_to again end) js f) j.place (Jump (if b then end else again))
    by true e = led-patched (loop_to again other) (going_on js) (led_out end js f) j.place (Jump end) (on-from js (suc j.place) h.0) ∙ ap (λ g. patched g j.place (Jump end)) e
    by false e = ap (λ g. patched g j.place (Jump again)) e

set-twice : {X : Type 0} (xs : List X) (n : ℕ) (a b : X) → slice_set (slice_set xs n a) n b ≡ slice_set xs n b
set-twice [] n a b = ap (λ l. slice_set l n b) (set-nil n a)
set-twice (x ∷ xs) zero a b = refl
set-twice (x ∷ xs) (suc n) a b = ap (λ l. x ∷ l) (set-twice xs n a b)

patched-twice : (f : Function) (n : ℕ) (a b : Instr) → patched (patched f n a) n b ≡ patched f n b
patched-twice f n a b = ap (λ c. record f { code = c }) (set-twice f.code n a b)

-- where those that go on lead to 0 already
out-nowhere : (end : ℕ) (js : List Leap) (f : Function) → AreRising js → led_out end js (led nowhere js f) ≡ led (loop_to 0 end) js f
out-nowhere end [] f h = refl
out-nowhere end (j ∷ js) f h = by j.ends (out-nowhere end js f h.1)
  where
    by : (b : Bool) → led_out end js (led nowhere js f) ≡ led (loop_to 0 end) js f
        → (if b then patched (led_out end js (patched (led nowhere js f) j.place (Jump (if b then 0 else 0)))) j.place (Jump end) else led_out end js (patched (led nowhere js f) j.place (Jump (if b then 0 else 0))))
        ≡ patched (led (loop_to 0 end) js f) j.place (Jump (if b then end else 0))
    by true e =
        ap (λ g. patched g j.place (Jump end)) (out-patched end js (led nowhere js f) j.place (Jump 0) h.0) ∙ patched-twice (led_out end js (led nowhere js f)) j.place (Jump 0) (Jump end)
        ∙ ap (λ g. patched g j.place (Jump end)) e
    by false e = out-patched end js (led nowhere js f) j.place (Jump 0) h.0 ∙ ap (λ g. patched g j.place (Jump 0)) e

pub out-unset : (end : ℕ) (js : List Leap) (f : Function) → AreRising js → led nowhere js f ≡ f → led_out end js f ≡ led (loop_to 0 end) js f
out-unset end js f h e = ap (led_out end js) (sym e) ∙ out-nowhere end js f h
