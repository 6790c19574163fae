-- How functions grow.
use Rattle.std.proofs.Common.{◌≡◌, ◌≤◌, ◌-◌, ◌+◌, ℕ, zero, suc, Bool, true, false, List, [], ◌∷◌, ◌++◌, length, length-append, slice_set, take, drop, refl, sym, ◌∙◌, ap, arith, Result, Ok, Err, append_assoc, append-nil, if◌then◌else◌}
use Rattle.std.specs.Result.{OnOk, OnErr}
use Rattle.std.proofs.lemmas.List.{take-append-le, take-append-drop}
use Rattle.std.proofs.Math.Seq.{take-append-add}
use Rattle.bds_value.specs.declared.value.Ty.{Ty}
use Rattle.bds_code.specs.declared.instr.Instr.{Instr}
use Rattle.bds_code.specs.declared.unit.Function.{Function}
use Rattle.bds_gen_expr.specs.Gen.{patched}
use Rattle.bds_gen_expr.specs.Grown.{IsStartOf, Grown, Turned}
use Rattle.bds_gen_expr.specs.Marks.{is_last, labelled}

begins-self : {X : Type 0} (xs : List X) → IsStartOf xs xs
begins-self xs = ([], sym (append-nil xs))

begins-on : {X : Type 0} (xs ys zs : List X) → IsStartOf xs ys → IsStartOf ys zs → IsStartOf xs zs
begins-on xs ys zs a b = (a.0 ++ b.0, b.1 ∙ ap (λ l. l ++ b.0) a.1 ∙ append_assoc xs a.0 b.0)

pub grown_self : (f : Function) → Grown f f
grown_self f = record { name = refl; params = refl; locals = refl; ret = refl; code = begins-self f.code; labels = begins-self f.labels; lines = begins-self f.lines }

pub grown_on : (f g h : Function) → Grown f g → Grown g h → Grown f h
grown_on f g h a b = record {
  name = b.name ∙ a.name;
  params = b.params ∙ a.params;
  locals = b.locals ∙ a.locals;
  ret = b.ret ∙ a.ret;
  code = begins-on f.code g.code h.code a.code b.code;
  labels = begins-on f.labels g.labels h.labels a.labels b.labels;
  lines = begins-on f.lines g.lines h.lines a.lines b.lines;
}

labels-begin : (ls : List (ℕ × List Ty)) (p : ℕ) (t : List Ty) → IsStartOf ls (labelled ls p t)
labels-begin ls p t = by (is_last ls p)
  where
    by : (b : Bool) → IsStartOf ls (if b then ls else ls ++ (p, t) ∷ [])
    by true = begins-self ls
    by false = ((p, t) ∷ [], refl)

pub labels_grow : {T E : Type 0} (r : Result T E) (ls new : List (ℕ × List Ty)) (p : ℕ) (t : List Ty) → OnOk r (new ≡ labelled ls p t) → OnErr r (new ≡ ls) → IsStartOf ls new
labels_grow (Ok x) ls new p t h k = begins-on ls (labelled ls p t) new (labels-begin ls p t) ([], h ∙ sym (append-nil (labelled ls p t)))
labels_grow (Err e) ls new p t h k = ([], k ∙ sym (append-nil ls))

pub grown-by : (f : Function) (ls : List (ℕ × List Ty)) → IsStartOf f.labels ls → Grown f (record f { labels = ls })
grown-by f ls h = record { name = refl; params = refl; locals = refl; ret = refl; code = begins-self f.code; labels = h; lines = begins-self f.lines }

pub length_grown : (f g : Function) → Grown f g → length f.code ≤ length g.code
length_grown f g a = let e = ap length a.code.1 in let l = length-append f.code a.code.0 in omega (arith, e, l)

-- Up to a place

begins-take : {X : Type 0} (n : ℕ) (xs ys : List X) → n ≤ length xs → IsStartOf xs ys → IsStartOf (take n xs) ys
begins-take n xs ys h b = (drop n xs ++ b.0, b.1 ∙ ap (λ l. l ++ b.0) (sym (take-append-drop n xs)) ∙ append_assoc (take n xs) (drop n xs) b.0)

pub grown_turned : (f g : Function) (n : ℕ) → n ≤ length f.code → Grown f g → Turned n f g
grown_turned f g n h a = record { name = a.name; params = a.params; locals = a.locals; ret = a.ret; code = begins-take n f.code g.code h a.code; labels = a.labels; lines = a.lines }

take-begins : {X : Type 0} (xs ys : List X) (n : ℕ) → length xs ≤ n → IsStartOf xs ys → IsStartOf xs (take n ys)
take-begins xs ys n h b =
    let k = n - length xs in
    let e : n ≡ length xs + k = omega (arith, h) in
    (take k b.0, ap (take n) b.1 ∙ ap (λ m. take m (xs ++ b.0)) e ∙ take-append-add xs b.0 k)

-- what was there before the place is there behind
pub turned_on : (f g h : Function) (n : ℕ) → length f.code ≤ n → Grown f g → Turned n g h → Grown f h
turned_on f g h n low a b = record {
  name = b.name ∙ a.name;
  params = b.params ∙ a.params;
  locals = b.locals ∙ a.locals;
  ret = b.ret ∙ a.ret;
  code = begins-on f.code (take n g.code) h.code (take-begins f.code g.code n low a.code) b.code;
  labels = begins-on f.labels g.labels h.labels a.labels b.labels;
  lines = begins-on f.lines g.lines h.lines a.lines b.lines;
}

-- another instruction at the place
pub turned_patched : (f g : Function) (n : ℕ) (i : Instr) → n ≤ length f.code → Grown f g → Turned n f (patched g n i)
turned_patched f g n i h a = record {
  name = a.name;
  params = a.params;
  locals = a.locals;
  ret = a.ret;
  code = (drop n (slice_set g.code n i), sym (take-append-drop n (slice_set g.code n i)) ∙ ap (λ l. l ++ drop n (slice_set g.code n i)) (before-set g.code n i ∙ front));
  labels = a.labels;
  lines = a.lines;
}
  where
    before-set : (xs : List Instr) (k : ℕ) (j : Instr) → take k (slice_set xs k j) ≡ take k xs
    before-set [] zero j = refl
    before-set [] (suc k) j = refl
    before-set (x ∷ xs) zero j = refl
    before-set (x ∷ xs) (suc k) j = ap (λ l. x ∷ l) (before-set xs k j)

    front : take n g.code ≡ take n f.code
    front = ap (take n) a.code.1 ∙ take-append-le n f.code a.code.0 h

-- Two ways

pub two_passed : (f0 f1 f2 f3 f4 : Function) (test : ℕ) → Grown f0 f1 → test ≡ length f1.code → Grown f1 f2 → Grown f2 f3 → Turned test f3 f4 → Grown f0 f4
two_passed f0 f1 f2 f3 f4 test a e b c d =
    let low = length_grown f0 f1 a in
    turned_on f0 f3 f4 test (omega (arith, low, e)) (grown_on f0 f2 f3 (grown_on f0 f1 f2 a b) c) d

pub two_ended : (f0 f1 f2 f3 f4 f5 f6 : Function) (test jump : ℕ) → Grown f0 f1 → test ≡ length f1.code → Grown f1 f2 → Grown f2 f3 → jump ≡ length f3.code → Turned test f3 f4 → Grown f4 f5 → Turned jump f5 f6 → Grown f0 f6
two_ended f0 f1 f2 f3 f4 f5 f6 test jump a e b c e2 d g h =
    let low = length_grown f0 f3 (grown_on f0 f2 f3 (grown_on f0 f1 f2 a b) c) in
    turned_on f0 f5 f6 jump (omega (arith, low, e2)) (grown_on f0 f4 f5 (two_passed f0 f1 f2 f3 f4 test a e b c d) g) h

-- for functions that write one thing behind the other
pub ruleset growing = (grown_on, grown_turned, turned_on, turned_patched, length_grown)
