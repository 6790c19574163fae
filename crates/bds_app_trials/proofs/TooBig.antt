-- Which unit is too large.
use Rattle.std.proofs.Common.{◌≡◌, ◌∙◌, ℕ, ◌+◌, ◌<◌, ◌||◌, Bool, true, false, List, [], ◌∷◌, Some}
use Rattle.std.proofs.Common.{zero, suc, refl, ap, sym, subst, arith, drop, length, IfOk, Result, Ok, Err}
use Rattle.std.proofs.lemmas.List.{drop_all}
use Rattle.std.specs.List.{list_any, slice_get}
use Rattle.bds_tree.specs.StmtTree.{FunctionTree, ScriptTree}
use Rattle.bds_tree.specs.StmtView.{script_of}
use Rattle.bds_check.specs.declared.checking.TypedScript.{TypedScript}
use Rattle.bds_check_tests.specs.Tests.{IsBaseOf, IsTestOf, base_program, test_program, tests_in}
use Rattle.bds_check_tests.proofs.TestPrograms.{tests_same}
use Rattle.bds_app_trials.specs.Testing.{is_any_too_big, is_too_big, tests_of}

either : (a b : Bool) → (a || b) ≡ false → (a ≡ false) × (b ≡ false)
either true b h = absurd (cc h)
either false b h = (refl, h)

none_at : (P : FunctionTree → Bool) (fs : List FunctionTree) (i : ℕ) (f : FunctionTree) → list_any P fs ≡ false
    → slice_get fs i ≡ Some f
    → P f ≡ false
none_at P [] i f none is = absurd (cc is)
none_at P (g ∷ gs) zero f none is = subst (λ h. P h ≡ false) (cc is) (either (P g) (list_any P gs) none).0
none_at P (g ∷ gs) (suc i) f none is = none_at P gs i f (either (P g) (list_any P gs) none).1 is

-- where none is, that of a test isn't
pub test_fits : (t test : TypedScript) (n : ℕ) → IsTestOf t n test → is_any_too_big t ≡ false
    → is_too_big (script_of test.script) ≡ false
test_fits t test n h none =
    ap is_too_big h.program
    ∙ none_at (λ f. is_too_big (test_program (script_of t.script) f)) (tests_of t) n h.function
    (either (is_too_big (script_of t.script)) _ none).1 h.is

-- What the programs of tests begin with

pub of_test : (t test : TypedScript) (n : ℕ) (f : FunctionTree) → IsTestOf t n test → slice_get (tests_of t) n ≡ Some f
    → is_too_big (script_of test.script) ≡ is_too_big (test_program (script_of t.script) f)
of_test t test n f h there =
    let some : Some h.function ≡ Some f = sym h.is ∙ there in
    let same : h.function ≡ f = cc some in
    ap is_too_big h.program ∙ ap (λ (g : FunctionTree). is_too_big (test_program (script_of t.script) g)) same

pub base_again : (t : TypedScript) (base left : ScriptTree) → IsBaseOf t base → left ≡ base_program (script_of t.script)
    → IsBaseOf t left
base_again t base left h is = record { typed = h.typed; is = is }

-- there are as many tests as before
pub below_again : (t : TypedScript) (base left : ScriptTree) (n count : ℕ) → IsBaseOf t base → IsBaseOf t left
    → n < count → count ≡ length (tests_in base.parts) → n < length (tests_in left.parts)
below_again t base left n count h k below many =
    let same : length (tests_in base.parts) ≡ length (tests_in left.parts) =
    ap length (tests_same t base h ∙ sym (tests_same t left k)) in
    omega (arith, below, many, same)

pub below_of : (t : TypedScript) (base : ScriptTree) (n count : ℕ) → IsBaseOf t base → n < count
    → count ≡ length (tests_in base.parts) → n < length (tests_of t)
below_of t base n count h below many = let same = ap length (tests_same t base h) in omega (arith, below, many, same)

pub all_of : (t : TypedScript) (base : ScriptTree) (count : ℕ) → IsBaseOf t base → count ≡ length (tests_in base.parts)
    → count ≡ length (tests_of t)
all_of t base count h many = many ∙ ap length (tests_same t base h)

-- The tests, one after the other

pub none_left : (P : FunctionTree → Bool) (fs : List FunctionTree) (n : ℕ) → n ≡ length fs
    → list_any P (drop n fs) ≡ list_any P fs → false ≡ list_any P fs
none_left P fs n end h = ap (list_any P) (sym (drop_all n fs (omega (arith, end)))) ∙ h

pub none_too_big : (t : TypedScript) → is_too_big (script_of t.script) ≡ false
    → false ≡ list_any (λ f. is_too_big (test_program (script_of t.script) f)) (tests_of t) → is_any_too_big t ≡ false
none_too_big t own none =
    ap (λ (b : Bool). b || list_any (λ f. is_too_big (test_program (script_of t.script) f)) (tests_of t)) own ∙ sym none

pub one_too_big : (t : TypedScript)
    → true ≡ list_any (λ f. is_too_big (test_program (script_of t.script) f)) (tests_of t) → is_any_too_big t ≡ true
one_too_big t one = by_test (is_too_big (script_of t.script))
  where
    by_test : (b : Bool)
        → (b || list_any (λ f. is_too_big (test_program (script_of t.script) f)) (tests_of t)) ≡ true
    by_test true = refl
    by_test false = sym one

pub own_too_big : (t : TypedScript) → is_too_big (script_of t.script) ≡ true → is_any_too_big t ≡ true
own_too_big t own =
    ap (λ (b : Bool). b || list_any (λ f. is_too_big (test_program (script_of t.script) f)) (tests_of t)) own

-- what holds at all holds where it went well
pub if_ok : {X E P : Type 0} (r : Result X E) → P → IfOk r (λ x. P)
if_ok (Ok x) p = p
if_ok (Err e) p = tt

the_next : (fs : List FunctionTree) (n : ℕ) → n < length fs
    → (f : FunctionTree) × ((slice_get fs n ≡ Some f) × (drop n fs ≡ f ∷ drop (suc n) fs))
the_next [] n below = absurd (omega (arith, below))
the_next (f ∷ fs) zero below = (f, (refl, refl))
the_next (f ∷ fs) (suc n) below = the_next fs n (omega (arith, below))

one_up : (n : ℕ) → suc n ≡ n + 1
one_up n = omega arith

module _ (P : FunctionTree → Bool) (fs : List FunctionTree) where
  module _ (n : ℕ) (below : n < length fs) (b : Bool) (asked : (f : FunctionTree) → slice_get fs n ≡ Some f → b ≡ P f)
      (so_far : list_any P (drop n fs) ≡ list_any P fs) where
    parted : list_any P (drop n fs) ≡ (b || list_any P (drop (n + 1) fs))
    parted = by_next (the_next fs n below)
      where
        by_next : (f : FunctionTree) × ((slice_get fs n ≡ Some f) × (drop n fs ≡ f ∷ drop (suc n) fs))
            → list_any P (drop n fs) ≡ (b || list_any P (drop (n + 1) fs))
        by_next (f, (is, next)) =
            ap (list_any P) next ∙ ap (λ (a : Bool). a || list_any P (drop (suc n) fs)) (sym (asked f is))
            ∙ ap (λ (m : ℕ). b || list_any P (drop m fs)) (one_up n)

    pub not_this : b ≡ false → list_any P (drop (n + 1) fs) ≡ list_any P fs
    not_this away = ap (λ (a : Bool). a || list_any P (drop (n + 1) fs)) (sym away) ∙ sym parted ∙ so_far

    pub this_one : b ≡ true → true ≡ list_any P fs
    this_one here = ap (λ (a : Bool). a || list_any P (drop (n + 1) fs)) (sym here) ∙ sym parted ∙ so_far
