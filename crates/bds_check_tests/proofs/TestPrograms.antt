-- From the number of a test to its program, and back to what it begins with.
use Rattle.std.proofs.Common.{◌≡◌, ◌∙◌, ℕ, ◌<◌, ◌++◌, Bool, true, false, List, [], ◌∷◌, map, length, Option, Some, None}
use Rattle.std.proofs.Common.{if◌then◌else◌, IsSome, refl, ap, sym, subst, arith}
use Rattle.std.specs.List.{filter, slice_get}
use Rattle.std.specs.Option.{option_to_list}
use Rattle.std.proofs.lemmas.List.{length_push, map_push, same_from_push}
use Rattle.bds_tree.specs.declared.stmt.Part.{Part}
use Rattle.bds_tree.specs.StmtTree.{FunctionTree, PartTree, ScriptTree, a_function, an_include, a_statement}
use Rattle.bds_tree.specs.StmtView.{part_of, script_of}
use Rattle.bds_check.specs.declared.checking.TypedScript.{TypedScript}
use Rattle.bds_check_typing.specs.Typed.{IsTyped}
use Rattle.bds_check_typing.specs.Walk.{Broken}
use Rattle.bds_check_tests.specs.Tests.{IsBaseOf, IsTestOf, call_of, is_declaration, is_kept, is_test}
use Rattle.bds_check_tests.specs.Tests.{test_program, tests_in}
use Rattle.bds_check_tests.proofs.ListedTests.{not_past}
use Rattle.bds_check_tests.proofs.TypedTests.{tests_typed}

pub not_broken : (o : Option Broken) (b : Broken) → o ≡ None → o ≡ Some b → ⊥
not_broken o b none some = let no = sym none ∙ some in cc no

-- The parts that are kept

pub kept_as : (ps : List Part) → map part_of (filter (λ p. is_kept (part_of p)) ps) ≡ filter is_kept (map part_of ps)
kept_as [] = refl
kept_as (p ∷ ps) = by_test (is_kept (part_of p)) (kept_as ps)
  where
    by_test : (b : Bool) → map part_of (filter (λ q. is_kept (part_of q)) ps) ≡ filter is_kept (map part_of ps)
        → map part_of (if b then p ∷ filter (λ q. is_kept (part_of q)) ps else filter (λ q. is_kept (part_of q)) ps)
        ≡ (if b then part_of p ∷ filter is_kept (map part_of ps) else filter is_kept (map part_of ps))
    by_test true others = ap (λ (qs : List PartTree). part_of p ∷ qs) others
    by_test false others = others

-- the tests among them are all tests
pub tests_kept : (ps : List PartTree) → tests_in (filter is_kept ps) ≡ tests_in ps
tests_kept [] = refl
tests_kept (a_function f ∷ ps) =
    ap (λ (fs : List FunctionTree). if is_test f then f ∷ fs else fs) (tests_kept ps)
tests_kept (an_include i ∷ ps) = tests_kept ps
tests_kept (a_statement s ∷ ps) = by_test (is_declaration s) (tests_kept ps)
  where
    by_test : (b : Bool) → tests_in (filter is_kept ps) ≡ tests_in ps
        → tests_in (if b then a_statement s ∷ filter is_kept ps else filter is_kept ps) ≡ tests_in ps
    by_test true others = others
    by_test false others = others

pub tests_same : (t : TypedScript) (base : ScriptTree) → IsBaseOf t base
    → tests_in base.parts ≡ tests_in (script_of t.script).parts
tests_same t base h = ap (λ (s : ScriptTree). tests_in s.parts) h.is ∙ tests_kept (script_of t.script).parts

-- The test of a number

pub there_is : (fs : List FunctionTree) (i : ℕ) → i < length fs → (f : FunctionTree) × (slice_get fs i ≡ Some f)
there_is fs i below = found (slice_get fs i) refl
  where
    found : (o : Option FunctionTree) → slice_get fs i ≡ o → (f : FunctionTree) × (slice_get fs i ≡ Some f)
    found (Some f) e = (f, e)
    found None e = absurd (not_past fs i below (sym e))

-- its call
pub call_same : (fs : List FunctionTree) (i : ℕ) (g f : FunctionTree) → Some g ≡ slice_get fs i
    → slice_get fs i ≡ Some f
    → call_of g ≡ call_of f
call_same fs i g f here there =
    let e : Some g ≡ Some f = here ∙ there in
    let same : g ≡ f = cc e in ap call_of same

-- the program that a call makes of what it begins with
module _ (t : TypedScript) (base program : ScriptTree) (index : ℕ) (h : IsBaseOf t base)
    (below : index < length (tests_in base.parts))
    (made : (f : FunctionTree) → slice_get (tests_in base.parts) index ≡ Some f
    → program ≡ record {
      at = base.at;
      files = base.files;
      parts = base.parts ++ a_statement (call_of f) ∷ [];
    }) where
  test_here : (f : FunctionTree) × (slice_get (tests_in base.parts) index ≡ Some f)
  test_here = there_is (tests_in base.parts) index below

  test_there : slice_get (tests_in (script_of t.script).parts) index ≡ Some test_here.0
  test_there = ap (λ (fs : List FunctionTree). slice_get fs index) (sym (tests_same t base h)) ∙ test_here.1

  made_of : program ≡ test_program (script_of t.script) test_here.0
  made_of =
      made test_here.0 test_here.1
      ∙ ap (λ (s : ScriptTree).
      record { at = s.at; files = s.files; parts = s.parts ++ a_statement (call_of test_here.0) ∷ [] }) h.is

  pub program_typed : IsTyped program
  program_typed = subst IsTyped (sym made_of) (tests_typed (script_of t.script) index test_here.0 h.typed test_there)

  pub is_test_of : (test : TypedScript)
      → (script_of test.script ≡ program) × (test.settings ≡ []) × (test.args ≡ []) → IsTestOf t index test
  is_test_of test w = record {
    function = test_here.0;
    is = test_there;
    program = w.0 ∙ made_of;
    settings = w.1;
    args = w.2;
  }

-- And back

snoc_some : (xs ps : List Part) (o : Option Part) (qs : List PartTree) (p : PartTree) → xs ≡ ps ++ option_to_list o
    → map part_of xs ≡ qs ++ p ∷ [] → IsSome o → map part_of ps ≡ qs
snoc_some xs ps (Some x) qs p parted whole some =
    (same_from_push (map part_of ps) qs (part_of x) p (sym (map_push part_of ps x) ∙ ap (map part_of) (sym parted)
    ∙ whole)).0
snoc_some xs ps None qs p parted whole some = absurd (cc some)

-- without the last part
pub last_away : (xs ps : List Part) (o : Option Part) (qs : List PartTree) (p : PartTree) → xs ≡ ps ++ option_to_list o
    → (0 < length xs → IsSome o) → map part_of xs ≡ qs ++ p ∷ [] → map part_of ps ≡ qs
last_away xs ps o qs p parted some whole =
    snoc_some xs ps o qs p parted whole (some (long xs whole))
  where
    long : (ys : List Part) → map part_of ys ≡ qs ++ p ∷ [] → 0 < length ys
    long [] e = absurd (let n = ap length e ∙ length_push qs p in omega (arith, n))
    long (y ∷ ys) e = omega arith
