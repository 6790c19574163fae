-- The tests, one after the other.
use Rattle.std.proofs.Common.{◌≡◌, ◌∙◌, ℕ, ◌+◌, ◌≤◌, Bool, true, false, List, [], ◌∷◌, map, Some}
use Rattle.std.proofs.Common.{zero, suc, arith, ap, sym, subst, get_or}
use Rattle.std.specs.List.{slice_get}
use Rattle.bds_host.specs.Host.{Log}
use Rattle.bds_tree.specs.StmtTree.{FunctionTree, ScriptTree}
use Rattle.bds_check.specs.declared.checking.TypedScript.{TypedScript}
use Rattle.bds_check_tests.specs.Tests.{IsBaseOf, tests_in}
use Rattle.bds_check_tests.proofs.TestPrograms.{tests_same}
use Rattle.bds_app_run.specs.declared.call.Call.{Call}
use Rattle.bds_app_trials.specs.Testing.{HasTold, HaveRun, one_more_failed, tests_of}

abbrev name : FunctionTree → List ℕ
name f = f.name

-- the name of a test is in its place among the names
named_at : (fs : List FunctionTree) (n : ℕ) (f : FunctionTree) (x : List ℕ) → slice_get fs n ≡ Some f
    → get_or (map (λ (f : FunctionTree). f.name) fs) n x ≡ f.name
named_at [] n f x is = absurd (cc is)
named_at (g ∷ gs) zero f x is = let same : g ≡ f = cc is in ap name same
named_at (g ∷ gs) (suc n) f x is = named_at gs n f x is

one_up : (n : ℕ) → suc n ≡ n + 1
one_up n = omega arith

pub name_at : (fs : List FunctionTree) (names : List (List ℕ)) → names ≡ map (λ (f : FunctionTree). f.name) fs
    → (n : ℕ) (x : List ℕ) → x ≡ get_or names n x → (f : FunctionTree) → slice_get fs n ≡ Some f → x ≡ f.name
name_at fs names is n x here f there = here ∙ ap (λ ns. get_or ns n x) is ∙ named_at fs n f x there

-- the names of the tests are those of the tests that a program begins with
pub named_of : (t : TypedScript) (base : ScriptTree) (names : List (List ℕ)) → IsBaseOf t base
    → names ≡ map (λ (f : FunctionTree). f.name) (tests_in base.parts)
    → names ≡ map (λ (f : FunctionTree). f.name) (tests_of t)
named_of t base names h is = is ∙ ap (map name) (tests_same t base h)

pub names_again : (t : TypedScript) (base left : ScriptTree) (names : List (List ℕ)) → IsBaseOf t base → IsBaseOf t left
    → names ≡ map (λ (f : FunctionTree). f.name) (tests_in base.parts)
    → names ≡ map (λ (f : FunctionTree). f.name) (tests_in left.parts)
names_again t base left names h k is = named_of t base names h is ∙ ap (map name) (sym (tests_same t left k))

-- one more is tried
pub few_on : (n failed : ℕ) (passed : Bool) (more : ℕ) → more ≡ one_more_failed failed passed → failed ≤ n
    → more ≤ n + 1
few_on n failed true more is few = omega (arith, is, few)
few_on n failed false more is few = omega (arith, is, few)

pub tried_on : (c : Call) (t : TypedScript) (before log after : Log) (n failed : ℕ) → HaveRun c t before n failed log
    → (passed : Bool) (more : ℕ) → more ≡ one_more_failed failed passed → HasTold c t n log after passed
    → HaveRun c t before (n + 1) more after
tried_on c t before log after n failed there passed more is told =
    subst (λ k. HaveRun c t before (n + 1) k after) (sym is)
    (subst (λ k. HaveRun c t before k (one_more_failed failed passed) after) (one_up n)
    (HaveRun.one_more n failed passed log after there told))
