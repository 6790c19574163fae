use Rattle.std.proofs.Common.{◌≡◌, drop}
use Rattle.std.specs.List.{list_any}
use Rattle.bds_tree.specs.StmtView.{script_of}
use Rattle.bds_check.specs.declared.checking.TypedScript.{TypedScript}
use Rattle.bds_check_tests.specs.Tests.{IsBaseOf, test_program}
use Rattle.bds_app_trials.specs.Testing.{is_too_big, tests_of}
use Rattle.bds_app_trials.proofs.sizes.is_any_test_too_big.Given as goal

abbrev pub invariant-loop-index : goal.invariant-loop-index
invariant-loop-index l =
    (t : TypedScript) → IsBaseOf t (script_of l.fn.base) → IsBaseOf t (script_of l.base)
    × (list_any (λ f. is_too_big (test_program (script_of t.script) f)) (drop l.index (tests_of t))
    ≡ list_any (λ f. is_too_big (test_program (script_of t.script) f)) (tests_of t))
