use Rattle.std.proofs.Common.{◌≡◌, ◌∙◌, true, false, refl, rules, sym}
use Rattle.bds_tree.specs.StmtView.{script_of}
use Rattle.bds_app_trials.specs.Testing.{TestsLoaded}
use Rattle.bds_app_trials.proofs.EachTest.{names_again}
use Rattle.bds_app_trials.proofs.TooBig.{none_too_big, one_too_big}
use Rattle.bds_app_trials.proofs.testing.run_if_fit.Goals as goal

pub is_any_test_too_big-requires-clause-base : goal.is_any_test_too_big-requires-clause-base
is_any_test_too_big-requires-clause-base g c = (c.requires.base.0, c.requires.base.1.0)

pub run_tests-requires-clause-base : goal.run_tests-requires-clause-base
run_tests-requires-clause-base g c =
    let t = c.requires.base.0 in
    let asked = c.in-Ok-false.ensures t c.requires.base.1.0 in
    let small : c.in-Ok-false.field-0 ≡ false = search rules in
    (t, record { base = asked.0; fits = none_too_big t c.requires.base.1.1 (sym small ∙ asked.1) })

pub run_tests-requires-clause-names : goal.run_tests-requires-clause-names
run_tests-requires-clause-names g c =
    let t = c.requires.base.0 in
    let asked = c.in-Ok-false.ensures t c.requires.base.1.0 in
    names_again t (script_of c.args.base.now) (script_of c.is_any_test_too_big.new.base) c.args.names.now
    c.requires.base.1.0 asked.0 c.requires.names

pub returns-in-Ok-false : goal.returns-in-Ok-false
returns-in-Ok-false g c = λ t h own.
    let asked = c.in-Ok-false.ensures t h in
    let small : c.in-Ok-false.field-0 ≡ false = search rules in
    c.run_tests.ensures t (record { base = asked.0; fits = none_too_big t own (sym small ∙ asked.1) })

pub returns-in-Ok-true : goal.returns-in-Ok-true
returns-in-Ok-true g c = λ t h own.
    let big : c.in-Ok-true.field-0 ≡ true = search rules in
    TestsLoaded.too_big c.refuse_size-answer.result
    (one_too_big t (sym big ∙ (c.in-Ok-true.ensures t h).1)) c.refuse_size-answer.ensures

pub returns-in-Err : goal.returns-in-Err
returns-in-Err g c = λ t h own. TestsLoaded.no_memory refl
