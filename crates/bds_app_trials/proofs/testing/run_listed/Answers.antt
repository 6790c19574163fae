use Rattle.std.proofs.Common.{◌∙◌, ap, map, refl, sym}
use Rattle.bds_tree.specs.StmtTree.{FunctionTree}
use Rattle.bds_tree.specs.StmtView.{script_of}
use Rattle.bds_check_tests.proofs.TestPrograms.{tests_same}
use Rattle.bds_app_trials.specs.Testing.{TestsLoaded}
use Rattle.bds_app_trials.proofs.TooBig.{own_too_big}
use Rattle.bds_app_trials.proofs.testing.run_listed.Goals as goal

pub run_named-requires-clause-base : goal.run_named-requires-clause-base
run_named-requires-clause-base g c =
    let are = rw c.in-Ok-Some.field-0-is at (rw c.in-Ok-Some.is at c.requires.base.1.1) in
    (c.requires.base.0, (c.requires.base.1.0, are.0))

pub run_named-requires-clause-names : goal.run_named-requires-clause-names
run_named-requires-clause-names g c =
    let t = c.requires.base.0 in
    let are = rw c.in-Ok-Some.field-0-is at (rw c.in-Ok-Some.is at c.requires.base.1.1) in
    c.as_slice.ensures ∙ are.1
    ∙ ap (map (λ (f : FunctionTree). f.name)) (sym (tests_same t (script_of c.args.base.now) c.requires.base.1.0))

pub returns-in-Ok-Some : goal.returns-in-Ok-Some
returns-in-Ok-Some g c = λ t h named.
    let are = rw c.in-Ok-Some.field-0-is at (rw c.in-Ok-Some.is at named) in c.run_named.ensures t h are.0

pub returns-in-Ok-None : goal.returns-in-Ok-None
returns-in-Ok-None g c = λ t h named.
    let big = rw c.in-Ok-None.field-0-is at (rw c.in-Ok-None.is at named) in
    TestsLoaded.too_big c.refuse_size-answer.result (own_too_big t big) c.refuse_size-answer.ensures

pub returns-in-Err : goal.returns-in-Err
returns-in-Err g c = λ t h named. TestsLoaded.no_memory refl
