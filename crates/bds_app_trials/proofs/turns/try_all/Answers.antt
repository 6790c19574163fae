use Rattle.std.proofs.Common.{length, arith, refl, rules}
use Rattle.bds_tree.specs.StmtView.{script_of}
use Rattle.bds_check_tests.specs.Tests.{tests_in}
use Rattle.bds_app_trials.specs.Testing.{HaveRun, tests_of}
use Rattle.bds_app_trials.proofs.EachTest.{few_on, name_at, named_of, names_again, tried_on}
use Rattle.bds_app_trials.proofs.TooBig.{below_again}
use Rattle.bds_app_trials.proofs.Tried.{all_tried, as_many}
use Rattle.bds_app_trials.proofs.turns.try_all.Goals as goal

pub loop-index-init : goal.loop-index-init
loop-index-init g c = record { few = omega arith; run = λ t h. (h, HaveRun.none) }

pub try_test-tried-requires-clause-base : goal.try_test-tried-requires-clause-base
try_test-tried-requires-clause-base g c =
    (c.requires.base.0, (c.loop-index.invariant.run c.requires.base.0 c.requires.base.1).0)

pub try_test-tried-requires-clause-below : goal.try_test-tried-requires-clause-below
try_test-tried-requires-clause-below g c =
    let t = c.requires.base.0 in
    below_again t (script_of c.args.base.now) (script_of c.loop-index.base) c.loop-index.index (length c.args.names.now)
    c.requires.base.1.base (c.loop-index.invariant.run t c.requires.base.1).0.base (search rules)
    (as_many (tests_in (script_of c.args.base.now).parts) c.args.names.now (length c.args.names.now) c.requires.names
    refl)

pub try_test-tried-requires-clause-name : goal.try_test-tried-requires-clause-name
try_test-tried-requires-clause-name g c =
    let t = c.requires.base.0 in
    name_at (tests_in (script_of c.loop-index.base).parts) c.args.names.now
    (names_again t (script_of c.args.base.now) (script_of c.loop-index.base) c.args.names.now c.requires.base.1.base
    (c.loop-index.invariant.run t c.requires.base.1).0.base c.requires.names)
    c.loop-index.index c.index-names-index.result c.index-names-index.is

pub loop-index-preserved : goal.loop-index-preserved
loop-index-preserved g c = record {
  few = few_on c.loop-index.index c.loop-index.failed c.in-Ok.passed c.one_more-failed.result c.one_more-failed.ensures
      c.loop-index.invariant.few;
  run = λ t h.
      let so_far = c.loop-index.invariant.run t h in
      let tried = (rw c.in-Ok.is at c.try_test-tried.ensures) t so_far.0 in (
        tried.1,
        tried_on c.args.call.now t _ _ _ c.loop-index.index c.loop-index.failed so_far.1
            c.in-Ok.passed c.one_more-failed.result c.one_more-failed.ensures tried.0,
      );
}

pub returns-in-Err : goal.returns-in-Err
returns-in-Err g c = λ t h.
    let so_far = c.loop-index.invariant.run t h in
    let tried = (rw c.in-Err.is at c.try_test-tried.ensures) t so_far.0 in
    (c.loop-index.index, (c.loop-index.failed, (_, (so_far.1, tried.0))))

pub returns : goal.returns
returns g c = λ t h.
    let so_far = c.loop-index.invariant.run t h in
    let many = as_many (tests_of t) c.args.names.now c.args.count
    (named_of t (script_of c.args.base.now) c.args.names.now h.base c.requires.names) c.requires.count in
    all_tried c.args.call.now t _ _ c.loop-index.index c.loop-index.failed (omega (arith, many))
    c.loop-index.invariant.few
    so_far.1
