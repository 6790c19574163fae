use Rattle.std.proofs.Common.{◌<◌, length, refl, rules, arith}
use Rattle.bds_tree.specs.StmtView.{script_of}
use Rattle.bds_check_tests.specs.Tests.{test_program}
use Rattle.bds_app_trials.specs.Testing.{is_too_big, tests_of}
use Rattle.bds_app_trials.proofs.TooBig.{all_of, below_again, below_of, none_left, not_this, this_one}
use Rattle.bds_app_trials.proofs.sizes.is_any_test_too_big.Goals as goal

pub loop-index-init : goal.loop-index-init
loop-index-init c = λ t h. (h, refl)

pub is_test_too_big-requires-clause-base : goal.is_test_too_big-requires-clause-base
is_test_too_big-requires-clause-base c =
    (c.requires.base.0, (c.loop-index.invariant c.requires.base.0 c.requires.base.1).0)

pub is_test_too_big-requires-clause-below : goal.is_test_too_big-requires-clause-below
is_test_too_big-requires-clause-below c =
    let t = c.requires.base.0 in
    below_again t (script_of c.args.base.now) (script_of c.loop-index.base) c.loop-index.index c.args.count
    c.requires.base.1 (c.loop-index.invariant t c.requires.base.1).0 (search rules) c.requires.count

pub returns-then-branch : goal.returns-then-branch
returns-then-branch c = λ t h.
    let so_far = c.loop-index.invariant t h in
    let asked = c.in_ok-is_test_too_big.ensures t so_far.0 in
    let below : c.loop-index.index < length (tests_of t) =
    below_of t (script_of c.args.base.now) c.loop-index.index c.args.count h (search rules) c.requires.count in (
      asked.0,
      this_one (λ f. is_too_big (test_program (script_of t.script) f)) (tests_of t) c.loop-index.index below
          c.in_ok-is_test_too_big.field-0 asked.1 so_far.1 c.if-branch.true,
    )

pub loop-index-preserved : goal.loop-index-preserved
loop-index-preserved c = λ t h.
    let so_far = c.loop-index.invariant t h in
    let asked = c.in_ok-is_test_too_big.ensures t so_far.0 in
    let below : c.loop-index.index < length (tests_of t) =
    below_of t (script_of c.args.base.now) c.loop-index.index c.args.count h (search rules) c.requires.count in (
      asked.0,
      not_this (λ f. is_too_big (test_program (script_of t.script) f)) (tests_of t) c.loop-index.index below
          c.in_ok-is_test_too_big.field-0 asked.1 so_far.1 c.if-branch.false,
    )

pub returns : goal.returns
returns c = λ t h.
    let so_far = c.loop-index.invariant t h in
    let many = all_of t (script_of c.args.base.now) c.args.count h c.requires.count in (
      so_far.0,
      none_left (λ f. is_too_big (test_program (script_of t.script) f)) (tests_of t) c.loop-index.index
          (omega (arith, many)) so_far.1,
    )
