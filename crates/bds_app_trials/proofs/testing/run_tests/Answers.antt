use Rattle.std.proofs.Common.{arith}
use Rattle.bds_tree.specs.StmtView.{script_of}
use Rattle.bds_app_trials.specs.Testing.{tests_of}
use Rattle.bds_app_trials.proofs.EachTest.{named_of}
use Rattle.bds_app_trials.proofs.Tried.{as_many, counted, stopped}
use Rattle.bds_app_trials.proofs.testing.run_tests.Goals as goal

pub returns-in-Ok : goal.returns-in-Ok
returns-in-Ok g c = λ t h.
    counted c.args.call.now t _ _ _ c.in-Ok.failed c.args.count _ h.fits
    (named_of t (script_of c.args.base.now) c.args.names.now h.base c.requires.names) c.requires.count
    ((rw c.in-Ok.is at c.try_all-tried.ensures) t h) c.tell_counts.ensures

pub returns-in-Err : goal.returns-in-Err
returns-in-Err g c = λ t h.
    stopped c.args.call.now t _ _ c.in-Err.answer h.fits ((rw c.in-Err.is at c.try_all-tried.ensures) t h)

pub overflow_sub-count : goal.overflow_sub-count
overflow_sub-count g c =
    let t = c.requires.base.0 in
    let tried = (rw c.in-Ok.is at c.try_all-tried.ensures) t c.requires.base.1 in
    let many = as_many (tests_of t) c.args.names.now c.args.count
    (named_of t (script_of c.args.base.now) c.args.names.now c.requires.base.1.base c.requires.names) c.requires.count
    in
    omega (arith, tried.0, many)
