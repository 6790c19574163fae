use Rattle.std.proofs.Common.{List, ap, ◌∙◌}
use Rattle.std.specs.List.{slice_get}
use Rattle.bds_tree.specs.StmtTree.{FunctionTree}
use Rattle.bds_tree.specs.StmtView.{script_of}
use Rattle.bds_check_tests.proofs.TestPrograms.{tests_same}
use Rattle.bds_app_trials.proofs.TooBig.{if_ok}
use Rattle.bds_app_trials.proofs.turns.try_test.Goals as goal

pub returns-in-Ok : goal.returns-in-Ok
returns-in-Ok g c = λ t h.
    let ran = (rw c.in-Ok.is at c.run_numbered-ran.ensures) t h in
    let run = ran.0 in (
      c.tell_run.ensures c.args.call.now t c.args.index _ run (c.requires.name run.is.function
          (ap (λ (fs : List FunctionTree). slice_get fs c.args.index) (tests_same t (script_of c.args.base.now) h.base)
          ∙ run.is.is)),
      if_ok c.tell_run.result.0 ran.1,
    )

pub returns-in-Err : goal.returns-in-Err
returns-in-Err g c = λ t h. ((rw c.in-Err.is at c.run_numbered-ran.ensures t h).0, tt)
