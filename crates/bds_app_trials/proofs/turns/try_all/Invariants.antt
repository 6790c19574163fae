use Rattle.std.proofs.Common.{◌≤◌}
use Rattle.bds_tree.specs.StmtView.{script_of}
use Rattle.bds_check.specs.declared.checking.TypedScript.{TypedScript}
use Rattle.bds_app_trials.specs.Testing.{HaveRun}
use Rattle.bds_app_trials.specs.Ways.{IsFitBase}
use Rattle.bds_app_trials.proofs.turns.try_all.Given as goal

abbrev pub invariant-loop-index : goal.invariant-loop-index
invariant-loop-index g l = record {
  few : l.failed ≤ l.index;
  run : (t : TypedScript) → IsFitBase t (script_of l.fn.base) → IsFitBase t (script_of l.base)
      × HaveRun l.call t (g.H.Host.log l.fn.host) l.index l.failed (g.H.Host.log l.host);
}
