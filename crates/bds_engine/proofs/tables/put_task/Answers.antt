use Rattle.std.proofs.Common.{◌<◌, length, subst, sym}
use Rattle.bds_state.specs.Parts.{Parts}
use Rattle.bds_engine.proofs.Plans.{keeps_held, keeps_tasks}
use Rattle.bds_engine.proofs.tables.put_task.Goals as goal

pub invariant_of-state : goal.invariant_of-state
invariant_of-state c =
    let s : Parts = record {
      unit = c.state.inside.unit;
      threads = c.state.inside.threads;
      tasks = c.state.inside.tasks;
      rules = c.state.inside.rules;
      path = c.state.inside.path;
    } in (
      keeps_tasks s c.state.invariant.0 c.args.task _ c.add.result c.requires.legal
          (subst (λ (p : Parts). c.args.task.maker < length p.threads) (sym c.state.view_is) c.requires.maker)
          c.add.ensures,
      keeps_held s.threads s.tasks c.state.inside.held c.state.invariant.1 c.args.task _ c.add.result c.add.ensures,
    )
