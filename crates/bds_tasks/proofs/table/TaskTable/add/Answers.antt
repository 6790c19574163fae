use Rattle.std.proofs.Common.{◌<◌, length, subst, sym, rules}
use Rattle.bds_tasks.proofs.SoundLaws.{adds_sound}
use Rattle.bds_value.specs.declared.TheConstants.{MAX_TASKS}
use Rattle.bds_tasks.specs.Sound.{AreTasks}
use Rattle.bds_tasks.proofs.table.TaskTable.add.Goals as goal
use Rattle.bds_tasks.proofs.table.TaskTable.add.Goals.{in-Ok, in-Err}

pub invariant_of-self : goal.invariant_of-self
invariant_of-self c =
    let room : length c.self.inside.tasks.items < MAX_TASKS = search rules in
    let are : AreTasks c.add.new.tasks.items = elim c.match-add.branch [
      | in-Ok w ↦ subst AreTasks (sym w.in-Ok.ensures.ok) (adds_sound c.args.task c.self.inside.tasks.items
          c.self.invariant.0 room c.requires)
      | in-Err w ↦ subst AreTasks (sym w.in-Err.ensures.err) c.self.invariant.0
    ] in
    (are, c.add.ensures.known, c.add.ensures.kept)
