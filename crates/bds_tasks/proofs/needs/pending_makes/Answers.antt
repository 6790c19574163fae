use Rattle.std.proofs.Common.{List, ℕ, ◌∙◌, ap}
use Rattle.std.specs.List.{list_any}
use Rattle.bds_tasks.specs.Tasks.{is_pending, passes}
use Rattle.bds_tasks.proofs.MakerLaws.{pending_found}
use Rattle.bds_tasks.proofs.needs.pending_makes.Goals as goal

pub returns-in-Some : goal.returns-in-Some
returns-in-Some c =
    let tasks = c.args.tasks.now in
    c.any_pending.ensures
    ∙ ap (λ (ns : List ℕ). list_any (passes is_pending tasks) ns) c.tasks_of.ensures
    ∙ pending_found tasks c.in-Some.makers.entries c.args.file.now (rw c.in-Some.is at c.requires)
