use Rattle.std.proofs.Common.{◌≤◌, List, ℕ, length, subst, sym}
use Rattle.std.specs.List.{All}
use Rattle.bds_state.specs.Parts.{Parts}
use Rattle.bds_state.specs.Waited.{tasks_in}
use Rattle.bds_engine_parts.proofs.Finding.{tasks_there}
use Rattle.bds_engine_parts.proofs.states.waited.Goals as goal

pub wait_state-requires : goal.wait_state-requires
wait_state-requires c =
    subst (λ (ts : List ℕ). All (λ n. (1 ≤ n) × (n ≤ length c.state.inside.tasks)) ts) (sym c.in_ok-tasks.ensures)
    (subst (λ (p : Parts). All (λ n. (1 ≤ n) × (n ≤ length p.tasks)) (tasks_in c.args.ids.now)) (sym c.state.view_is)
    (tasks_there (length c.args.state.now.tasks) (length c.args.state.now.threads) c.args.ids.now c.requires))
