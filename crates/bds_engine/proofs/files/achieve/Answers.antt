use Rattle.std.proofs.Common.{List, ℕ, subst, refl}
use Rattle.bds_value.specs.declared.faults.RunFault.TheVariants as run
use Rattle.bds_goal.specs.Goals.{IsCycleOf}
use Rattle.bds_machine.specs.declared.point.Point.TheVariants as point
use Rattle.bds_state.specs.Parts.{Parts}
use Rattle.bds_engine_stages.specs.Held.{FailsSo}
use Rattle.bds_engine.specs.Given.{at_of}
use Rattle.bds_engine.proofs.Contacting.{halts_here}
use Rattle.bds_engine.proofs.GoalsAgree.{cycle_is}
use Rattle.bds_engine.proofs.Making.{cycles}
use Rattle.bds_engine.proofs.files.achieve.Goals as goal

pub returns-in-Err-Cycle : goal.returns-in-Err-Cycle
returns-in-Err-Cycle g c =
    let s = c.args.state.now in
    let chain = c.in-Err-Cycle.field-0-0 in
    let clause = rw c.in-Err-Cycle.field-0-is at c.in-Err-Cycle.ensures in
    let cycle = subst (λ (p : Parts). IsCycleOf p.rules c.args.targets chain) c.state.view_is clause in
    cycles s c.args.k c.args.thread c.args.targets c.requires (cycle_is s.rules c.args.targets chain cycle) s c.breaks.result
    (refl, subst (λ (xs : List ℕ). FailsSo s (at_of s.unit c.args.thread) (run.Cycle xs) c.breaks.result) c.new.ensures c.breaks.ensures) (g.H.Host.log c.args.host.now)

pub returns : goal.returns
returns g c = halts_here c.args.state.now c.args.state.now c.args.k c.args.thread (point.Goal c.args.targets) (g.H.Host.log c.args.host.now)
