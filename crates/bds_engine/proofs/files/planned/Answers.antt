use Rattle.std.proofs.Common.{◌≤◌, ◌+◌, ℕ, List, Ok, Err, length, refl, sym, subst, arith}
use Rattle.std.specs.Prelude.{nat_le}
use Rattle.std.specs.List.{All}
use Rattle.std.proofs.lemmas.Option.{slice_get_past}
use Rattle.bds_value.specs.declared.TheConstants.{MAX_TASKS}
use Rattle.bds_machine.specs.declared.point.Point.TheVariants as point
use Rattle.bds_goal.specs.Goals.{HasNoCycle, PlansBy}
use Rattle.bds_goal.specs.Reach.{reach}
use Rattle.bds_goal.specs.declared.faults.PlanFault.TheVariants.{NoRule}
use Rattle.bds_state.specs.Parts.{Parts}
use Rattle.bds_engine.specs.Given.{MakesPlan}
use Rattle.bds_engine.proofs.Comparing.{plan_there}
use Rattle.bds_engine.proofs.Contacting.{halts_stamps}
use Rattle.bds_engine.proofs.GoalsAgree.{all_made, none_leads, plan_is, unmade_is}
use Rattle.bds_engine.proofs.Making.{plans, unmakes}
use Rattle.bds_engine.proofs.files.planned.Goals as goal

pub plan-requires : goal.plan-requires
plan-requires c = subst (λ (p : Parts). HasNoCycle p.rules c.args.targets.now) (sym c.state.view_is) (none_leads c.args.state.now.rules c.args.targets.now c.requires.none)

pub make_plan-requires-clause-rules : goal.make_plan-requires-clause-rules
make_plan-requires-clause-rules c =
    let s = c.args.state.now in
    let by = subst (λ (p : Parts). PlansBy p.rules c.args.targets.now c.args.stamps.now p.tasks (Ok c.in-Ok.rules)) c.state.view_is c.in-Ok.ensures in
    subst (λ (ns : List ℕ). All (λ n. (1 ≤ n) × (n ≤ length s.rules)) ns) (sym c.as_slice.ensures) (plan_there s.rules c.args.targets.now c.args.stamps.now s.tasks c.in-Ok.rules c.requires.none by)

pub returns-in-Ok : goal.returns-in-Ok
returns-in-Ok c =
    let s = c.args.state.now in
    let by = subst (λ (p : Parts). PlansBy p.rules c.args.targets.now c.args.stamps.now p.tasks (Ok c.in-Ok.rules)) c.state.view_is c.in-Ok.ensures in
    let past = slice_get_past (reach s.rules c.args.targets.now) (length c.args.stamps.now) (omega (arith, c.requires.all)) in
    plans s c.args.k c.args.thread c.args.targets.now c.requires.out c.requires.none c.args.stamps.now past c.in-Ok.rules
    (all_made s.rules c.args.targets.now c.args.stamps.now s.tasks c.requires.none c.in-Ok.rules by) (plan_is s.rules c.args.targets.now c.args.stamps.now s.tasks c.requires.none c.in-Ok.rules by) c.make_plan.new.state c.make_plan.result
    (subst (λ (ns : List ℕ). MakesPlan s c.args.k c.args.thread ns c.make_plan.new.state c.make_plan.result (nat_le (length s.tasks + length ns) MAX_TASKS)) c.as_slice.ensures c.make_plan.ensures)

pub returns-in-Err-NoRule : goal.returns-in-Err-NoRule
returns-in-Err-NoRule c =
    let s = c.args.state.now in
    let clause = rw c.in-Err-NoRule.field-0-is at c.in-Err-NoRule.ensures in
    let by = subst (λ (p : Parts). PlansBy p.rules c.args.targets.now c.args.stamps.now p.tasks (Err (NoRule c.in-Err-NoRule.file))) c.state.view_is clause in
    let past = slice_get_past (reach s.rules c.args.targets.now) (length c.args.stamps.now) (omega (arith, c.requires.all)) in
    unmakes s c.args.k c.args.thread c.args.targets.now c.requires.out c.requires.none c.args.stamps.now past c.in-Err-NoRule.file
    (unmade_is s.rules c.args.targets.now c.args.stamps.now s.tasks c.requires.none c.in-Err-NoRule.file by) s c.breaks.result (refl, c.breaks.ensures)

pub returns : goal.returns
returns c = halts_stamps c.args.state.now c.args.state.now c.args.k c.args.thread (point.Goal c.args.targets.now) c.args.stamps.now
