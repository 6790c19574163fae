use Rattle.std.proofs.Common.{◌≡◌, ◌∙◌, Bool, Err, List, ℕ, None, Ok, ap, arith, length, refl, subst, sym}
use Rattle.bds_goal.specs.declared.faults.FilesFault.{FilesFault}
use Rattle.bds_goal.specs.declared.faults.FilesFault.TheVariants.{Cycle, NoMemory}
use Rattle.bds_goal.specs.declared.faults.PlanFault.TheVariants.{NoRule}
use Rattle.bds_goal.specs.Due.{first_unmade, old_marks, planned_marks}
use Rattle.bds_goal.specs.Edges.{AreWanted, edges}
use Rattle.bds_goal.specs.Goals.{IsReach, PlansBy, stamp_in}
use Rattle.bds_goal.specs.Marks.{IsCycleIn, IsReversed, IsSpread}
use Rattle.bds_goal.specs.Placing.{Orders}
use Rattle.bds_goal.proofs.DueLaws.{old_marks_long, planned_marks_long}
use Rattle.bds_goal.proofs.EdgeLaws.{are_edges}
use Rattle.bds_goal.proofs.PlanLaws.{plans_never, plans_no_rule, plans_numbers}
use Rattle.bds_goal.proofs.SpreadLaws.{closed_by, users_within}
use Rattle.bds_goal.proofs.planning.plan.Goals as goal

-- where there is no cycle, an order fails for want of memory alone
only_memory : (es : List (List ℕ)) (todo : List Bool) (fault : FilesFault) → Orders es todo (Err fault) → ((chain : List ℕ) → IsCycleIn es todo chain → ⊥) → fault ≡ NoMemory
only_memory es todo (Cycle chain) o none = elim (none chain o) [ ]
only_memory es todo NoMemory o none = refl

pub returns-in-Some : goal.returns-in-Some
returns-in-Some c =
    let rules = c.args.rules.now in
    let targets = c.args.targets.now in
    let stamps = c.as_slice-stamps.result.now in
    let tasks = c.args.tasks.now in
    let files = c.in_ok-indexed.indexed in
    let marks = c.in_ok-marks.marks.items in
    let own = c.in_ok-edges.ensures.own in
    let same : c.as_slice-2.result.now ≡ targets = c.as_slice-2.ensures in
    let again : c.as_slice-4.result.now ≡ targets = c.as_slice-4.ensures in
    let lent : c.in_ok-files.files ≡ files = sym c.as_slice-files.ensures ∙ sym c.in_ok-indexed.ensures in
    let reach = subst (λ fs. IsReach rules targets fs) lent (subst (λ ts. IsReach rules ts c.in_ok-files.files) again c.in_ok-files.ensures) in
    let told : stamps ≡ c.args.stamps.now = c.as_slice-stamps.ensures in
    let file = c.in-Some.file.now in
    let copied : file ≡ c.in_ok-copy_text.field-0 = sym c.in_ok-copy_text.ensures in
    subst (λ f. PlansBy rules targets c.args.stamps.now tasks (Err (NoRule f))) copied (subst (λ s. PlansBy rules targets s tasks (Err (NoRule file))) told (plans_no_rule rules targets files stamps tasks file own reach c.in-Some.ensures))

pub spread-requires : goal.spread-requires
spread-requires c =
    let rules = c.args.rules.now in
    let stamp = stamp_in c.in_ok-indexed.indexed c.as_slice-stamps.result.now in
    let all : c.as_slice.result.now ≡ edges rules = c.as_slice.ensures ∙ c.in_ok-edges.ensures.edges in
    let back = subst (λ us. IsReversed (edges rules) us) (sym c.as_slice-5.ensures) (subst (λ es. IsReversed es c.in_ok-users.users) all c.in_ok-users.ensures) in
    let long : length c.in_ok-due.due.items ≡ length (edges rules) = omega (arith, ap length c.in_ok-due.ensures, old_marks_long stamp c.args.tasks.now c.deref-2.result.now rules, (are_edges rules c.in_ok-edges.ensures.own).long) in
    let few = c.in_ok-edges.ensures.few in
    record {
      few = omega (arith, long, few, ap length c.in_ok-edges.ensures.edges);
      within = λ i j e. let there = users_within (edges rules) c.as_slice-5.result.now back i j e in omega (arith, long, there);
    }

pub order-requires-clause-same : goal.order-requires-clause-same
order-requires-clause-same c =
    let rules = c.args.rules.now in
    let all : c.as_slice-6.result.now ≡ edges rules = c.as_slice-6.ensures ∙ c.in_ok-edges.ensures.edges in
    omega (arith, ap length c.in_ok-planned.ensures, planned_marks_long (stamp_in c.in_ok-indexed.indexed c.as_slice-stamps.result.now) c.args.tasks.now c.deref-3.result.now c.deref-4.result.now rules, ap length all, (are_edges rules c.in_ok-edges.ensures.own).long)

pub returns-in-Ok : goal.returns-in-Ok
returns-in-Ok c =
    let rules = c.args.rules.now in
    let targets = c.args.targets.now in
    let stamps = c.as_slice-stamps.result.now in
    let tasks = c.args.tasks.now in
    let files = c.in_ok-indexed.indexed in
    let marks = c.in_ok-marks.marks.items in
    let own = c.in_ok-edges.ensures.own in
    let same : c.as_slice-2.result.now ≡ targets = c.as_slice-2.ensures in
    let again : c.as_slice-4.result.now ≡ targets = c.as_slice-4.ensures in
    let lent : c.in_ok-files.files ≡ files = sym c.as_slice-files.ensures ∙ sym c.in_ok-indexed.ensures in
    let reach = subst (λ fs. IsReach rules targets fs) lent (subst (λ ts. IsReach rules ts c.in_ok-files.files) again c.in_ok-files.ensures) in
    let told : stamps ≡ c.args.stamps.now = c.as_slice-stamps.ensures in
    let wanted = subst (λ ts. AreWanted rules ts marks) same c.in_ok-marks.ensures in
    let due = c.spread.new.marks.items in
    let all : c.as_slice.result.now ≡ edges rules = c.as_slice.ensures ∙ c.in_ok-edges.ensures.edges in
    let back = subst (λ us. IsReversed (edges rules) us) (sym c.as_slice-5.ensures) (subst (λ es. IsReversed es c.in_ok-users.users) all c.in_ok-users.ensures) in
    let more : c.as_slice-6.result.now ≡ edges rules = c.as_slice-6.ensures ∙ c.in_ok-edges.ensures.edges in
    let old : c.in_ok-due.due.items ≡ old_marks (stamp_in files stamps) tasks marks rules = c.in_ok-due.ensures ∙ ap (λ (ms : List Bool). old_marks (stamp_in files stamps) tasks ms rules) c.deref-2.ensures.value in
    let long : length (old_marks (stamp_in files stamps) tasks marks rules) ≡ length (edges rules) = omega (arith, old_marks_long (stamp_in files stamps) tasks marks rules, (are_edges rules own).long) in
    let closed = closed_by (edges rules) c.as_slice-5.result.now (old_marks (stamp_in files stamps) tasks marks rules) due back long (subst (λ ms. IsSpread c.as_slice-5.result.now ms due) old c.in_ok-spread.ensures.spread) in
    let planned : c.in_ok-planned.planned.items ≡ planned_marks tasks marks due rules =
    c.in_ok-planned.ensures ∙ ap (λ (ms : List Bool). planned_marks tasks ms c.deref-4.result.now rules) c.deref-3.ensures.value ∙ ap (λ (ds : List Bool). planned_marks tasks marks ds rules) c.deref-4.ensures.value in
    let orders = subst (λ ms. Orders (edges rules) ms c.order.result) planned (subst (λ es. Orders es c.in_ok-planned.planned.items c.order.result) more c.order.ensures) in
    let placed = subst (λ r. Orders (edges rules) (planned_marks tasks marks due rules) r) c.in-Ok.is orders in
    let none : first_unmade (stamp_in files stamps) tasks rules files ≡ None = c.in_default.ensures in
    subst (λ s. PlansBy rules targets s tasks (Ok c.in-Ok.numbers)) told (plans_numbers rules targets files stamps tasks marks due own wanted reach closed c.in-Ok.numbers none placed)

pub no_memory-requires : goal.no_memory-requires
no_memory-requires c =
    let rules = c.args.rules.now in
    let targets = c.args.targets.now in
    let stamps = c.as_slice-stamps.result.now in
    let tasks = c.args.tasks.now in
    let files = c.in_ok-indexed.indexed in
    let marks = c.in_ok-marks.marks.items in
    let own = c.in_ok-edges.ensures.own in
    let same : c.as_slice-2.result.now ≡ targets = c.as_slice-2.ensures in
    let again : c.as_slice-4.result.now ≡ targets = c.as_slice-4.ensures in
    let lent : c.in_ok-files.files ≡ files = sym c.as_slice-files.ensures ∙ sym c.in_ok-indexed.ensures in
    let reach = subst (λ fs. IsReach rules targets fs) lent (subst (λ ts. IsReach rules ts c.in_ok-files.files) again c.in_ok-files.ensures) in
    let told : stamps ≡ c.args.stamps.now = c.as_slice-stamps.ensures in
    let wanted = subst (λ ts. AreWanted rules ts marks) same c.in_ok-marks.ensures in
    let due = c.spread.new.marks.items in
    let all : c.as_slice.result.now ≡ edges rules = c.as_slice.ensures ∙ c.in_ok-edges.ensures.edges in
    let back = subst (λ us. IsReversed (edges rules) us) (sym c.as_slice-5.ensures) (subst (λ es. IsReversed es c.in_ok-users.users) all c.in_ok-users.ensures) in
    let more : c.as_slice-6.result.now ≡ edges rules = c.as_slice-6.ensures ∙ c.in_ok-edges.ensures.edges in
    let old : c.in_ok-due.due.items ≡ old_marks (stamp_in files stamps) tasks marks rules = c.in_ok-due.ensures ∙ ap (λ (ms : List Bool). old_marks (stamp_in files stamps) tasks ms rules) c.deref-2.ensures.value in
    let long : length (old_marks (stamp_in files stamps) tasks marks rules) ≡ length (edges rules) = omega (arith, old_marks_long (stamp_in files stamps) tasks marks rules, (are_edges rules own).long) in
    let closed = closed_by (edges rules) c.as_slice-5.result.now (old_marks (stamp_in files stamps) tasks marks rules) due back long (subst (λ ms. IsSpread c.as_slice-5.result.now ms due) old c.in_ok-spread.ensures.spread) in
    let planned : c.in_ok-planned.planned.items ≡ planned_marks tasks marks due rules =
    c.in_ok-planned.ensures ∙ ap (λ (ms : List Bool). planned_marks tasks ms c.deref-4.result.now rules) c.deref-3.ensures.value ∙ ap (λ (ds : List Bool). planned_marks tasks marks ds rules) c.deref-4.ensures.value in
    let orders = subst (λ ms. Orders (edges rules) ms c.order.result) planned (subst (λ es. Orders es c.in_ok-planned.planned.items c.order.result) more c.order.ensures) in
    let failed = subst (λ r. Orders (edges rules) (planned_marks tasks marks due rules) r) c.in-Err.is orders in
    only_memory (edges rules) (planned_marks tasks marks due rules) c.in-Err.fault failed (λ chain cycle. plans_never rules targets files stamps tasks marks due own wanted reach closed chain c.requires cycle)

pub returns : goal.returns
returns c = subst (λ f. PlansBy c.args.rules.now c.args.targets.now c.args.stamps.now c.args.tasks.now (Err f)) (sym c.no_memory.ensures) (λ files reach. tt)
