use Rattle.std.proofs.Common.{◌≡◌, ◌∙◌, ap, arith, length, subst}
use Rattle.bds_goal.specs.Edges.{AreWanted, edges}
use Rattle.bds_goal.specs.Goals.{IsReach}
use Rattle.bds_goal.specs.Placing.{Orders}
use Rattle.bds_goal.proofs.EdgeLaws.{are_edges}
use Rattle.bds_goal.proofs.ReachLaws.{reaches_fault, reaches_files}
use Rattle.bds_goal.proofs.reach.files.Goals as goal

pub order-requires-clause-same : goal.order-requires-clause-same
order-requires-clause-same c =
    let rules = c.args.rules.now in
    let all : c.as_slice-5.result.now ≡ edges rules = c.as_slice-5.ensures ∙ c.in_ok-edges.ensures.edges in
    omega (arith, c.in_ok-marks.ensures.long, ap length all, (are_edges rules c.in_ok-edges.ensures.own).long)

pub returns-in-Ok : goal.returns-in-Ok
returns-in-Ok c =
    let rules = c.args.rules.now in
    let targets = c.args.targets.now in
    let marks = c.in_ok-marks.marks.items in
    let all : c.as_slice-5.result.now ≡ edges rules = c.as_slice-5.ensures ∙ c.in_ok-edges.ensures.edges in
    let same : c.as_slice-2.result.now ≡ targets = c.as_slice-2.ensures in
    let again : c.as_slice-4.result.now ≡ targets = c.as_slice-4.ensures in
    let wanted = subst (λ ts. AreWanted rules ts marks) same c.in_ok-marks.ensures in
    let reach = subst (λ ts. IsReach rules ts c.in_ok-files.files) again c.in_ok-files.ensures in
    let orders = subst (λ r. Orders (edges rules) marks r) c.in-Ok.is (subst (λ es. Orders es marks c.order.result) all c.order.ensures) in
    reaches_files rules targets marks c.in_ok-files.files c.in-Ok.field-0 c.in_ok-edges.ensures.own wanted reach orders

pub returns : goal.returns
returns c =
    let rules = c.args.rules.now in
    let targets = c.args.targets.now in
    let marks = c.in_ok-marks.marks.items in
    let all : c.as_slice-5.result.now ≡ edges rules = c.as_slice-5.ensures ∙ c.in_ok-edges.ensures.edges in
    let same : c.as_slice-2.result.now ≡ targets = c.as_slice-2.ensures in
    let wanted = subst (λ ts. AreWanted rules ts marks) same c.in_ok-marks.ensures in
    let orders = subst (λ r. Orders (edges rules) marks r) c.in-Err.is (subst (λ es. Orders es marks c.order.result) all c.order.ensures) in
    reaches_fault rules targets marks c.in-Err.fault c.in_ok-edges.ensures.own wanted orders
