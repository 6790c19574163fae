use Rattle.std.proofs.lemmas.List.Elements.{recursion_from_All}
use Rattle.std.specs.BTreeMap.Range.{IsLtBy}
use Rattle.std.specs.Ordering.{nat_cmp}
use Rattle.bds_goal.proofs.FreedLaws.{above_all, no_keys, takes_first, takes_next}
use Rattle.bds_goal.proofs.order.take.Goals as goal

pub returns-in-Some : goal.returns-in-Some
returns-in-Some c =
    let n = c.in-Some.n in
    let new = c.pop_first.new.self.keys in
    takes_first c.args.edges.now c.args.left.now c.args.start n c.args.freed.now.keys new c.requires.freed c.in-Some.ensures.removal (above_all n new (recursion_from_All (IsLtBy nat_cmp n) new c.in-Some.ensures.all_above))

pub returns-in-None : goal.returns-in-None
returns-in-None c =
    let old = c.args.freed.now.keys in
    takes_next c.args.edges.now c.args.left.now c.args.start old c.pop_first.new.self.keys c.next.result c.requires.freed (no_keys old c.in-None.ensures.variant.1) c.in-None.ensures.unchanged c.next.ensures
