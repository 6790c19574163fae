use Rattle.std.proofs.Common.{◌≡◌, ◌++◌, ◌∷◌, [], ◌+◌, ◌<◌, ap, arith, length, rules, subst}
use Rattle.std.proofs.lemmas.List.{length_push}
use Rattle.bds_goal.specs.Marks.{edges_of}
use Rattle.bds_goal.specs.Spreading.{Spreading, all_ahead, all_marked, unmarked}
use Rattle.bds_goal.proofs.SpreadLaws.{following_all, following_ends, following_starts, no_more, spreading_ends, spreading_starts}
use Rattle.bds_goal.proofs.spreading.spread.Goals as goal

pub loop-i-init : goal.loop-i-init
loop-i-init c =
    let edges = c.args.edges.now in
    let start = c.args.marks.now.items in
    rw (c.in_ok-ahead.ensures, c.deref.ensures.value) (spreading_starts edges start)

pub loop-i-preserved : goal.loop-i-preserved
loop-i-preserved c =
    let edges = c.args.edges.now in
    let start = c.args.marks.now.items in
    let marks = c.loop-i.marks.items in
    let ahead = c.pop.new.self.items in
    let i = c.in-Some.i in
    let popped : c.loop-i.ahead.items ≡ ahead ++ i ∷ [] = search rules in
    let first = following_starts edges start marks ahead i (subst (Spreading edges start marks) popped c.loop-i.invariant) in
    let last = following_all edges start marks ahead i (edges_of edges i) c.requires.within first in
    rw (c.in_ok-visit_all.ensures.marks, c.in_ok-visit_all.ensures.ahead, c.edges_of.ensures)
    (following_ends edges start (all_marked (edges_of edges i) marks) (all_ahead (edges_of edges i) marks ahead) i last)

pub loop-i-smaller : goal.loop-i-smaller
loop-i-smaller c =
    let marks = c.loop-i.marks.items in
    let ahead = c.pop.new.self.items in
    let js = c.edges_of.result.now in
    let popped : c.loop-i.ahead.items ≡ ahead ++ c.in-Some.i ∷ [] = search rules in
    let less : unmarked c.visit_all.new.marks.items + length c.visit_all.new.ahead.items < unmarked marks + length c.loop-i.ahead.items =
    omega (arith, no_more marks ahead js, ap unmarked c.in_ok-visit_all.ensures.marks, ap length c.in_ok-visit_all.ensures.ahead, ap length popped, length_push ahead c.in-Some.i) in
    less

pub returns-clause-spread : goal.returns-clause-spread
returns-clause-spread c =
    let none : c.loop-i.ahead.items ≡ [] = search rules in
    spreading_ends c.args.edges.now c.args.marks.now.items c.loop-i.marks.items (subst (Spreading c.args.edges.now c.args.marks.now.items c.loop-i.marks.items) none c.loop-i.invariant)
