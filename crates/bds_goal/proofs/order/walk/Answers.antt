use Rattle.std.proofs.Common.{◌≡◌, ◌++◌, ◌∷◌, [], true, rules, subst, sym}
use Rattle.std.specs.List.{slice_set}
use Rattle.bds_goal.specs.Marks.{edges_of, first_marked}
use Rattle.bds_goal.specs.Placing.{Walking}
use Rattle.bds_goal.proofs.CycleLaws.{walk_ends, walk_more, fewer_unseen}
use Rattle.bds_goal.proofs.order.walk.Goals as goal

pub loop-seen-preserved : goal.loop-seen-preserved
loop-seen-preserved c =
    let edges = c.args.edges.now in
    let left = c.args.left.now in
    let seen = c.loop-seen.seen.items in
    let here = c.loop-seen.here in
    let put : c.push.new.self ≡ c.loop-seen.path ++ here ∷ [] = search rules in
    let on : c.first_marked-here.result ≡ first_marked left (edges_of edges here) = cc in
    let more = walk_more edges left seen c.loop-seen.path here c.loop-seen.invariant c.requires.stuck in
    subst (λ h. Walking edges left (slice_set seen here true) c.push.new.self h) (sym on) (subst (λ p. Walking edges left (slice_set seen here true) p (first_marked left (edges_of edges here))) (sym put) more)

pub loop-seen-smaller : goal.loop-seen-smaller
loop-seen-smaller c =
    fewer_unseen c.args.edges.now c.args.left.now c.loop-seen.seen.items c.loop-seen.path c.loop-seen.here c.loop-seen.invariant (search rules)

pub returns : goal.returns
returns c =
    let ends = walk_ends c.args.edges.now c.args.left.now c.loop-seen.seen.items c.loop-seen.path c.loop-seen.here c.loop-seen.invariant (search rules) in
    search (rules, ends)
