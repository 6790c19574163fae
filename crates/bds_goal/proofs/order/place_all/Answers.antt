use Rattle.std.proofs.Common.{◌≡◌, ◌+◌, ◌<◌, Some, rules, subst, sym}
use Rattle.std.specs.Prelude.{max}
use Rattle.bds_goal.specs.Placing.{Takes, marked}
use Rattle.bds_goal.proofs.CountLaws.{placing_by_counts}
use Rattle.bds_goal.proofs.OrderLaws.{and_left, fewer_left}
use Rattle.bds_goal.proofs.order.place_all.Goals as goal

pub loop-n-preserved : goal.loop-n-preserved
loop-n-preserved c =
    let edges = c.args.edges.now in
    let left = c.loop-n.left.items in
    let old = c.loop-n.freed.keys in
    let new = c.take.new.freed.keys in
    let n = c.in-Some.n in
    let taken : Takes edges left old new (Some n) =
    subst (λ l. Takes edges l old new (Some n)) c.deref-in-loop-n.ensures.value c.in-Some.ensures in
    let start : c.max-start.result ≡ max c.loop-n.start (n + 1) = search rules in
    let step = placing_by_counts edges c.args.users.now c.args.left.now.items left c.loop-n.counts.items c.loop-n.placed
    c.loop-n.start n old new c.requires.same c.requires.back c.loop-n.invariant taken c.place.new.left.items
    c.place.new.counts.items c.in_ok-place.ensures.left (search rules) in
    rw (c.in_ok-push.ensures.ok, c.in_ok-place.ensures.freed, start, c.edges_of-users.ensures) step

pub loop-n-smaller : goal.loop-n-smaller
loop-n-smaller c =
    let edges = c.args.edges.now in
    let left = c.loop-n.left.items in
    let n = c.in-Some.n in
    let taken : Takes edges left c.loop-n.freed.keys c.take.new.freed.keys (Some n) = subst
    (λ l. Takes edges l c.loop-n.freed.keys c.take.new.freed.keys (Some n)) c.deref-in-loop-n.ensures.value
    c.in-Some.ensures in
    subst (λ l. marked l < marked left) (sym c.in_ok-place.ensures.left) (fewer_left left n (and_left _ _ taken.0))
