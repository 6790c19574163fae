use Rattle.std.proofs.Common.{◌≡◌, rules, subst, sym, ap, ◌<◌, ◌+◌, length, ◌∙◌, arith, refl, [], List, ℕ, get_or, Option}
use Rattle.std.specs.Option.{unwrap_or}
use Rattle.std.proofs.lemmas.Option.{slice_get_read}
use Rattle.bds_goal.specs.Marks.{Reversing, edges_of, with_users}
use Rattle.bds_goal.proofs.WantedLaws.{reversing_starts, reversing_more, reversing_ends}
use Rattle.bds_goal.proofs.needed.reversed.Goals as goal

pub loop-i-init : goal.loop-i-init
loop-i-init c = reversing_starts c.args.edges.now c.in_ok-users.users (search rules)

-- the list at a place that is there
edges_at : (edges : List (List ℕ)) (i : ℕ) (x : List ℕ) → i < length edges → x ≡ get_or edges i x → edges_of edges i ≡ x
edges_at edges i x l e = ap (λ (o : Option (List ℕ)). unwrap_or o []) (slice_get_read edges (length edges) i x refl l e)

pub loop-i-preserved : goal.loop-i-preserved
loop-i-preserved c =
    let edges = c.args.edges.now in
    let here = edges_at edges c.loop-i.i c.index-edges-i.result (omega arith) c.index-edges-i.is in
    let numbers : c.as_slice.result.now ≡ edges_of edges c.loop-i.i = cc in
    let put = c.in_ok-put_users.ensures in
    let more = reversing_more edges c.loop-i.users c.loop-i.i c.loop-i.invariant in
    subst (λ us. Reversing edges us (c.loop-i.i + 1)) (sym (put ∙ ap (λ (ns : List ℕ). with_users c.loop-i.i ns c.loop-i.users) numbers)) more

pub returns : goal.returns
returns c = reversing_ends c.args.edges.now c.loop-i.users (search rules)
