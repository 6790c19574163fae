use Rattle.std.proofs.Common.{◌+◌, ◌*◌, max, take, drop}
use Rattle.bds_tree.proofs.expr.Expr.TheLaws.{the_size as expr_size}
use Rattle.bds_tree.proofs.expr.Form.TheLaws.{the_size as form_size}
use Rattle.bds_check_walk.specs.Lone.{between}
use Rattle.bds_check_walk.proofs.Depths.{items_size, pair_size, pairs_size, behind_size}
use Rattle.bds_check_walk.proofs.Walked.{ItemsWalking, ArgumentsWalking, PairsWalking}
use Rattle.bds_check_walk.proofs.+walk.Given as goal

abbrev pub decreases-walking::walk : goal.decreases-walking::walk
decreases-walking::walk l = 8 * expr_size l.expr.now + 0

abbrev pub decreases-walking::walk_form : goal.decreases-walking::walk_form
decreases-walking::walk_form l = 8 * form_size l.form.now + 0

abbrev pub decreases-walking::walk_group : goal.decreases-walking::walk_group
decreases-walking::walk_group l = 8 * expr_size l.inner.now + 1

abbrev pub decreases-walking::walk_value : goal.decreases-walking::walk_value
decreases-walking::walk_value l = 8 * expr_size l.expr.now + 1

abbrev pub decreases-walking::walk_two : goal.decreases-walking::walk_two
decreases-walking::walk_two l = 8 * max (expr_size l.a.now) (expr_size l.b.now) + 2

abbrev pub decreases-walking::walk_three : goal.decreases-walking::walk_three
decreases-walking::walk_three l = 8 * max (expr_size l.condition.now) (max (expr_size l.a.now) (expr_size l.b.now)) + 3

abbrev pub decreases-arguments::walk_call : goal.decreases-arguments::walk_call
decreases-arguments::walk_call l = 8 * items_size l.arguments.now + 3

abbrev pub decreases-arguments::walk_method : goal.decreases-arguments::walk_method
decreases-arguments::walk_method l = 8 * max (expr_size l.receiver.now) (items_size l.arguments.now) + 5

abbrev pub decreases-arguments::walk_behind : goal.decreases-arguments::walk_behind
decreases-arguments::walk_behind l = 8 * items_size l.arguments.now + 4

abbrev pub decreases-arguments::walk_arguments : goal.decreases-arguments::walk_arguments
decreases-arguments::walk_arguments l = 8 * items_size l.arguments.now + 2

abbrev pub decreases-arguments::walk_argument : goal.decreases-arguments::walk_argument
decreases-arguments::walk_argument l = 8 * expr_size l.argument.now + 1

abbrev pub decreases-list_literals::walk_list : goal.decreases-list_literals::walk_list
decreases-list_literals::walk_list l = 8 * items_size l.items.now + 7

abbrev pub decreases-list_literals::walk_unasked : goal.decreases-list_literals::walk_unasked
decreases-list_literals::walk_unasked l = 8 * items_size l.items.now + 6

abbrev pub decreases-list_literals::walk_around : goal.decreases-list_literals::walk_around
decreases-list_literals::walk_around l =
    8 * max (items_size (take l.place l.items.now)) (items_size (drop (l.place + 1) l.items.now)) + 5

abbrev pub decreases-list_literals::walk_others : goal.decreases-list_literals::walk_others
decreases-list_literals::walk_others l =
    8 * max (items_size (take l.place l.items.now)) (items_size (drop (l.place + 1) l.items.now)) + 4

abbrev pub decreases-list_literals::walk_before : goal.decreases-list_literals::walk_before
decreases-list_literals::walk_before l = 8 * items_size (take l.place l.items.now) + 3

abbrev pub decreases-list_literals::walk_all : goal.decreases-list_literals::walk_all
decreases-list_literals::walk_all l = 8 * items_size l.items.now + 3

abbrev pub decreases-list_literals::walk_items : goal.decreases-list_literals::walk_items
decreases-list_literals::walk_items l = 8 * items_size (between l.from l.to l.items.now) + 2

abbrev pub decreases-map_literals::walk_map : goal.decreases-map_literals::walk_map
decreases-map_literals::walk_map l = 8 * pairs_size l.pairs.now + 7

abbrev pub decreases-map_literals::walk_unasked_pairs : goal.decreases-map_literals::walk_unasked_pairs
decreases-map_literals::walk_unasked_pairs l = 8 * pairs_size l.pairs.now + 6

abbrev pub decreases-map_literals::walk_pairs_around : goal.decreases-map_literals::walk_pairs_around
decreases-map_literals::walk_pairs_around l =
    8 * max (pairs_size (take l.place l.pairs.now)) (behind_size (drop l.place l.pairs.now)) + 5

abbrev pub decreases-map_literals::walk_other_pairs : goal.decreases-map_literals::walk_other_pairs
decreases-map_literals::walk_other_pairs l =
    8 * max (pairs_size (take l.place l.pairs.now)) (behind_size (drop l.place l.pairs.now)) + 4

abbrev pub decreases-map_literals::walk_pairs_before : goal.decreases-map_literals::walk_pairs_before
decreases-map_literals::walk_pairs_before l =
    8 * max (pairs_size (take l.place l.pairs.now)) (behind_size (drop l.place l.pairs.now)) + 4

abbrev pub decreases-map_literals::walk_all_pairs : goal.decreases-map_literals::walk_all_pairs
decreases-map_literals::walk_all_pairs l = 8 * pairs_size l.pairs.now + 4

abbrev pub decreases-map_literals::walk_pairs : goal.decreases-map_literals::walk_pairs
decreases-map_literals::walk_pairs l = 8 * pairs_size (between l.from l.to l.pairs.now) + 3

abbrev pub decreases-map_literals::walk_pair : goal.decreases-map_literals::walk_pair
decreases-map_literals::walk_pair l = 8 * pair_size l.pair.now + 2

abbrev pub decreases-map_literals::walk_first : goal.decreases-map_literals::walk_first
decreases-map_literals::walk_first l = 8 * expr_size l.pair.now.0 + 1

abbrev pub decreases-map_literals::walk_second : goal.decreases-map_literals::walk_second
decreases-map_literals::walk_second l = 8 * expr_size l.pair.now.1 + 1

abbrev pub invariant-arguments::walk_arguments-loop-i : goal.invariant-arguments::walk_arguments-loop-i
invariant-arguments::walk_arguments-loop-i l = ArgumentsWalking l.names l.types l.fn.arguments l.i l.arguments

abbrev pub invariant-list_literals::walk_items-loop-i : goal.invariant-list_literals::walk_items-loop-i
invariant-list_literals::walk_items-loop-i l = ItemsWalking l.names l.fn.items l.from l.to l.asked l.i l.items

abbrev pub invariant-map_literals::walk_pairs-loop-i : goal.invariant-map_literals::walk_pairs-loop-i
invariant-map_literals::walk_pairs-loop-i l = PairsWalking l.names l.fn.pairs l.from l.to l.asked l.i l.pairs
