use Rattle.std.proofs.Common.{◌≡◌, ◌≤◌, ◌<◌, length, ◌+◌, ◌*◌}
use Rattle.bds_tree.specs.Shape.{heights, pair_heights}
use Rattle.bds_tree.specs.View.{tree_of, trees_of, pairs_of}
use Rattle.bds_parse_expr.specs.Reading.{expression, climb, members, pairs, closes}
use Rattle.bds_parse_expr.proofs.Loops.{Climbs, Tails, PairTails}
use Rattle.bds_parse_expr.proofs.parse.+parser.Given as goal

abbrev pub decreases-expression : goal.decreases-expression
decreases-expression l = 4 * l.most

abbrev pub decreases-climb : goal.decreases-climb
decreases-climb l = 4 * l.most + 3

abbrev pub decreases-front : goal.decreases-front
decreases-front l = 4 * l.most + 3

abbrev pub decreases-join : goal.decreases-join
decreases-join l = 4 * l.most + 2

abbrev pub decreases-named : goal.decreases-named
decreases-named l = 4 * l.most + 2

abbrev pub decreases-prefixed : goal.decreases-prefixed
decreases-prefixed l = 4 * l.most + 1

abbrev pub decreases-members : goal.decreases-members
decreases-members l = 4 * l.most + 1

abbrev pub decreases-pair : goal.decreases-pair
decreases-pair l = 4 * l.most + 1

abbrev pub decreases-pairs : goal.decreases-pairs
decreases-pairs l = 4 * l.most + 2

abbrev pub invariant-climb-loop-rest : goal.invariant-climb-loop-rest
invariant-climb-loop-rest l = record {
  low : l.tall.height ≤ l.most;
  shorter : length l.rest ≤ length l.tokens;
  same : Climbs l.most l.least (tree_of l.tall.expr) l.rest (climb l.most (expression l.most) (length l.tokens) l.least (tree_of l.fn.first.expr) l.tokens);
}

abbrev pub decreases-climb-loop-rest : goal.decreases-climb-loop-rest
decreases-climb-loop-rest l = length l.rest

abbrev pub invariant-members-loop-rest : goal.invariant-members-loop-rest
invariant-members-loop-rest l = record {
  low : l.height ≤ l.most;
  is_height : l.height ≡ heights (trees_of l.items);
  shorter : length l.rest < length l.tokens;
  same : Tails l.close l.most l.items l.rest (members (closes l.close) (expression l.most) l.tokens);
}

abbrev pub decreases-members-loop-rest : goal.decreases-members-loop-rest
decreases-members-loop-rest l = length l.rest

abbrev pub invariant-pairs-loop-rest : goal.invariant-pairs-loop-rest
invariant-pairs-loop-rest l = record {
  low : l.height ≤ l.most;
  is_height : l.height ≡ pair_heights (pairs_of l.items);
  shorter : length l.rest < length l.tokens;
  same : PairTails l.most l.items l.rest (pairs (expression l.most) l.tokens);
}

abbrev pub decreases-pairs-loop-rest : goal.decreases-pairs-loop-rest
decreases-pairs-loop-rest l = length l.rest
