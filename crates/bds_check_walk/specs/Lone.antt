-- Items around one that was walked already, and that tells the type of the others.
use Rattle.std.specs.Prelude.{ℕ, List, [], ◌∷◌, None, false, take, drop}
use Rattle.bds_tree.specs.declared.expr.Expr.{Expr}
use Rattle.bds_tree.specs.Tree.{Tree, type_of}
use Rattle.bds_tree.specs.View.{tree_of, trees_of, pairs_of}
use Rattle.bds_check_names.specs.declared.names.Asked.{Asked}
use Rattle.bds_check_names.specs.declared.names.Asked.TheVariants.{Value, This}
use Rattle.bds_check_names.specs.declared.names.Names.{Names}
use Rattle.bds_check_typing.specs.Walk.{Judged, JudgedTrees, JudgedPairs, also, also_pair, both, both_pairs, judge}
use Rattle.bds_check_typing.specs.Walk.{judge_items, judge_values, no_trees, no_tree_pairs}

abbrev pub walked : Tree → Judged
walked e = record { tree = e; broken = None }

-- those from a place up to another
abbrev pub between : {X : Type 0} → ℕ → ℕ → List X → List X
between from to xs = drop from (take to xs)

-- what is asked of items beside one of this type; of none of them where there is none
abbrev pub asked_of_lone : List Expr → Asked
asked_of_lone [] = Value
asked_of_lone (e ∷ es) = This (type_of (tree_of e))

-- the first of those behind was walked, and stays as it is
abbrev pub around_lone : List Expr → List Expr → Names → Asked → JudgedTrees
around_lone before [] names asked = no_trees
around_lone before (e ∷ behind) names asked =
    both (judge_items (trees_of before) names false asked) (also (walked (tree_of e))
    (judge_items (trees_of behind) names false asked))

-- the same of pairs, of which the value of the first one behind was walked
abbrev pub asked_of_lone_pair : List (Expr × Expr) → Asked
asked_of_lone_pair [] = Value
asked_of_lone_pair (p ∷ ps) = This (type_of (tree_of p.1))

abbrev pub around_lone_pair : List (Expr × Expr) → List (Expr × Expr) → Names → Asked → JudgedPairs
around_lone_pair before [] names asked = no_tree_pairs
around_lone_pair before (p ∷ behind) names asked =
    both_pairs (judge_values (pairs_of before) names false asked)
    (also_pair (judge (tree_of p.0) names Value) (walked (tree_of p.1))
    (judge_values (pairs_of behind) names false asked))
