-- Expressions as plain trees: what every definition on expressions speaks of.
use Rattle.std.specs.Prelude.{ℕ, ℤ, Bool, List, [], ◌∷◌}
use Rattle.bds_value.specs.declared.value.At.{At}
use Rattle.bds_value.specs.declared.value.Ty.{Ty}
use Rattle.bds_tree.specs.declared.token.Piece.{Piece}
use Rattle.bds_tree.specs.declared.expr.PrefixOp.{PrefixOp}
use Rattle.bds_tree.specs.declared.expr.BinaryOp.{BinaryOp}

mutual
  pub data Tree : Type 0 where
    node : At → Ty → FormTree → Tree

  pub data FormTree : Type 0 where
    number : ℤ → FormTree
    text : List Piece → FormTree
    truth : Bool → FormTree
    name : List ℕ → FormTree
    call : List ℕ → Trees → FormTree
    group : Tree → FormTree
    list : Trees → FormTree
    mapping : TreePairs → FormTree
    item : Tree → Tree → FormTree
    key : Tree → Tree → FormTree
    method : Tree → List ℕ → Trees → FormTree
    prefix : PrefixOp → Tree → FormTree
    binary : Tree → BinaryOp → Tree → FormTree
    choice : Tree → Tree → Tree → FormTree
    dependency : Tree → Tree → FormTree

  pub data Trees : Type 0 where
    none : Trees
    more : Tree → Trees → Trees

  pub data TreePairs : Type 0 where
    no_pairs : TreePairs
    more_pairs : Tree → Tree → TreePairs → TreePairs

abbrev pub to_trees : List Tree → Trees
to_trees [] = none
to_trees (t ∷ ts) = more t (to_trees ts)

abbrev pub to_pairs : List (Tree × Tree) → TreePairs
to_pairs [] = no_pairs
to_pairs (p ∷ ps) = more_pairs p.0 p.1 (to_pairs ps)

abbrev pub at_of : Tree → At
at_of (node at ty f) = at

abbrev pub type_of : Tree → Ty
type_of (node at ty f) = ty

abbrev pub form_of : Tree → FormTree
form_of (node at ty f) = f

abbrev pub line_of : Tree → ℕ
line_of e = (at_of e).line

abbrev pub joined : Trees → Trees → Trees
joined none ts = ts
joined (more e es) ts = more e (joined es ts)

abbrev pub joined_pairs : TreePairs → TreePairs → TreePairs
joined_pairs no_pairs qs = qs
joined_pairs (more_pairs k v ps) qs = more_pairs k v (joined_pairs ps qs)
