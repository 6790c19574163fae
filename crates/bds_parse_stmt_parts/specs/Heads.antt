-- For contracts within the parser alone: how lines begin, and parts of the head of a `for`: up to the sign that a value stands behind.
use Rattle.std.specs.Prelude.{ℕ, List}
use Rattle.bds_value.specs.declared.value.Ty.{Ty}
use Rattle.bds_tree.specs.declared.stmt.UpdateOp.{UpdateOp}
use Rattle.bds_tree.specs.Tree.{Tree}
use Rattle.bds_tree.specs.View.{tree_of}
use Rattle.bds_tree.specs.StmtTree.{PlaceTree, StepTree}
use Rattle.bds_tree.specs.StmtView.{place_of, step_of}
use Rattle.bds_parse_stmt_parts.specs.declared.heads.Head.{Head}
use Rattle.bds_parse_stmt_parts.specs.declared.heads.Head.TheVariants as head

pub data HeadTree : Type 0 where
  declares : Ty → List ℕ → HeadTree
  infers : List ℕ → HeadTree
  assigns : PlaceTree → HeadTree
  updates : PlaceTree → UpdateOp → HeadTree
  steps : StepTree → HeadTree
  calls : Tree → HeadTree

abbrev pub head_of : Head → HeadTree
head_of (head.Declare t n) = declares t n
head_of (head.Infer n) = infers n
head_of (head.Assign p) = assigns (place_of p)
head_of (head.Update p o) = updates (place_of p) o
head_of (head.Step s) = steps (step_of s)
head_of (head.Call e) = calls (tree_of e)
