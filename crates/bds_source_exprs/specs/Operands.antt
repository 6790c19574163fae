-- For private contracts alone: operands as lists.
use Rattle.std.specs.Prelude.{List, [], ◌∷◌, ◌++◌, map}
use Rattle.bds_tree.specs.declared.expr.Expr.{Expr}
use Rattle.bds_tree.specs.View.{tree_of}
use Rattle.bds_check_names.specs.declared.names.Names.{Names}
use Rattle.bds_meaning.specs.OpeningExpressions.{term_of}
use Rattle.bds_meaning.specs.Term.{Term}

abbrev pub terms_in : Names → List Expr → List Term
terms_in names es = map (λ (e : Expr). term_of names (tree_of e)) es

-- a key and its value
abbrev pub pair_in : Names → Expr → Expr → List Term
pair_in names k v = term_of names (tree_of k) ∷ term_of names (tree_of v) ∷ []

abbrev pub pairs_in : Names → List (Expr × Expr) → List Term
pairs_in names [] = []
pairs_in names (p ∷ ps) = pair_in names p.0 p.1 ++ pairs_in names ps
