-- Operands as lists, and the terms that they are.
use Rattle.std.proofs.Common.{◌≡◌, List, [], ◌∷◌, refl, ap}
use Rattle.bds_tree.specs.declared.expr.Expr.{Expr}
use Rattle.bds_tree.specs.View.{tree_of, trees_of, pairs_of}
use Rattle.bds_check_names.specs.declared.names.Names.{Names}
use Rattle.bds_meaning.specs.OpeningExpressions.{term_of, terms_of, pairs_terms}
use Rattle.bds_meaning.specs.Term.{Term, More, Nothing}
use Rattle.bds_source_exprs.specs.Operands.{terms_in, pairs_in}
use Rattle.bds_source_terms.specs.View.{more_of}
use Rattle.bds_source_terms.proofs.OperandTrees.{type_is}

pub terms_are : (names : Names) (es : List Expr) → more_of (terms_in names es) Nothing ≡ terms_of names (trees_of es)
terms_are names [] = refl
terms_are names (e ∷ es) = ap (More (term_of names (tree_of e))) (terms_are names es)

pub pairs_are : (names : Names) (ps : List (Expr × Expr)) → more_of (pairs_in names ps) Nothing ≡ pairs_terms names (pairs_of ps)
pairs_are names [] = refl
pairs_are names (p ∷ ps) = ap (λ (t : Term). More (term_of names (tree_of p.0)) (More (term_of names (tree_of p.1)) t)) (pairs_are names ps)

pub ruleset operand_rules = (terms_are, pairs_are, type_is)
