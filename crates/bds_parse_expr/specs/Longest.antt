-- The longest expression that the tokens begin with.
use Rattle.std.specs.Prelude.{◌≡◌, ℕ, List, [], ◌∷◌, drop, ⊤, Result, Ok, Err, Bool, true, false}
use Rattle.bds_tree.specs.declared.token.Word.{Word}
use Rattle.bds_tree.specs.declared.token.Word.TheVariants as w
use Rattle.bds_tree.specs.declared.token.Token.{Token}
use Rattle.bds_tree.specs.declared.expr.Expr.{Expr}
use Rattle.bds_tree.specs.Tree.{Tree}
use Rattle.bds_tree.specs.View.{tree_of}
use Rattle.bds_tree.specs.Shape.{Legal}
use Rattle.bds_tree.specs.Spelling.{spell, Fronts}
use Rattle.bds_tree.specs.ScriptTexts.{IsLineOf}
use Rattle.bds_parse_expr.specs.declared.fault.ParseFault.{ParseFault}
use Rattle.bds_parse_expr.specs.declared.fault.ParseFault.TheVariants as fault

-- the signs that continue an expression
abbrev pub continues : Word → Bool
continues w.From = true
continues w.Question = true
continues w.Or = true
continues w.And = true
continues w.Equal = true
continues w.NotEqual = true
continues w.Less = true
continues w.AtMost = true
continues w.Greater = true
continues w.AtLeast = true
continues w.Plus = true
continues w.Minus = true
continues w.Star = true
continues w.Slash = true
continues w.Percent = true
continues w.Dot = true
continues w.OpenRound = true
continues w.OpenSquare = true
continues w.OpenValue = true
continues _ = false

-- no token that continues an expression stands in front
abbrev pub Ends : List Token → Type 0
Ends [] = ⊤
Ends (t ∷ ts) = continues t.word ≡ false

-- the tree is legal, is spelled at the front of the tokens, and nothing behind it continues it
pub record Longest (t : Tree) (ts rest : List Token) : Type 0 where
  pub legal : Legal t
  pub spelled : Fronts (spell t) ts rest
  pub ends : Ends rest

-- this tree and the place where the rest begins are returned, unless memory runs out
abbrev pub Returns : Tree → List Token → List Token → Result (Expr × ℕ) ParseFault → Type 0
Returns t rest ts (Ok x) = (tree_of x.0 ≡ t) × (drop x.1 ts ≡ rest)
Returns t rest ts (Err (fault.Syntax l)) = ⊥
Returns t rest ts (Err fault.NoMemory) = ⊤

-- the line of a fault is that of a token, or 1 where there is none
abbrev pub HasLine : {X : Type 0} → List Token → Result X ParseFault → Type 0
HasLine ts (Ok x) = ⊤
HasLine ts (Err (fault.Syntax l)) = IsLineOf l ts
HasLine ts (Err fault.NoMemory) = ⊤
