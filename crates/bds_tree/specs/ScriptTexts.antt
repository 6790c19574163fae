-- Which texts spell a script, and what is wrong with a text that spells none.
use Rattle.std.specs.Prelude.{◌≡◌, ◌≤◌, ◌<◌, ◌==◌, ◌||◌, ℕ, Bool, true, false, List, [], ◌∷◌, length, Ok, Err}
use Rattle.bds_value.specs.declared.TheConstants.{MAX_TEXT}
use Rattle.bds_tree.specs.declared.lexing.LexFault.{LexFault}
use Rattle.bds_tree.specs.declared.token.Token.{Token}
use Rattle.bds_tree.specs.StmtTree.{ScriptTree}
use Rattle.bds_tree.specs.StmtShape.{IsLegal}
use Rattle.bds_tree.specs.StmtSpelling.{SpellsScript}
use Rattle.bds_tree.specs.Tokens.{tokens_of}

-- a text of these tokens spells a script
pub record Spells (text : List ℕ) (tokens : List Token) (script : ScriptTree) : Type 0 where
  pub within : length text ≤ MAX_TEXT
  pub lexed : tokens_of text ≡ Ok tokens
  pub legal : IsLegal script
  pub spelled : SpellsScript script tokens

-- no script is spelled by a text of these tokens
pub record SpellsNone (text : List ℕ) (tokens : List Token) : Type 0 where
  pub within : length text ≤ MAX_TEXT
  pub lexed : tokens_of text ≡ Ok tokens
  pub none : (script : ScriptTree) → IsLegal script → SpellsScript script tokens → ⊥

-- a token stands on the line
abbrev pub has_line : ℕ → List Token → Bool
has_line l [] = false
has_line l (t ∷ ts) = (t.line == l) || has_line l ts

-- the line is that of a token, or 1 where there is none
abbrev pub IsLineOf : ℕ → List Token → Type 0
IsLineOf l [] = l ≡ 1
IsLineOf l (t ∷ ts) = has_line l (t ∷ ts) ≡ true

-- what may be wrong with a text
pub data TextFlaw : Type 0 where
  too_long : TextFlaw
  -- it has no tokens
  no_tokens : LexFault → TextFlaw
  -- its tokens spell no script, which is told on this line
  no_script : ℕ → TextFlaw

-- HasFlaw text flaw: the text spells no script, and this is why
pub data HasFlaw (text : List ℕ) : TextFlaw → Type 0 where
  longer : MAX_TEXT < length text → HasFlaw text too_long
  unlexed : (f : LexFault) → length text ≤ MAX_TEXT → tokens_of text ≡ Err f → HasFlaw text (no_tokens f)
  -- on the line of some token
  unspelled : (tokens : List Token) (line : ℕ) → SpellsNone text tokens → IsLineOf line tokens → HasFlaw text (no_script line)
