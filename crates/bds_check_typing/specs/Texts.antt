-- Which names, pieces, keys and words are within the limit of a text.
use Rattle.std.specs.Prelude.{ℕ, ◌≤◌, List, length, ⊤}
use Rattle.std.specs.List.{AllByRecursion}
use Rattle.bds_value.specs.declared.TheConstants.{MAX_TEXT}
use Rattle.bds_tree.specs.declared.token.Piece.{Piece}
use Rattle.bds_tree.specs.declared.token.Word.{Word}
use Rattle.bds_tree.specs.declared.token.Word.TheVariants as w
use Rattle.bds_tree.specs.Spelling.{Mark}
use Rattle.bds_tree.specs.StmtTree.{ScriptTree}
use Rattle.bds_tree.specs.StmtSpelling.{spell_script}
use Rattle.bds_tree.specs.Words.{mark_word}
use Rattle.bds_check_names.specs.PieceKinds.{as_written}

abbrev pub IsShort : List ℕ → Type 0
IsShort t = length t ≤ MAX_TEXT

abbrev pub AreShortTexts : List (List ℕ) → Type 0
AreShortTexts ts = AllByRecursion IsShort ts

-- as it is written, with its sign, since it may be kept so
abbrev pub IsShortPiece : Piece → Type 0
IsShortPiece p = IsShort (as_written p)

abbrev pub AreShortPieces : List Piece → Type 0
AreShortPieces ps = AllByRecursion IsShortPiece ps

abbrev pub IsShortWord : Word → Type 0
IsShortWord (w.Name x) = IsShort x
IsShortWord (w.Text ps) = AreShortPieces ps
IsShortWord (w.Sys ps) = AreShortPieces ps
IsShortWord _ = ⊤

abbrev pub IsShortMark : Mark → Type 0
IsShortMark m = IsShortWord (mark_word m)

-- in each word that spells the script
abbrev pub HasShortTexts : ScriptTree → Type 0
HasShortTexts s = AllByRecursion IsShortMark (spell_script s)
