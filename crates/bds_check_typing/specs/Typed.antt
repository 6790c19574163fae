-- What a typed script is: a program in which each node has its type and breaks no rule, and what words may set in it.
use Rattle.std.specs.Prelude.{◌≤◌, List, ℕ, length}
use Rattle.bds_value.specs.declared.TheConstants.{MAX_ITEMS}
use Rattle.bds_tree.specs.StmtTree.{ScriptTree}
use Rattle.bds_check_size.specs.ScriptSize.{Settings}
use Rattle.bds_check_typing.specs.GivenValues.{FitGlobals, AreShortLists}
use Rattle.bds_check_typing.specs.Proper.{IsProgram}
use Rattle.bds_check_typing.specs.Known.{IsFullyTyped}
use Rattle.bds_check_typing.specs.Texts.{AreShortTexts}

-- this is said of the tree itself
pub record IsTyped (s : ScriptTree) : Type 0 where
  pub program : IsProgram s
  pub types : IsFullyTyped s

-- with the values that words give globals, and with the other words
pub record IsTypedWith (s : ScriptTree) (settings : Settings) (words : List (List ℕ)) : Type 0 where
  pub script : IsTyped s
  pub globals : FitGlobals settings s.parts
  pub lists : AreShortLists settings
  pub args : AreShortTexts words
  pub few : length words ≤ MAX_ITEMS
