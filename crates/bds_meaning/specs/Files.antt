-- Which file of a script is read next.
use Rattle.std.specs.Prelude.{◌≡◌, ℕ, ◌+◌, true, false, List, [], ◌∷◌, ◌++◌, map, Option, Some, None, if◌then◌else◌}
use Rattle.std.specs.Str.{bytes_eq}
use Rattle.bds_tree.specs.declared.stmt.Include.{Include}
use Rattle.bds_tree.specs.declared.token.Token.{Token}
use Rattle.bds_tree.specs.ScriptTexts.{Spells}
use Rattle.bds_tree.specs.StmtTree.{PartTree, ScriptTree, an_include}
use Rattle.bds_check_typing.specs.Files.{MayBeRead, path_from, was_read}
use Rattle.bds_check_typing.specs.Program.{is_include}
use Rattle.bds_check_typing.specs.Texts.{IsShort}

-- files that were read, in order: the path of each, and its text
abbrev pub Files : Type 0
Files = List (List ℕ × List ℕ)

abbrev pub paths_of : Files → List (List ℕ)
paths_of files = map (λ f. f.0) files

abbrev pub text_in : Files → List ℕ → Option (List ℕ)
text_in [] path = None
text_in (f ∷ files) path = if bytes_eq f.0 path then Some f.1 else text_in files path

-- the file of a path was read, and its text spells this tree
pub record IsFileIn (files : Files) (path : List ℕ) (tree : ScriptTree) : Type 0 where
  pub text : List ℕ
  pub tokens : List Token
  pub read : text_in files path ≡ Some text
  pub spelled : Spells text tokens tree

-- what the text of the file of a path spells
module _ (IsFile : List ℕ → ScriptTree → Type 0) where
  -- In a file that stands so deep in includes, of this path: where these were read, its parts are passed with all files below them, and then those were read
  pub data Passes : ℕ → List ℕ → List (List ℕ) → List PartTree → List (List ℕ) → Type 0 where
    end : (depth : ℕ) (path : List ℕ) (read : List (List ℕ)) → Passes depth path read [] read
    other : (depth : ℕ) (path : List ℕ) (read : List (List ℕ)) (p : PartTree) (ps : List PartTree) (behind : List (List ℕ)) →
        is_include p ≡ false → Passes depth path read ps behind → Passes depth path read (p ∷ ps) behind
    again : (depth : ℕ) (path : List ℕ) (read : List (List ℕ)) (i : Include) (ps : List PartTree) (behind : List (List ℕ)) →
        was_read (path_from path i) read ≡ true → Passes depth path read ps behind → Passes depth path read (an_include i ∷ ps) behind
    included : (depth : ℕ) (path : List ℕ) (read : List (List ℕ)) (i : Include) (ps : List PartTree) (tree : ScriptTree) (between behind : List (List ℕ)) →
        was_read (path_from path i) read ≡ false → MayBeRead (depth + 1) read → IsShort (path_from path i) → IsFile (path_from path i) tree →
        Passes (depth + 1) (path_from path i) (read ++ path_from path i ∷ []) tree.parts between → Passes depth path between ps behind → Passes depth path read (an_include i ∷ ps) behind
    beyond_limits : (depth : ℕ) (path : List ℕ) (read : List (List ℕ)) (i : Include) (ps : List PartTree) (behind : List (List ℕ)) →
        was_read (path_from path i) read ≡ false → (MayBeRead (depth + 1) read → ⊥) → Passes depth path read ps behind → Passes depth path read (an_include i ∷ ps) behind

  -- and then an include stands there whose file is next
  pub data Awaits : ℕ → List ℕ → List (List ℕ) → List PartTree → List (List ℕ) → List ℕ → Type 0 where
    here : (depth : ℕ) (path : List ℕ) (read : List (List ℕ)) (i : Include) (ps : List PartTree) →
        was_read (path_from path i) read ≡ false → MayBeRead (depth + 1) read → Awaits depth path read (an_include i ∷ ps) read (path_from path i)
    inside : (depth : ℕ) (path : List ℕ) (read : List (List ℕ)) (i : Include) (ps : List PartTree) (tree : ScriptTree) (behind : List (List ℕ)) (next : List ℕ) →
        was_read (path_from path i) read ≡ false → MayBeRead (depth + 1) read → IsShort (path_from path i) → IsFile (path_from path i) tree →
        Awaits (depth + 1) (path_from path i) (read ++ path_from path i ∷ []) tree.parts behind next → Awaits depth path read (an_include i ∷ ps) behind next
    behind_part : (depth : ℕ) (path : List ℕ) (read : List (List ℕ)) (p : PartTree) (ps : List PartTree) (between behind : List (List ℕ)) (next : List ℕ) →
        Passes depth path read (p ∷ []) between → Awaits depth path between ps behind next → Awaits depth path read (p ∷ ps) behind next

  -- where these were read of the script of a path, the file of that path is next
  pub data IsNext (path : List ℕ) : List (List ℕ) → List ℕ → Type 0 where
    script : IsNext path [] path
    include : (tree : ScriptTree) (read : List (List ℕ)) (next : List ℕ) → IsFile path tree → Awaits 0 path (path ∷ []) tree.parts read next → IsNext path read next
