-- The program of files: the parts of each included file stand in the place of the include.
use Rattle.std.specs.Prelude.{◌≡◌, ℕ, ◌+◌, ◌<◌, ◌≤◌, ◌==◌, Bool, true, false, List, [], ◌∷◌, ◌++◌, length, if◌then◌else◌}
use Rattle.std.specs.List.{list_any}
use Rattle.std.specs.Str.{bytes_eq}
use Rattle.bds_value.specs.declared.TheConstants.{MAX_INCLUDES, MAX_FILES}
use Rattle.bds_tree.specs.declared.token.Piece.{Piece}
use Rattle.bds_tree.specs.declared.token.Piece.TheVariants as piece
use Rattle.bds_tree.specs.declared.stmt.Include.{Include}
use Rattle.bds_tree.specs.StmtTree.{FunctionTree, StmtTree, PartTree, ScriptTree, a_function, an_include, a_statement}
use Rattle.bds_check_typing.specs.Program.{IsAccepted}
use Rattle.bds_check_typing.specs.Numbered.{in_file, part_in}
use Rattle.bds_check_typing.specs.Texts.{IsShort}

-- Paths

-- of a text without variables
abbrev pub plain_text : List Piece → List ℕ
plain_text [] = []
plain_text (piece.Plain t ∷ ps) = t ++ plain_text ps
plain_text (_ ∷ ps) = plain_text ps

abbrev pub is_slash : ℕ → Bool
is_slash b = b == 47

-- up to and with the last `/`
abbrev pub folder : List ℕ → List ℕ
folder [] = []
folder (b ∷ bs) = (if list_any is_slash (b ∷ bs) then b ∷ folder bs else [])

abbrev pub begins_with_slash : List ℕ → Bool
begins_with_slash [] = false
begins_with_slash (b ∷ bs) = is_slash b

-- the path that an include names in the file of this path
abbrev pub path_from : List ℕ → Include → List ℕ
path_from path i = (if begins_with_slash (plain_text i.path) then plain_text i.path else folder path ++ plain_text i.path)

abbrev pub was_read : List ℕ → List (List ℕ) → Bool
was_read path read = list_any (bytes_eq path) read

-- Limits

-- an include may be read that stands so deep in includes, behind these files
pub record MayBeRead (depth : ℕ) (read : List (List ℕ)) : Type 0 where
  pub nested : depth ≤ MAX_INCLUDES
  pub few : length read < MAX_FILES

-- The program

-- what the text of the file of a path spells
module _ (IsFile : List ℕ → ScriptTree → Type 0) where
  -- In a file that stands so deep in includes, of this path and number: where these were read, its parts become those, and more were read. The last list holds the
  -- includes beyond the limits, in their order.
  pub data Joins : ℕ → List ℕ → ℕ → List (List ℕ) → List PartTree → List (List ℕ) → List PartTree → List (List ℕ) → Type 0 where
    end : (depth : ℕ) (path : List ℕ) (file : ℕ) (read : List (List ℕ)) → Joins depth path file read [] read [] []
    function : (depth : ℕ) (path : List ℕ) (file : ℕ) (read : List (List ℕ)) (f : FunctionTree) (ps : List PartTree) (behind : List (List ℕ)) (qs : List PartTree) (beyond : List (List ℕ)) →
        Joins depth path file read ps behind qs beyond → Joins depth path file read (a_function f ∷ ps) behind (part_in file (a_function f) ∷ qs) beyond
    statement : (depth : ℕ) (path : List ℕ) (file : ℕ) (read : List (List ℕ)) (s : StmtTree) (ps : List PartTree) (behind : List (List ℕ)) (qs : List PartTree) (beyond : List (List ℕ)) →
        Joins depth path file read ps behind qs beyond → Joins depth path file read (a_statement s ∷ ps) behind (part_in file (a_statement s) ∷ qs) beyond
    -- a path that was read gives nothing
    again : (depth : ℕ) (path : List ℕ) (file : ℕ) (read : List (List ℕ)) (i : Include) (ps : List PartTree) (behind : List (List ℕ)) (qs : List PartTree) (beyond : List (List ℕ)) →
        was_read (path_from path i) read ≡ true → Joins depth path file read ps behind qs beyond → Joins depth path file read (an_include i ∷ ps) behind qs beyond
    -- the file and all includes below it are read before what follows
    included : (depth : ℕ) (path : List ℕ) (file : ℕ) (read : List (List ℕ)) (i : Include) (ps : List PartTree) (tree : ScriptTree) (between behind : List (List ℕ)) (os qs : List PartTree) (deep beyond : List (List ℕ)) →
        was_read (path_from path i) read ≡ false → MayBeRead (depth + 1) read → IsShort (path_from path i) → IsFile (path_from path i) tree →
        Joins (depth + 1) (path_from path i) (length read) (read ++ path_from path i ∷ []) tree.parts between os deep → Joins depth path file between ps behind qs beyond →
        Joins depth path file read (an_include i ∷ ps) behind (os ++ qs) (deep ++ beyond)
    -- an include beyond the limits of depth or files isn't read, and gives nothing
    beyond_limits : (depth : ℕ) (path : List ℕ) (file : ℕ) (read : List (List ℕ)) (i : Include) (ps : List PartTree) (behind : List (List ℕ)) (qs : List PartTree) (beyond : List (List ℕ)) →
        was_read (path_from path i) read ≡ false → (MayBeRead (depth + 1) read → ⊥) → Joins depth path file read ps behind qs beyond →
        Joins depth path file read (an_include i ∷ ps) behind qs (path_from path i ∷ beyond)

  -- The program of the script of a path, and the includes beyond the limits; there is none where a path within them is too long.
  -- Its files are the paths that were read, in order, and the number of a file is its place there.
  pub record IsProgramOf (path : List ℕ) (program : ScriptTree) (beyond : List (List ℕ)) : Type 0 where
    pub short : IsShort path
    pub tree : ScriptTree
    pub file : IsFile path tree
    pub at : program.at ≡ in_file 0 tree.at
    pub joined : Joins 0 path 0 (path ∷ []) tree.parts program.files program.parts beyond

  -- the program is made of these files, none of which is left out, and no node breaks a rule
  pub record IsAcceptedFrom (path : List ℕ) (program : ScriptTree) : Type 0 where
    pub made : IsProgramOf path program []
    pub accepted : IsAccepted program
