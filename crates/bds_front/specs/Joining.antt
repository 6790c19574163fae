-- For private contracts alone: what joining the parts of a file and of all files below it comes to.
use Rattle.std.specs.Prelude.{◌≡◌, ℕ, List, [], ◌∷◌, ◌++◌, map, Option, Some, None, Result, Ok, Err, ⊤, slice_get}
use Rattle.bds_host.specs.Host.{Log}
use Rattle.bds_value.specs.declared.value.At.{At}
use Rattle.bds_tree.specs.declared.stmt.Part.{Part}
use Rattle.bds_tree.specs.StmtTree.{PartTree, ScriptTree}
use Rattle.bds_tree.specs.StmtView.{part_of, script_of}
use Rattle.bds_check_rules.specs.declared.rules.CheckFault.TheVariants as check
use Rattle.bds_check_rules.specs.declared.rules.Rule.{Rule}
use Rattle.bds_check_typing.specs.Answers.{broken_at}
use Rattle.bds_check.specs.declared.checking.TypedScript.{TypedScript}
use Rattle.bds_check_typing.specs.Files.{Joins}
use Rattle.bds_check_typing.specs.Numbered.{in_file}
use Rattle.bds_check_typing.specs.Program.{first_broken, IsAccepted, typed}
use Rattle.bds_check_typing.specs.Texts.{IsShort}
use Rattle.bds_meaning.specs.Files.{Files, paths_of, IsFileIn, Awaits, IsNext}
use Rattle.bds_front.specs.declared.front_fault.FrontFault.{FrontFault}
use Rattle.bds_front.specs.declared.front_fault.FrontFault.TheVariants as front
use Rattle.bds_front.specs.declared.including.Joined.{Joined}
use Rattle.bds_front.specs.Loading.{Reads, Stops}

-- more files were read behind these
pub record Extends (files all : Files) : Type 0 where
  pub later : Files
  pub is : all ≡ files ++ later

-- Behind these files the parts of a file are ahead: whatever is read behind them, a file that they await is next for the whole script
pub record IsAhead (root : List ℕ) (files : Files) (depth : ℕ) (path : List ℕ) (ps : List PartTree) : Type 0 where
  pub opens : (all : Files) (read : List (List ℕ)) (next : List ℕ) → Extends files all → Awaits (IsFileIn all) depth path (paths_of files) ps read next → IsNext (IsFileIn all) root read next

-- the first of a list counts where there was none before
abbrev pub or_first : Option (List ℕ) → List (List ℕ) → Option (List ℕ)
or_first (Some p) ps = Some p
or_first None [] = None
or_first None (p ∷ ps) = Some p

-- behind these files the parts of a file were joined with those of all files below it
pub record HasJoined (root : List ℕ) (files : Files) (depth : ℕ) (path : List ℕ) (file : ℕ) (ps : List PartTree) (before after : Log) (old new : Joined) : Type 0 where
  pub all : Files
  pub parts : List PartTree
  pub beyond : List (List ℕ)
  pub read : Reads root files before all after
  pub joins : Joins (IsFileIn all) depth path file (paths_of files) ps (paths_of all) parts beyond
  pub paths : new.paths ≡ paths_of all
  pub whole : map part_of new.parts ≡ map part_of old.parts ++ parts
  pub first : new.beyond ≡ or_first old.beyond beyond

-- of these parts the first were joined, and the rest is left
pub record JoinsFirst (root : List ℕ) (files : Files) (depth : ℕ) (path : List ℕ) (file : ℕ) (ps rest : List PartTree) (before after : Log) (old new : Joined) : Type 0 where
  pub parts : List PartTree
  pub split : ps ≡ parts ++ rest
  pub joined : HasJoined root files depth path file parts before after old new

abbrev pub JoinsOn : List ℕ → Files → ℕ → List ℕ → ℕ → List PartTree → Log → Log → Joined → Joined → Result Unit FrontFault → Type 0
JoinsOn root files depth path file ps before after old new (Ok u) = HasJoined root files depth path file ps before after old new
JoinsOn root files depth path file ps before after old new (Err f) = Stops root files before after f

-- of whichever script these parts are ahead, behind whichever files
abbrev pub GoesThrough : ℕ → List ℕ → ℕ → List PartTree → Log → Log → Joined → Joined → Result Unit FrontFault → Type 0
GoesThrough depth path file ps before after old new r =
    (root : List ℕ) (files : Files) → old.paths ≡ paths_of files → IsAhead root files depth path ps → JoinsOn root files depth path file ps before after old new r

-- of whichever script these parts are ahead, behind whichever files, the first were joined
abbrev pub GoesThroughFirst : ℕ → List ℕ → ℕ → List PartTree → List PartTree → Log → Log → Joined → Joined → Type 0
GoesThroughFirst depth path file ps rest before after old new =
    (root : List ℕ) (files : Files) → old.paths ≡ paths_of files → IsAhead root files depth path ps → JoinsFirst root files depth path file ps rest before after old new

-- a script was read with all its includes, and the parts of its program are there
pub record IsWhole (path : List ℕ) (before after : Log) (joined : Joined) (at : At) : Type 0 where
  pub files : Files
  pub tree : ScriptTree
  pub beyond : List (List ℕ)
  pub read : Reads path [] before files after
  pub short : IsShort path
  pub file : IsFileIn files path tree
  pub at-is : at ≡ in_file 0 tree.at
  pub joins : Joins (IsFileIn files) 0 path 0 (path ∷ []) tree.parts (paths_of files) (map part_of joined.parts) beyond
  pub paths : joined.paths ≡ paths_of files
  pub first : joined.beyond ≡ or_first None beyond

abbrev pub JoinsAll : List ℕ → Log → Log → Joined → Result At FrontFault → Type 0
JoinsAll path before after joined (Ok at) = IsWhole path before after joined at
JoinsAll path before after joined (Err f) = Stops path [] before after f

-- the program of joined files
abbrev pub program_of : At → List (List ℕ) → List Part → ScriptTree
program_of at paths parts = record { at = at; files = paths; parts = map part_of parts }

-- how a broken rule in one of these files is told
abbrev pub BreaksRule : List (List ℕ) → Rule → At → FrontFault → Type 0
BreaksRule files rule at (front.Check p c) = (c ≡ check.Broken rule at) × (slice_get files at.file ≡ Some p)
BreaksRule files rule at front.NoMemory = ⊤
BreaksRule files rule at _ = ⊥

-- a typed script, unless there is a first include beyond the limits
abbrev pub UnlessBeyond : TypedScript → Option (List ℕ) → Result TypedScript FrontFault → Type 0
UnlessBeyond t None r = r ≡ Ok t
UnlessBeyond t (Some p) r = r ≡ Err (front.IncludeTooDeep p)

-- what checking a program comes to
abbrev pub Checks : ScriptTree → Result TypedScript FrontFault → Type 0
Checks program (Ok t) = IsAccepted program × (script_of t.script ≡ typed program) × (t.settings ≡ []) × (t.args ≡ [])
Checks program (Err (front.Check p (check.Broken rule at))) = (first_broken program ≡ Some (broken_at rule at)) × (slice_get program.files at.file ≡ Some p)
Checks program (Err front.NoMemory) = ⊤
Checks program (Err _) = ⊥

-- of a program with this first include beyond the limits
abbrev pub ChecksAll : ScriptTree → Option (List ℕ) → Result TypedScript FrontFault → Type 0
ChecksAll program beyond (Ok t) = (beyond ≡ None) × Checks program (Ok t)
ChecksAll program beyond (Err (front.IncludeTooDeep p)) = (beyond ≡ Some p) × IsAccepted program
ChecksAll program beyond (Err f) = Checks program (Err f)
