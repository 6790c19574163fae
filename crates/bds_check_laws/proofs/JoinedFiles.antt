-- The program of legal files is one that is checked.
use Rattle.std.proofs.Common.{◌≡◌, ℕ, ◌+◌, ◌<◌, ◌≤◌, List, [], ◌∷◌, ◌++◌, length, sym, subst, arith}
use Rattle.std.specs.List.{AllByRecursion}
use Rattle.bds_value.specs.declared.TheConstants.{MAX_FILES, MAX_NESTING}
use Rattle.bds_value.specs.declared.value.At.{At}
use Rattle.bds_tree.specs.StmtTree.{PartTree, ScriptTree, a_function, an_include, a_statement}
use Rattle.bds_tree.specs.StmtShape.{IsPartShaped, parts_height, part_height, IsLegal}
use Rattle.bds_tree.specs.StmtSpelling.{spell_parts}
use Rattle.bds_check_typing.specs.Files.{Joins, path_from, IsProgramOf}
use Rattle.bds_check_typing.specs.Numbered.{part_in}
use Rattle.bds_check_typing.specs.Proper.{IsProperPart, IsProgram}
use Rattle.bds_check_typing.specs.Texts.{IsShort, HasShortTexts}
use Rattle.bds_check_typing.proofs.LegalPrograms.{Short, function-proper, statement-proper, part-short, parts-short, short-parts}
use Rattle.bds_check_laws.proofs.NumberedProper.{part-numbered}
use Rattle.bds_check_laws.proofs.NumberedHeights.{part-as-deep}

length-more : {X : Type 0} (xs : List X) (x : X) → length (xs ++ x ∷ []) ≡ length xs + 1
length-more [] x = omega arith
length-more (y ∷ xs) x = let h : length (xs ++ x ∷ []) ≡ length xs + 1 = length-more xs x in omega arith

all-joined : {X : Type 0} (P : X → Type 0) (xs ys : List X) → AllByRecursion P xs → AllByRecursion P ys → AllByRecursion P (xs ++ ys)
all-joined P [] ys h k = k
all-joined P (x ∷ xs) ys h k = (h.0, all-joined P xs ys h.1 k)

height-joined : (os qs : List PartTree) (n : ℕ) → parts_height os ≤ n → parts_height qs ≤ n → parts_height (os ++ qs) ≤ n
height-joined [] qs n h k = k
height-joined (p ∷ os) qs n h k =
    let front : parts_height os ≤ n = omega arith in
    let all : parts_height (os ++ qs) ≤ n = height-joined os qs n front k in
    omega arith

height-numbered : (file : ℕ) (p : PartTree) (qs : List PartTree) (n : ℕ) → part_height p ≤ n → parts_height qs ≤ n → parts_height (part_in file p ∷ qs) ≤ n
height-numbered file p qs n h k =
    let here : part_height (part_in file p) ≤ n = subst (λ (x : ℕ). x ≤ n) (sym (part-as-deep file p)) h in
    omega arith

module _ (IsFile : List ℕ → ScriptTree → Type 0) (legal : (path : List ℕ) (tree : ScriptTree) → IsFile path tree → IsLegal tree × HasShortTexts tree) where
  -- more is read, and each path within the limit
  read-more : (depth : ℕ) (path : List ℕ) (file : ℕ) (read : List (List ℕ)) (ps : List PartTree) (behind : List (List ℕ)) (qs : List PartTree) (beyond : List (List ℕ)) →
      Joins IsFile depth path file read ps behind qs beyond → AllByRecursion IsShort read → (length read ≤ length behind) × AllByRecursion IsShort behind
  read-more depth path file read ps behind qs beyond (Joins.end _ _ _ _) h = (omega arith, h)
  read-more depth path file read ps behind qs beyond (Joins.function _ _ _ _ f rest _ others _ j) h = read-more depth path file read rest behind others beyond j h
  read-more depth path file read ps behind qs beyond (Joins.statement _ _ _ _ s rest _ others _ j) h = read-more depth path file read rest behind others beyond j h
  read-more depth path file read ps behind qs beyond (Joins.again _ _ _ _ i rest _ _ _ was j) h = read-more depth path file read rest behind qs beyond j h
  read-more depth path file read ps behind qs beyond (Joins.included _ _ _ _ i rest tree between _ os others deep more new within short is inner j) h =
      let a = read-more (depth + 1) (path_from path i) (length read) (read ++ path_from path i ∷ []) tree.parts between os deep inner (all-joined IsShort read (path_from path i ∷ []) h (short, tt)) in
      let b = read-more depth path file between rest behind others more j a.1 in
      let grown : length (read ++ path_from path i ∷ []) ≡ length read + 1 = length-more read (path_from path i) in
      let x : length (read ++ path_from path i ∷ []) ≤ length between = a.0 in
      let y : length between ≤ length behind = b.0 in
      (omega arith, b.1)
  read-more depth path file read ps behind qs beyond (Joins.beyond_limits _ _ _ _ i rest _ _ more new out j) h = read-more depth path file read rest behind qs more j h

  -- no more files are read than a script may have
  few-read : (depth : ℕ) (path : List ℕ) (file : ℕ) (read : List (List ℕ)) (ps : List PartTree) (behind : List (List ℕ)) (qs : List PartTree) (beyond : List (List ℕ)) →
      Joins IsFile depth path file read ps behind qs beyond → length read ≤ MAX_FILES → length behind ≤ MAX_FILES
  few-read depth path file read ps behind qs beyond (Joins.end _ _ _ _) h = h
  few-read depth path file read ps behind qs beyond (Joins.function _ _ _ _ f rest _ others _ j) h = few-read depth path file read rest behind others beyond j h
  few-read depth path file read ps behind qs beyond (Joins.statement _ _ _ _ s rest _ others _ j) h = few-read depth path file read rest behind others beyond j h
  few-read depth path file read ps behind qs beyond (Joins.again _ _ _ _ i rest _ _ _ was j) h = few-read depth path file read rest behind qs beyond j h
  few-read depth path file read ps behind qs beyond (Joins.included _ _ _ _ i rest tree between _ os others deep more new within short is inner j) h =
      let grown : length (read ++ path_from path i ∷ []) ≡ length read + 1 = length-more read (path_from path i) in
      let few : length read < MAX_FILES = within.few in
      let more_files : length (read ++ path_from path i ∷ []) ≤ MAX_FILES = omega arith in
      few-read depth path file between rest behind others more j (few-read (depth + 1) (path_from path i) (length read) (read ++ path_from path i ∷ []) tree.parts between os deep inner more_files)
  few-read depth path file read ps behind qs beyond (Joins.beyond_limits _ _ _ _ i rest _ _ more new out j) h = few-read depth path file read rest behind qs more j h

  -- the parts of legal files are those of a program with so many files or more
  parts-joined : (n depth : ℕ) (path : List ℕ) (file : ℕ) (read : List (List ℕ)) (ps : List PartTree) (behind : List (List ℕ)) (qs : List PartTree) (beyond : List (List ℕ)) →
      Joins IsFile depth path file read ps behind qs beyond → file < n → AllByRecursion IsShort read → length behind ≤ n → AllByRecursion IsPartShaped ps → Short (spell_parts ps) → parts_height ps ≤ MAX_NESTING →
      AllByRecursion (IsProperPart n) qs × (parts_height qs ≤ MAX_NESTING)
  parts-joined n depth path file read ps behind qs beyond (Joins.end _ _ _ _) here short most shaped words deep = (tt, deep)
  parts-joined n depth path file read ps behind qs beyond (Joins.function _ _ _ _ f rest _ others _ j) here short most shaped words deep =
      let fits : part_height (a_function f) ≤ MAX_NESTING = omega arith in
      let left : parts_height rest ≤ MAX_NESTING = omega arith in
      let r = parts-joined n depth path file read rest behind others beyond j here short most shaped.1 (parts-short (a_function f) rest words) left in
      ((part-numbered 1 n file here (a_function f) (function-proper f shaped.0 (part-short (a_function f) rest words) fits), r.0), height-numbered file (a_function f) others MAX_NESTING fits r.1)
  parts-joined n depth path file read ps behind qs beyond (Joins.statement _ _ _ _ s rest _ others _ j) here short most shaped words deep =
      let fits : part_height (a_statement s) ≤ MAX_NESTING = omega arith in
      let left : parts_height rest ≤ MAX_NESTING = omega arith in
      let r = parts-joined n depth path file read rest behind others beyond j here short most shaped.1 (parts-short (a_statement s) rest words) left in
      ((part-numbered 1 n file here (a_statement s) (statement-proper s shaped.0 (part-short (a_statement s) rest words) fits), r.0), height-numbered file (a_statement s) others MAX_NESTING fits r.1)
  parts-joined n depth path file read ps behind qs beyond (Joins.again _ _ _ _ i rest _ _ _ was j) here short most shaped words deep =
      let left : parts_height rest ≤ MAX_NESTING = omega arith in
      parts-joined n depth path file read rest behind qs beyond j here short most shaped.1 (parts-short (an_include i) rest words) left
  parts-joined n depth path file read ps behind qs beyond (Joins.included _ _ _ _ i rest tree between _ os others deeper more new within short_path is inner j) here short most shaped words deep =
      let left : parts_height rest ≤ MAX_NESTING = omega arith in
      let read_here = all-joined IsShort read (path_from path i ∷ []) short (short_path, tt) in
      let grown : length (read ++ path_from path i ∷ []) ≡ length read + 1 = length-more read (path_from path i) in
      let a = read-more (depth + 1) (path_from path i) (length read) (read ++ path_from path i ∷ []) tree.parts between os deeper inner read_here in
      let b = read-more depth path file between rest behind others more j a.1 in
      let x : length (read ++ path_from path i ∷ []) ≤ length between = a.0 in
      let y : length between ≤ length behind = b.0 in
      let numbered : length read < n = omega arith in
      let enough : length between ≤ n = omega arith in
      let l : IsLegal tree = (legal (path_from path i) tree is).0 in
      let w : Short (spell_parts tree.parts) = short-parts tree (legal (path_from path i) tree is).1 in
      let os_fit = parts-joined n (depth + 1) (path_from path i) (length read) (read ++ path_from path i ∷ []) tree.parts between os deeper inner numbered read_here enough l.shaped.2 w l.nesting in
      let others_fit = parts-joined n depth path file between rest behind others more j here a.1 most shaped.1 (parts-short (an_include i) rest words) left in
      (all-joined (IsProperPart n) os others os_fit.0 others_fit.0, height-joined os others MAX_NESTING os_fit.1 others_fit.1)
  parts-joined n depth path file read ps behind qs beyond (Joins.beyond_limits _ _ _ _ i rest _ _ more new out j) here short most shaped words deep =
      let left : parts_height rest ≤ MAX_NESTING = omega arith in
      parts-joined n depth path file read rest behind qs more j here short most shaped.1 (parts-short (an_include i) rest words) left

  pub files-program : (path : List ℕ) (program : ScriptTree) (beyond : List (List ℕ)) → IsProgramOf IsFile path program beyond → IsProgram program
  files-program path program beyond p =
      let l : IsLegal p.tree = (legal path p.tree p.file).0 in
      let w : Short (spell_parts p.tree.parts) = short-parts p.tree (legal path p.tree p.file).1 in
      let more = read-more 0 path 0 (path ∷ []) p.tree.parts program.files program.parts beyond p.joined (p.short, tt) in
      let some : length (path ∷ []) ≤ length program.files = more.0 in
      let first_file : 0 < length program.files = omega arith in
      let all : length program.files ≤ length program.files = omega arith in
      let parts = parts-joined (length program.files) 0 path 0 (path ∷ []) p.tree.parts program.files program.parts beyond p.joined first_file (p.short, tt) all l.shaped.2 w l.nesting in
      let one : length (path ∷ []) ≤ MAX_FILES = omega arith in
      let few = few-read 0 path 0 (path ∷ []) p.tree.parts program.files program.parts beyond p.joined one in
      record { paths = more.1; few = few; file = subst (λ (at : At). at.file < length program.files) (sym p.at) first_file; parts = parts.0; nesting = parts.1 }
