-- Of the file of an include, by what reading and joining it came to.
use Rattle.std.proofs.Common.{◌≡◌, ℕ, ◌+◌, List, [], ◌∷◌, ◌++◌, length, false, Result, IsErrAnd, subst}
use Rattle.bds_host.specs.Host.{Log}
use Rattle.bds_tree.specs.declared.stmt.Include.{Include}
use Rattle.bds_tree.specs.StmtTree.{ScriptTree, an_include}
use Rattle.bds_check_typing.specs.Files.{MayBeRead, path_from, was_read}
use Rattle.bds_meaning.specs.Files.{Files, paths_of}
use Rattle.bds_front.specs.declared.front_fault.FrontFault.{FrontFault}
use Rattle.bds_front.specs.declared.including.Joined.{Joined}
use Rattle.bds_front.specs.OneFile.{StopsAt, WasParsed}
use Rattle.bds_front.specs.Joining.{IsAhead, JoinsOn, GoesThrough}
use Rattle.bds_front.proofs.Errors.{by-err}
use Rattle.bds_front.proofs.JoinLaws.{goes-failing, goes-inside}

module _ (above : ℕ) (from : List ℕ) (file : ℕ) (i : Include) (depth : ℕ) (path : List ℕ) (one : depth ≡ above + 1) (named : path ≡ path_from from i) (old : Joined) (unread : was_read path old.paths ≡ false) (within : MayBeRead depth old.paths) where
  unread-there : was_read (path_from from i) old.paths ≡ false
  unread-there = subst (λ (p : List ℕ). was_read p old.paths ≡ false) named unread

  within-there : MayBeRead (above + 1) old.paths
  within-there = subst (λ (n : ℕ). MayBeRead n old.paths) one within

  pub file-stopped : (before after : Log) (new : Joined) (r : Result Unit FrontFault) (f : FrontFault) → IsErrAnd r (λ x. x ≡ f) → StopsAt path before after f → GoesThrough above from file (an_include i ∷ []) before after old new r
  file-stopped before after new r f is h =
      by-err (λ (x : Result Unit FrontFault). GoesThrough above from file (an_include i ∷ []) before after old new x) r f is
      (goes-failing above from file i before after old new f unread-there within-there (subst (λ (p : List ℕ). StopsAt p before after f) named h))

  pub file-goes : (tree : ScriptTree) (before between after : Log) (new : Joined) (r : Result Unit FrontFault) → WasParsed path tree before between →
      ((root : List ℕ) (files : Files) (text : List ℕ) → old.paths ≡ paths_of files → IsAhead root (files ++ (path, text) ∷ []) depth path tree.parts → JoinsOn root (files ++ (path, text) ∷ []) depth path (length old.paths) tree.parts between after old new r) →
      GoesThrough above from file (an_include i ∷ []) before after old new r
  file-goes tree before between after new r w h =
      goes-inside above from file i tree before between after old new r unread-there within-there (subst (λ (p : List ℕ). WasParsed p tree before between) named w)
      (subst (λ (p : List ℕ). (root : List ℕ) (files : Files) (text : List ℕ) → old.paths ≡ paths_of files → IsAhead root (files ++ (p, text) ∷ []) (above + 1) p tree.parts → JoinsOn root (files ++ (p, text) ∷ []) (above + 1) p (length old.paths) tree.parts between after old new r) named
      (subst (λ (n : ℕ). (root : List ℕ) (files : Files) (text : List ℕ) → old.paths ≡ paths_of files → IsAhead root (files ++ (path, text) ∷ []) n path tree.parts → JoinsOn root (files ++ (path, text) ∷ []) n path (length old.paths) tree.parts between after old new r) one h))
