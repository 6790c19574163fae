-- Reading and joining, one step behind the other.
use Rattle.std.proofs.Common.{◌≡◌, ◌∙◌, ◌<◌, ℕ, ◌+◌, List, [], ◌∷◌, ◌++◌, ◌↔◌, length, map, reverse, true, false, Option, Some, None, IsSome, Result, Ok, Err, sym, ap, subst, refl, append_assoc, append-nil, arith}
use Rattle.std.proofs.lemmas.List.{reverse-append, reverse-reverse}
use Rattle.bds_host.specs.Host.{Log}
use Rattle.bds_tree.specs.declared.stmt.Include.{Include}
use Rattle.bds_tree.specs.declared.stmt.Part.{Part}
use Rattle.bds_tree.specs.StmtTree.{PartTree, ScriptTree, an_include, a_function, a_statement}
use Rattle.bds_tree.specs.StmtView.{part_of}
use Rattle.bds_check_typing.specs.Files.{Joins, MayBeRead, path_from, was_read}
use Rattle.bds_check_typing.specs.Numbered.{part_in}
use Rattle.bds_check_typing.specs.Program.{holds_include, is_include}
use Rattle.bds_meaning.specs.Files.{Files, paths_of, IsFileIn, Awaits, IsNext}
use Rattle.bds_front.specs.declared.front_fault.FrontFault.{FrontFault}
use Rattle.bds_front.specs.declared.front_fault.FrontFault.TheVariants as front
use Rattle.bds_front.specs.declared.including.Joined.{Joined}
use Rattle.bds_front.specs.Loading.{Reads, Stops, IsNextBehind}
use Rattle.bds_front.specs.OneFile.{StopsAt, WasParsed}
use Rattle.bds_front.specs.Joining.{Extends, IsAhead, or_first, HasJoined, JoinsOn, GoesThrough, GoesThroughFirst, IsWhole}
use Rattle.bds_front.proofs.FirstFile.{at-same, joined-alone}
use Rattle.bds_front.proofs.Files.{extends-same, extends-one, extends-more, paths-one, file-last, file-more, joins-more, joins-pass, awaits-behind, awaits-front, joins-on}

-- Reading

module _ (root : List ℕ) where
  pub reads-extend : (files : Files) (before : Log) (all : Files) (after : Log) → Reads root files before all after → Extends files all
  reads-extend files before all after Reads.nothing = extends-same files
  reads-extend files before all after (Reads.one_more more log _ next text there is short answered) =
      extends-more files more (more ++ (next, text) ∷ []) (reads-extend files before more log there) (extends-one more next text)

  pub reads-on : (a : Files) (before : Log) (b : Files) (between : Log) (c : Files) (after : Log) → Reads root a before b between → Reads root b between c after → Reads root a before c after
  reads-on a before b between c after h Reads.nothing = h
  reads-on a before b between c after h (Reads.one_more more log _ next text there is short answered) =
      Reads.one_more more log after next text (reads-on a before b between more log h there) is short answered

  pub stops-on : (a : Files) (before : Log) (b : Files) (between after : Log) (f : FrontFault) → Reads root a before b between → Stops root b between after f → Stops root a before after f
  stops-on a before b between after f h (Stops.missing all log next there is short answered) = Stops.missing all log next (reads-on a before b between all log h there) is short answered
  stops-on a before b between after f h (Stops.device all log next there is short answered) = Stops.device all log next (reads-on a before b between all log h there) is short answered
  stops-on a before b between after f h (Stops.long_path all next there is long) = Stops.long_path all next (reads-on a before b between all after h there) is long
  stops-on a before b between after f h (Stops.long_text all p text there flaw) = Stops.long_text all p text (reads-on a before b between _ after h there) flaw
  stops-on a before b between after f h (Stops.unlexed all p text g there flaw told) = Stops.unlexed all p text g (reads-on a before b between _ after h there) flaw told
  stops-on a before b between after f h (Stops.unspelled all p text line there flaw) = Stops.unspelled all p text line (reads-on a before b between _ after h there) flaw
  stops-on a before b between after f h (Stops.no_memory all there) = Stops.no_memory all (reads-on a before b between all after h there)
  stops-on a before b between after f h (Stops.no_room all log next there is short e) = Stops.no_room all log next (reads-on a before b between all log h there) is short e

  -- What is ahead

  pub ahead-front : (files : Files) (depth : ℕ) (path : List ℕ) (p : PartTree) (ps : List PartTree) → IsAhead root files depth path (p ∷ ps) → IsAhead root files depth path (p ∷ [])
  ahead-front files depth path p ps h = record { opens = λ all read next e w. h.opens all read next e (awaits-front (IsFileIn all) depth path (paths_of files) p ps read next w) }

  pub ahead-behind : (files all : Files) (depth : ℕ) (path : List ℕ) (file : ℕ) (ps qs os : List PartTree) (beyond : List (List ℕ)) →
      IsAhead root files depth path (ps ++ qs) → Extends files all → Joins (IsFileIn all) depth path file (paths_of files) ps (paths_of all) os beyond → IsAhead root all depth path qs
  ahead-behind files all depth path file ps qs os beyond h e j = record {
    opens = λ more read next k w.
        h.opens more read next (extends-more files all more e k)
        (awaits-behind (IsFileIn more) depth path (paths_of files) ps qs (paths_of all) read next
        (joins-pass (IsFileIn more) depth path file (paths_of files) ps (paths_of all) os beyond
        (joins-more (IsFileIn all) (IsFileIn more) (file-more all more k) depth path file (paths_of files) ps (paths_of all) os beyond j)) w);
  }

  -- the file of an include is next
  pub include-next : (files : Files) (depth : ℕ) (path : List ℕ) (i : Include) → IsAhead root files depth path (an_include i ∷ []) → was_read (path_from path i) (paths_of files) ≡ false → MayBeRead (depth + 1) (paths_of files) →
      IsNextBehind root files (path_from path i)
  include-next files depth path i h new within = h.opens files (paths_of files) (path_from path i) (extends-same files) (Awaits.here depth path (paths_of files) i [] new within)

  -- where the file of an include was read, its parts are ahead
  pub include-ahead : (files : Files) (depth : ℕ) (path : List ℕ) (i : Include) (tree : ScriptTree) (before after : Log) → IsAhead root files depth path (an_include i ∷ []) → was_read (path_from path i) (paths_of files) ≡ false →
      MayBeRead (depth + 1) (paths_of files) → (w : WasParsed (path_from path i) tree before after) → IsAhead root (files ++ (path_from path i, w.text) ∷ []) (depth + 1) (path_from path i) tree.parts
  include-ahead files depth path i tree before after h new within w =
      let next = path_from path i in
      let one : Files = files ++ (next, w.text) ∷ [] in
      record {
        opens = λ all read n e a.
            h.opens all read n (extends-more files one all (extends-one files next w.text) e)
            (Awaits.inside depth path (paths_of files) i [] tree read n new within w.asked.short (file-more one all e next tree (file-last files next w.text w.tokens tree new w.spelled))
            (subst (λ (x : List (List ℕ)). Awaits (IsFileIn all) (depth + 1) next x tree.parts read n) (paths-one files next w.text) a));
      }

  -- the same of the script itself
  pub script-ahead : (tree : ScriptTree) (before after : Log) (w : WasParsed root tree before after) → IsAhead root ((root, w.text) ∷ []) 0 root tree.parts
  script-ahead tree before after w =
      record { opens = λ all read n e a. IsNext.include tree read n (file-more ((root, w.text) ∷ []) all e root tree (file-last [] root w.text w.tokens tree refl w.spelled)) a }

  -- one file was read
  pub reads-one : (files : Files) (next : List ℕ) (tree : ScriptTree) (before after : Log) → IsNextBehind root files next → (w : WasParsed next tree before after) → Reads root files before (files ++ (next, w.text) ∷ []) after
  reads-one files next tree before after is w = Reads.one_more files before after next w.text Reads.nothing is w.asked.short w.asked.answered

-- The first include beyond the limits

pub or-none : (o : Option (List ℕ)) → o ≡ or_first o []
or-none None = refl
or-none (Some p) = refl

pub or-on : (o : Option (List ℕ)) (xs ys : List (List ℕ)) → or_first (or_first o xs) ys ≡ or_first o (xs ++ ys)
or-on (Some p) xs ys = refl
or-on None [] ys = refl
or-on None (x ∷ xs) ys = refl

-- Joining

module _ (root : List ℕ) (depth : ℕ) (path : List ℕ) (file : ℕ) where
  pub joined-none : (files : Files) (before : Log) (old : Joined) → old.paths ≡ paths_of files → HasJoined root files depth path file [] before before old old
  joined-none files before old known =
      record { all = files; parts = []; beyond = []; read = Reads.nothing; joins = Joins.end depth path file (paths_of files); paths = known; whole = sym (append-nil (map part_of old.parts)); first = or-none old.beyond }

  pub joined-on : (files : Files) (xs ys : List PartTree) (before between after : Log) (old middle new : Joined) → (a : HasJoined root files depth path file xs before between old middle) →
      HasJoined root a.all depth path file ys between after middle new → HasJoined root files depth path file (xs ++ ys) before after old new
  joined-on files xs ys before between after old middle new a b =
      let e : Extends a.all b.all = reads-extend root a.all between b.all after b.read in
      record {
        all = b.all;
        parts = a.parts ++ b.parts;
        beyond = a.beyond ++ b.beyond;
        read = reads-on root files before a.all between b.all after a.read b.read;
        joins = joins-on (IsFileIn b.all) depth path file (paths_of files) xs ys (paths_of a.all) (paths_of b.all) a.parts b.parts a.beyond b.beyond
            (joins-more (IsFileIn a.all) (IsFileIn b.all) (file-more a.all b.all e) depth path file (paths_of files) xs (paths_of a.all) a.parts a.beyond a.joins) b.joins;
        paths = b.paths;
        whole = b.whole ∙ ap (λ (x : List PartTree). x ++ b.parts) a.whole ∙ append_assoc (map part_of old.parts) a.parts b.parts;
        first = b.first ∙ ap (λ (o : Option (List ℕ)). or_first o b.beyond) a.first ∙ or-on old.beyond a.beyond b.beyond;
      }

  pub goes-on : (files : Files) (xs ys : List PartTree) (before between after : Log) (old middle new : Joined) (r : Result Unit FrontFault) → (a : HasJoined root files depth path file xs before between old middle) →
      JoinsOn root a.all depth path file ys between after middle new r → JoinsOn root files depth path file (xs ++ ys) before after old new r
  goes-on files xs ys before between after old middle new (Ok u) a b = joined-on files xs ys before between after old middle new a b
  goes-on files xs ys before between after old middle new (Err f) a b = stops-on root files before a.all between after f a.read b

  -- a later part is ahead behind those before it
  pub part-ahead : (files : Files) (ps xs : List PartTree) (q : PartTree) (rest : List PartTree) (before between : Log) (old middle : Joined) → ps ≡ xs ++ q ∷ rest → IsAhead root files depth path ps →
      (a : HasJoined root files depth path file xs before between old middle) → IsAhead root a.all depth path (q ∷ [])
  part-ahead files ps xs q rest before between old middle e h a =
      ahead-front root a.all depth path q rest
      (ahead-behind root files a.all depth path file xs (q ∷ rest) a.parts a.beyond (subst (λ (x : List PartTree). IsAhead root files depth path x) e h) (reads-extend root files before a.all between a.read) a.joins)

  -- only the parts and the first include beyond the limits count of what was there before
  pub joined-from : (files : Files) (ps : List PartTree) (before after : Log) (old other new : Joined) (r : Result Unit FrontFault) → other.parts ≡ old.parts → other.beyond ≡ old.beyond →
      JoinsOn root files depth path file ps before after other new r → JoinsOn root files depth path file ps before after old new r
  joined-from files ps before after old other new (Ok u) e k a =
      record {
        all = a.all;
        parts = a.parts;
        beyond = a.beyond;
        read = a.read;
        joins = a.joins;
        paths = a.paths;
        whole = a.whole ∙ ap (λ (x : List Part). map part_of x ++ a.parts) e;
        first = a.first ∙ ap (λ (o : Option (List ℕ)). or_first o a.beyond) k;
      }
  joined-from files ps before after old other new (Err f) e k a = a

  -- One part

  one-part : (files : Files) (q : PartTree) (before : Log) (old new : Joined) (os : List PartTree) (beyond : List (List ℕ)) → Joins (IsFileIn files) depth path file (paths_of files) (q ∷ []) (paths_of files) os beyond →
      new.paths ≡ paths_of files → map part_of new.parts ≡ map part_of old.parts ++ os → new.beyond ≡ or_first old.beyond beyond → HasJoined root files depth path file (q ∷ []) before before old new
  one-part files q before old new os beyond j known whole first =
      record { all = files; parts = os; beyond = beyond; read = Reads.nothing; joins = j; paths = known; whole = whole; first = first }

  pub other-part : (files : Files) (q : PartTree) (before : Log) (old new : Joined) → is_include q ≡ false → old.paths ≡ paths_of files → new.paths ≡ old.paths → map part_of new.parts ≡ map part_of old.parts ++ part_in file q ∷ [] →
      new.beyond ≡ old.beyond → HasJoined root files depth path file (q ∷ []) before before old new
  other-part files (a_function f) before old new other known paths whole beyond =
      one-part files (a_function f) before old new (part_in file (a_function f) ∷ []) []
      (Joins.function depth path file (paths_of files) f [] (paths_of files) [] [] (Joins.end depth path file (paths_of files))) (paths ∙ known) whole (beyond ∙ or-none old.beyond)
  other-part files (a_statement s) before old new other known paths whole beyond =
      one-part files (a_statement s) before old new (part_in file (a_statement s) ∷ []) []
      (Joins.statement depth path file (paths_of files) s [] (paths_of files) [] [] (Joins.end depth path file (paths_of files))) (paths ∙ known) whole (beyond ∙ or-none old.beyond)
  other-part files (an_include i) before old new other known paths whole beyond = absurd cc

  pub include-again : (files : Files) (i : Include) (before : Log) (old : Joined) → old.paths ≡ paths_of files → was_read (path_from path i) old.paths ≡ true → HasJoined root files depth path file (an_include i ∷ []) before before old old
  include-again files i before old known was =
      one-part files (an_include i) before old old [] []
      (Joins.again depth path file (paths_of files) i [] (paths_of files) [] [] (subst (λ (x : List (List ℕ)). was_read (path_from path i) x ≡ true) known was) (Joins.end depth path file (paths_of files)))
      known (sym (append-nil (map part_of old.parts))) (or-none old.beyond)

  pub include-beyond : (files : Files) (i : Include) (before : Log) (old new : Joined) → old.paths ≡ paths_of files → was_read (path_from path i) old.paths ≡ false → (MayBeRead (depth + 1) old.paths → ⊥) → new.paths ≡ old.paths →
      new.parts ≡ old.parts → new.beyond ≡ or_first old.beyond (path_from path i ∷ []) → HasJoined root files depth path file (an_include i ∷ []) before before old new
  include-beyond files i before old new known was out paths parts beyond =
      one-part files (an_include i) before old new [] (path_from path i ∷ [])
      (Joins.beyond_limits depth path file (paths_of files) i [] (paths_of files) [] [] (subst (λ (x : List (List ℕ)). was_read (path_from path i) x ≡ false) known was)
      (subst (λ (x : List (List ℕ)). MayBeRead (depth + 1) x → ⊥) known out) (Joins.end depth path file (paths_of files)))
      (paths ∙ known) (ap (λ (x : List Part). map part_of x) parts ∙ sym (append-nil (map part_of old.parts))) beyond

  -- the file of an include with all below it
  pub include-joined : (files : Files) (i : Include) (tree : ScriptTree) (before between after : Log) (old new : Joined) → IsAhead root files depth path (an_include i ∷ []) → was_read (path_from path i) (paths_of files) ≡ false →
      MayBeRead (depth + 1) (paths_of files) → (w : WasParsed (path_from path i) tree before between) →
      HasJoined root (files ++ (path_from path i, w.text) ∷ []) (depth + 1) (path_from path i) (length (paths_of files)) tree.parts between after old new →
      HasJoined root files depth path file (an_include i ∷ []) before after old new
  include-joined files i tree before between after old new h new_path within w a =
      let next = path_from path i in
      let one : Files = files ++ (next, w.text) ∷ [] in
      let e : Extends one a.all = reads-extend root one between a.all after a.read in
      let is : IsNextBehind root files next = include-next root files depth path i h new_path within in
      let j = subst (λ (x : List (List ℕ)). Joins (IsFileIn a.all) (depth + 1) next (length (paths_of files)) x tree.parts (paths_of a.all) a.parts a.beyond) (paths-one files next w.text) a.joins in
      let k = Joins.included depth path file (paths_of files) i [] tree (paths_of a.all) (paths_of a.all) a.parts [] a.beyond [] new_path within w.asked.short
      (file-more one a.all e next tree (file-last files next w.text w.tokens tree new_path w.spelled)) j (Joins.end depth path file (paths_of a.all)) in
      let b = subst (λ (x : List PartTree). Joins (IsFileIn a.all) depth path file (paths_of files) (an_include i ∷ []) (paths_of a.all) x (a.beyond ++ [])) (append-nil a.parts) k in
      record {
        all = a.all;
        parts = a.parts;
        beyond = a.beyond;
        read = reads-on root files before one between a.all after (reads-one root files next tree before between is w) a.read;
        joins = subst (λ (x : List (List ℕ)). Joins (IsFileIn a.all) depth path file (paths_of files) (an_include i ∷ []) (paths_of a.all) a.parts x) (append-nil a.beyond) b;
        paths = a.paths;
        whole = a.whole;
        first = a.first;
      }

  pub include-goes : (files : Files) (i : Include) (tree : ScriptTree) (before between after : Log) (old new : Joined) (r : Result Unit FrontFault) → IsAhead root files depth path (an_include i ∷ []) →
      was_read (path_from path i) (paths_of files) ≡ false → MayBeRead (depth + 1) (paths_of files) → (w : WasParsed (path_from path i) tree before between) →
      JoinsOn root (files ++ (path_from path i, w.text) ∷ []) (depth + 1) (path_from path i) (length (paths_of files)) tree.parts between after old new r →
      JoinsOn root files depth path file (an_include i ∷ []) before after old new r
  include-goes files i tree before between after old new (Ok u) h new_path within w a = include-joined files i tree before between after old new h new_path within w a
  include-goes files i tree before between after old new (Err f) h new_path within w a =
      stops-on root files before (files ++ (path_from path i, w.text) ∷ []) between after f (reads-one root files (path_from path i) tree before between (include-next root files depth path i h new_path within) w) a

-- One part behind the other

module _ (depth : ℕ) (path : List ℕ) (file : ℕ) where
  -- want of memory before anything was read
  pub goes-nowhere : (ps : List PartTree) (log : Log) (old new : Joined) → GoesThrough depth path file ps log log old new (Err front.NoMemory)
  goes-nowhere ps log old new root files known ahead = Stops.no_memory files Reads.nothing

  pub first-none : (ps : List PartTree) (log : Log) (old : Joined) → GoesThroughFirst depth path file ps ps log log old old
  first-none ps log old root files known ahead = record { parts = []; split = refl; joined = joined-none root depth path file files log old known }

  pub first-one : (ps : List PartTree) (q : PartTree) (rest : List PartTree) (before between after : Log) (old middle new : Joined) → GoesThroughFirst depth path file ps (q ∷ rest) before between old middle →
      GoesThrough depth path file (q ∷ []) between after middle new (Ok tt) → GoesThroughFirst depth path file ps rest before after old new
  first-one ps q rest before between after old middle new h k root files known ahead =
      let a = h root files known ahead in
      let b : HasJoined root a.joined.all depth path file (q ∷ []) between after middle new =
      k root a.joined.all a.joined.paths (part-ahead root depth path file files ps a.parts q rest before between old middle a.split ahead a.joined) in
      record { parts = a.parts ++ q ∷ []; split = a.split ∙ sym (append_assoc a.parts (q ∷ []) rest); joined = joined-on root depth path file files a.parts (q ∷ []) before between after old middle new a.joined b }

  pub first-stop : (ps : List PartTree) (q : PartTree) (rest : List PartTree) (before between after : Log) (old middle new : Joined) (f : FrontFault) → GoesThroughFirst depth path file ps (q ∷ rest) before between old middle →
      GoesThrough depth path file (q ∷ []) between after middle new (Err f) → GoesThrough depth path file ps before after old new (Err f)
  first-stop ps q rest before between after old middle new f h k root files known ahead =
      let a = h root files known ahead in
      stops-on root files before a.joined.all between after f a.joined.read (k root a.joined.all a.joined.paths (part-ahead root depth path file files ps a.parts q rest before between old middle a.split ahead a.joined))

  pub first-all : (ps : List PartTree) (before after : Log) (old new : Joined) → GoesThroughFirst depth path file ps [] before after old new → GoesThrough depth path file ps before after old new (Ok tt)
  first-all ps before after old new h root files known ahead =
      let a = h root files known ahead in
      let same : a.parts ≡ ps = sym (append-nil a.parts) ∙ sym a.split in
      subst (λ (x : List PartTree). HasJoined root files depth path file x before after old new) same a.joined

  -- of an include
  pub goes-again : (i : Include) (log : Log) (old : Joined) → was_read (path_from path i) old.paths ≡ true → GoesThrough depth path file (an_include i ∷ []) log log old old (Ok tt)
  goes-again i log old was root files known ahead = include-again root depth path file files i log old known was

  pub goes-beyond : (i : Include) (log : Log) (old new : Joined) → was_read (path_from path i) old.paths ≡ false → (MayBeRead (depth + 1) old.paths → ⊥) → new.paths ≡ old.paths → new.parts ≡ old.parts →
      new.beyond ≡ or_first old.beyond (path_from path i ∷ []) → GoesThrough depth path file (an_include i ∷ []) log log old new (Ok tt)
  goes-beyond i log old new was out paths parts beyond root files known ahead = include-beyond root depth path file files i log old new known was out paths parts beyond

  -- of the file of an include, which isn't read whole
  pub goes-failing : (i : Include) (before after : Log) (old new : Joined) (f : FrontFault) → was_read (path_from path i) old.paths ≡ false → MayBeRead (depth + 1) old.paths → StopsAt (path_from path i) before after f →
      GoesThrough depth path file (an_include i ∷ []) before after old new (Err f)
  goes-failing i before after old new f was within h root files known ahead =
      h root files (include-next root files depth path i ahead (subst (λ (x : List (List ℕ)). was_read (path_from path i) x ≡ false) known was) (subst (λ (x : List (List ℕ)). MayBeRead (depth + 1) x) known within))

  -- and of one that is, with the parts in it
  pub goes-inside : (i : Include) (tree : ScriptTree) (before between after : Log) (old new : Joined) (r : Result Unit FrontFault) → was_read (path_from path i) old.paths ≡ false → MayBeRead (depth + 1) old.paths →
      WasParsed (path_from path i) tree before between →
      ((root : List ℕ) (files : Files) (text : List ℕ) → old.paths ≡ paths_of files → IsAhead root (files ++ (path_from path i, text) ∷ []) (depth + 1) (path_from path i) tree.parts →
      JoinsOn root (files ++ (path_from path i, text) ∷ []) (depth + 1) (path_from path i) (length old.paths) tree.parts between after old new r) →
      GoesThrough depth path file (an_include i ∷ []) before after old new r
  goes-inside i tree before between after old new r was within w h root files known ahead =
      let new_path = subst (λ (x : List (List ℕ)). was_read (path_from path i) x ≡ false) known was in
      let may = subst (λ (x : List (List ℕ)). MayBeRead (depth + 1) x) known within in
      let one : Files = files ++ (path_from path i, w.text) ∷ [] in
      include-goes root depth path file files i tree before between after old new r ahead new_path may w
      (subst (λ (x : List (List ℕ)). JoinsOn root one (depth + 1) (path_from path i) (length x) tree.parts between after old new r) known
      (h root files w.text known (include-ahead root files depth path i tree before between ahead new_path may w)))

  -- of another part
  pub goes-other : (q : PartTree) (log : Log) (old new : Joined) → is_include q ≡ false → new.paths ≡ old.paths → map part_of new.parts ≡ map part_of old.parts ++ part_in file q ∷ [] → new.beyond ≡ old.beyond →
      GoesThrough depth path file (q ∷ []) log log old new (Ok tt)
  goes-other q log old new other paths whole beyond root files known ahead = other-part root depth path file files q log old new other known paths whole beyond

-- Of the parts of a file, as code takes them off the end of a list, where the first stands last

module _ (depth : ℕ) (path : List ℕ) (file : ℕ) (ps : List PartTree) where
  pub step-first : (ys xs : List Part) (log : Log) (old : Joined) → xs ≡ reverse ys → ps ≡ map part_of ys → GoesThroughFirst depth path file ps (map part_of (reverse xs)) log log old old
  step-first ys xs log old is all =
      subst (λ (qs : List PartTree). GoesThroughFirst depth path file ps qs log log old old)
      (all ∙ sym (ap (λ (zs : List Part). map part_of (reverse zs)) is ∙ ap (map part_of) (reverse-reverse ys))) (first-none depth path file ps log old)

  last-part : (xs ys : List Part) (x : Part) → xs ≡ ys ++ x ∷ [] → map part_of (reverse xs) ≡ part_of x ∷ map part_of (reverse ys)
  last-part xs ys x is = ap (λ (zs : List Part). map part_of (reverse zs)) is ∙ ap (map part_of) (reverse-append ys (x ∷ []))

  pub step-joined : (xs ys : List Part) (x : Part) (before between after : Log) (old middle new : Joined) → xs ≡ ys ++ x ∷ [] →
      GoesThroughFirst depth path file ps (map part_of (reverse xs)) before between old middle → GoesThrough depth path file (part_of x ∷ []) between after middle new (Ok tt) →
      GoesThroughFirst depth path file ps (map part_of (reverse ys)) before after old new
  step-joined xs ys x before between after old middle new is a b =
      first-one depth path file ps (part_of x) (map part_of (reverse ys)) before between after old middle new
      (subst (λ (qs : List PartTree). GoesThroughFirst depth path file ps qs before between old middle) (last-part xs ys x is) a) b

  pub step-stopped : (xs ys : List Part) (x : Part) (before between after : Log) (old middle new : Joined) (f : FrontFault) → xs ≡ ys ++ x ∷ [] →
      GoesThroughFirst depth path file ps (map part_of (reverse xs)) before between old middle → GoesThrough depth path file (part_of x ∷ []) between after middle new (Err f) →
      GoesThrough depth path file ps before after old new (Err f)
  step-stopped xs ys x before between after old middle new f is a b =
      first-stop depth path file ps (part_of x) (map part_of (reverse ys)) before between after old middle new f
      (subst (λ (qs : List PartTree). GoesThroughFirst depth path file ps qs before between old middle) (last-part xs ys x is) a) b

  -- there was no part to take off the end
  pub step-last : (xs : List Part) (o : Option Part) (before after : Log) (old new : Joined) → IsSome o ↔ (0 < length xs) → o ≡ None → GoesThroughFirst depth path file ps (map part_of (reverse xs)) before after old new →
      GoesThrough depth path file ps before after old new (Ok tt)
  step-last [] o before after old new some none a = first-all depth path file ps before after old new a
  step-last (x ∷ xs) None before after old new some none a = let there = some.1 (omega arith) in absurd cc
  step-last (x ∷ xs) (Some y) before after old new some none a = absurd cc

-- The script itself

pub script-joins : (root : List ℕ) (tree : ScriptTree) (before between after : Log) (old new : Joined) (f : FrontFault) → WasParsed root tree before between →
    ((path : List ℕ) (files : Files) (text : List ℕ) → old.paths ≡ paths_of files → IsAhead path (files ++ (root, text) ∷ []) 0 root tree.parts →
    JoinsOn path (files ++ (root, text) ∷ []) 0 root (length old.paths) tree.parts between after old new (Err f)) → old.paths ≡ [] → Stops root [] before after f
script-joins root tree before between after old new f w h none =
    stops-on root [] before ((root, w.text) ∷ []) between after f (reads-one root [] root tree before between IsNext.script w) (h root [] w.text none (script-ahead root tree before between w))

pub script-whole : (root : List ℕ) (tree : ScriptTree) (line : ℕ) (before between after : Log) (old new : Joined) → line ≡ tree.at.line → WasParsed root tree before between →
    ((path : List ℕ) (files : Files) (text : List ℕ) → old.paths ≡ paths_of files → IsAhead path (files ++ (root, text) ∷ []) 0 root tree.parts →
    JoinsOn path (files ++ (root, text) ∷ []) 0 root (length old.paths) tree.parts between after old new (Ok tt)) → old.paths ≡ [] → old.parts ≡ [] → old.beyond ≡ None →
    IsWhole root before after new (record { file = 0; line = line })
script-whole root tree line before between after old new place w h none no_parts no_beyond =
    let one : Files = (root, w.text) ∷ [] in
    let a = h root [] w.text none (script-ahead root tree before between w) in
    let e : Extends one a.all = reads-extend root one between a.all after a.read in
    let j = subst (λ (x : List (List ℕ)). Joins (IsFileIn a.all) 0 root (length x) (root ∷ []) tree.parts (paths_of a.all) a.parts a.beyond) none a.joins in
    let whole : map part_of new.parts ≡ a.parts = a.whole ∙ ap (λ (x : List Part). map part_of x ++ a.parts) no_parts in
    record {
      files = a.all;
      tree = tree;
      beyond = a.beyond;
      read = reads-on root [] before one between a.all after (reads-one root [] root tree before between IsNext.script w) a.read;
      short = w.asked.short;
      file = file-more one a.all e root tree (file-last [] root w.text w.tokens tree refl w.spelled);
      at-is = ap (λ (n : ℕ). record { file = 0; line = n }) place;
      joins = subst (λ (x : List PartTree). Joins (IsFileIn a.all) 0 root 0 (root ∷ []) tree.parts (paths_of a.all) x a.beyond) (sym whole) j;
      paths = a.paths;
      first = a.first ∙ ap (λ (o : Option (List ℕ)). or_first o a.beyond) no_beyond;
    }

-- a script without an include stands as it is
pub script-alone : (root : List ℕ) (tree : ScriptTree) (before after : Log) (old new : Joined) → WasParsed root tree before after → holds_include tree ≡ false → old.paths ≡ [] → old.beyond ≡ None →
    new.paths ≡ old.paths ++ root ∷ [] → map part_of new.parts ≡ tree.parts → new.beyond ≡ old.beyond → IsWhole root before after new tree.at
script-alone root tree before after old new w alone none no_beyond paths parts beyond =
    let one : Files = (root, w.text) ∷ [] in
    record {
      files = one;
      tree = tree;
      beyond = [];
      read = reads-one root [] root tree before after IsNext.script w;
      short = w.asked.short;
      file = file-last [] root w.text w.tokens tree refl w.spelled;
      at-is = sym (at-same tree.at w.spelled.legal.shaped.0);
      joins = subst (λ (x : List PartTree). Joins (IsFileIn one) 0 root 0 (root ∷ []) tree.parts (root ∷ []) x []) (sym parts) (joined-alone (IsFileIn one) 0 root (root ∷ []) tree.parts w.spelled.legal.shaped.2 alone);
      paths = paths ∙ ap (λ (x : List (List ℕ)). x ++ root ∷ []) none;
      first = beyond ∙ no_beyond;
    }

-- want of memory may come behind its read
pub script-no-memory : (root : List ℕ) (tree : ScriptTree) (before after : Log) → WasParsed root tree before after → Stops root [] before after front.NoMemory
script-no-memory root tree before after w = Stops.no_memory ((root, w.text) ∷ []) (reads-one root [] root tree before after IsNext.script w)
