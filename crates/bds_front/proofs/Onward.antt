-- Wherever a job has come, it can't be that no step is next.
use Rattle.std.proofs.Common.{◌≡◌, ◌∙◌, ◌⊎◌, inl, inr, ℕ, ◌+◌, ◌<◌, ◌≤◌, Bool, true, false, List, [], ◌∷◌, ◌++◌, length}
use Rattle.std.proofs.Common.{Result, Ok, Err, sym, ap, refl, subst, arith}
use Rattle.std.proofs.lemmas.Bool.{cases_lt}
use Rattle.bds_value.specs.declared.TheConstants.{MAX_FILES, MAX_INCLUDES, MAX_TEXT}
use Rattle.bds_host.specs.declared.asks.Ask.{Ask}
use Rattle.bds_host.specs.declared.asks.Ask.TheVariants.{Read}
use Rattle.bds_host.specs.declared.asks.Reply.{Reply}
use Rattle.bds_host.specs.declared.asks.Reply.TheVariants as reply
use Rattle.bds_host.specs.declared.faults.Fault.{Fault}
use Rattle.bds_host.specs.declared.faults.Fault.TheVariants as fault
use Rattle.bds_host.specs.Host.{Log}
use Rattle.bds_tree.specs.declared.stmt.Include.{Include}
use Rattle.bds_tree.specs.StmtTree.{PartTree, ScriptTree, a_function, an_include, a_statement}
use Rattle.bds_check_typing.specs.Files.{Joins, MayBeRead, path_from, was_read}
use Rattle.bds_check_typing.specs.Numbered.{in_file, part_in}
use Rattle.bds_check_typing.specs.Texts.{IsShort}
use Rattle.bds_meaning.specs.Begin.{Job, JobEnd, refused, ran, Stage, Reading, Refusing, Faulting, Running, AtEnd}
use Rattle.bds_meaning.specs.Begin.{Steps, read_gives, opens_if, or_faulting}
use Rattle.bds_meaning.specs.Files.{Files, paths_of, IsFileIn, Passes, Awaits, IsNext}
use Rattle.bds_meaning.specs.Refusals.{Preset, Accepted, accepted}
use Rattle.bds_meaning.specs.Run.{Program, Conf, source_move}
use Rattle.bds_schedule.specs.Stages.{End}
use Rattle.bds_schedule.specs.Steps.{Step, Goes, Asks, Ends, Leads}
use Rattle.bds_front.specs.Unique.{IsSpelled, IsFlawed, IsFlawedUnlessSpelled, TellsFlaws, IsNeverStuck}
use Rattle.bds_front.proofs.Files.{extends-one, file-last, file-more, paths-one}

-- Parts

may_be : (depth : ℕ) (read : List (List ℕ)) → MayBeRead depth read ⊎ (MayBeRead depth read → ⊥)
may_be depth read = by (cases_lt MAX_INCLUDES depth) (cases_lt (length read) MAX_FILES)
  where
    by : (MAX_INCLUDES < depth) ⊎ (depth ≤ MAX_INCLUDES) → (length read < MAX_FILES) ⊎ (MAX_FILES ≤ length read)
        → MayBeRead depth read ⊎ (MayBeRead depth read → ⊥)
    by (inl deep) few = inr (λ h. let nested = h.nested in absurd (omega arith))
    by (inr nested) (inl few) = inl (record { nested = nested; few = few })
    by (inr nested) (inr many) = inr (λ h. let less = h.few in absurd (omega arith))

module _ (F : List ℕ → ScriptTree → Type 0) where
  -- a file is awaited in parts behind these files, or the parts are passed
  abbrev Ahead : ℕ → List ℕ → List (List ℕ) → List PartTree → List (List ℕ) → Type 0
  Ahead depth path read ps behind =
      ((next : List ℕ) × Awaits F depth path read ps behind next) ⊎ Passes F depth path read ps behind

  joined : (depth : ℕ) (path : List ℕ) (read : List (List ℕ)) (p : PartTree) (ps : List PartTree)
      (between behind : List (List ℕ)) →
      Passes F depth path read (p ∷ []) between → Passes F depth path between ps behind
      → Passes F depth path read (p ∷ ps) behind
  joined depth path read p ps between behind (Passes.other _ _ _ _ _ _ other (Passes.end _ _ _)) k =
      Passes.other depth path read p ps behind other k
  joined depth path read p ps between behind (Passes.again _ _ _ i _ _ was (Passes.end _ _ _)) k =
      Passes.again depth path read i ps behind was k
  joined depth path read p ps between behind
      (Passes.included _ _ _ i _ tree _ _ new within short is inner (Passes.end _ _ _)) k =
      Passes.included depth path read i ps tree between behind new within short is inner k
  joined depth path read p ps between behind (Passes.beyond_limits _ _ _ i _ _ new out (Passes.end _ _ _)) k =
      Passes.beyond_limits depth path read i ps behind new out k

  -- behind a part that was passed
  ahead_behind : (depth : ℕ) (path : List ℕ) (read : List (List ℕ)) (p : PartTree) (ps : List PartTree)
      (between behind : List (List ℕ)) →
      Passes F depth path read (p ∷ []) between → Ahead depth path between ps behind
      → Ahead depth path read (p ∷ ps) behind
  ahead_behind depth path read p ps between behind passes (inl w) =
      inl (w.0, Awaits.behind_part depth path read p ps between behind w.0 passes w.1)
  ahead_behind depth path read p ps between behind passes (inr k) =
      inr (joined depth path read p ps between behind passes k)

  -- where no further file was read
  ahead : (depth : ℕ) (path : List ℕ) (read : List (List ℕ)) (ps : List PartTree) → Ahead depth path read ps read
  ahead depth path read [] = inr (Passes.end depth path read)
  ahead depth path read (a_function f ∷ ps) =
      ahead_behind depth path read (a_function f) ps read read
      (Passes.other depth path read (a_function f) [] read refl (Passes.end depth path read))
      (ahead depth path read ps)
  ahead depth path read (a_statement s ∷ ps) =
      ahead_behind depth path read (a_statement s) ps read read
      (Passes.other depth path read (a_statement s) [] read refl (Passes.end depth path read))
      (ahead depth path read ps)
  ahead depth path read (an_include i ∷ ps) =
      by (was_read (path_from path i) read) refl (may_be (depth + 1) read) (ahead depth path read ps)
    where
      by : (b : Bool) → was_read (path_from path i) read ≡ b
          → MayBeRead (depth + 1) read ⊎ (MayBeRead (depth + 1) read → ⊥) → Ahead depth path read ps read
          → Ahead depth path read (an_include i ∷ ps) read
      by true was may rest =
          ahead_behind depth path read (an_include i) ps read read
          (Passes.again depth path read i [] read was (Passes.end depth path read)) rest
      by false new (inl within) rest = inl (path_from path i, Awaits.here depth path read i ps new within)
      by false new (inr out) rest =
          ahead_behind depth path read (an_include i) ps read read
          (Passes.beyond_limits depth path read i [] read new out (Passes.end depth path read)) rest

  -- what is passed is joined
  joins : (depth : ℕ) (path : List ℕ) (file : ℕ) (read : List (List ℕ)) (ps : List PartTree)
      (behind : List (List ℕ)) → Passes F depth path read ps behind
      → (qs : List PartTree) × ((far : List (List ℕ)) × Joins F depth path file read ps behind qs far)
  joins depth path file read ps behind (Passes.end _ _ _) = ([], ([], Joins.end depth path file read))
  joins depth path file read _ behind (Passes.other _ _ _ (a_function f) ps _ other k) =
      let j = joins depth path file read ps behind k in
      (part_in file (a_function f) ∷ j.0, (j.1.0, Joins.function depth path file read f ps behind j.0 j.1.0 j.1.1))
  joins depth path file read _ behind (Passes.other _ _ _ (a_statement s) ps _ other k) =
      let j = joins depth path file read ps behind k in
      (part_in file (a_statement s) ∷ j.0, (j.1.0, Joins.statement depth path file read s ps behind j.0 j.1.0 j.1.1))
  joins depth path file read _ behind (Passes.other _ _ _ (an_include i) ps _ other k) = absurd (cc other)
  joins depth path file read _ behind (Passes.again _ _ _ i ps _ was k) =
      let j = joins depth path file read ps behind k in
      (j.0, (j.1.0, Joins.again depth path file read i ps behind j.0 j.1.0 was j.1.1))
  joins depth path file read _ behind (Passes.included _ _ _ i ps tree between _ new within short is inner k) =
      let a =
      joins (depth + 1) (path_from path i) (length read) (read ++ path_from path i ∷ []) tree.parts between
      inner in
      let b = joins depth path file between ps behind k in (
        a.0 ++ b.0,
        (
          a.1.0 ++ b.1.0,
          Joins.included depth path file read i ps tree between behind a.0 b.0 a.1.0 b.1.0 new
              within short is a.1.1 b.1.1,
        ),
      )
  joins depth path file read _ behind (Passes.beyond_limits _ _ _ i ps _ new out k) =
      let j = joins depth path file read ps behind k in
      (j.0, (path_from path i ∷ j.1.0, Joins.beyond_limits depth path file read i ps behind j.0 j.1.0 new out j.1.1))

  -- an awaited file wasn't read
  awaits_new : (depth : ℕ) (path : List ℕ) (read : List (List ℕ)) (ps : List PartTree) (behind : List (List ℕ))
      (next : List ℕ) → Awaits F depth path read ps behind next → was_read next behind ≡ false
  awaits_new depth path read _ _ _ (Awaits.here _ _ _ i ps new within) = new
  awaits_new depth path read _ behind next (Awaits.inside _ _ _ i ps tree _ _ new within short is w) =
      awaits_new (depth + 1) (path_from path i) (read ++ path_from path i ∷ []) tree.parts behind next w
  awaits_new depth path read _ behind next (Awaits.behind_part _ _ _ p ps between _ _ passes w) =
      awaits_new depth path between ps behind next w

module _ (F G : List ℕ → ScriptTree → Type 0) (more : (p : List ℕ) (tree : ScriptTree) → F p tree → G p tree) where
  passes_more : (depth : ℕ) (path : List ℕ) (read : List (List ℕ)) (ps : List PartTree) (behind : List (List ℕ))
      → Passes F depth path read ps behind → Passes G depth path read ps behind
  passes_more depth path read _ _ (Passes.end _ _ _) = Passes.end depth path read
  passes_more depth path read _ behind (Passes.other _ _ _ p ps _ other k) =
      Passes.other depth path read p ps behind other (passes_more depth path read ps behind k)
  passes_more depth path read _ behind (Passes.again _ _ _ i ps _ was k) =
      Passes.again depth path read i ps behind was (passes_more depth path read ps behind k)
  passes_more depth path read _ behind (Passes.included _ _ _ i ps tree between _ new within short is inner k) =
      Passes.included depth path read i ps tree between behind new within short (more (path_from path i) tree is)
      (passes_more (depth + 1) (path_from path i) (read ++ path_from path i ∷ []) tree.parts between inner)
      (passes_more depth path between ps behind k)
  passes_more depth path read _ behind (Passes.beyond_limits _ _ _ i ps _ new out k) =
      Passes.beyond_limits depth path read i ps behind new out (passes_more depth path read ps behind k)

  -- the awaited file is read, and spells a script
  module _ (next : List ℕ) (script : ScriptTree) (is_file : G next script) (short : IsShort next) where
    -- an include whose file was read, with all behind it
    included : (depth : ℕ) (path : List ℕ) (read : List (List ℕ)) (i : Include) (ps : List PartTree)
        (tree : ScriptTree) (behind : List (List ℕ)) →
        was_read (path_from path i) read ≡ false → MayBeRead (depth + 1) read → IsShort (path_from path i)
        → G (path_from path i) tree →
        Ahead G (depth + 1) (path_from path i) (read ++ path_from path i ∷ []) tree.parts behind
        → Ahead G depth path read (an_include i ∷ ps) behind
    included depth path read i ps tree behind new within fits is (inl w) =
        inl (w.0, Awaits.inside depth path read i ps tree behind w.0 new within fits is w.1)
    included depth path read i ps tree behind new within fits is (inr k) =
        ahead_behind G depth path read (an_include i) ps behind behind
        (Passes.included depth path read i [] tree behind behind new within fits is k
        (Passes.end depth path behind)) (ahead G depth path behind ps)

    awaits_on : (depth : ℕ) (path : List ℕ) (read : List (List ℕ)) (ps : List PartTree) (behind : List (List ℕ))
        (n : List ℕ) → Awaits F depth path read ps behind n → n ≡ next
        → Ahead G depth path read ps (behind ++ next ∷ [])
    awaits_on depth path read _ _ _ (Awaits.here _ _ _ i ps new within) same =
        subst (λ n. Ahead G depth path read (an_include i ∷ ps) (read ++ n ∷ [])) same
        (included depth path read i ps script (read ++ path_from path i ∷ []) new within
        (subst IsShort (sym same) short) (subst (λ n. G n script) (sym same) is_file)
        (ahead G (depth + 1) (path_from path i) (read ++ path_from path i ∷ []) script.parts))
    awaits_on depth path read _ behind n (Awaits.inside _ _ _ i ps tree _ _ new within fits is w) same =
        included depth path read i ps tree (behind ++ next ∷ []) new within fits (more (path_from path i) tree is)
        (awaits_on (depth + 1) (path_from path i) (read ++ path_from path i ∷ []) tree.parts behind n w same)
    awaits_on depth path read _ behind n (Awaits.behind_part _ _ _ p ps between _ _ passes w) same =
        ahead_behind G depth path read p ps between (behind ++ next ∷ [])
        (passes_more depth path read (p ∷ []) between passes) (awaits_on depth path between ps behind n w same)

-- Stages

module _ (job : Job) (words : ScriptTree → Result Preset Fault) (size : ScriptTree → Preset → ℕ) where
  abbrev Next : Stage → Type 0
  Next stage = (s : Step Stage JobEnd) × Steps job words size stage s

  next_file : (files : Files) (next : List ℕ) → IsNext (IsFileIn files) job.path (paths_of files) next
      → Next (Reading files)
  next_file files next is = by (cases_lt MAX_TEXT (length next))
    where
      by : (MAX_TEXT < length next) ⊎ (length next ≤ MAX_TEXT) → Next (Reading files)
      by (inl long) = (Goes (Refusing (fault.TooLong next)), Steps.long_path files next is long)
      by (inr short) = (Asks (Read next) (read_gives files next), Steps.reads files next is short)

  -- where the parts of the script are passed with these files, or one is awaited
  next_in : (files : Files) (tree : ScriptTree) → IsShort job.path → IsFileIn files job.path tree
      → Ahead (IsFileIn files) 0 job.path (job.path ∷ []) tree.parts (paths_of files) → Next (Reading files)
  next_in files tree short is (inl w) = next_file files w.0 (IsNext.include tree (paths_of files) w.0 is w.1)
  next_in files tree short is (inr k) =
      let j = joins (IsFileIn files) 0 job.path 0 (job.path ∷ []) tree.parts (paths_of files) k in
      let program : ScriptTree = record { at = in_file 0 tree.at; files = paths_of files; parts = j.0 } in (
        _,
        Steps.whole files program j.1.0
            (record { short = short; tree = tree; file = is; at = refl; joined = j.1.1 }) refl,
      )

  -- the newest of these files was next, and has been read
  record WasRead (files : Files) : Type 0 where
    front : Files
    path : List ℕ
    text : List ℕ
    is : files ≡ front ++ (path, text) ∷ []
    awaited : IsNext (IsFileIn front) job.path (paths_of front) path
    short : IsShort path

  spelled_on : (front : Files) (path text : List ℕ) → IsShort job.path
      → IsNext (IsFileIn front) job.path (paths_of front) path → IsShort path → IsSpelled text
      → Next (Reading (front ++ (path, text) ∷ []))
  spelled_on front path text own next short spelled = by (paths_of front) path refl refl next
    where
      by : (read : List (List ℕ)) (n : List ℕ) → read ≡ paths_of front → n ≡ path
          → IsNext (IsFileIn front) job.path read n → Next (Reading (front ++ (path, text) ∷ []))
      by _ _ none same IsNext.script =
          let new : was_read path (paths_of front) ≡ false = ap (was_read path) (sym none) in
          let file : IsFileIn (front ++ (path, text) ∷ []) path spelled.1 =
          file-last front path text spelled.0 spelled.1 new spelled.2 in
          let here : paths_of (front ++ (path, text) ∷ []) ≡ job.path ∷ [] =
          paths-one front path text ∙ ap (λ l. l ++ path ∷ []) (sym none) ∙ ap (λ n. n ∷ []) (sym same) in
          next_in (front ++ (path, text) ∷ []) spelled.1 own
          (subst (λ n. IsFileIn (front ++ (path, text) ∷ []) n spelled.1) (sym same) file)
          (subst (λ l. Ahead (IsFileIn (front ++ (path, text) ∷ [])) 0 job.path (job.path ∷ []) spelled.1.parts l)
          (sym here)
          (ahead (IsFileIn (front ++ (path, text) ∷ [])) 0 job.path (job.path ∷ []) spelled.1.parts))
      by read n are same (IsNext.include tree _ _ is w) =
          let unread : was_read path (paths_of front) ≡ false =
          subst (λ l. was_read path l ≡ false) are
          (subst (λ m. was_read m read ≡ false) same
          (awaits_new (IsFileIn front) 0 job.path (job.path ∷ []) tree.parts read n w)) in
          let file : IsFileIn (front ++ (path, text) ∷ []) path spelled.1 =
          file-last front path text spelled.0 spelled.1 unread spelled.2 in
          let more = file-more front (front ++ (path, text) ∷ []) (extends-one front path text) in
          let here : read ++ path ∷ [] ≡ paths_of (front ++ (path, text) ∷ []) =
          ap (λ l. l ++ path ∷ []) are ∙ sym (paths-one front path text) in
          next_in (front ++ (path, text) ∷ []) tree own (more job.path tree is)
          (subst (λ l. Ahead (IsFileIn (front ++ (path, text) ∷ [])) 0 job.path (job.path ∷ []) tree.parts l) here
          (awaits_on (IsFileIn front) (IsFileIn (front ++ (path, text) ∷ [])) more path spelled.1 file short 0
          job.path (job.path ∷ []) tree.parts read n w same))

  -- how a job has come to where it reads: the path of its script is short, and the newest file was next
  record HasRead (files : Files) : Type 0 where
    own : IsShort job.path
    newest : WasRead files

  abbrev IsRead : Stage → Type 0
  IsRead (Reading files) = (files ≡ []) ⊎ HasRead files
  IsRead _ = Unit {0}

  opened_read : (r : Result Accepted Fault) → IsRead (opens_if job r)
  opened_read (Ok r) = tt
  opened_read (Err f) = tt

  goes_read : (s t : Stage) → Steps job words size s (Goes t) → IsRead t
  goes_read _ _ (Steps.long_path files next is long) = tt
  goes_read _ _ (Steps.flawed files path text flaw f has told) = tt
  goes_read _ _ (Steps.whole files program beyond made same) = opened_read (accepted job.path words size program beyond)
  goes_read _ _ (Steps.run_goes program c d moves) = tt
  goes_read _ _ (Steps.run_ends program c end moves) = tt

  -- the first file is the script
  own_short : (files : Files) (read : List (List ℕ)) (next : List ℕ) → IsNext (IsFileIn files) job.path read next
      → read ≡ paths_of files → IsShort next → (files ≡ []) ⊎ HasRead files → IsShort job.path
  own_short files _ _ IsNext.script are short so = short
  own_short files read next (IsNext.include tree _ _ is w) are short (inl none) = absurd (no_file files is none)
    where
      no_file : (files : Files) → IsFileIn files job.path tree → files ≡ [] → ⊥
      no_file [] file none = let read = file.read in absurd (cc read)
      no_file (f ∷ files) file none = absurd (cc none)
  own_short files read next (IsNext.include tree _ _ is w) are short (inr has) = has.own

  read_on : (files : Files) (next : List ℕ) → IsNext (IsFileIn files) job.path (paths_of files) next
      → length next ≤ MAX_TEXT → (files ≡ []) ⊎ HasRead files → (r : Reply) → IsRead (read_gives files next r)
  read_on files next is short so (reply.Bytes text) =
      inr
      (record {
        own = own_short files (paths_of files) next is refl short so;
        newest = record
            { front = files; path = next; text = text; is = refl; awaited = is; short = short };
      })
  read_on files next is short so reply.Missing = tt
  read_on files next is short so (reply.Stamp there bytes time) = tt
  read_on files next is short so reply.Done = tt
  read_on files next is short so (reply.SysDone code out) = tt
  read_on files next is short so reply.Started = tt
  read_on files next is short so (reply.Run k) = tt
  read_on files next is short so (reply.Ended task code) = tt
  read_on files next is short so reply.Fault = tt
  read_on files next is short so reply.NoRoom = tt

  told_read : (r : Reply) → IsRead (or_faulting (AtEnd refused) r)
  told_read (reply.Bytes text) = tt
  told_read reply.Missing = tt
  told_read (reply.Stamp there bytes time) = tt
  told_read reply.Done = tt
  told_read (reply.SysDone code out) = tt
  told_read reply.Started = tt
  told_read (reply.Run k) = tt
  told_read (reply.Ended task code) = tt
  told_read reply.Fault = tt
  told_read reply.NoRoom = tt

  asks_read : (s : Stage) (ask : Ask) (next : Reply → Stage) (r : Reply) → Steps job words size s (Asks ask next)
      → IsRead s → IsRead (next r)
  asks_read _ _ _ r (Steps.reads files next is short) so = read_on files next is short so r
  asks_read _ _ _ r (Steps.run_asks program c ask next moves) so = tt
  asks_read _ _ _ r (Steps.refuses f) so = told_read r
  asks_read _ _ _ r Steps.faults so = tt

  is_read : (before after : Log) (s : Stage) → Leads (Steps job words size) (Reading []) before s after → IsRead s
  is_read before _ _ Leads.here = inl refl
  is_read before _ _ (Leads.goes s t log leads step) = goes_read s t step
  is_read before _ _ (Leads.asks s log after ask next r leads step answered) =
      asks_read s ask next r step (is_read before log s leads)

  run_next : (program : Program) (c : Conf) (m : Step Conf End) → source_move program [] c ≡ m
      → Next (Running program c)
  run_next program c (Goes d) is = (Goes (Running program d), Steps.run_goes program c d ([], is))
  run_next program c (Asks ask next) is =
      (Asks ask (λ r. Running program (next r)), Steps.run_asks program c ask next ([], is))
  run_next program c (Ends end) is = (Goes (AtEnd (ran end)), Steps.run_ends program c end ([], is))

  module _ (unless_spelled : IsFlawedUnlessSpelled) (tells : TellsFlaws) where
    flawed_next : (front : Files) (path text : List ℕ) → IsFlawed text → Next (Reading (front ++ (path, text) ∷ []))
    flawed_next front path text flawed =
        let told = tells path text flawed.0 flawed.1 in
        (Goes (Refusing told.0), Steps.flawed front path text flawed.0 told.0 flawed.1 told.1)

    -- a text can't have neither a flaw nor a script
    one_of_both : (front : Files) (path text : List ℕ) → IsShort job.path
        → IsNext (IsFileIn front) job.path (paths_of front) path → IsShort path
        → (Next (Reading (front ++ (path, text) ∷ [])) → ⊥) → ⊥
    one_of_both front path text own next short none =
        none
        (flawed_next front path text
        ((unless_spelled text).1 (λ spelled. none (spelled_on front path text own next short spelled))))

    reading_on : (files : Files) → (files ≡ []) ⊎ HasRead files → (Next (Reading files) → ⊥) → ⊥
    reading_on files (inl none) stuck =
        stuck (subst (λ fs. Next (Reading fs)) (sym none) (next_file [] job.path IsNext.script))
    reading_on files (inr has) stuck =
        let n = has.newest in
        one_of_both n.front n.path n.text has.own n.awaited n.short
        (λ w. stuck (subst (λ fs. Next (Reading fs)) (sym n.is) w))

    stage_on : (stage : Stage) → IsRead stage → (Next stage → ⊥) → ⊥
    stage_on (Reading files) so stuck = reading_on files so stuck
    stage_on (Refusing f) so stuck = stuck (_, Steps.refuses f)
    stage_on Faulting so stuck = stuck (_, Steps.faults)
    stage_on (Running program c) so stuck = stuck (run_next program c (source_move program [] c) refl)
    stage_on (AtEnd end) so stuck = stuck (Ends end, Steps.comes end)

pub never_stuck : IsFlawedUnlessSpelled → TellsFlaws → IsNeverStuck
never_stuck unless_spelled tells job words size before after stage leads none =
    stage_on job words size unless_spelled tells stage (is_read job words size before after stage leads)
    (λ w. none w.0 w.1)
