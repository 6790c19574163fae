-- The job of the script that is made: it is read, and opens, and no stage of it is another.
use Rattle.std.proofs.Common.{◌≡◌, ◌≤◌, ◌⊎◌, inl, inr, ℕ, zero, suc, ◌+◌, true, List, [], ◌∷◌, ◌++◌, length, Option}
use Rattle.std.proofs.Common.{Some, None, Result, Ok, refl, sym, ap, ◌∙◌, subst, if◌then◌else◌}
use Rattle.std.specs.Prelude.{⊤, option_map}
use Rattle.std.specs.Str.{bytes_eq}
use Rattle.std.proofs.lemmas.Bool.{le-leb}
use Rattle.std.proofs.lemmas.List.Elements.{All-pop}
use Rattle.bds_value.specs.declared.TheConstants.{MAX_TEXT, MAX_CODE}
use Rattle.bds_value.specs.Results.{◌>>=◌}
use Rattle.bds_host.specs.declared.asks.Ask.{Ask}
use Rattle.bds_host.specs.declared.asks.Ask.TheVariants as ask
use Rattle.bds_host.specs.declared.asks.Reply.{Reply}
use Rattle.bds_host.specs.declared.faults.Fault.{Fault}
use Rattle.bds_host.specs.declared.faults.Fault.TheVariants as fault
use Rattle.bds_host.specs.Host.{Log}
use Rattle.bds_tree.specs.StmtTree.{ScriptTree}
use Rattle.bds_check_typing.specs.Files.{Joins, IsProgramOf}
use Rattle.bds_check_typing.specs.Program.{typed}
use Rattle.bds_check_typing.specs.Walk.{Broken}
use Rattle.bds_schedule.specs.Determined.{IsSameAsk}
use Rattle.bds_schedule.specs.Stages.{End}
use Rattle.bds_schedule.specs.Steps.{Step, Goes, Asks, Ends, Leads}
use Rattle.bds_meaning.specs.Begin.{Job, JobEnd, ran, refused, Stage, Reading, Refusing, Faulting, Running, AtEnd}
use Rattle.bds_meaning.specs.Begin.{Steps, read_gives, opens, opens_if}
use Rattle.bds_meaning.specs.Files.{Files, IsFileIn, IsNext}
use Rattle.bds_meaning.specs.Refusals.{Preset, Accepted, accepted, unless, broken_fault, too_big}
use Rattle.bds_meaning.specs.Run.{Program, Conf}
use Rattle.bds_front.specs.Unique.{HasOneStep, IsSameStage, IsSameJobStep, same, other_line}
use Rattle.bds_tools.specs.Made.{AllMade, made_reply}
use Rattle.bds_tools.specs.Make.{make_text}
use Rattle.bds_made.specs.Straight.{AreStraight}
use Rattle.bds_made.proofs.Idle.{IsSpent}
use Rattle.bds_made.proofs.Straight.{stays_straight}
use Rattle.bds_made.proofs.Opened.{opens_straight}
use Rattle.bds_made.proofs.Script.{bare, judged, tasks_parts, made_tree}
use Rattle.bds_made.proofs.Spelling.{made_spells}
use Rattle.bds_made.proofs.Settling.{made_tokens}
use Rattle.bds_made.proofs.Typing.{made_is_accepted, made_is_typed}

-- The program

tasks_join : (IsFile : List ℕ → ScriptTree → Type 0) (path : List ℕ) (k i l : ℕ)
    → Joins IsFile 0 path 0 (path ∷ []) (tasks_parts bare k i l) (path ∷ []) (tasks_parts bare k i l) []
tasks_join IsFile path zero i l =
    Joins.statement _ _ _ _ _ _ _ _ _ (Joins.statement _ _ _ _ _ _ _ _ _ (Joins.statement _ _ _ _ _ _ _ _ _
    (Joins.end _ _ _ _)))
tasks_join IsFile path (suc k) i l =
    Joins.statement _ _ _ _ _ _ _ _ _ (Joins.statement _ _ _ _ _ _ _ _ _
    (tasks_join IsFile path k (i + 1) ((l + 1) + 1)))

-- where its text alone was read
abbrev read_of : List ℕ → ℕ → Files
read_of path n = (path, make_text n) ∷ []

abbrev pub none_set : Preset
none_set = record { settings = []; args = [] }

module _ (path : List ℕ) (short : length path ≤ MAX_TEXT) (same_path : bytes_eq path path ≡ true) (n : ℕ)
    (small : n ≤ 10000) where
  is_file : IsFileIn (read_of path n) path (made_tree bare [] n)
  is_file = record {
    text = make_text n;
    tokens = made_tokens n;
    read = ap (λ b. if b then Some (make_text n) else None) same_path;
    spelled = made_spells n small;
  }

  is_program : IsProgramOf (IsFileIn (read_of path n)) path (made_tree bare (path ∷ []) n) []
  is_program = record {
    short = short;
    tree = made_tree bare [] n;
    file = is_file;
    at = refl;
    joined = Joins.statement _ _ _ _ _ _ _ _ _ (tasks_join (IsFileIn (read_of path n)) path n 0 2);
  }

  module _ (words : ScriptTree → Result Preset Fault) (size : ScriptTree → Preset → ℕ)
      (none : (s : ScriptTree) → words s ≡ Ok none_set)
      (fits : size (made_tree judged (path ∷ []) n) none_set ≤ MAX_CODE) where
    abbrev tree : ScriptTree
    tree = made_tree bare (path ∷ []) n

    abbrev typed_tree : ScriptTree
    typed_tree = made_tree judged (path ∷ []) n

    not_big : too_big path words size typed_tree none_set ≡ None
    not_big =
        ap (λ b. if b then None else Some (fault.TooBig path)) (le-leb (size typed_tree none_set) MAX_CODE fits)

    is_accepted : accepted path words size tree [] ≡ Ok (record { script = typed_tree; preset = none_set })
    is_accepted =
        ap (λ (b : Option Broken). rest (unless (option_map (broken_fault (path ∷ [])) b) (Ok (typed tree))))
        (made_is_accepted (path ∷ []) n)
        ∙ ap (λ s. rest (Ok s)) (made_is_typed (path ∷ []) n)
        ∙ ap (λ (p : Result Preset Fault). p >>= λ preset. unless (too_big path words size typed_tree preset)
        (Ok (record { script = typed_tree; preset = preset }))) (none typed_tree)
        ∙ ap (λ b. unless b (Ok (record { script = typed_tree; preset = none_set }))) not_big
      where
        rest : Result ScriptTree Fault → Result Accepted Fault
        rest r =
            r >>= λ script.
            words script >>= λ preset.
            unless (too_big path words size script preset) (Ok (record { script = script; preset = preset }))

    -- Stages

    module _ (cpus budget : ℕ) where
      abbrev pub job : Job
      job = record { path = path; cpus = cpus; budget = budget }

      -- how far the job may be
      abbrev Good : Stage → Type 0
      Good (Reading files) = (files ≡ []) ⊎ (files ≡ read_of path n)
      Good (Running program c) = AreStraight c
      Good (AtEnd (ran end)) = IsSpent end → ⊥
      Good _ = ⊥

      abbrev GoodBehind : Step Stage JobEnd → Type 0
      GoodBehind (Goes s) = Good s
      GoodBehind (Asks a next) = (r : Reply) → r ≡ made_reply (make_text n) a → Good (next r)
      GoodBehind (Ends end) = ⊤

      run_good : (program : Program) (c : Conf) (s : Step Stage JobEnd)
          → Steps job words size (Running program c) s → AreStraight c → GoodBehind s
      run_good program c _ (Steps.run_goes _ _ d m) straight = stays_straight program c (Goes d) m straight
      run_good program c _ (Steps.run_asks _ _ a next m) straight =
          λ r made. stays_straight program c (Asks a next) m straight r
      run_good program c _ (Steps.run_ends _ _ end m) straight = stays_straight program c (Ends end) m straight

      end_good : (end : JobEnd) (s : Step Stage JobEnd) → Steps job words size (AtEnd end) s → GoodBehind s
      end_good end _ (Steps.comes _) = tt

      is_read : (a : Ask) → IsSameAsk a (ask.Read path) → a ≡ ask.Read path
      is_read (ask.Read p) e = e
      is_read (ask.Stamp p) e = e
      is_read (ask.Write p t) e = e
      is_read (ask.Remove p) e = e
      is_read (ask.Out t) e = e
      is_read (ask.Err t) e = e
      is_read (ask.Sys t) e = e
      is_read (ask.Start k i t) e = e
      is_read (ask.Next ks ns) e = e
      is_read (ask.Save p t) e = e

      abbrev opens_at : Stage
      opens_at = opens job (record { script = typed_tree; preset = none_set })

      reads_first : Steps job words size (Reading []) (Asks (ask.Read path) (read_gives [] path))
      reads_first = Steps.reads [] path IsNext.script short

      opens_next : Steps job words size (Reading (read_of path n)) (Goes opens_at)
      opens_next =
          subst (λ r. Steps job words size (Reading (read_of path n)) (Goes (opens_if job r))) is_accepted
          (Steps.whole (read_of path n) tree [] is_program refl)

      same_good : (s t : Stage) → IsSameStage s t → Good t → Good s
      same_good _ _ (same s) h = h
      same_good _ _ (other_line p k l) h = absurd h

      first_good : (s : Step Stage JobEnd) → IsSameJobStep s (Asks (ask.Read path) (read_gives [] path)) → GoodBehind s
      first_good (Goes t) e = absurd e
      first_good (Asks a next) e =
          λ r made. subst Good (sym (e.1 r
          ∙ ap (read_gives [] path) (made ∙ ap (made_reply (make_text n)) (is_read a e.0)))) (inr refl)
      first_good (Ends end) e = absurd e

      next_good : (s : Step Stage JobEnd) → IsSameJobStep s (Goes opens_at) → GoodBehind s
      next_good (Goes t) e = same_good t opens_at e (opens_straight path cpus budget (path ∷ []) n)
      next_good (Asks a next) e = absurd e
      next_good (Ends end) e = absurd e

      module _ (one : HasOneStep) where
        read_good : (files : Files) (s : Step Stage JobEnd) → Steps job words size (Reading files) s
            → (files ≡ []) ⊎ (files ≡ read_of path n) → GoodBehind s
        read_good files s step (inl e) =
            first_good s (one job words size (Reading []) s _ (subst (λ fs. Steps job words size (Reading fs) s) e step)
            reads_first)
        read_good files s step (inr e) =
            next_good s (one job words size (Reading (read_of path n)) s _
            (subst (λ fs. Steps job words size (Reading fs) s) e step) opens_next)

        step_good : (stage : Stage) (s : Step Stage JobEnd) → Steps job words size stage s → Good stage → GoodBehind s
        step_good (Reading files) s step h = read_good files s step h
        step_good (Running program c) s step h = run_good program c s step h
        step_good (AtEnd end) s step h = end_good end s step
        step_good (Refusing f) s step h = absurd h
        step_good Faulting s step h = absurd h

        split_last : (log : Log) (p : Ask × Reply) → AllMade (make_text n) (log ++ p ∷ [])
            → AllMade (make_text n) log × (p.1 ≡ made_reply (make_text n) p.0)
        split_last log p all =
            All-pop (λ (p : Ask × Reply). p.1 ≡ made_reply (make_text n) p.0) (log ++ p ∷ []) log (Some p) refl all

        leads_good : (stage : Stage) (log : Log) → Leads (Steps job words size) (Reading []) [] stage log
            → AllMade (make_text n) log → Good stage
        leads_good _ _ Leads.here all = inl refl
        leads_good _ _ (Leads.goes s t log leads step) all = step_good s (Goes t) step (leads_good s log leads all)
        leads_good _ _ (Leads.asks s log after a next r leads step answered) all =
            let parts = split_last log (a, r) (subst (AllMade (make_text n)) answered.grown all) in
            step_good s (Asks a next) step (leads_good s log leads parts.0) r parts.1

        pub never_refused : (log : Log) → Leads (Steps job words size) (Reading []) [] (AtEnd refused) log
            → AllMade (make_text n) log → ⊥
        never_refused log leads all = leads_good (AtEnd refused) log leads all

        pub never_spent : (log : Log) (end : End) → Leads (Steps job words size) (Reading []) [] (AtEnd (ran end)) log
            → AllMade (make_text n) log → IsSpent end → ⊥
        never_spent log end leads all = leads_good (AtEnd (ran end)) log leads all
