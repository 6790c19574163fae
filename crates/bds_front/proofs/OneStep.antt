-- A job has one next step, but for a line and the bytes of a saved state.
use Rattle.std.proofs.Common.{◌≡◌, ◌≤◌, ◌<◌, ◌∙◌, ℕ, List, [], ◌∷◌, ◌++◌, length, Some, Result, ap, sym, subst, refl, arith}
use Rattle.std.proofs.lemmas.List.{same_from_push}
use Rattle.bds_value.specs.declared.TheConstants.{MAX_TEXT}
use Rattle.bds_host.specs.declared.asks.Ask.TheVariants.{Read}
use Rattle.bds_host.specs.declared.faults.Fault.{Fault}
use Rattle.bds_host.specs.declared.faults.Fault.TheVariants as fault
use Rattle.bds_tree.specs.ScriptTexts.{Spells, TextFlaw, HasFlaw, too_long, no_tokens, no_script}
use Rattle.bds_tree.specs.StmtTree.{ScriptTree}
use Rattle.bds_check_typing.specs.Files.{IsProgramOf}
use Rattle.bds_meaning.specs.Begin.{Job, JobEnd, ran, Stage, Reading, Refusing, Faulting, Running, AtEnd, Steps, read_gives, opens_if}
use Rattle.bds_meaning.specs.Determined.{HasOneNext}
use Rattle.bds_meaning.specs.Files.{Files, paths_of, text_in, IsFileIn, Passes, IsNext}
use Rattle.bds_meaning.specs.Refusals.{text_fault, Preset, Accepted, accepted}
use Rattle.bds_meaning.specs.Run.{Program, Conf}
use Rattle.bds_schedule.specs.Steps.{Step, Goes, Asks, Ends}
use Rattle.bds_front.specs.Unique.{SpellsOne, IsSameFlaw, HasOneNextFile, HasNoNextWhereWhole, HasOneProgram, IsSameStage, IsSameJobStep, same, other_line}
use Rattle.bds_front.proofs.Files.{paths-one, text-last, joins-pass}
use Rattle.bds_front.proofs.Joined.{one_program}
use Rattle.bds_front.proofs.OneScript.{flaw_spells_none, one_flaw}
use Rattle.bds_front.proofs.Passing.{one_next, next_unpassed, HasNewLast, last_passed, last_before}

-- what comes next where these files were read
data ReadingStep (job : Job) (words : ScriptTree → Result Preset Fault) (size : ScriptTree → Preset → ℕ) (files : Files) : Step Stage JobEnd → Type 0 where
  reads : (next : List ℕ) → IsNext (IsFileIn files) job.path (paths_of files) next → length next ≤ MAX_TEXT → ReadingStep job words size files (Asks (Read next) (read_gives files next))
  long_path : (next : List ℕ) → IsNext (IsFileIn files) job.path (paths_of files) next → MAX_TEXT < length next → ReadingStep job words size files (Goes (Refusing (fault.TooLong next)))
  flawed : (front : Files) (path text : List ℕ) (flaw : TextFlaw) (f : Fault) → files ≡ front ++ (path, text) ∷ [] → HasFlaw text flaw → text_fault path flaw ≡ Some f → ReadingStep job words size files (Goes (Refusing f))
  whole : (program : ScriptTree) (beyond : List (List ℕ)) → IsProgramOf (IsFileIn files) job.path program beyond → program.files ≡ paths_of files →
      ReadingStep job words size files (Goes (opens_if job (accepted job.path words size program beyond)))

same_fault : (path : List ℕ) (a b : TextFlaw) (f g : Fault) → a ≡ b → text_fault path a ≡ Some f → text_fault path b ≡ Some g → IsSameStage (Refusing f) (Refusing g)
same_fault path a b f g is at bt =
    let both : Some f ≡ Some g = sym at ∙ ap (text_fault path) is ∙ bt in
    let one : f ≡ g = cc in
    subst (λ x. IsSameStage (Refusing f) (Refusing x)) one (same (Refusing f))

same_told : (path : List ℕ) (a b : TextFlaw) (f g : Fault) → IsSameFlaw a b → text_fault path a ≡ Some f → text_fault path b ≡ Some g → IsSameStage (Refusing f) (Refusing g)
same_told path (no_script l) (no_script m) f g is at bt =
    let one : fault.Syntax path l ≡ f = cc in
    let two : fault.Syntax path m ≡ g = cc in
    subst (λ x. IsSameStage (Refusing x) (Refusing g)) one (subst (λ x. IsSameStage (Refusing (fault.Syntax path l)) (Refusing x)) two (other_line path l m))
same_told path (no_script l) too_long f g is at bt = same_fault path (no_script l) too_long f g is at bt
same_told path (no_script l) (no_tokens t) f g is at bt = same_fault path (no_script l) (no_tokens t) f g is at bt
same_told path too_long b f g is at bt = same_fault path too_long b f g is at bt
same_told path (no_tokens t) b f g is at bt = same_fault path (no_tokens t) b f g is at bt

module _ (spells : SpellsOne) where
  one_file : (files : Files) (p : List ℕ) (s t : ScriptTree) → IsFileIn files p s → IsFileIn files p t → s ≡ t
  one_file files p s t a b =
      let both : Some a.text ≡ Some b.text = sym a.read ∙ b.read in
      let one : a.text ≡ b.text = cc in
      spells b.text a.tokens b.tokens s t (subst (λ x. Spells x a.tokens s) one a.spelled) b.spelled

  pub one_next_file : HasOneNextFile
  one_next_file files path next next' a b = one_next (IsFileIn files) (one_file files) path (paths_of files) next next' a b

  passed : (files : Files) (path : List ℕ) (program : ScriptTree) (beyond : List (List ℕ)) (made : IsProgramOf (IsFileIn files) path program beyond) → program.files ≡ paths_of files → Passes (IsFileIn files) 0 path (path ∷ []) made.tree.parts (paths_of files)
  passed files path program beyond made is =
      subst (λ x. Passes (IsFileIn files) 0 path (path ∷ []) made.tree.parts x) is (joins-pass (IsFileIn files) 0 path 0 (path ∷ []) made.tree.parts program.files program.parts beyond made.joined)

  pub none_next_where_whole : HasNoNextWhereWhole
  none_next_where_whole files path next program beyond a made is =
      next_unpassed (IsFileIn files) (one_file files) path (paths_of files) next made.tree a made.file (passed files path program beyond made is)

  pub has_one_program : HasOneProgram
  has_one_program files path program program' beyond beyond' a b = one_program (IsFileIn files) (one_file files) path program program' beyond beyond' a b

  -- where the last file is new and spells a script, it has no flaw
  unflawed : (files front : Files) (path text : List ℕ) (flaw : TextFlaw) → HasNewLast (IsFileIn files) (paths_of files) → files ≡ front ++ (path, text) ∷ [] → HasFlaw text flaw → ⊥
  unflawed files front path text flaw last is has =
      let found = last (paths_of front) path (ap paths_of is ∙ paths-one front path text) in
      let file = found.1.1 in
      let read : text_in files path ≡ Some text = ap (λ x. text_in x path) is ∙ text-last front path text found.0 in
      let both : Some file.text ≡ Some text = sym file.read ∙ read in
      let one : file.text ≡ text = cc in
      flaw_spells_none text flaw file.tokens found.1.0 has (subst (λ x. Spells x file.tokens found.1.0) one file.spelled)

  module _ (job : Job) (words : ScriptTree → Result Preset Fault) (size : ScriptTree → Preset → ℕ) where
    abbrev At : Files → Step Stage JobEnd → Type 0
    At files s = ReadingStep job words size files s

    long_or_short : (files : Files) (n m : List ℕ) → IsNext (IsFileIn files) job.path (paths_of files) n → IsNext (IsFileIn files) job.path (paths_of files) m → length n ≤ MAX_TEXT → MAX_TEXT < length m → ⊥
    long_or_short files n m a b short long = let both = ap length (one_next_file files job.path n m a b) in absurd (omega arith)

    next_unflawed : (files front : Files) (next path text : List ℕ) (flaw : TextFlaw) → IsNext (IsFileIn files) job.path (paths_of files) next → files ≡ front ++ (path, text) ∷ [] → HasFlaw text flaw → ⊥
    next_unflawed files front next path text flaw a is has = unflawed files front path text flaw (last_before (IsFileIn files) job.path (paths_of files) next a) is has

    program_unflawed : (files front : Files) (program : ScriptTree) (beyond : List (List ℕ)) (path text : List ℕ) (flaw : TextFlaw) →
        IsProgramOf (IsFileIn files) job.path program beyond → program.files ≡ paths_of files → files ≡ front ++ (path, text) ∷ [] → HasFlaw text flaw → ⊥
    program_unflawed files front program beyond path text flaw made all is has =
        unflawed files front path text flaw (last_passed (IsFileIn files) job.path made.tree (paths_of files) made.file (passed files job.path program beyond made all)) is has

    reading_steps : (files : Files) (s t : Step Stage JobEnd) → At files s → At files t → IsSameJobStep s t
    reading_steps files _ _ (ReadingStep.reads n a short) (ReadingStep.reads m b short') =
        let one = one_next_file files job.path n m a b in
        (ap Read one, λ reply. ap (λ x. read_gives files x reply) one)
    reading_steps files _ _ (ReadingStep.reads n a short) (ReadingStep.long_path m b long) = absurd (long_or_short files n m a b short long)
    reading_steps files _ _ (ReadingStep.reads n a short) (ReadingStep.flawed front path text flaw f is has told) = absurd (next_unflawed files front n path text flaw a is has)
    reading_steps files _ _ (ReadingStep.reads n a short) (ReadingStep.whole program beyond made all) = absurd (none_next_where_whole files job.path n program beyond a made all)
    reading_steps files _ _ (ReadingStep.long_path n a long) (ReadingStep.reads m b short) = absurd (long_or_short files m n b a short long)
    reading_steps files _ _ (ReadingStep.long_path n a long) (ReadingStep.long_path m b long') =
        subst (λ x. IsSameStage (Refusing (fault.TooLong n)) (Refusing (fault.TooLong x))) (one_next_file files job.path n m a b) (same (Refusing (fault.TooLong n)))
    reading_steps files _ _ (ReadingStep.long_path n a long) (ReadingStep.flawed front path text flaw f is has told) = absurd (next_unflawed files front n path text flaw a is has)
    reading_steps files _ _ (ReadingStep.long_path n a long) (ReadingStep.whole program beyond made all) = absurd (none_next_where_whole files job.path n program beyond a made all)
    reading_steps files _ _ (ReadingStep.flawed front path text flaw f is has told) (ReadingStep.reads n a short) = absurd (next_unflawed files front n path text flaw a is has)
    reading_steps files _ _ (ReadingStep.flawed front path text flaw f is has told) (ReadingStep.long_path n a long) = absurd (next_unflawed files front n path text flaw a is has)
    reading_steps files _ _ (ReadingStep.flawed front path text flaw f is has told) (ReadingStep.flawed front' path' text' flaw' f' is' has' told') =
        let last = (same_from_push front' front (path', text') (path, text) (sym is' ∙ is)).1 in
        let here : HasFlaw text flaw' = subst (λ x. HasFlaw x flaw') (ap (λ (x : List ℕ × List ℕ). x.1) last) has' in
        let by : text_fault path flaw' ≡ Some f' = subst (λ x. text_fault x flaw' ≡ Some f') (ap (λ (x : List ℕ × List ℕ). x.0) last) told' in
        same_told path flaw flaw' f f' (one_flaw text flaw flaw' has here) told by
    reading_steps files _ _ (ReadingStep.flawed front path text flaw f is has told) (ReadingStep.whole program beyond made all) = absurd (program_unflawed files front program beyond path text flaw made all is has)
    reading_steps files _ _ (ReadingStep.whole program beyond made all) (ReadingStep.reads n a short) = absurd (none_next_where_whole files job.path n program beyond a made all)
    reading_steps files _ _ (ReadingStep.whole program beyond made all) (ReadingStep.long_path n a long) = absurd (none_next_where_whole files job.path n program beyond a made all)
    reading_steps files _ _ (ReadingStep.whole program beyond made all) (ReadingStep.flawed front path text flaw f is has told) = absurd (program_unflawed files front program beyond path text flaw made all is has)
    reading_steps files _ _ (ReadingStep.whole program beyond made all) (ReadingStep.whole program' beyond' made' all') =
        let one = has_one_program files job.path program program' beyond beyond' made made' in
        let opened : Result Accepted Fault = accepted job.path words size program beyond in
        let both : opened ≡ accepted job.path words size program' beyond' = ap (λ x. accepted job.path words size x beyond) one.0 ∙ ap (λ x. accepted job.path words size program' x) one.1 in
        subst (λ x. IsSameStage (opens_if job opened) (opens_if job x)) both (same (opens_if job opened))

    -- what comes next where files are read; of other stages nothing
    abbrev OfReading : Stage → Step Stage JobEnd → Type 0
    OfReading (Reading files) s = At files s
    OfReading _ s = Unit {0}

    of_reading : (stage : Stage) (s : Step Stage JobEnd) → Steps job words size stage s → OfReading stage s
    of_reading _ _ (Steps.reads files next is short) = ReadingStep.reads next is short
    of_reading _ _ (Steps.long_path files next is long) = ReadingStep.long_path next is long
    of_reading _ _ (Steps.flawed files path text flaw f has told) = ReadingStep.flawed files path text flaw f refl has told
    of_reading _ _ (Steps.whole files program beyond made all) = ReadingStep.whole program beyond made all
    of_reading _ _ (Steps.run_goes program c d moves) = tt
    of_reading _ _ (Steps.run_asks program c ask next moves) = tt
    of_reading _ _ (Steps.run_ends program c end moves) = tt
    of_reading _ _ (Steps.refuses f) = tt
    of_reading _ _ Steps.faults = tt
    of_reading _ _ (Steps.comes end) = tt

    running_steps : ((program : Program) → HasOneNext program) → (program : Program) (c : Conf) (s t : Step Stage JobEnd) → Steps job words size (Running program c) s → Steps job words size (Running program c) t → IsSameJobStep s t
    running_steps next program c _ _ (Steps.run_goes _ _ d m) (Steps.run_goes _ _ d' m') =
        subst (λ x. IsSameStage (Running program d) (Running program x)) (next program c (Goes d) (Goes d') m m') (same (Running program d))
    running_steps next program c _ _ (Steps.run_goes _ _ d m) (Steps.run_asks _ _ ask go m') = absurd (next program c (Goes d) (Asks ask go) m m')
    running_steps next program c _ _ (Steps.run_goes _ _ d m) (Steps.run_ends _ _ end m') = absurd (next program c (Goes d) (Ends end) m m')
    running_steps next program c _ _ (Steps.run_asks _ _ ask go m) (Steps.run_goes _ _ d m') = absurd (next program c (Asks ask go) (Goes d) m m')
    running_steps next program c _ _ (Steps.run_asks _ _ ask go m) (Steps.run_asks _ _ ask' go' m') =
        let one = next program c (Asks ask go) (Asks ask' go') m m' in
        (one.0, λ reply. ap (λ x. Running program x) (one.1 reply))
    running_steps next program c _ _ (Steps.run_asks _ _ ask go m) (Steps.run_ends _ _ end m') = absurd (next program c (Asks ask go) (Ends end) m m')
    running_steps next program c _ _ (Steps.run_ends _ _ end m) (Steps.run_goes _ _ d m') = absurd (next program c (Ends end) (Goes d) m m')
    running_steps next program c _ _ (Steps.run_ends _ _ end m) (Steps.run_asks _ _ ask go m') = absurd (next program c (Ends end) (Asks ask go) m m')
    running_steps next program c _ _ (Steps.run_ends _ _ end m) (Steps.run_ends _ _ end' m') =
        subst (λ x. IsSameStage (AtEnd (ran end)) (AtEnd (ran x))) (next program c (Ends end) (Ends end') m m') (same (AtEnd (ran end)))

    pub one_step : ((program : Program) → HasOneNext program) → (stage : Stage) (s t : Step Stage JobEnd) → Steps job words size stage s → Steps job words size stage t → IsSameJobStep s t
    one_step next (Reading files) s t a b = reading_steps files s t (of_reading (Reading files) s a) (of_reading (Reading files) t b)
    one_step next (Running program c) s t a b = running_steps next program c s t a b
    one_step next (Refusing f) _ _ (Steps.refuses _) (Steps.refuses _) = (refl, λ reply. refl)
    one_step next Faulting _ _ Steps.faults Steps.faults = (refl, λ reply. refl)
    one_step next (AtEnd end) _ _ (Steps.comes _) (Steps.comes _) = refl
