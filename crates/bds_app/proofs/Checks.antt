-- What becomes of a script that is checked is determined by the log.
use Rattle.std.proofs.Common.{◌≡◌, ◌++◌, ◌∙◌, ◌⊎◌, ◌<◌, inl, inr, ℕ, List, [], ◌∷◌, Result, Some, None, Ok, Err, refl, sym, ap, subst, codes}
use Rattle.bds_value.specs.Results.{◌>>=◌}
use Rattle.bds_host.specs.declared.asks.Ask.TheVariants.{Read, Out, Err as Tells}
use Rattle.bds_host.specs.declared.asks.Reply.TheVariants as reply
use Rattle.bds_host.specs.declared.faults.Fault.{Fault as AFault}
use Rattle.bds_host.specs.Host.{Log, faults}
use Rattle.bds_host.specs.Message.{message_of}
use Rattle.bds_tree.specs.StmtTree.{ScriptTree}
use Rattle.bds_tree.specs.StmtView.{script_of}
use Rattle.bds_check.specs.declared.checking.TypedScript.{TypedScript}
use Rattle.bds_app_run.proofs.Begins.{begun}
use Rattle.bds_app_run.specs.Begun.{Begun, told}
use Rattle.bds_front.specs.Loading.{Loads, Reads, Stops}
use Rattle.bds_front.specs.Unique.{IsRefusedOrRun}
use Rattle.bds_front.specs.declared.front_fault.FrontFault.{FrontFault}
use Rattle.bds_front.specs.declared.front_fault.FrontFault.TheVariants as front
use Rattle.bds_meaning.specs.Begin.{Job, Reading, Refusing, Steps, opens, opens_if}
use Rattle.bds_meaning.specs.Files.{Files}
use Rattle.bds_meaning.specs.Refusals.{Accepted, Preset, accepted, too_big, unless}
use Rattle.bds_schedule.specs.Steps.{Goes, Leads}
use Rattle.bds_engine_parts.specs.Run.{FaultIsTold}
use Rattle.bds_engine_parts.proofs.Told.{IsClean, grown_by}
use Rattle.bds_app_run.specs.Commands.{ChecksScript}
use Rattle.bds_app_run.specs.declared.outcome.Outcome.{Outcome}
use Rattle.bds_app_run.specs.declared.outcome.Outcome.TheVariants.{Ended, Refused, Device, NoMemory}
use Rattle.bds_app_run.specs.Telling.{Prints, TellsDevice, TellsFault}
use Rattle.bds_app.proofs.Shown.{Shown, shown_device, shown_faults, shown_out, shown_same, shown_tells}
use Rattle.bds_app_run.proofs.Telling.{Comes, Same, Settled, comes_settled, device_comes, has_risen, prints_comes}
use Rattle.bds_app_run.proofs.Telling.{says_comes, settled_clean}
use Rattle.bds_app_run.proofs.Trails.{nothing_yet}

-- The reads of a script

module _ (path : List ℕ) (before : Log) where
  reads_clean : (all : Files) (after : Log) → Reads path [] before all after → IsClean before after
  reads_clean _ _ Reads.nothing = nothing_yet before
  reads_clean _ after (Reads.one_more all log _ next text there is short answered) = grown_by before log after (Read next) (reply.Bytes text) (reads_clean all log there) answered.grown refl

  -- a reply that was a fault is the last one
  pub record IsUnread (after : Log) : Type 0 where
    pub log : Log
    pub clean : IsClean before log
    pub file : List ℕ
    pub grown : after ≡ log ++ (Read file, reply.Fault) ∷ []

  -- how the reads ended
  pub loads_clean : (after : Log) (r : Result TypedScript FrontFault) → Loads path before after r → (r ≡ Err front.Device → ⊥) → (r ≡ Err front.NoMemory → ⊥) → IsClean before after
  loads_clean after _ (Loads.loaded files program t made fine same settings args) other there = reads_clean files after made.read
  loads_clean after _ (Loads.stopped _ (Stops.missing all log next reads is short a)) other there = grown_by before log after (Read next) reply.Missing (reads_clean all log reads) a.grown refl
  loads_clean after _ (Loads.stopped _ (Stops.device all log next reads is short a)) other there = absurd (other refl)
  loads_clean after _ (Loads.stopped _ (Stops.long_path all next reads is long)) other there = reads_clean all after reads
  loads_clean after _ (Loads.stopped _ (Stops.long_text all p text reads flaw)) other there = reads_clean _ after reads
  loads_clean after _ (Loads.stopped _ (Stops.unlexed all p text f reads flaw lacked)) other there = reads_clean _ after reads
  loads_clean after _ (Loads.stopped _ (Stops.unspelled all p text line reads flaw)) other there = reads_clean _ after reads
  loads_clean after _ (Loads.stopped _ (Stops.no_memory all reads)) other there = absurd (there refl)
  loads_clean after _ (Loads.stopped _ (Stops.no_room all log next reads is short e)) other there = absurd (there refl)
  loads_clean after _ (Loads.broken files program beyond b p made first at) other there = reads_clean files after made.read
  loads_clean after _ (Loads.too_deep files program p beyond made fine) other there = reads_clean files after made.read

  pub loads_unread : (after : Log) (r : Result TypedScript FrontFault) → r ≡ Err front.Device → Loads path before after r → IsUnread after
  loads_unread after _ e (Loads.loaded files program t made fine same settings args) = absurd (cc e)
  loads_unread after _ e (Loads.stopped _ (Stops.missing all log next reads is short a)) = absurd (cc e)
  loads_unread after _ e (Loads.stopped _ (Stops.device all log next reads is short a)) = record { log = log; clean = reads_clean all log reads; file = next; grown = a.grown }
  loads_unread after _ e (Loads.stopped _ (Stops.long_path all next reads is long)) = absurd (cc e)
  loads_unread after _ e (Loads.stopped _ (Stops.long_text all p text reads flaw)) = absurd (cc e)
  loads_unread after _ e (Loads.stopped _ (Stops.unlexed all p text f reads flaw lacked)) = absurd (cc e)
  loads_unread after _ e (Loads.stopped _ (Stops.unspelled all p text line reads flaw)) = absurd (cc e)
  loads_unread after _ e (Loads.stopped _ (Stops.no_memory all reads)) = absurd (cc e)
  loads_unread after _ e (Loads.stopped _ (Stops.no_room all log next reads is short lacked)) = absurd (cc e)
  loads_unread after _ e (Loads.broken files program beyond b p made first at) = absurd (cc e)
  loads_unread after _ e (Loads.too_deep files program p beyond made fine) = absurd (cc e)

-- The command

told_none : (f : FrontFault) (g : AFault) → told f ≡ Some g → (h : FrontFault) → told h ≡ None → f ≡ h → ⊥
told_none f g is h none e = let no : Some g ≡ None = sym is ∙ ap told e ∙ none in cc no

module _ (path : List ℕ) (before after : Log) where
  pub accepted_clean : (t : TypedScript) (log : Log) → Loads path before log (Ok t) → IsClean before log
  accepted_clean t log l = loads_clean path before log (Ok t) l (λ e. cc e) (λ e. cc e)

  refused_clean : (f : FrontFault) (g : AFault) (log : Log) → told f ≡ Some g → Loads path before log (Err f) → IsClean before log
  refused_clean f g log is l = loads_clean path before log (Err f) l (λ e. told_none f g is front.Device refl (cc e)) (λ e. told_none f g is front.NoMemory refl (cc e))

  pub accepted_comes : (t : TypedScript) (log : Log) (o : Outcome) → Loads path before log (Ok t) → Prints (codes "ok\n") log after o → Comes (Out (codes "ok\n")) (Ended 0) before log after o
  accepted_comes t log o l p = prints_comes before log (accepted_clean t log l) (codes "ok\n") after o p

  pub refused_comes : (f : FrontFault) (g : AFault) (log : Log) (o : Outcome) → told f ≡ Some g → Loads path before log (Err f) → TellsFault g Refused log after o → Comes (Tells (message_of g)) Refused before log after o
  refused_comes f g log o is l p = says_comes before log (refused_clean f g log is l) (message_of g) Refused after o p

  pub unread_comes : (log : Log) (o : Outcome) → Loads path before log (Err front.Device) → TellsDevice log after o → (o ≡ NoMemory) ⊎ ((o ≡ Device) × FaultIsTold before after)
  unread_comes log o l t = let u = loads_unread path before log (Err front.Device) refl l in device_comes before u.log u.clean (Read u.file) log after o u.grown t

  -- how it is settled: whether the script was accepted or not
  data Verdict (o : Outcome) : Type 0 where
    fine : (t : TypedScript) (log : Log) → Loads path before log (Ok t) → Settled (Ended 0) before after o → Verdict o
    wrong : (f : FrontFault) (g : AFault) (log : Log) → Loads path before log (Err f) → told f ≡ Some g → Comes (Tells (message_of g)) Refused before log after o → Verdict o
    halted : (faults after ≡ faults before → o ≡ NoMemory) → Verdict o

  verdict : (o : Outcome) → ChecksScript path before after o → Verdict o
  verdict o (ChecksScript.accepted t log _ l p) = Verdict.fine t log l (comes_settled (Out (codes "ok\n")) (Ended 0) before log after o (accepted_clean t log l) (accepted_comes t log o l p))
  verdict o (ChecksScript.refused_for f g log _ l is p) = Verdict.wrong f g log l is (refused_comes f g log o is l p)
  verdict o (ChecksScript.faulted log _ l t) = Verdict.halted (by (unread_comes log o l t))
    where
      by : (o ≡ NoMemory) ⊎ ((o ≡ Device) × FaultIsTold before after) → faults after ≡ faults before → o ≡ NoMemory
      by (inl none) same = none
      by (inr told) same = absurd (has_risen before after told.1 same)
  verdict _ (ChecksScript.no_memory t l) = Verdict.halted (λ same. refl)

-- A script that is accepted isn't refused, whatever is replied behind

module _ (path : List ℕ) (before : Log) where
  abbrev job : Job
  job = record { path = path; cpus = 1; budget = 0 }

  abbrev nothing : Preset
  nothing = record { settings = []; args = [] }

  abbrev set : ScriptTree → Result Preset AFault
  set s = Ok nothing

  abbrev none : ScriptTree → Preset → ℕ
  none s p = 0

  runs : (t : TypedScript) (log : Log) → Begun job set none before log (Ok t) → Leads (Steps job set none) (Reading []) before (opens job (record { script = script_of t.script; preset = nothing })) log
  runs t log (Begun.read files program _ leads step is) =
      let e : accepted path set none program [] ≡ Ok (record { script = script_of t.script; preset = nothing }) =
      ap (λ (r : Result ScriptTree AFault). r >>= λ script. set script >>= λ preset. unless (too_big path set none script preset) (Ok (record { script = script; preset = preset }))) is in
      let P : Result Accepted AFault → Type 0 = λ x. Steps job set none (Reading files) (Goes (opens_if job x)) in
      Leads.goes (Reading files) (opens job (record { script = script_of t.script; preset = nothing })) log leads (subst P e step)

  refusing : (f : FrontFault) (g : AFault) (log : Log) → told f ≡ Some g → Begun job set none before log (Err f) → Leads (Steps job set none) (Reading []) before (Refusing g) log
  refusing f g log is (Begun.refused _ h same leads) =
      let eq : h ≡ g = let q = sym same ∙ is in cc q in
      subst (λ x. Leads (Steps job set none) (Reading []) before (Refusing x) log) eq leads
  refusing _ g log is (Begun.faulted leads) = let no = is in absurd (cc no)
  refusing _ g log is (Begun.halted halts) = let no = is in absurd (cc no)

  pub not_both : IsRefusedOrRun → (t : TypedScript) (f : FrontFault) (g : AFault) (log rest log' rest' : Log) → Loads path before log (Ok t) → Loads path before log' (Err f) → told f ≡ Some g → log ++ rest ≡ log' ++ rest' → ⊥
  not_both law t f g log rest log' rest' l l' is same =
      law job set none before log' log rest' rest g _ _ (refusing f g log' is (begun job set none before log' (Err f) l')) (runs t log (begun job set none before log (Ok t) l)) (sym same)

  -- what is told of it
  pub check_completes : IsRefusedOrRun → (t : TypedScript) (log rest after : Log) → Loads path before log (Ok t) → after ≡ log ++ rest → faults after ≡ faults before → (o : Outcome) → ChecksScript path before after o → (o ≡ NoMemory) ⊎ (o ≡ Ended 0)
  check_completes law t log rest after l grown clean o h = by (verdict path before after o h)
    where
      by : Verdict path before after o → (o ≡ NoMemory) ⊎ (o ≡ Ended 0)
      by (Verdict.fine t' log' l' s) = settled_clean (Ended 0) before after o s clean
      by (Verdict.wrong f g log' l' is (inl lacked)) = inl lacked
      by (Verdict.wrong f g log' l' is (inr (inl e))) = absurd (not_both law t f g log rest log' _ l l' is (sym grown ∙ e.1))
      by (Verdict.wrong f g log' l' is (inr (inr e))) = absurd (has_risen before after e.1 clean)
      by (Verdict.halted lacked) = inl (lacked clean)

  pub check_refuses : IsRefusedOrRun → (f : FrontFault) (g : AFault) (log rest after : Log) → Loads path before log (Err f) → told f ≡ Some g → after ≡ log ++ rest → faults after ≡ faults before → (o : Outcome) → ChecksScript path before after o → (o ≡ NoMemory) ⊎ (o ≡ Refused)
  check_refuses law f g log rest after l is grown clean o (ChecksScript.accepted t log' _ l' p) = by (accepted_comes path before after t log' o l' p)
    where
      by : Comes (Out (codes "ok\n")) (Ended 0) before log' after o → (o ≡ NoMemory) ⊎ (o ≡ Refused)
      by (inl lacked) = inl lacked
      by (inr (inl e)) = absurd (not_both law t f g log' _ log rest l' l is (sym e.1 ∙ grown))
      by (inr (inr e)) = absurd (has_risen before after e.1 clean)
  check_refuses law f g log rest after l is grown clean o (ChecksScript.refused_for h i log' _ l' is' p) =
      settled_clean Refused before after o (comes_settled (Tells (message_of i)) Refused before log' after o (refused_clean path before after h i log' is' l') (refused_comes path before after h i log' o is' l' p)) clean
  check_refuses law f g log rest after l is grown clean o (ChecksScript.faulted log' _ l' t) = by (unread_comes path before after log' o l' t)
    where
      by : (o ≡ NoMemory) ⊎ ((o ≡ Device) × FaultIsTold before after) → (o ≡ NoMemory) ⊎ (o ≡ Refused)
      by (inl lacked) = inl lacked
      by (inr told) = absurd (has_risen before after told.1 clean)
  check_refuses law f g log rest after l is grown clean _ (ChecksScript.no_memory t l') = inl refl

-- Two answers with one log

module _ (path : List ℕ) (before after : Log) where
  shown : (o : Outcome) → ChecksScript path before after o → Shown before after o
  shown o (ChecksScript.accepted t log _ l p) = shown_out before after (codes "ok\n") log o (accepted_clean path before after t log l) (accepted_comes path before after t log o l p)
  shown o (ChecksScript.refused_for f g log _ l is p) = shown_tells before after (message_of g) log o (refused_clean path before after f g log is l) (refused_comes path before after f g log o is l p)
  shown o (ChecksScript.faulted log _ l t) = shown_device before after o (unread_comes path before after log o l t)
  shown _ (ChecksScript.no_memory t l) = Shown.no_memory

  pub check_same : (o other : Outcome) → ChecksScript path before after o → ChecksScript path before after other → Same o other
  check_same o other a b = shown_same before after o other (shown o a) (shown other b)

  pub check_faults : (o : Outcome) → ChecksScript path before after o → faults before < faults after → (o ≡ Device) ⊎ (o ≡ NoMemory)
  check_faults o h rose = shown_faults before after o (shown o h) rose
