-- From the path of a script to its run, with what words set in it.
use Rattle.std.proofs.Common.{ℕ, ◌≡◌, ◌≢◌, ◌∙◌, List, [], Some, Result, Ok, Err, refl, sym, ap, subst}
use Rattle.bds_value.specs.Results.{◌>>=◌}
use Rattle.bds_host.specs.declared.faults.Fault.{Fault as AFault}
use Rattle.bds_host.specs.Host.{Log}
use Rattle.bds_tree.specs.StmtTree.{ScriptTree}
use Rattle.bds_tree.specs.StmtView.{script_of}
use Rattle.bds_check_typing.specs.Texts.{IsShort}
use Rattle.bds_check_typing.specs.WellTypedScripts.{globals_in}
use Rattle.bds_check_words.specs.WordSettings.{words_give}
use Rattle.bds_check_words.specs.declared.faults.WordsFault.{WordsFault}
use Rattle.bds_check_words.specs.declared.faults.WordsFault.TheVariants as words
use Rattle.bds_check.specs.SetWords.{IsSet}
use Rattle.bds_check.specs.declared.checking.TypedScript.{TypedScript}
use Rattle.bds_app_run.specs.Begun.{Begun, told}
use Rattle.bds_front.specs.Loading.{Loads}
use Rattle.bds_front.specs.declared.front_fault.FrontFault.{FrontFault}
use Rattle.bds_front.specs.declared.front_fault.FrontFault.TheVariants as front
use Rattle.bds_meaning.specs.Begin.{Reading, Refusing, Faulting, Steps, opens_if}
use Rattle.bds_meaning.specs.Refusals.{Accepted, Preset, accepted, checked}
use Rattle.bds_schedule.specs.Steps.{Goes, Leads, Halts}
use Rattle.bds_app_run.specs.Job.{JobSteps, if_fits, job_of, preset_of, preset_or_fault, run_opens, set_by_words, size_with, told_at}
use Rattle.bds_app_run.specs.declared.call.Call.{Call}
use Rattle.bds_app_run.specs.Telling.{IsToldAs}
use Rattle.bds_app_run.specs.Ways.{Reaches, at_end}
use Rattle.bds_app_run.specs.declared.ending.Ending.{Ending}
use Rattle.bds_app_run.specs.declared.stop.Stop.{Stop}
use Rattle.bds_app_run.specs.declared.stop.Stop.TheVariants as stop
use Rattle.bds_app_run.proofs.Leading.{reaches_by, reaches_on}

-- a script that was loaded has a short path
pub was_short : (path : List ℕ) (before after : Log) (t : TypedScript) → Loads path before after (Ok t) → IsShort path
was_short path before after t (Loads.loaded files program _ made fine same settings args) = made.made.short

module _ (c : Call) (before between after : Log) where
  pub accepted_is : (program s : ScriptTree) → checked program [] ≡ Ok s → accepted c.path (set_by_words c) size_with program [] ≡ run_opens c s
  accepted_is program s e = ap (λ (r : Result ScriptTree AFault). r >>= λ script. set_by_words c script >>= λ preset. if_fits c script preset) e

  pub loaded_reaches : (t : TypedScript) (r : Result Ending Stop) → Begun (job_of c) (set_by_words c) size_with before between (Ok t) → Reaches c (opens_if (job_of c) (run_opens c (script_of t.script))) between after at_end r
      → Reaches c (Reading []) before after at_end r
  loaded_reaches t r (Begun.read files program _ leads step is) rest =
      let e = accepted_is program (script_of t.script) is in
      let P : Result Accepted AFault → Type 0 = λ x. Steps (job_of c) (set_by_words c) size_with (Reading files) (Goes (opens_if (job_of c) x)) in
      reaches_on c (Reading []) (Reading files) before between after at_end r leads
      (reaches_by c (Reading files) (opens_if (job_of c) (run_opens c (script_of t.script))) between after at_end r (subst P e step) rest)

  -- a script that isn't loaded is refused
  refused_reaches : (f : FrontFault) (g h : AFault) (r : Result Ending Stop) → told f ≡ Some g → told f ≡ Some h → Leads (JobSteps c) (Reading []) before (Refusing h) between → Reaches c (Refusing g) between after at_end r
      → Reaches c (Reading []) before after at_end r
  refused_reaches f g h r is same leads rest =
      let e : g ≡ h = let q = sym is ∙ same in cc q in
      reaches_on c (Reading []) (Refusing h) before between after at_end r leads (subst (λ x. Reaches c (Refusing x) between after at_end r) e rest)

  pub unloaded_reaches : (f : FrontFault) (g : AFault) (r : Result Ending Stop) → IsToldAs f (Ok g) → Begun (job_of c) (set_by_words c) size_with before between (Err f) → Reaches c (Refusing g) between after at_end r
      → Reaches c (Reading []) before after at_end r
  unloaded_reaches f g r is (Begun.refused _ h same leads) rest = refused_reaches f g h r is same leads rest
  unloaded_reaches _ g r is (Begun.faulted leads) rest = absurd (cc is)
  unloaded_reaches _ g r is (Begun.halted halts) rest = absurd (cc is)

module _ (c : Call) (before after : Log) where
  none_told : (f : FrontFault) (g : AFault) → f ≡ front.Device → told f ≡ Some g → ⊥
  none_told f g e q = let no : told front.Device ≡ Some g = ap told (sym e) ∙ q in cc no

  pub untold_reaches : (f : FrontFault) (e : Stop) → IsToldAs f (Err e) → Begun (job_of c) (set_by_words c) size_with before after (Err f) → Reaches {T = Ending} c (Reading []) before after at_end (Err e)
  untold_reaches f stop.Fault is (Begun.refused _ g same leads) = absurd (none_told f g is same)
  untold_reaches _ stop.Fault is (Begun.faulted leads) = leads
  untold_reaches _ stop.Fault is (Begun.halted halts) = absurd (cc is)
  untold_reaches f stop.NoMemory is (Begun.refused _ g same leads) = Halts.halts_at (Refusing g) tt leads
  untold_reaches _ stop.NoMemory is (Begun.faulted leads) = Halts.halts_at Faulting tt leads
  untold_reaches _ stop.NoMemory is (Begun.halted halts) = halts

-- what words set

module _ (c : Call) (s : ScriptTree) where
  words_open : (r r' : Result Preset AFault) → r ≡ r' → (r >>= λ preset. if_fits c s preset) ≡ (r' >>= λ preset. if_fits c s preset)
  words_open r r' e = ap (λ (x : Result Preset AFault). x >>= λ preset. if_fits c s preset) e

  -- they were taken
  pub given_opens : (before t : TypedScript) → script_of before.script ≡ s → IsSet before (words_give (globals_in s) c.words) (Ok t) → run_opens c s ≡ if_fits c (script_of t.script) (preset_of t)
  given_opens before t is h =
      words_open (set_by_words c s) (Ok (preset_of t)) (ap (λ g. preset_or_fault c.path g) h.1) ∙ ap (λ x. if_fits c x (preset_of t)) (sym is ∙ sym (ap (λ x. script_of x) h.0))

  -- or one wasn't
  pub refused_opens : (before : TypedScript) (e : WordsFault) → IsSet before (words_give (globals_in s) c.words) (Err e) → e ≢ words.NoMemory → run_opens c s ≡ Err (told_at c.path e)
  refused_opens before (words.NoVariable x) h other = words_open (set_by_words c s) (Err (told_at c.path (words.NoVariable x))) (ap (λ g. preset_or_fault c.path g) h)
  refused_opens before (words.BadValue x) h other = words_open (set_by_words c s) (Err (told_at c.path (words.BadValue x))) (ap (λ g. preset_or_fault c.path g) h)
  refused_opens before words.NoMemory h other = absurd (other refl)
