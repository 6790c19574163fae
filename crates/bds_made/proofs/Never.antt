-- The script that is made is never refused, and never spent.
use Rattle.std.proofs.Common.{◌≡◌, ◌≤◌, ℕ, true, [], ◌∷◌, Ok, refl, ap, arith}
use Rattle.std.specs.Str.{bytes_eq}
use Rattle.std.proofs.lemmas.Slice.Eq.{bytes_eq-Decides}
use Rattle.bds_value.specs.declared.TheConstants.{MAX_CODE}
use Rattle.bds_host.specs.Host.{Log}
use Rattle.bds_tree.specs.StmtTree.{ScriptTree}
use Rattle.bds_check_typing.specs.Texts.{IsShort}
use Rattle.bds_check_typing.specs.WellTypedScripts.{globals_in}
use Rattle.bds_check_words.specs.WordSettings.{words_give}
use Rattle.bds_meaning.specs.Begin.{JobEnd, ran, refused, Reading, AtEnd}
use Rattle.bds_schedule.specs.Stages.{Done, Spent, DeviceFault}
use Rattle.bds_schedule.specs.Steps.{Leads}
use Rattle.bds_front.specs.Unique.{HasOneStep}
use Rattle.bds_tools.specs.Made.{AllMade}
use Rattle.bds_tools.specs.Make.{make_text}
use Rattle.bds_app_run.specs.Commands.{RunsScript, outcome_of}
use Rattle.bds_app_run.specs.Job.{JobSteps, preset_or_fault, set_by_words, size_with}
use Rattle.bds_app_run.specs.declared.call.Call.{Call}
use Rattle.bds_app_run.specs.declared.outcome.Outcome.{Outcome}
use Rattle.bds_app_run.specs.declared.outcome.Outcome.TheVariants.{Refused, Ticks}
use Rattle.bds_made.specs.Runs.{IsNeverRefused, IsNeverSpent}
use Rattle.bds_made.proofs.Jobs as jobs
use Rattle.bds_made.proofs.Jobs.{none_set}
use Rattle.bds_made.proofs.Script.{judged, made_tree}
use Rattle.bds_made.proofs.Sizes.{made_fits}

module _ (one : HasOneStep) (c : Call) (n : ℕ) (inner : Log) (no_words : c.words ≡ []) (short : IsShort c.path)
    (small : n ≤ 10000) (made : AllMade (make_text n) inner) where
  same_path : bytes_eq c.path c.path ≡ true
  same_path = (bytes_eq-Decides c.path c.path).1 refl

  sets_none : (s : ScriptTree) → set_by_words c s ≡ Ok none_set
  sets_none s = ap (λ ws. preset_or_fault c.path (words_give (globals_in s) ws)) no_words

  fits : size_with (made_tree judged (c.path ∷ []) n) none_set ≤ MAX_CODE
  fits = let e = made_fits (c.path ∷ []) n in omega (arith, e, small)

  by_refusal : (end : JobEnd) → Leads (JobSteps c) (Reading []) [] (AtEnd end) inner → outcome_of end ≡ Refused → ⊥
  by_refusal (ran (Done status)) leads is = cc is
  by_refusal (ran Spent) leads is = cc is
  by_refusal (ran DeviceFault) leads is = cc is
  by_refusal refused leads is =
      jobs.never_refused c.path short same_path n small (set_by_words c) size_with sets_none fits c.cpus c.ticks one
      inner
      leads made

  by_end : (end : JobEnd) → Leads (JobSteps c) (Reading []) [] (AtEnd end) inner → outcome_of end ≡ Ticks → ⊥
  by_end (ran (Done status)) leads is = cc is
  by_end (ran Spent) leads is =
      jobs.never_spent c.path short same_path n small (set_by_words c) size_with sets_none fits c.cpus c.ticks one inner
      Spent leads made tt
  by_end (ran DeviceFault) leads is = cc is
  by_end refused leads is = cc is

  unrefused : (answer : Outcome) → RunsScript c [] inner answer → answer ≡ Refused → ⊥
  unrefused _ (RunsScript.came end leads) is = by_refusal end leads is
  unrefused _ (RunsScript.no_memory halts) is = cc is

  unspent : (answer : Outcome) → RunsScript c [] inner answer → answer ≡ Ticks → ⊥
  unspent _ (RunsScript.came end leads) is = by_end end leads is
  unspent _ (RunsScript.no_memory halts) is = cc is

pub never_refused : HasOneStep → IsNeverRefused
never_refused one c n inner no_words short small made runs =
    unrefused one c n inner no_words short small made Refused runs refl

pub never_spent : HasOneStep → IsNeverSpent
never_spent one c n inner no_words short small made runs =
    unspent one c n inner no_words short small made Ticks runs refl
