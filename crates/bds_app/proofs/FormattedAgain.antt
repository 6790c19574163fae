-- What the call that formats a script prints is formatted as it is.
use Rattle.std.proofs.Common.{◌≡◌, ◌≢◌, ◌≤◌, ◌⊎◌, ◌++◌, ◌∷◌, ◌∙◌, inl, inr, true, ℕ, List, [], length, Some, refl, sym, subst, append_assoc}
use Rattle.bds_value.specs.declared.TheConstants.{MAX_TEXT}
use Rattle.bds_host.specs.declared.asks.Ask.TheVariants.{Read, Err as Tells}
use Rattle.bds_host.specs.declared.asks.Reply.TheVariants.{Bytes}
use Rattle.bds_host.specs.declared.faults.Fault.TheVariants as fault
use Rattle.bds_host.specs.Host.{Log, faults}
use Rattle.bds_host.specs.Message.{message_of}
use Rattle.bds_app_fmt.specs.Formatting.{FormatsFile, FormatsScript}
use Rattle.bds_app_fmt.specs.FormattedAgain.{Gave, GaveCanonical, GivesCanonical, PrintsCanonical, PrintsItself}
use Rattle.bds_app_run.specs.declared.outcome.Outcome.{Outcome}
use Rattle.bds_app_run.specs.declared.outcome.Outcome.TheVariants.{Ended, NoMemory, Refused}
use Rattle.bds_app_words.specs.Asked.{command_of}
use Rattle.bds_app_words.specs.declared.command.Command.TheVariants.{Format}
use Rattle.bds_app.specs.Answers.{Answers, DoesCommand}
use Rattle.bds_app.specs.Formatted.{HasCanonical}
use Rattle.bds_app.specs.FormattedAgain.{IsFormattedAgain, PrintsCanonicalText}
use Rattle.bds_app.proofs.Formatted.{format_completes}
use Rattle.bds_app_run.proofs.Telling.{comes_settled, says_comes, settled_clean}
use Rattle.bds_app_run.proofs.Trails.{nothing_yet}

formats : (words : List (List ℕ)) (path : List ℕ) (before after : Log) (answer : Outcome) → command_of words ≡ Some (Format path)
    → Answers words before after answer → FormatsScript path before after answer
formats words path before after answer asks does = subst (λ x. DoesCommand x before after answer) asks does

pub prints_canonical_text : (words : List (List ℕ)) (before after : Log) (answer : Outcome) → PrintsCanonical
    → Answers words before after answer → PrintsCanonicalText words before after answer
prints_canonical_text words before after answer law does path asks ended =
    law path before after (subst (λ o. FormatsScript path before after o) ended (formats words path before after answer asks does))

-- what was read is a script whose canonical text is that text
is_canonical : (path text printed : List ℕ) (before : Log) → length path ≤ MAX_TEXT → GaveCanonical text printed
    → HasCanonical path before (before ++ ((Read path, Bytes printed) ∷ [])) printed
is_canonical path text printed before within g = record {
  within = within;
  text = printed;
  tokens = g.same.tokens;
  script = g.same.again;
  read = record { grown = refl; fitting = refl; told = λ e. cc e };
  spells = g.same.spells;
  is = sym g.same.fixed;
  short = g.same.spells.within;
}

module _ (path text printed : List ℕ) (before after rest : Log) (answer : Outcome) (g : GaveCanonical text printed)
    (grown : after ≡ before ++ ((Read path, Bytes printed) ∷ rest)) (clean : faults after ≡ faults before)
    (fits : (answer ≡ Refused) → ⊥) where
  settled : FormatsScript path before after answer → (answer ≡ NoMemory) ⊎ (answer ≡ Ended 0)
  settled (FormatsScript.of_file within h) =
      format_completes path before after printed (before ++ ((Read path, Bytes printed) ∷ [])) rest
      (is_canonical path text printed before within g) (grown ∙ sym (append_assoc before ((Read path, Bytes printed) ∷ []) rest))
      clean answer (FormatsScript.of_file within h)
  settled (FormatsScript.long_path long t) = by (settled_clean Refused before after answer
      (comes_settled (Tells told) Refused before before after answer (nothing_yet before)
      (says_comes before before (nothing_yet before) told Refused after answer t)) clean)
    where
      told : List ℕ
      told = message_of (fault.TooLong path)

      by : (answer ≡ NoMemory) ⊎ (answer ≡ Refused) → (answer ≡ NoMemory) ⊎ (answer ≡ Ended 0)
      by (inl none) = inl none
      by (inr refused) = absurd (fits refused)

pub formatted_again : (words : List (List ℕ)) (before after : Log) (answer : Outcome) → GivesCanonical → PrintsItself
    → Answers words before after answer → IsFormattedAgain words before after answer
formatted_again words before after answer canonical itself does earlier start end from path text printed rest asked ended gave asks grown clean =
    by (settled path text printed before after rest answer given grown clean both.1 this)
  where
    first : FormatsScript from start end (Ended 0)
    first = formats earlier from start end (Ended 0) asked ended

    this : FormatsScript path before after answer
    this = formats words path before after answer asks does

    given : GaveCanonical text printed
    given = canonical from start end text printed first gave

    both : ((answer ≡ Ended 0) → Gave path printed printed before after) × ((answer ≡ Refused) → ⊥)
    both = itself from start end path before after answer text printed first gave rest grown this

    by : (answer ≡ NoMemory) ⊎ (answer ≡ Ended 0) → (answer ≡ NoMemory) ⊎ ((answer ≡ Ended 0) × Gave path printed printed before after)
    by (inl none) = inl none
    by (inr done) = inr (done, both.0 done)
