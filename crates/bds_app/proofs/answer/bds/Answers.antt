use Rattle.std.proofs.Common.{map, string_bytes}
use Rattle.bds_app_farm.proofs.Inside.{ends_told}
use Rattle.bds_app.proofs.Continued.{farm_keeps, goes_on_from}
use Rattle.bds_app.proofs.FormattedAgain.{formatted_again, prints_canonical_text}
use Rattle.bds_app.proofs.OneAnswer.{completes, only_answer, replayed_again}
use Rattle.bds_app.proofs.Reasons.{answers_cause, faults_answer}
use Rattle.bds_app.proofs.Tested.{passes_only}
use Rattle.bds_app.proofs.answer.bds.Goals as goal

pub returns : goal.returns
returns g c =
    let words = map string_bytes c.args.words.now in
    record {
      meaning = c.answer.ensures.answers;
      cause = answers_cause c.scripts_are_determined.ensures c.files_are_determined.ensures words _ _ c.ends_have_causes.ensures _ c.answer.ensures.answers;
      device = faults_answer c.scripts_are_determined.ensures c.files_are_determined.ensures words _ _ c.ends_have_causes.ensures _ c.answer.ensures.answers;
      complete =
          completes words _ _ c.scripts_are_determined.ensures c.files_are_determined.ensures
          c.script_is_refused_or_run.ensures c.job_has_one_step.ensures c.ends_have_causes.ensures
          c.states_are_read_back.ensures.one c.made_scripts_are_never_refused.ensures
          c.made_scripts_are_never_spent.ensures _ c.answer.ensures.answers;
      one = only_answer words _ _ c.log_has_one_end.ensures c.job_has_one_step.ensures c.ends_have_causes.ensures c.states_are_read_back.ensures.one _ c.answer.ensures.answers;
      passes = passes_only words _ _ _ c.answer.ensures.answers;
      ends = λ j submit poll asks. ends_told _ _ (c.ends_are_learnt.ensures _ _) _ _;
      replayed = replayed_again words _ _ c.job_has_one_step.ensures c.ends_have_causes.ensures c.states_are_read_back.ensures.one _ c.answer.ensures.answers;
      canonical = prints_canonical_text words _ _ _ c.canonical_text_is_printed.ensures.printed c.answer.ensures.answers;
      again = formatted_again words _ _ _ c.canonical_text_is_printed.ensures.given c.canonical_text_is_printed_again.ensures c.answer.ensures.answers;
      saved = c.answer.ensures.saved;
      goes_on = goes_on_from c.script_histories_go_on.ensures _ _ words _ c.answer.ensures.answers;
      farm_keeps = farm_keeps c.script_histories_go_on.ensures words _ _ _;
    }
