-- The declaration, one subcommand after another.
use Rattle.std.proofs.Common.{ap, ap₂, codes, true, [], ◌≡◌, ◌∙◌}
use Rattle.std.proofs.lemmas.Result.{IfOk-weaker}
use Rattle.clap.specs.Words.{App, app_of, with_subcommand}
use Rattle.clap.specs.Simple.{app_of_fields, on_top}
use Rattle.bds_app_words.specs.Declaration as declared
use Rattle.bds_app_words.proofs.declaration.with_runs.Goals as goal

abbrev top : App
top = record { top = record (declared.plain (codes "bds")) { no_binary_name = true; subcommand_required = true }; subs = [] }

pub returns : goal.returns
returns c =
    let named = ap app_of_fields c.no_binary_name.ensures ∙ ap (on_top (λ s. record s { no_binary_name = true })) c.plain.ensures.app in
    let top_is : app_of c.subcommand_required.result ≡ top = ap app_of_fields c.subcommand_required.ensures ∙ ap (on_top (λ s. record s { subcommand_required = true })) named in
    let run = c.in_ok-subcommand.ensures.shape c.in_ok-run.ensures.local ∙ ap₂ with_subcommand top_is c.in_ok-run.ensures.shape in
    IfOk-weaker c.subcommand-2.result _ _ (λ m h. h.shape c.in_ok-resume.ensures.local ∙ ap₂ with_subcommand run c.in_ok-resume.ensures.shape) c.subcommand-2.ensures
