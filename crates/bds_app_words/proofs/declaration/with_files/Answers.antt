use Rattle.std.proofs.Common.{ap, ap₂, codes, ◌∙◌}
use Rattle.std.proofs.lemmas.Result.{IfOk-weaker}
use Rattle.clap.specs.Words.{with_subcommand}
use Rattle.bds_app_words.specs.Declaration as declared
use Rattle.bds_app_words.proofs.declaration.with_files.Goals as goal

pub returns : goal.returns
returns c =
    let check_is = c.in_ok-with_one.ensures.shape ∙ ap (declared.with_one (codes "check")) c.wanted.ensures.rule in
    let check = c.in_ok-subcommand.ensures.shape c.in_ok-with_one.ensures.local ∙ ap₂ with_subcommand c.in_ok-with_runs.ensures check_is in
    let info_is = c.in_ok-with_one-2.ensures.shape ∙ ap (declared.with_one (codes "info")) c.wanted-2.ensures.rule in
    IfOk-weaker c.subcommand-2.result _ _ (λ m h. h.shape c.in_ok-with_one-2.ensures.local ∙ ap₂ with_subcommand check info_is) c.subcommand-2.ensures
