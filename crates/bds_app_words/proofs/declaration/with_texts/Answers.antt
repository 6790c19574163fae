use Rattle.std.proofs.Common.{ap, ap₂, codes, ◌∙◌}
use Rattle.std.proofs.lemmas.Result.{IfOk-weaker}
use Rattle.clap.specs.Words.{with_subcommand}
use Rattle.bds_app_words.specs.Declaration as declared
use Rattle.bds_app_words.proofs.declaration.with_texts.Goals as goal

pub returns : goal.returns
returns c =
    let make_is = c.in_ok-with_one.ensures.shape ∙ ap (declared.with_one (codes "make")) c.number.ensures.rule in
    let make = c.in_ok-subcommand.ensures.shape c.in_ok-with_one.ensures.local
    ∙ ap₂ with_subcommand c.in_ok-with_files.ensures make_is in
    let fmt_is = c.in_ok-with_one-2.ensures.shape ∙ ap (declared.with_one (codes "fmt")) c.wanted.ensures.rule in
    IfOk-weaker c.subcommand-2.result _ _ (λ m h. h.shape c.in_ok-with_one-2.ensures.local
    ∙ ap₂ with_subcommand make fmt_is) c.subcommand-2.ensures
