use Rattle.std.proofs.Common.{ap, ap₂, codes, ◌∙◌}
use Rattle.std.proofs.lemmas.Result.{IfOk-weaker}
use Rattle.clap.specs.Words.{with_subcommand}
use Rattle.bds_app_words.specs.Declaration as declared
use Rattle.bds_app_words.proofs.declaration.with_hosts.Goals as goal

pub returns : goal.returns
returns c =
    let replay_is = c.in_ok-with_one.ensures.shape ∙ ap (declared.with_one (codes "replay")) c.wanted.ensures.rule in
    let replay = c.in_ok-subcommand.ensures.shape c.in_ok-with_one.ensures.local
    ∙ ap₂ with_subcommand c.in_ok-with_texts.ensures replay_is in
    IfOk-weaker c.subcommand-2.result _ _ (λ m h. h.shape c.in_ok-dry.ensures.local
    ∙ ap₂ with_subcommand replay c.in_ok-dry.ensures.shape) c.subcommand-2.ensures
