use Rattle.std.proofs.Common.{ap₂, ◌∙◌}
use Rattle.std.proofs.lemmas.Result.{IfOk-weaker}
use Rattle.clap.specs.Words.{with_subcommand}
use Rattle.bds_app_words.proofs.declaration.declaration.Goals as goal

pub returns : goal.returns
returns c = IfOk-weaker c.subcommand.result _ _ (λ m h. h.shape c.in_ok-test.ensures.local
    ∙ ap₂ with_subcommand c.in_ok-with_hosts.ensures c.in_ok-test.ensures.shape) c.subcommand.ensures
