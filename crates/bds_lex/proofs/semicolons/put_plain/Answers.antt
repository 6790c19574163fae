use Rattle.std.proofs.Common.{ap, ◌∙◌}
use Rattle.bds_lex.specs.declared.semicolons.Last.{Last}
use Rattle.bds_lex.proofs.PlainWords.{plain_state, state_of}
use Rattle.bds_lex.proofs.semicolons.put_plain.Goals as goal

pub returns-clause-state : goal.returns-clause-state
returns-clause-state c =
    let before = c.args.state.now in
    ap (λ (l : Last). state_of before.brackets before.answers l c.args.line) c.last_of-state.ensures
    ∙ plain_state before c.args.line c.args.word c.requires
