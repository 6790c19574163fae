use Rattle.std.proofs.Common.{◌∙◌, sym}
use Rattle.bds_lex.proofs.WriterSteps.{put_waiting}
use Rattle.bds_lex.proofs.writer.put.Goals as goal

pub returns-in-Some-clause-value : goal.returns-in-Some-clause-value
returns-in-Some-clause-value c =
    put_waiting c.put_token.result c.args.writer.now c.in-Some.raw c.args.next c.put_token.new.out c.put_token.new.state c.replace.new.dest
    (sym c.replace.ensures.value ∙ c.in-Some.is) c.replace.ensures.after
    (rw (← c.is_else-before_else.ensures) c.put_token.ensures.ok)
    (rw (← c.is_else-before_else.ensures) c.put_token.ensures.state)
