use Rattle.bds_front.specs.OneFile.{LacksTokens}
use Rattle.bds_front.proofs.Texts.{gives-read}
use Rattle.bds_front.proofs.one_file.lexed_text.Goals as goal

pub returns-in-Ok : goal.returns-in-Ok
returns-in-Ok c = λ start end asked. gives-read c.args.path.now c.args.text c.in-Ok.tokens start end asked c.in-Ok.ensures

pub returns-in-Err : goal.returns-in-Err
returns-in-Err c = λ start end asked. LacksTokens.failed c.args.text asked c.in-Err.ensures
