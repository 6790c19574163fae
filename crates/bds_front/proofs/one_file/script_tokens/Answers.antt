use Rattle.bds_front.proofs.Texts.{gives-parsed}
use Rattle.bds_front.proofs.one_file.script_tokens.Goals as goal

pub returns-in-Ok : goal.returns-in-Ok
returns-in-Ok c = λ text short lexed. gives-parsed c.args.path.now text c.args.found c.in-Ok.script lexed (c.in-Ok.ensures text short lexed)

pub returns-in-Err : goal.returns-in-Err
returns-in-Err c = λ text short lexed. c.in-Err.ensures text short lexed
