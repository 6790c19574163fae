use Rattle.bds_front.proofs.one_file.parse_text.Goals as goal

pub returns-in-Ok : goal.returns-in-Ok
returns-in-Ok c = c.parse_tokens.ensures c.args.text.now c.in-Ok.ensures.0 c.in-Ok.ensures.1
