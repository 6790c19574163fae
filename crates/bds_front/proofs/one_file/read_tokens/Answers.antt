use Rattle.bds_front.specs.OneFile.{LacksTokens}
use Rattle.bds_front.proofs.one_file.read_tokens.Goals as goal

pub returns-in-Ok : goal.returns-in-Ok
returns-in-Ok g c = c.lexed_text.ensures _ _ c.in-Ok.ensures

pub returns-in-Err : goal.returns-in-Err
returns-in-Err g c = LacksTokens.unread c.in-Err.ensures
