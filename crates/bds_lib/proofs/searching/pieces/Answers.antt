use Rattle.std.proofs.Common.{rules}
use Rattle.bds_lib.proofs.SearchLaws.{split_all}
use Rattle.bds_lib.proofs.searching.pieces.Goals as goal

pub returns : goal.returns
returns c = split_all c.args.part.now c.args.text.now c.in_ok-items.items c.push.new.self c.in_ok-items.last.now (search rules) c.in_ok-items.ensures
