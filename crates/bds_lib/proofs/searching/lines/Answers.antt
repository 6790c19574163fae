use Rattle.std.proofs.Common.{rules, [], ◌∷◌}
use Rattle.bds_lib.proofs.SearchLaws.{lines_closed, lines_open}
use Rattle.bds_lib.proofs.searching.lines.Goals as goal

pub returns-then-is_empty : goal.returns-then-is_empty
returns-then-is_empty c = lines_closed (10 ∷ []) c.args.text.now c.in_ok-items.items c.in_ok-items.last.now (search rules) c.in_ok-items.ensures

pub returns : goal.returns
returns c = lines_open (10 ∷ []) c.args.text.now c.in_ok-items.items c.push.new.self c.in_ok-items.last.now (search rules) (search rules) c.in_ok-items.ensures
