use Rattle.std.proofs.Common.{rules, arith}
use Rattle.bds_lib.specs.Lists.{is_same}
use Rattle.bds_lib.proofs.ListLaws.{removed, kept}
use Rattle.bds_lib.proofs.changes.remove_item.Goals as goal

pub returns-then-at-len : goal.returns-then-at-len
returns-then-at-len c = search (rules, removed (λ v. is_same v c.args.item.now) c.args.items.now c.place_of-at.result)

pub returns-else-at-len : goal.returns-else-at-len
returns-else-at-len c = kept (λ v. is_same v c.args.item.now) c.args.items.now (grind arith)
