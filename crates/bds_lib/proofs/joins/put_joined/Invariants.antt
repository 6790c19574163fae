use Rattle.std.proofs.Common.{◌≡◌, ◌++◌, take}
use Rattle.std.specs.List.{join_by}
use Rattle.bds_lib.specs.Lists.{item_text}
use Rattle.bds_lib.proofs.joins.put_joined.Given as goal

abbrev pub invariant-loop-i : goal.invariant-loop-i
invariant-loop-i l = l.out.items ≡ l.fn.out.items ++ join_by item_text l.separator (take l.i l.items)
