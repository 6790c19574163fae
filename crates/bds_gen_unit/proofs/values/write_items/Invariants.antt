use Rattle.std.proofs.Common.{◌≡◌, drop}
use Rattle.bds_gen_expr.specs.Marks.{written}
use Rattle.bds_gen_stmt.specs.UnitCode.{items_code}
use Rattle.bds_gen_unit.proofs.values.write_items.Given as goal

abbrev pub invariant-loop-item : goal.invariant-loop-item
invariant-loop-item l = written l.function (items_code l.at (drop l.item-index l.items)) ≡ written l.fn.function (items_code l.at l.items)
