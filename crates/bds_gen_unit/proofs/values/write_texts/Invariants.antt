use Rattle.std.proofs.Common.{◌≡◌, drop}
use Rattle.bds_gen_expr.specs.Marks.{written}
use Rattle.bds_gen_stmt.specs.UnitCode.{texts_code}
use Rattle.bds_gen_unit.proofs.values.write_texts.Given as goal

abbrev pub invariant-loop-text : goal.invariant-loop-text
invariant-loop-text l = written l.function (texts_code l.at (drop l.text-index l.texts)) ≡ written l.fn.function (texts_code l.at l.texts)
