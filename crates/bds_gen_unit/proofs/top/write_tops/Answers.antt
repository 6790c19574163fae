use Rattle.std.proofs.Common.{arith, map, drop, subst, sym}
use Rattle.std.proofs.lemmas.List.{drop_all}
use Rattle.bds_tree.specs.StmtView.{part_of}
use Rattle.bds_check_typing.specs.GivenValues.{set_by}
use Rattle.bds_gen_unit.specs.Tops.{TopsWritten}
use Rattle.bds_gen_unit.proofs.TopLaws.{no-tops, tops-next, part-high}
use Rattle.bds_gen_unit.proofs.top.write_tops.Goals as goal

pub loop-part-preserved : goal.loop-part-preserved
loop-part-preserved c = record {
  so_far = λ u w. c.loop-part.invariant.so_far u (tops-next (set_by c.args.settings.now) c.args.parts.now c.loop-part.part-index c.part-item.result c.loop-part.unit c.write_part.new.unit u (omega arith) c.part-item.is c.in_ok-write_part.ensures w);
  high = part-high (set_by c.args.settings.now) (part_of c.part-item.result) c.loop-part.unit c.write_part.new.unit c.in_ok-write_part.ensures c.loop-part.invariant.high;
}

pub returns : goal.returns
returns c =
    c.loop-part.invariant.so_far c.loop-part.unit
    (subst (λ l. TopsWritten (set_by c.args.settings.now) (map part_of l) c.loop-part.unit c.loop-part.unit) (sym (drop_all c.loop-part.part-index c.args.parts.now c.loop-part-test.false)) (no-tops (set_by c.args.settings.now) c.loop-part.unit))
