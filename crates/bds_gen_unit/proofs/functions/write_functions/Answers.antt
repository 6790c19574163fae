use Rattle.std.proofs.Common.{arith, map, subst, sym}
use Rattle.std.proofs.lemmas.List.{drop_all}
use Rattle.bds_tree.specs.StmtView.{part_of}
use Rattle.bds_gen_unit.specs.FunctionParts.{FunctionsWritten}
use Rattle.bds_gen_unit.proofs.DeclaredLaws.{functions-next, no-functions}
use Rattle.bds_gen_unit.proofs.functions.write_functions.Goals as goal

pub loop-part-preserved : goal.loop-part-preserved
loop-part-preserved c = λ u hs w. c.loop-part.invariant u hs (functions-next c.args.parts.now c.loop-part.part-index c.part-item.result c.loop-part.unit c.push_function.new.unit u c.loop-part.functions c.push_function.new.functions hs
    (omega arith) c.part-item.is c.in_ok-push_function.ensures w)

pub returns : goal.returns
returns c =
    c.loop-part.invariant c.loop-part.unit c.loop-part.functions
    (subst (λ l. FunctionsWritten (map part_of l) c.loop-part.unit c.loop-part.unit c.loop-part.functions c.loop-part.functions) (sym (drop_all c.loop-part.part-index c.args.parts.now c.loop-part-test.false)) (no-functions c.loop-part.unit c.loop-part.functions))
