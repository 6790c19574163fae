use Rattle.std.proofs.Common.{subst, sym}
use Rattle.std.proofs.lemmas.Result.{on_ok_weaker}
use Rattle.bds_tree.specs.declared.stmt.Part.{Part}
use Rattle.bds_tree.specs.StmtView.{part_of}
use Rattle.bds_gen_unit.specs.FunctionParts.{FunctionPushed}
use Rattle.bds_gen_unit.proofs.functions.push_function.Goals as goal

pub returns-in_ok-function-in-Function : goal.returns-in_ok-function-in-Function
returns-in_ok-function-in-Function c =
    on_ok_weaker c.push.result
    (λ e. subst (λ (p : Part). FunctionPushed (part_of p) c.args.unit.now c.write_function.new.unit c.args.functions.now c.push.new.self) (sym c.in-Function.is)
    (c.in_ok-function-in-Function.function, (c.in_ok-function-in-Function.ensures, e)))
    c.push.ensures.ok
