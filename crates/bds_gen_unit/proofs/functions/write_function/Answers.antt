use Rattle.bds_tree.specs.declared.stmt.Block.{out-Block}
use Rattle.bds_tree.specs.StmtView.{function_of}
use Rattle.bds_gen_unit.proofs.DeclaredLaws.{function_done}
use Rattle.bds_gen_unit.proofs.SetLaws.{block_at_is}
use Rattle.bds_gen_unit.proofs.functions.write_function.Goals as goal

pub returns : goal.returns
returns c =
    function_done (function_of c.args.declared.now) c.args.unit.now c.open.new.unit c.gen_block.new.unit c.take_function.new.unit c.write_ending.new.function (out-Block c.args.declared.now.body).at c.take_function.result
    c.in_ok-open.ensures c.in_ok-gen_block.ensures (block_at_is c.args.declared.now.body) c.in_ok-write_ending.ensures c.take_function.ensures.function c.take_function.ensures.others
