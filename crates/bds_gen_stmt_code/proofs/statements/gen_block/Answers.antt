use Rattle.std.proofs.lemmas.Result.{on_ok_weaker}
use Rattle.bds_tree.specs.StmtView.{block_of}
use Rattle.bds_gen_stmt_code.proofs.WrittenLaws.{block-written}
use Rattle.bds_gen_stmt_code.proofs.statements.gen_block.Goals as goal

pub returns : goal.returns
returns c = on_ok_weaker c.write_block.result (λ e. block-written (block_of c.args.block.now) c.args.unit.now c.write_block.new.unit c.requires e) c.write_block.ensures
