use Rattle.std.proofs.Common.{refl}
use Rattle.bds_gen_stmt_code.specs.GenStmts.{gen_block}
use Rattle.bds_gen_stmt_code.proofs.WrittenLaws.{block-written}
use Rattle.bds_gen_stmt_code.proofs.laws.blocks_are_written.Goals as goal

pub returns : goal.returns
returns c = λ b u low. block-written b u (gen_block b u) low refl
