use Rattle.std.proofs.Common.{refl}
use Rattle.bds_gen_stmt_code.specs.GenStmts.{gen_stmt}
use Rattle.bds_gen_stmt_code.proofs.WrittenLaws.{stmt-written}
use Rattle.bds_gen_stmt_code.proofs.laws.statements_are_written.Goals as goal

pub returns : goal.returns
returns c = λ s u. stmt-written s u (gen_stmt s u) refl
