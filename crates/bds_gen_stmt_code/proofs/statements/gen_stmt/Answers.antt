use Rattle.std.proofs.lemmas.Result.{on_ok_weaker}
use Rattle.bds_tree.specs.StmtView.{stmt_of}
use Rattle.bds_gen_stmt_code.proofs.WrittenLaws.{stmt-written}
use Rattle.bds_gen_stmt_code.proofs.statements.gen_stmt.Goals as goal

pub returns : goal.returns
returns c = on_ok_weaker c.write_stmt.result (λ e. stmt-written (stmt_of c.args.stmt.now) c.args.unit.now c.write_stmt.new.unit e) c.write_stmt.ensures
