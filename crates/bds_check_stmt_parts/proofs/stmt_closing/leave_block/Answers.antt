use Rattle.bds_check_stmt_parts.proofs.Extending.{cut_back}
use Rattle.bds_check_stmt_parts.proofs.stmt_closing.leave_block.Goals as goal

pub returns : goal.returns
returns c = λ before e n. cut_back before c.args.names.now c.truncate.new.self c.args.count e n c.truncate.ensures
