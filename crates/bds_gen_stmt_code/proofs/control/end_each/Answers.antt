use Rattle.bds_gen_stmt_code.proofs.Opening.{each_ended_is}
use Rattle.bds_gen_stmt_code.proofs.control.end_each.Goals as goal

pub returns : goal.returns
returns c = each_ended_is c.args.at c.args.before c.args.opened c.args.unit.now c.close_each.new.body c.leave.new.body c.in_ok-close_each.ensures c.leave.ensures
