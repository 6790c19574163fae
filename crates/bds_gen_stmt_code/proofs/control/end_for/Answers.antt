use Rattle.std.specs.Option.{option_map}
use Rattle.bds_tree.specs.StmtView.{small_of}
use Rattle.bds_gen_stmt_code.proofs.Opening.{for_ended_is}
use Rattle.bds_gen_stmt_code.proofs.control.end_for.Goals as goal

pub returns : goal.returns
returns c =
    for_ended_is (option_map small_of c.args.step.now) c.args.at c.args.before c.args.opened c.args.unit.now c.write_next.new.body c.close_loop.new.body c.leave.new.body c.in_ok-again.again
    c.in_ok-again.ensures.code c.in_ok-again.ensures.place c.in_ok-close_loop.ensures c.leave.ensures
