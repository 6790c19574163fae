use Rattle.std.proofs.Common.{◌++◌, arith}
use Rattle.bds_gen_expr.specs.Numbers.{numbered_from}
use Rattle.bds_gen_expr.proofs.Slots.{slots-next}
use Rattle.bds_gen_expr.proofs.names.locals_of.Goals as goal

pub loop-i-preserved : goal.loop-i-preserved
loop-i-preserved c =
    let names = c.args.names.now in
    let types = c.args.function.now.params ++ c.args.function.now.locals in
    slots-next names types c.loop-i.i c.index-names-i.result c.loop-i.locals c.push_slot.new.locals (numbered_from 0 names types) (omega arith) c.index-names-i.is c.in_ok-push_slot.ensures c.loop-i.invariant
