use Rattle.bds_app_log.proofs.Printed.{done_next, stops_returned, stops_there}
use Rattle.bds_app_log.proofs.printing.print_each.Goals as goal

pub loop-pair-preserved : goal.loop-pair-preserved
loop-pair-preserved g c =
    done_next c.args.pairs.now c.loop-pair.pair-index c.pair-item.result _ _ _ c.loop-pair-test.true c.pair-item.is
    c.loop-pair.invariant c.in_ok-print_one.ensures

pub returns-in_err-print_one : goal.returns-in_err-print_one
returns-in_err-print_one g c =
    stops_returned _ _ _ _ c.from_residual.result c.from_residual.ensures.1
    (stops_there c.args.pairs.now c.loop-pair.pair-index c.pair-item.result _ _ _ _ c.loop-pair-test.true
    c.pair-item.is c.loop-pair.invariant c.in_err-print_one.ensures)
