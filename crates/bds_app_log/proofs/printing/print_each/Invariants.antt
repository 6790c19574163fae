use Rattle.std.proofs.Common.{◌≡◌, ◌++◌, take}
use Rattle.bds_app_log.specs.Replays.{all_done, printed_in}
use Rattle.bds_app_log.proofs.printing.print_each.Given as goal

abbrev pub invariant-loop-pair : goal.invariant-loop-pair
invariant-loop-pair g l = g.H.Host.log l.host ≡ g.H.Host.log l.fn.host
    ++ all_done (printed_in (take l.pair-index l.pairs))
