use Rattle.std.proofs.Common.{subst}
use Rattle.bds_app_log.specs.Replays.{PrintsAgain, printed_in}
use Rattle.bds_app_log.proofs.Replayed.{left_over, used_up}
use Rattle.bds_app_log.proofs.replaying.print_if_used_up.Goals as goal

pub returns-then-is_used_up : goal.returns-then-is_used_up
returns-then-is_used_up g c = λ l left done used still. used_up _ l _ left _ _ _ done _ (used c.if-is_used_up.true)
    c.requires
    (subst (λ pairs. PrintsAgain (printed_in pairs) c.args.came (g.H.Host.log c.args.host.now)
    (g.H.Host.log c.print_again.new.host) c.print_again.result) c.as_slice.ensures c.print_again.ensures)

pub returns-else-is_used_up : goal.returns-else-is_used_up
returns-else-is_used_up g c = λ l left done used still. left_over _ l _ left _ _ _ done _ _ still c.if-is_used_up.false
    c.requires c.tell.ensures
