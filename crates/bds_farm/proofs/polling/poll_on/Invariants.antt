use Rattle.bds_farm.specs.Inside.{HasPolled, queue_of}
use Rattle.bds_farm.proofs.polling.poll_on.Given as goal

abbrev pub invariant-loop : goal.invariant-loop
invariant-loop g l =
    HasPolled l.poll l.running (queue_of l.fn.known) (queue_of l.known) (g.H.Host.log l.fn.inner)
    (g.H.Host.log l.inner) l.counter
