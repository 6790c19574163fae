use Rattle.std.proofs.Common.{sym, subst}
use Rattle.bds_host.specs.declared.asks.Ask.TheVariants.{Next}
use Rattle.bds_farm.specs.Inside.{Inside, queue_of}
use Rattle.bds_farm.proofs.Asking.{no_turn, run_turn}
use Rattle.bds_farm.proofs.replying.next.Goals as goal

pub returns-in-Some : goal.returns-in-Some
returns-in-Some g c =
    λ submit. run_turn submit c.args.poll.now c.args.ready.now c.args.running.now
    (queue_of c.args.known.now) c.in-Some.thread _ (sym c.in-Some.ensures.turn) c.in-Some.ensures.within

pub returns-in-None : goal.returns-in-None
returns-in-None g c = λ submit.
    subst (λ x. Inside submit c.args.poll.now (Next x c.args.running.now) (queue_of c.args.known.now)
    (queue_of c.next_end.new.known) (g.H.Host.log c.args.inner.now)
    (g.H.Host.log c.next_end.new.inner) c.next_end.result)
    (sym (no_turn c.args.known.now.last c.args.ready.now (sym c.in-None.ensures.turn))) (c.next_end.ensures submit)
