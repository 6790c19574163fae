use Rattle.std.proofs.Common.{List, ℕ, None, Some, subst, sym, ◌∙◌}
use Rattle.bds_engine_parts.proofs.Finding.{IsFinding, begins, found}
use Rattle.bds_engine_parts.proofs.states.ready_in_turn.Goals as goal

pub loop-k-init : goal.loop-k-init
loop-k-init c = subst (λ (ns : List ℕ). IsFinding c.args.state.now ns None) (sym c.new-numbers.ensures) (begins c.args.state.now)

pub loop-k-preserved : goal.loop-k-preserved
loop-k-preserved c =
    subst (λ (ns : List ℕ). IsFinding c.args.state.now ns (Some c.in-Some.k)) (sym c.in_ok-push.ensures.ok)
    (found c.args.state.now c.loop-k.numbers c.loop-k.after c.in-Some.k c.loop-k.invariant (sym c.next_ready.ensures ∙ c.in-Some.is))
