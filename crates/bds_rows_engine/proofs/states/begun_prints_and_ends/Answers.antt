use Rattle.std.proofs.Common.{subst, sym}
use Rattle.bds_engine.proofs.Turning.{takes_valid}
use Rattle.bds_state.specs.Parts.{Parts}
use Rattle.bds_verify.specs.Threads.{IsThread}
use Rattle.bds_rows_engine.proofs.states.begun_prints_and_ends.Goals as goal

pub prints_and_ends-requires-clause-valid : goal.prints_and_ends-requires-clause-valid
prints_and_ends-requires-clause-valid c =
    subst (λ (p : Parts). IsThread p.unit c.take-thread.result) (sym c.state.view_is)
    (takes_valid c.in_ok-state.state c.take-thread.new.state 0 c.take-thread.result c.is_valid.ensures c.take-thread.ensures)
