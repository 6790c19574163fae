use Rattle.std.proofs.Common.{List, length, subst, sym}
use Rattle.std.specs.List.{All}
use Rattle.bds_value.specs.declared.ids.Id.{Id}
use Rattle.bds_value.specs.declared.ids.Status.{Status}
use Rattle.bds_state.specs.Parts.{Parts}
use Rattle.bds_state.specs.Valid.{AreThere, IsThere}
use Rattle.bds_engine.proofs.turns.looked_at_one.Goals as goal

pub waited-requires : goal.waited-requires
waited-requires c =
    let s : Parts = c.args.state.now in
    subst (λ (ids : List Id). All (IsThere (length s.tasks) (length s.threads)) ids) (sym c.as_slice.ensures)
    (subst (λ (st : Status). AreThere (length s.tasks) (length s.threads) st) c.in-Waiting.is (c.is_valid.ensures.threads.each c.args.k c.args.thread.now c.requires).ids)
