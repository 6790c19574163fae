use Rattle.std.proofs.Common.{sym, ap, subst, ◌∙◌}
use Rattle.std.specs.List.{All}
use Rattle.bds_state.specs.Parts.{Parts}
use Rattle.bds_ckpt.specs.Short.{IsShort}
use Rattle.bds_ckpt.proofs.Writes.{short_threads}
use Rattle.bds_ckpt.proofs.writing.states.write_front.Goals as goal

pub first_fields-requires-clause-threads : goal.first_fields-requires-clause-threads
first_fields-requires-clause-threads c = subst (All IsShort) (sym (c.as_slice-2.ensures ∙ ap (λ (s : Parts). s.threads) c.state.view_is)) (short_threads c.args.state.now c.is_valid.ensures)
