use Rattle.std.proofs.Common.{◌∙◌}
use Rattle.bds_check_names.proofs.Indexed.{lookup_any}
use Rattle.bds_check_names.proofs.globals.Globals.has.Goals as goal

pub returns : goal.returns
returns c = rw (← c.self.view_is, ← c.as_slice.ensures) (c.contains_key.ensures ∙ lookup_any (λ k. k.items) c.as_slice.result.now c.self.inside.types.entries)
