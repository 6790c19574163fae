use Rattle.std.proofs.Common.{◌∙◌}
use Rattle.bds_check_names.proofs.Indexed.{lookup_first}
use Rattle.bds_check_names.proofs.globals.Globals.type_of.Goals as goal

pub returns : goal.returns
returns c = rw (← c.self.view_is, ← c.as_slice.ensures) (c.get.ensures.value ∙ lookup_first (λ k. k.items) c.as_slice.result.now c.self.inside.types.entries)
