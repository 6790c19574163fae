use Rattle.std.proofs.Common.{◌∙◌, sym, Vec, ℕ, Global}
use Rattle.bds_check_names.proofs.Indexed.{lookup_any, none_of}
use Rattle.bds_check_names.proofs.globals.Globals.declare.Goals as goal

pub put-requires : goal.put-requires
put-requires c =
    none_of {K = Vec ℕ Global} (λ k. k.items) _ _ (lookup_any (λ k. k.items) c.as_slice.result.now c.self.inside.types.entries)
    (rw (c.as_slice.ensures, c.self.view_is) (sym c.has.ensures ∙ c.if-has.false))
