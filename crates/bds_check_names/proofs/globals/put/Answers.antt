use Rattle.std.proofs.Common.{◌≡◌, sym, None, List, ℕ, subst, refl}
use Rattle.std.specs.Map.{lookup}
use Rattle.std.specs.Str.{bytes_eq}
use Rattle.indexmap.proofs.CallerLemmas.{insert_entry-new}
use Rattle.bds_check_names.proofs.Indexed.{seen_push}
use Rattle.bds_check_names.proofs.globals.put.Goals as goal

pub returns-clause-ok : goal.returns-clause-ok
returns-clause-ok c =
    let none : lookup (λ k. bytes_eq c.in_ok-name.name.items k.items) c.args.types.now.entries ≡ None = subst (λ (n : List ℕ). lookup (λ k. bytes_eq n k.items) c.args.types.now.entries ≡ None) (sym c.in_ok-name.ensures.items) c.requires in
    rw (c.in_ok-insert.ensures.entries, insert_entry-new _ c.args.types.now c.in_ok-name.name c.args.ty none, seen_push (λ k. k.items) c.args.types.now.entries c.in_ok-name.name c.args.ty, c.in_ok-name.ensures.items) refl
