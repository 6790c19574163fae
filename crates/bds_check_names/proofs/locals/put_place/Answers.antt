use Rattle.std.proofs.Common.{◌∙◌, ap}
use Rattle.bds_check_names.specs.Indexes.{place_or_none}
use Rattle.bds_check_names.proofs.LastPlaces.{place_insert}
use Rattle.bds_check_names.proofs.locals.put_place.Goals as goal

pub returns-clause-ok : goal.returns-clause-ok
returns-clause-ok c =
    λ x. ap (λ es. place_or_none es x) c.in_ok-insert.ensures.entries ∙ place_insert (λ k. k.items) x c.args.last.now.entries c.args.name c.args.place
