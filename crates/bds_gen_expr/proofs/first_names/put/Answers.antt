use Rattle.indexmap.proofs.CallerLemmas.{insert_entry-new}
use Rattle.bds_check_names.proofs.Places.{lookup_push}
use Rattle.bds_gen_expr.proofs.first_names.put.Goals as goal

pub returns-clause-ok : goal.returns-clause-ok
returns-clause-ok c =
    λ x. rw (c.in_ok-insert.ensures.entries, insert_entry-new _ c.args.places.now c.args.name c.args.place c.requires)
    (lookup_push (λ k. k.items) x c.args.places.now.entries c.args.name c.args.place)
