use Rattle.std.proofs.Common.{ap, ◌∙◌}
use Rattle.std.proofs.lemmas.Result.{IfOk-weaker}
use Rattle.bds_tree.specs.View.{tree_of}
use Rattle.bds_meaning.specs.OpeningPlaces as places
use Rattle.bds_source_terms.specs.View.{term_of}
use Rattle.bds_source_places.proofs.calls.mutated.Goals as goal

pub returns-in-Ok-part_of : goal.returns-in-Ok-part_of
returns-in-Ok-part_of c =
    let names = c.args.names.now in
    let place = tree_of c.args.place.now in
    IfOk-weaker c.update.result _ _
    (λ made e. e ∙ c.in-Ok-part_of.ensures c.args.at c.args.number (term_of c.in-Ok.arguments) ∙ ap (places.mutated names c.args.at place c.args.number) c.in-Ok.ensures)
    c.update.ensures
