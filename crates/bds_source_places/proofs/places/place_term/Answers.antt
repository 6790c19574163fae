use Rattle.std.proofs.Common.{◌∙◌}
use Rattle.std.proofs.lemmas.Result.{IfOk-weaker}
use Rattle.bds_source_terms.specs.View.{change_of, term_of}
use Rattle.bds_source_places.proofs.places.place_term.Goals as goal

pub returns-in-Ok : goal.returns-in-Ok
returns-in-Ok c = IfOk-weaker c.update.result _ _ (λ made e. e ∙ c.in-Ok.ensures c.args.at (change_of c.args.change) (term_of c.args.arguments)) c.update.ensures
