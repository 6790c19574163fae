use Rattle.std.proofs.Common.{sym, ◌∙◌}
use Rattle.std.proofs.lemmas.Bool.{false≢true}
use Rattle.std.proofs.lemmas.Slice.Eq.{bytes_eq-Decides}
use Rattle.bds_farm.proofs.Numbers.{printed_otherwise, unparsed}
use Rattle.bds_farm.proofs.lines.number_of.Goals as goal

pub returns-in_default : goal.returns-in_default
returns-in_default c = unparsed c.args.text.now c.parse.result c.parse.ensures.value.0 (λ n e. c.in_default.not-Ok n e)

pub returns-else-eq : goal.returns-else-eq
returns-else-eq c =
    printed_otherwise c.args.text.now c.parse.result c.in-Ok.number c.parse.ensures.value.0 c.in-Ok.is
    (λ e. false≢true
    (sym c.if-eq.false ∙ c.eq.ensures
    ∙ (bytes_eq-Decides c.format.result.now c.args.text.now).1 (c.format.ensures.text ∙ e)))
