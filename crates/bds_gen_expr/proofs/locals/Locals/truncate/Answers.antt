use Rattle.std.proofs.Common.{◌∙◌, sym, ap, take}
use Rattle.bds_gen_expr.specs.Numbers.{variables_of}
use Rattle.bds_gen_expr.proofs.LastNumbers.{variables_take}
use Rattle.bds_gen_expr.proofs.locals.Locals.truncate.Goals as goal

pub invariant_of-self : goal.invariant_of-self
invariant_of-self c = c.truncate.ensures ∙ ap (take c.args.count) c.self.invariant ∙ sym (variables_take c.self.inside.numbered c.args.count) ∙ ap variables_of (sym c.cut.ensures)
