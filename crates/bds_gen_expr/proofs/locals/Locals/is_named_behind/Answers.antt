use Rattle.std.proofs.Common.{◌∙◌, sym, ap, drop}
use Rattle.bds_check_names.specs.Scopes.{any_named}
use Rattle.bds_gen_expr.proofs.LastNumbers.{variables_drop}
use Rattle.bds_gen_expr.proofs.locals.Locals.is_named_behind.Goals as goal

pub returns : goal.returns
returns c =
    rw (← c.self.view_is)
    (c.is_named_behind.ensures ∙ ap (λ vs. any_named c.args.name.now (drop c.args.start vs)) c.self.invariant ∙ ap (any_named c.args.name.now) (sym (variables_drop c.self.inside.numbered c.args.start)))
