use Rattle.std.proofs.Common.{option_map, sym, ap, ◌∙◌, subst, arith}
use Rattle.bds_parse_expr.specs.Gives.{Gives}
use Rattle.bds_parse_stmt_parts.specs.Types.{wrapper_at, wrapped}
use Rattle.bds_parse_stmt_parts.proofs.TypeLaws.{stays, no_room, goes_on}
use Rattle.bds_parse_stmt_parts.proofs.types.+wrapped.Goals as goal

pub returns-in_default-clause-gives : goal.returns-in_default-clause-gives
returns-in_default-clause-gives t c = stays c.args.room c.args.inner c.args.tokens.now (sym c.wrapper_at.ensures.is ∙ ap (option_map (λ x. (x.0, x.1.now))) c.in_default.is)

pub returns-then-room-eq0-clause-gives : goal.returns-then-room-eq0-clause-gives
returns-then-room-eq0-clause-gives t c = no_room c.args.room c.args.inner c.args.tokens.now (c.in-Some.wrapper, c.in-Some.rest.now) (omega arith) (sym c.wrapper_at.ensures.is ∙ ap (option_map (λ x. (x.0, x.1.now))) c.in-Some.is)

pub returns-clause-gives : goal.returns-clause-gives
returns-clause-gives t c =
    subst (λ r. Gives (λ x. (x.0, x.1.now)) c.wrapped.result r)
    (sym (goes_on c.args.room c.args.inner c.args.tokens.now (c.in-Some.wrapper, c.in-Some.rest.now) _ (omega arith) (sym c.wrapper_at.ensures.is ∙ ap (option_map (λ x. (x.0, x.1.now))) c.in-Some.is) c.in_ok-outer.ensures))
    c.wrapped.ensures.gives
