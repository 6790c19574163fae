use Rattle.std.proofs.Common.{◌≡◌, ◌<◌, length, map, option_map, Some, IfSome, sym, ap, ◌∙◌, subst, arith}
use Rattle.std.proofs.lemmas.Result.{err_from_is_err_and}
use Rattle.bds_tree.specs.StmtView.{stmt_of, block_of, case_of}
use Rattle.bds_parse_expr.specs.Gives.{Gives}
use Rattle.bds_parse_stmt_parts.specs.Reading.{next_stmt, next_case, statement}
use Rattle.bds_parse_stmt_body.proofs.ReadSteps.{statement_none, statement_step, block_none, block_step}
use Rattle.bds_parse_stmt_parts.proofs.Many.{passed, loop_none, loop_next, loop_stop, map_push}
use Rattle.bds_parse_stmt_body.proofs.+statements.Goals as goal

pub stmts::stmts-returns-in_err-item-clause-gives : goal.stmts::stmts-returns-in_err-item-clause-gives
stmts::stmts-returns-in_err-item-clause-gives t c =
    let p = err_from_is_err_and c.from_residual.result c.from_residual.ensures.1 in
    rw (p.1, p.2) (passed _ _ _ c.in_err-item.ensures.gives (loop_none (next_stmt (statement c.args.most)) (map stmt_of c.loop-items.items) c.loop-items.rest.now _ c.loop-items.invariant.same))

pub stmts::stmts-loop-items-preserved : goal.stmts::stmts-loop-items-preserved
stmts::stmts-loop-items-preserved t c =
    let step : next_stmt (statement c.args.most) c.loop-items.rest.now ≡ Some (Some (stmt_of c.in-Some.item, c.in-Some.left.now)) = c.in_ok-item.ensures.gives ∙ ap (λ o. Some (option_map (λ x. (stmt_of x.0, x.1.now)) o)) c.in-Some.is in
    let short : length c.in-Some.left.now < length c.loop-items.rest.now = subst (λ o. IfSome o (λ x. length x.1.now < length c.loop-items.rest.now)) c.in-Some.is c.in_ok-item.ensures.shorter in
    rw (c.in_ok-push.ensures.ok, map_push stmt_of c.loop-items.items c.in-Some.item)
    (record {
      shorter = omega (arith, short, c.loop-items.invariant.shorter);
      same = loop_next (next_stmt (statement c.args.most)) (map stmt_of c.loop-items.items) c.loop-items.rest.now _ (stmt_of c.in-Some.item) c.in-Some.left.now c.loop-items.invariant.same step short;
    })

pub stmts::stmts-returns-clause-gives : goal.stmts::stmts-returns-clause-gives
stmts::stmts-returns-clause-gives t c =
    loop_stop (next_stmt (statement c.args.most)) (map stmt_of c.loop-items.items) c.loop-items.rest.now _ c.loop-items.invariant.same (c.in_ok-item.ensures.gives ∙ ap (λ o. Some (option_map (λ x. (stmt_of x.0, x.1.now)) o)) c.in_default.is)

pub switches::cases-returns-in_err-item-clause-gives : goal.switches::cases-returns-in_err-item-clause-gives
switches::cases-returns-in_err-item-clause-gives t c =
    let p = err_from_is_err_and c.from_residual.result c.from_residual.ensures.1 in
    rw (p.1, p.2) (passed _ _ _ c.in_err-item.ensures.gives (loop_none (next_case c.args.most (statement c.args.most)) (map case_of c.loop-items.items) c.loop-items.rest.now _ c.loop-items.invariant.same))

pub switches::cases-loop-items-preserved : goal.switches::cases-loop-items-preserved
switches::cases-loop-items-preserved t c =
    let step : next_case c.args.most (statement c.args.most) c.loop-items.rest.now ≡ Some (Some (case_of c.in-Some.item, c.in-Some.left.now)) = c.in_ok-item.ensures.gives ∙ ap (λ o. Some (option_map (λ x. (case_of x.0, x.1.now)) o)) c.in-Some.is in
    let short : length c.in-Some.left.now < length c.loop-items.rest.now = subst (λ o. IfSome o (λ x. length x.1.now < length c.loop-items.rest.now)) c.in-Some.is c.in_ok-item.ensures.shorter in
    rw (c.in_ok-push.ensures.ok, map_push case_of c.loop-items.items c.in-Some.item)
    (record {
      shorter = omega (arith, short, c.loop-items.invariant.shorter);
      same = loop_next (next_case c.args.most (statement c.args.most)) (map case_of c.loop-items.items) c.loop-items.rest.now _ (case_of c.in-Some.item) c.in-Some.left.now c.loop-items.invariant.same step short;
    })

pub switches::cases-returns-clause-gives : goal.switches::cases-returns-clause-gives
switches::cases-returns-clause-gives t c =
    loop_stop (next_case c.args.most (statement c.args.most)) (map case_of c.loop-items.items) c.loop-items.rest.now _ c.loop-items.invariant.same (c.in_ok-item.ensures.gives ∙ ap (λ o. Some (option_map (λ x. (case_of x.0, x.1.now)) o)) c.in_default.is)

pub stmts::statement-returns-then-most-eq0-clause-gives : goal.stmts::statement-returns-then-most-eq0-clause-gives
stmts::statement-returns-then-most-eq0-clause-gives t c = statement_none c.args.most c.args.tokens.now (omega arith)

pub stmts::statement-returns-clause-gives : goal.stmts::statement-returns-clause-gives
stmts::statement-returns-clause-gives t c =
    subst (λ r. Gives (λ x. (stmt_of x.0, x.1.now)) c.statement_below.result r) (sym (statement_step c.args.most c.args.tokens.now (omega arith))) c.statement_below.ensures.gives

pub stmts::block-returns-then-most-eq0-clause-gives : goal.stmts::block-returns-then-most-eq0-clause-gives
stmts::block-returns-then-most-eq0-clause-gives t c = block_none c.args.most c.args.tokens.now (omega arith)

pub stmts::block-returns-clause-gives : goal.stmts::block-returns-clause-gives
stmts::block-returns-clause-gives t c =
    subst (λ r. Gives (λ x. (block_of x.0, x.1.now)) c.block_below.result r) (sym (block_step c.args.most c.args.tokens.now (omega arith))) c.block_below.ensures.gives
