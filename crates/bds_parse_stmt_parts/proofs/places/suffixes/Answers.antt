use Rattle.std.proofs.Common.{◌≡◌, ◌<◌, length, map, option_map, Some, IfSome, ap, ◌∙◌, subst, arith}
use Rattle.std.proofs.lemmas.Result.{err_from_is_err_and}
use Rattle.bds_tree.specs.StmtView.{suffix_of}
use Rattle.bds_parse_stmt_parts.specs.Reading.{next_suffix}
use Rattle.bds_parse_stmt_parts.proofs.Many.{passed, loop_none, loop_next, loop_stop, map_push}
use Rattle.bds_parse_stmt_parts.proofs.places.suffixes.Goals as goal

pub returns-in_err-item-clause-gives : goal.returns-in_err-item-clause-gives
returns-in_err-item-clause-gives c =
    let p = err_from_is_err_and c.from_residual.result c.from_residual.ensures.1 in
    rw (p.1, p.2) (passed _ _ _ c.in_err-item.ensures.gives (loop_none (next_suffix c.args.most) (map suffix_of c.loop-items.items) c.loop-items.rest.now _ c.loop-items.invariant.same))

pub loop-items-preserved : goal.loop-items-preserved
loop-items-preserved c =
    let step : next_suffix c.args.most c.loop-items.rest.now ≡ Some (Some (suffix_of c.in-Some.item, c.in-Some.left.now)) = c.in_ok-item.ensures.gives ∙ ap (λ o. Some (option_map (λ x. (suffix_of x.0, x.1.now)) o)) c.in-Some.is in
    let short : length c.in-Some.left.now < length c.loop-items.rest.now = subst (λ o. IfSome o (λ x. length x.1.now < length c.loop-items.rest.now)) c.in-Some.is c.in_ok-item.ensures.shorter in
    rw (c.in_ok-push.ensures.ok, map_push suffix_of c.loop-items.items c.in-Some.item)
    (record {
      shorter = omega (arith, short, c.loop-items.invariant.shorter);
      same = loop_next (next_suffix c.args.most) (map suffix_of c.loop-items.items) c.loop-items.rest.now _ (suffix_of c.in-Some.item) c.in-Some.left.now c.loop-items.invariant.same step short;
    })

pub returns-clause-gives : goal.returns-clause-gives
returns-clause-gives c =
    loop_stop (next_suffix c.args.most) (map suffix_of c.loop-items.items) c.loop-items.rest.now _ c.loop-items.invariant.same (c.in_ok-item.ensures.gives ∙ ap (λ o. Some (option_map (λ x. (suffix_of x.0, x.1.now)) o)) c.in_default.is)
