use Rattle.std.proofs.Common.{◌≡◌, ◌<◌, length, List, ℕ, ◌∙◌, get_or, take, subst, arith, rules}
use Rattle.std.specs.List.{All}
use Rattle.std.proofs.lemmas.List.{take_all}
use Rattle.std.proofs.lemmas.List.Elements.{All-more, All-nil, All-push}
use Rattle.bds_value.specs.declared.value.Value.{Value}
use Rattle.bds_value.specs.Fields.{NumbersFit, PairNumbersFit}
use Rattle.bds_value.proofs.Passed.{passed-none, passed-more, passed-all, value-shallow}
use Rattle.bds_value.proofs.numbers.+fitting.Goals as goal

pub items_fit-loop-item-preserved : goal.items_fit-loop-item-preserved
items_fit-loop-item-preserved t c =
    let lt : c.loop-item.item-index < length c.args.items.now = search rules in
    let is : c.item-item.result ≡ get_or c.args.items.now c.loop-item.item-index c.item-item.result = search rules in
    All-more NumbersFit c.args.items.now c.loop-item.item-index c.item-item.result lt c.loop-item.invariant (subst NumbersFit is c.numbers_fit.ensures)

pub items_fit-returns : goal.items_fit-returns
items_fit-returns t c =
    let le : take c.loop-item.item-index c.args.items.now ≡ c.args.items.now = search (rules, take_all) in
    subst (All NumbersFit) le c.loop-item.invariant

pub pairs_fit-loop-value-init : goal.pairs_fit-loop-value-init
pairs_fit-loop-value-init t c =
    passed-none _ _ _ (c.into_iter-value-iterator.ensures.into_iter_gives ∙ c.iter-value-items.ensures) (All-nil PairNumbersFit)

pub pairs_fit-numbers_fit-requires : goal.pairs_fit-numbers_fit-requires
pairs_fit-numbers_fit-requires t c =
    let p : List ℕ × Value = (c.in-Some.field-0-0.now, c.in-Some.value.now) in
    (omega (arith, value-shallow _ _ _ _ p c.in-Some.ensures.steps c.loop-value.invariant, c.decreases), tt)

pub pairs_fit-loop-value-preserved : goal.pairs_fit-loop-value-preserved
pairs_fit-loop-value-preserved t c =
    let p : List ℕ × Value = (c.in-Some.field-0-0.now, c.in-Some.value.now) in
    passed-more _ _ _ _ _ p c.in-Some.ensures.steps (λ (done : List (List ℕ × Value)). λ (h : All PairNumbersFit done). All-push PairNumbersFit done p h c.numbers_fit.ensures) c.loop-value.invariant

pub pairs_fit-returns : goal.pairs_fit-returns
pairs_fit-returns t c = passed-all (All PairNumbersFit) _ _ c.in-None.ensures.steps.0 c.loop-value.invariant
