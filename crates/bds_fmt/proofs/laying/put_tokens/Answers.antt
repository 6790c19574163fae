use Rattle.std.proofs.Common.{◌+◌, ◌++◌, ◌∙◌, Bool, List, arith, ap, sym, subst}
use Rattle.bds_tree.specs.declared.token.Token.{Token}
use Rattle.bds_tree.specs.Words.{words}
use Rattle.bds_fmt.specs.declared.before.Before.{Before}
use Rattle.bds_fmt.specs.Layout.{begins_with_else}
use Rattle.bds_fmt.specs.Told.{written_by}
use Rattle.bds_fmt.proofs.Laid.{IsLaid, laid_none, laid_more, laid_all, laid_below, laid_beyond}
use Rattle.bds_fmt.proofs.laying.put_tokens.Goals as goal

pub loop-i-init : goal.loop-i-init
loop-i-init c = subst (λ (b : Before). IsLaid c.args.tokens.now c.args.out.now 0 b c.args.out.now) (sym c.nothing_before-before.ensures) (laid_none c.args.tokens.now c.args.out.now)

pub behind-before-requires-clause-opened_blocks : goal.behind-before-requires-clause-opened_blocks
behind-before-requires-clause-opened_blocks c = let h = laid_below _ _ _ _ _ c.loop-i.invariant in let k = c.loop-i-test.true in omega (arith, h.opened_blocks)

pub behind-before-requires-clause-closed_blocks : goal.behind-before-requires-clause-closed_blocks
behind-before-requires-clause-closed_blocks c = let h = laid_below _ _ _ _ _ c.loop-i.invariant in let k = c.loop-i-test.true in omega (arith, h.closed_blocks)

pub behind-before-requires-clause-opened_rounds : goal.behind-before-requires-clause-opened_rounds
behind-before-requires-clause-opened_rounds c = let h = laid_below _ _ _ _ _ c.loop-i.invariant in let k = c.loop-i-test.true in omega (arith, h.opened_rounds)

pub behind-before-requires-clause-closed_rounds : goal.behind-before-requires-clause-closed_rounds
behind-before-requires-clause-closed_rounds c = let h = laid_below _ _ _ _ _ c.loop-i.invariant in let k = c.loop-i-test.true in omega (arith, h.closed_rounds)

pub loop-i-preserved : goal.loop-i-preserved
loop-i-preserved c =
    let rest = c.begins_with_else_word.ensures ∙ ap (λ (x : List Token). begins_with_else (words x)) c.split_at.ensures.back in
    let put = c.in_ok-put_written.ensures {u = tt} ∙ ap (λ (t : Bool). c.loop-i.out ++ written_by c.loop-i.before t c.index-tokens-i.result.word) rest in
    subst (λ (b : Before). IsLaid c.args.tokens.now c.args.out.now (c.loop-i.i + 1) b c.put_written.new.out) (sym c.behind-before.ensures)
    (laid_more c.args.tokens.now c.args.out.now c.loop-i.i c.loop-i.before c.loop-i.out c.put_written.new.out c.index-tokens-i.result c.loop-i-test.true c.index-tokens-i.is c.loop-i.invariant put)

pub returns : goal.returns
returns c = laid_all c.args.tokens.now c.args.out.now c.loop-i.i c.loop-i.before c.loop-i.out c.loop-i-test.false c.loop-i.invariant

pub returns-then-is_beyond : goal.returns-then-is_beyond
returns-then-is_beyond c = laid_beyond c.args.tokens.now c.args.out.now c.loop-i.i c.loop-i.before c.loop-i.out c.args.most c.is_beyond.result c.loop-i.invariant c.is_beyond.ensures c.if-is_beyond.true
