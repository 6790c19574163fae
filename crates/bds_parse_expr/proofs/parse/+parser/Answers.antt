use Rattle.std.proofs.Common.{◌≡◌, ◌≤◌, ◌<◌, length, ◌-◌, false, List, [], ◌∷◌, ◌++◌, sym, ap, ◌∙◌, subst, arith, take, drop, Option, Some, None}
use Rattle.std.proofs.lemmas.Result.{err_from_is_err_and}
use Rattle.bds_tree.specs.declared.token.Token.{Token}
use Rattle.bds_tree.specs.declared.expr.Expr.{Expr}
use Rattle.bds_tree.specs.Shape.{heights, pair_heights, follow}
use Rattle.bds_tree.specs.View.{tree_of, trees_of, pairs_of}
use Rattle.bds_parse_expr.specs.declared.fault.ParseFault.{ParseFault}
use Rattle.bds_parse_expr.specs.declared.fault.ParseFault.TheVariants as fault
use Rattle.bds_parse_expr.specs.declared.words.Close.TheVariants as close
use Rattle.bds_parse_expr.specs.Gives.{FailsWith, Gives}
use Rattle.bds_parse_expr.specs.Reading.{next_of, strength, expression, join, members, pair, pairs, closes}
use Rattle.bds_parse_expr.proofs.Loops.{cut_at, empty, climb_none, climb_err, climb_next, climb_stop, climb_empty, Tails, tails_start, tails_close, tails_none, tails_err, tails_next, tails_empty, heights_push, heights_one, expression_none, expression_some, PairTails, pair_tails_start, pair_tails_close, pair_tails_none, pair_tails_err, pair_tails_next, pair_tails_empty, pair_heights_push, pair_heights_one}
use Rattle.bds_parse_expr.proofs.parse.+parser.Goals as goal
use Rattle.bds_parse_expr.proofs.parse.+parser.Goals.{climb-in_default, climb-in-len1-up+then-strength-least}

after : List Token → List Token
after ts = take (length ts - 1) (drop 1 ts)

pub climb-returns-then-follow-strength-clause-gives : goal.climb-returns-then-follow-strength-clause-gives
unfolding after
climb-returns-then-follow-strength-clause-gives t c =
    let rest = c.loop-rest.rest.now in
    let k : c.next_of-next.result ≡ next_of c.t-item.result.word = c.next_of-next.ensures in
    let lo : c.args.least ≤ strength (next_of c.t-item.result.word) = subst (λ j. c.args.least ≤ strength j) k (omega (arith, c.strength.ensures)) in
    let hi : follow (tree_of c.loop-rest.tall.expr) < strength (next_of c.t-item.result.word) = subst (λ j. follow (tree_of c.loop-rest.tall.expr) < strength j) k (omega (arith, c.strength-in-len1-up.ensures, c.follow.ensures)) in
    climb_none _ _ _ rest (after rest) c.t-item.result _ (cut_at rest c.t-item.result c.in-len1-up.len_at_least c.t-item.is) c.loop-rest.invariant.same lo hi

-- a fault that is passed on
passed : {Y Z : Type 0} (e : ParseFault) (a : Option Y) (b : Option Z) → FailsWith e a → (a ≡ None → b ≡ None) → FailsWith e b
passed (fault.Syntax l) a b f h = h f
passed fault.NoMemory a b f h = tt

pub climb-returns-in_err-longer-clause-gives : goal.climb-returns-in_err-longer-clause-gives
unfolding after
climb-returns-in_err-longer-clause-gives t c =
    let rest = c.loop-rest.rest.now in
    let e = tree_of c.loop-rest.tall.expr in
    let k : c.next_of-next.result ≡ next_of c.t-item.result.word = c.next_of-next.ensures in
    let lo : c.args.least ≤ strength (next_of c.t-item.result.word) = subst (λ j. c.args.least ≤ strength j) k (omega (arith, c.strength.ensures)) in
    let hi : strength (next_of c.t-item.result.word) ≤ follow e = subst (λ j. strength j ≤ follow e) k (omega (arith, c.strength-in-len1-up.ensures, c.follow.ensures)) in
    let p = err_from_is_err_and c.from_residual.result c.from_residual.ensures.1 in
    rw (p.1, p.2) (passed _ _ _ c.in_err-longer.ensures.gives
    (λ (j : join c.args.most (expression c.args.most) e c.next_of-next.result (after rest) ≡ None).
    climb_err c.args.most c.args.least e rest (after rest) c.t-item.result _ (cut_at rest c.t-item.result c.in-len1-up.len_at_least c.t-item.is) c.loop-rest.invariant.same lo hi
    (subst (λ n. join c.args.most (expression c.args.most) e n (after rest) ≡ None) k j)))

pub climb-loop-rest-preserved : goal.climb-loop-rest-preserved
unfolding after
climb-loop-rest-preserved t c =
    let rest = c.loop-rest.rest.now in
    let e = tree_of c.loop-rest.tall.expr in
    let k : c.next_of-next.result ≡ next_of c.t-item.result.word = c.next_of-next.ensures in
    let lo : c.args.least ≤ strength (next_of c.t-item.result.word) = subst (λ j. c.args.least ≤ strength j) k (omega (arith, c.strength.ensures)) in
    let hi : strength (next_of c.t-item.result.word) ≤ follow e = subst (λ j. strength j ≤ follow e) k (omega (arith, c.strength-in-len1-up.ensures, c.follow.ensures)) in
    let is = cut_at rest c.t-item.result c.in-len1-up.len_at_least c.t-item.is in
    let short : length c.in_ok-longer.left.now ≤ length (after rest) = c.in_ok-longer.ensures.shorter in
    record {
      low = c.in_ok-longer.ensures.low;
      shorter = omega (arith, ap length is, c.loop-rest.invariant.shorter);
      same = climb_next c.args.most c.args.least e rest (after rest) c.t-item.result _ (tree_of c.in_ok-longer.longer.expr, c.in_ok-longer.left.now) is c.loop-rest.invariant.same lo hi
          (subst (λ n. join c.args.most (expression c.args.most) e n (after rest) ≡ Some (tree_of c.in_ok-longer.longer.expr, c.in_ok-longer.left.now)) k c.in_ok-longer.ensures.gives) short;
    }

pub climb-returns-clause-gives : goal.climb-returns-clause-gives
unfolding after
climb-returns-clause-gives t c =
    let rest = c.loop-rest.rest.now in
    elim c.if-rest-lt1.branch [
      | climb-in_default w ↦ climb_empty c.args.most c.args.least _ rest _ (empty rest w.in_default.len_below) c.loop-rest.invariant.same
      | climb-in-len1-up+then-strength-least w ↦
          let k : w.next_of-next.result ≡ next_of w.t-item.result.word = w.next_of-next.ensures in
          let lo : strength (next_of w.t-item.result.word) < c.args.least = subst (λ j. strength j < c.args.least) k (omega (arith, w.strength.ensures, w.if-strength-least.true)) in
          climb_stop c.args.most c.args.least _ rest (after rest) w.t-item.result _ (cut_at rest w.t-item.result w.in-len1-up.len_at_least w.t-item.is) c.loop-rest.invariant.same lo
    ]

pub expression-returns-in_err-first-clause-gives : goal.expression-returns-in_err-first-clause-gives
expression-returns-in_err-first-clause-gives t c =
    let p = err_from_is_err_and c.from_residual.result c.from_residual.ensures.1 in
    rw (p.1, p.2) (passed _ _ _ c.in_err-first.ensures.gives (λ j. expression_none c.args.most c.args.least c.args.tokens.now (omega arith) j))

pub expression-returns-clause-gives : goal.expression-returns-clause-gives
expression-returns-clause-gives t c =
    subst (λ r. Gives (λ x. (tree_of x.0.expr, x.1.now)) c.climb.result r)
    (sym (expression_some c.args.most c.args.least c.args.tokens.now (tree_of c.in_ok-first.first.expr, c.in_ok-first.rest.now) (omega arith) c.in_ok-first.ensures.gives))
    c.climb.ensures.gives

pub members-loop-rest-init : goal.members-loop-rest-init
members-loop-rest-init t c =
    let ts = c.args.tokens.now in
    let e = c.in_ok-first.first.expr in
    let r = c.in_ok-first.rest.now in
    let short : length r < length ts = c.in_ok-first.ensures.shorter in
    let items : c.push.new.self ≡ e ∷ [] = c.in_ok-push.ensures.ok ∙ ap (λ v. v ++ e ∷ []) c.new-items.ensures in
    let apart : closes c.args.close c.head-item.result.word ≡ false = sym c.is_close.ensures ∙ c.if-is_close.false in
    record {
      low = omega (arith, c.in_ok-first.ensures.low);
      is_height = omega (arith, c.in_ok-first.first.is_height, heights_one e, ap (λ v. heights (trees_of v)) items);
      shorter = short;
      same = subst (λ v. Tails c.args.close c.args.most v r (members (closes c.args.close) (expression c.args.most) ts)) (sym items)
          (tails_start c.args.close c.args.most ts c.head-item.result e r (subst (λ (u : Token). closes c.args.close u.word ≡ false) c.head-item.is apart) c.in_ok-first.ensures.gives short);
    }

pub members-returns-then-is_close-2-clause-gives : goal.members-returns-then-is_close-2-clause-gives
unfolding after
members-returns-then-is_close-2-clause-gives t c =
    let rest = c.loop-rest.rest.now in
    tails_close c.args.close c.args.most c.loop-rest.items rest (after rest) c.t-item.result _ (cut_at rest c.t-item.result c.in-len1-up-rest.len_at_least c.t-item.is) c.loop-rest.invariant.same
    (sym c.is_close-in-len1-up-rest.ensures ∙ c.if-is_close-2.true)

pub members-returns-then-not-is_comma-clause-gives : goal.members-returns-then-not-is_comma-clause-gives
unfolding after
members-returns-then-not-is_comma-clause-gives t c =
    let rest = c.loop-rest.rest.now in
    tails_none c.args.close c.args.most c.loop-rest.items rest (after rest) c.t-item.result _ (cut_at rest c.t-item.result c.in-len1-up-rest.len_at_least c.t-item.is) c.loop-rest.invariant.same
    (sym c.is_close-in-len1-up-rest.ensures ∙ c.if-is_close-2.false) (sym c.is_comma.ensures ∙ c.if-not-is_comma.true)

pub members-returns-in_err-next-clause-gives : goal.members-returns-in_err-next-clause-gives
unfolding after
members-returns-in_err-next-clause-gives t c =
    let rest = c.loop-rest.rest.now in
    let p = err_from_is_err_and c.from_residual-in_err-next.result c.from_residual-in_err-next.ensures.1 in
    rw (p.1, p.2) (passed _ _ _ c.in_err-next.ensures.gives
    (λ (j : expression c.args.most 1 (after rest) ≡ None).
    tails_err c.args.close c.args.most c.loop-rest.items rest (after rest) c.t-item.result _ (cut_at rest c.t-item.result c.in-len1-up-rest.len_at_least c.t-item.is) c.loop-rest.invariant.same
    (sym c.is_close-in-len1-up-rest.ensures ∙ c.if-is_close-2.false) (sym c.is_comma.ensures ∙ c.if-not-is_comma.false) j))

pub members-loop-rest-preserved : goal.members-loop-rest-preserved
unfolding after
members-loop-rest-preserved t c =
    let rest = c.loop-rest.rest.now in
    let is = cut_at rest c.t-item.result c.in-len1-up-rest.len_at_least c.t-item.is in
    let short : length c.in_ok-next.left.now < length (after rest) = c.in_ok-next.ensures.shorter in
    let short2 : length c.in_ok-next.left.now ≤ length (after rest) = omega arith in
    rw c.in_ok-push-2.ensures.ok
    (record {
      low = omega (arith, c.max-height.ensures, c.loop-rest.invariant.low, c.in_ok-next.ensures.low);
      is_height = omega (arith, c.max-height.ensures, heights_push c.loop-rest.items c.in_ok-next.next.expr, c.loop-rest.invariant.is_height, c.in_ok-next.next.is_height);
      shorter = omega (arith, ap length is, c.loop-rest.invariant.shorter);
      same = tails_next c.args.close c.args.most c.loop-rest.items rest (after rest) c.t-item.result _ c.in_ok-next.next.expr c.in_ok-next.left.now is c.loop-rest.invariant.same
          (sym c.is_close-in-len1-up-rest.ensures ∙ c.if-is_close-2.false) (sym c.is_comma.ensures ∙ c.if-not-is_comma.false) c.in_ok-next.ensures.gives short2;
    })

pub members-returns-clause-gives : goal.members-returns-clause-gives
members-returns-clause-gives t c =
    let rest = c.loop-rest.rest.now in
    tails_empty c.args.close c.args.most c.loop-rest.items rest _ (empty rest c.in_default-rest.len_below) c.loop-rest.invariant.same

pub pairs-loop-rest-init : goal.pairs-loop-rest-init
pairs-loop-rest-init t c =
    let ts = c.args.tokens.now in
    let p : Expr × Expr = (c.in_ok-key.key, c.in_ok-key.value) in
    let r = c.in_ok-key.rest.now in
    let short : length r < length ts = c.in_ok-key.ensures.shorter in
    let items : c.push.new.self ≡ p ∷ [] = c.in_ok-push.ensures.ok ∙ ap (λ v. v ++ p ∷ []) c.new-items.ensures in
    let apart : closes close.Value c.head-item.result.word ≡ false = sym c.is_close.ensures ∙ c.if-is_close.false in
    record {
      low = c.in_ok-key.ensures.low;
      is_height = c.in_ok-key.ensures.height ∙ sym (ap (λ v. pair_heights (pairs_of v)) items ∙ pair_heights_one p);
      shorter = short;
      same = subst (λ v. PairTails c.args.most v r (pairs (expression c.args.most) ts)) (sym items)
          (pair_tails_start c.args.most ts c.head-item.result p r (subst (λ (u : Token). closes close.Value u.word ≡ false) c.head-item.is apart) c.in_ok-key.ensures.gives short);
    }

pub pairs-returns-then-is_close-2-clause-gives : goal.pairs-returns-then-is_close-2-clause-gives
unfolding after
pairs-returns-then-is_close-2-clause-gives t c =
    let rest = c.loop-rest.rest.now in
    pair_tails_close c.args.most c.loop-rest.items rest (after rest) c.t-item.result _ (cut_at rest c.t-item.result c.in-len1-up-rest.len_at_least c.t-item.is) c.loop-rest.invariant.same
    (sym c.is_close-in-len1-up-rest.ensures ∙ c.if-is_close-2.true)

pub pairs-returns-then-not-is_comma-clause-gives : goal.pairs-returns-then-not-is_comma-clause-gives
unfolding after
pairs-returns-then-not-is_comma-clause-gives t c =
    let rest = c.loop-rest.rest.now in
    pair_tails_none c.args.most c.loop-rest.items rest (after rest) c.t-item.result _ (cut_at rest c.t-item.result c.in-len1-up-rest.len_at_least c.t-item.is) c.loop-rest.invariant.same
    (sym c.is_close-in-len1-up-rest.ensures ∙ c.if-is_close-2.false) (sym c.is_comma.ensures ∙ c.if-not-is_comma.true)

pub pairs-returns-in_err-key-2-clause-gives : goal.pairs-returns-in_err-key-2-clause-gives
unfolding after
pairs-returns-in_err-key-2-clause-gives t c =
    let rest = c.loop-rest.rest.now in
    let p = err_from_is_err_and c.from_residual-in_err-key-2.result c.from_residual-in_err-key-2.ensures.1 in
    rw (p.1, p.2) (passed _ _ _ c.in_err-key-2.ensures.gives
    (λ (j : pair (expression c.args.most) (after rest) ≡ None).
    pair_tails_err c.args.most c.loop-rest.items rest (after rest) c.t-item.result _ (cut_at rest c.t-item.result c.in-len1-up-rest.len_at_least c.t-item.is) c.loop-rest.invariant.same
    (sym c.is_close-in-len1-up-rest.ensures ∙ c.if-is_close-2.false) (sym c.is_comma.ensures ∙ c.if-not-is_comma.false) j))

pub pairs-loop-rest-preserved : goal.pairs-loop-rest-preserved
unfolding after
pairs-loop-rest-preserved t c =
    let rest = c.loop-rest.rest.now in
    let p : Expr × Expr = (c.in_ok-key-2.key, c.in_ok-key-2.value) in
    let is = cut_at rest c.t-item.result c.in-len1-up-rest.len_at_least c.t-item.is in
    let short : length c.in_ok-key-2.left.now < length (after rest) = c.in_ok-key-2.ensures.shorter in
    let short2 : length c.in_ok-key-2.left.now ≤ length (after rest) = omega arith in
    rw c.in_ok-push-2.ensures.ok
    (record {
      low = omega (arith, c.max-height.ensures, c.loop-rest.invariant.low, c.in_ok-key-2.ensures.low);
      is_height = omega (arith, c.max-height.ensures, pair_heights_push c.loop-rest.items p, c.loop-rest.invariant.is_height, c.in_ok-key-2.ensures.height);
      shorter = omega (arith, ap length is, c.loop-rest.invariant.shorter);
      same = pair_tails_next c.args.most c.loop-rest.items rest (after rest) c.t-item.result _ p c.in_ok-key-2.left.now is c.loop-rest.invariant.same
          (sym c.is_close-in-len1-up-rest.ensures ∙ c.if-is_close-2.false) (sym c.is_comma.ensures ∙ c.if-not-is_comma.false) c.in_ok-key-2.ensures.gives short2;
    })

pub pairs-returns-clause-gives : goal.pairs-returns-clause-gives
pairs-returns-clause-gives t c =
    let rest = c.loop-rest.rest.now in
    pair_tails_empty c.args.most c.loop-rest.items rest _ (empty rest c.in_default-rest.len_below) c.loop-rest.invariant.same
