-- The loops of the parser.
use Rattle.std.proofs.Common.{◌≡◌, ℕ, zero, suc, ◌+◌, ◌-◌, ◌<◌, ◌≤◌, max, true, false, List, [], ◌∷◌, ◌++◌, length, take, drop, get_or, Some, None, refl, sym, ap, ◌∙◌, subst, arith}
use Rattle.std.proofs.lemmas.Bool.{le-ltb, lt-ltb}
use Rattle.std.proofs.lemmas.List.{take_all}
use Rattle.bds_value.specs.Options.{◌>>=◌}
use Rattle.bds_tree.specs.declared.token.Token.{Token}
use Rattle.bds_tree.specs.declared.expr.Expr.{Expr}
use Rattle.bds_tree.specs.Tree.{Tree, Trees, TreePairs, none, more, no_pairs, more_pairs, joined, joined_pairs}
use Rattle.bds_tree.specs.Shape.{follow, height, heights, pair_heights}
use Rattle.bds_tree.specs.View.{tree_of, trees_of, pairs_of}
use Rattle.bds_tree.proofs.Pushes.{joined-push, joined-none, joined_pairs-push, joined_pairs-none}
use Rattle.bds_parse_expr.specs.declared.words.Close.{Close}
use Rattle.bds_parse_expr.specs.Reading.{next_of, strength, ahead, closes, is_close_value, is_comma, tail_step, tail_of, members, pair, pair_step, pair_tail_of, pairs, front, join, climb, expression, Read}
use Rattle.bds_parse_expr.proofs.Steps.{if_true, if_false}
use Rattle.bds_parse_expr.proofs.Complete.{stop}

-- a pattern on a slice, as a list
pub cut : (xs : List Token) (d : Token) → 1 ≤ length xs → xs ≡ get_or xs 0 d ∷ take (length xs - 1) (drop 1 xs)
cut [] d h = absurd (omega arith)
cut (t ∷ ts) d h = ap (λ u. t ∷ u) (sym (take_all (length (t ∷ ts) - 1) ts (omega arith)))

pub cut_at : (xs : List Token) (t : Token) → 1 ≤ length xs → t ≡ get_or xs 0 t → xs ≡ t ∷ take (length xs - 1) (drop 1 xs)
cut_at xs t h is = cut xs t h ∙ ap (λ u. u ∷ take (length xs - 1) (drop 1 xs)) (sym is)

pub empty : (xs : List Token) → length xs < 1 → xs ≡ []
empty [] h = refl
empty (t ∷ ts) h = absurd (omega arith)

-- from a tree and what stands behind it, with turns enough, the loop comes to this
pub record Climbs (most least : ℕ) (e : Tree) (rest : List Token) (end : Read Tree) : Type 0 where
  pub turns : ℕ
  pub enough : length rest ≤ turns
  pub comes : climb most (expression most) turns least e rest ≡ end

climb_at : (most least n : ℕ) (e : Tree) (t : Token) (after : List Token) → least ≤ strength (next_of t.word) → strength (next_of t.word) ≤ follow e →
    climb most (expression most) (suc n) least e (t ∷ after) ≡ (join most (expression most) e (next_of t.word) after >>= λ p. climb most (expression most) n least p.0 p.1)
unfolding climb
climb_at most least n e t after lo hi = if_false _ _ _ _ (le-ltb _ _ lo) (if_false _ _ _ _ (le-ltb _ _ hi) refl)

climb_refuses : (most least n : ℕ) (e : Tree) (t : Token) (after : List Token) → least ≤ strength (next_of t.word) → follow e < strength (next_of t.word) →
    climb most (expression most) (suc n) least e (t ∷ after) ≡ None
unfolding climb
climb_refuses most least n e t after lo hi = if_false _ _ _ _ (le-ltb _ _ lo) (if_true _ _ _ _ (lt-ltb _ _ hi) refl)

pub climb_none : (most least : ℕ) (e : Tree) (rest after : List Token) (t : Token) (end : Read Tree) → rest ≡ t ∷ after → Climbs most least e rest end →
    least ≤ strength (next_of t.word) → follow e < strength (next_of t.word) → end ≡ None
climb_none most least e rest after t end is c lo hi = go c.turns c.enough c.comes
  where
    go : (n : ℕ) → length rest ≤ n → climb most (expression most) n least e rest ≡ end → end ≡ None
    go zero le comes = absurd (omega (arith, ap length is))
    go (suc n) le comes = sym comes ∙ ap (climb most (expression most) (suc n) least e) is ∙ climb_refuses most least n e t after lo hi

pub climb_err : (most least : ℕ) (e : Tree) (rest after : List Token) (t : Token) (end : Read Tree) → rest ≡ t ∷ after → Climbs most least e rest end →
    least ≤ strength (next_of t.word) → strength (next_of t.word) ≤ follow e → join most (expression most) e (next_of t.word) after ≡ None → end ≡ None
climb_err most least e rest after t end is c lo hi j = go c.turns c.enough c.comes
  where
    go : (n : ℕ) → length rest ≤ n → climb most (expression most) n least e rest ≡ end → end ≡ None
    go zero le comes = absurd (omega (arith, ap length is))
    go (suc n) le comes = sym comes ∙ ap (climb most (expression most) (suc n) least e) is ∙ climb_at most least n e t after lo hi ∙ ap (λ r. r >>= λ p. climb most (expression most) n least p.0 p.1) j

pub climb_next : (most least : ℕ) (e : Tree) (rest after : List Token) (t : Token) (end : Read Tree) (x : Tree × List Token) → rest ≡ t ∷ after → Climbs most least e rest end →
    least ≤ strength (next_of t.word) → strength (next_of t.word) ≤ follow e → join most (expression most) e (next_of t.word) after ≡ Some x → length x.1 ≤ length after → Climbs most least x.0 x.1 end
climb_next most least e rest after t end x is c lo hi j short = go c.turns c.enough c.comes
  where
    go : (n : ℕ) → length rest ≤ n → climb most (expression most) n least e rest ≡ end → Climbs most least x.0 x.1 end
    go zero le comes = absurd (omega (arith, ap length is))
    go (suc n) le comes = record {
      turns = n;
      enough = omega (arith, ap length is);
      comes = sym (sym comes ∙ ap (climb most (expression most) (suc n) least e) is ∙ climb_at most least n e t after lo hi ∙ ap (λ r. r >>= λ p. climb most (expression most) n least p.0 p.1) j);
    }

pub climb_stop : (most least : ℕ) (e : Tree) (rest after : List Token) (t : Token) (end : Read Tree) → rest ≡ t ∷ after → Climbs most least e rest end →
    strength (next_of t.word) < least → end ≡ Some (e, rest)
climb_stop most least e rest after t end is c lo =
    sym c.comes ∙ stop most (expression most) c.turns least e rest (subst (λ u. ahead u < least) (sym is) lo)

pub climb_empty : (most least : ℕ) (e : Tree) (rest : List Token) (end : Read Tree) → rest ≡ [] → Climbs most least e rest end → end ≡ Some (e, rest)
unfolding climb
climb_empty most least e rest end is c = sym c.comes ∙ subst (λ u. climb most (expression most) c.turns least e u ≡ Some (e, u)) (sym is) (nothing c.turns)
  where
    nothing : (n : ℕ) → climb most (expression most) n least e [] ≡ Some (e, [])
    nothing zero = refl
    nothing (suc n) = refl

abbrev pub with_front : List Expr → Read Trees → Read Trees
with_front xs read = read >>= λ x. Some (joined (trees_of xs) x.0, x.1)

pub record Tails (close : Close) (most : ℕ) (xs : List Expr) (rest : List Token) (end : Read Trees) : Type 0 where
  pub turns : ℕ
  pub enough : length rest ≤ turns
  pub comes : with_front xs (tail_of (closes close) (expression most) turns rest) ≡ end

pub heights_push : (xs : List Expr) (e : Expr) → heights (trees_of (xs ++ e ∷ [])) ≡ max (heights (trees_of xs)) (height (tree_of e) + 1)
heights_push [] e = omega arith
heights_push (x ∷ xs) e = omega (arith, heights_push xs e)

pub heights_one : (e : Expr) → heights (trees_of (e ∷ [])) ≡ height (tree_of e) + 1
heights_one e = omega arith

pub tails_start : (close : Close) (most : ℕ) (ts : List Token) (d : Token) (e : Expr) (r : List Token) → closes close (get_or ts 0 d).word ≡ false → expression most 1 ts ≡ Some (tree_of e, r) → length r < length ts →
    Tails close most (e ∷ []) r (members (closes close) (expression most) ts)
tails_start close most [] d e r nc read short = absurd (omega arith)
tails_start close most (t ∷ ts) d e r nc read short = record {
  turns = length ts;
  enough = omega arith;
  comes = sym (if_false _ _ _ _ nc (ap (λ u. tail_step u (tail_of (closes close) (expression most) (length ts))) read));
}

pub tails_close : (close : Close) (most : ℕ) (xs : List Expr) (rest after : List Token) (t : Token) (end : Read Trees) → rest ≡ t ∷ after → Tails close most xs rest end → closes close t.word ≡ true → end ≡ Some (trees_of xs, after)
unfolding tail_of
tails_close close most xs rest after t end is c y =
    sym c.comes ∙ ap (λ u. with_front xs (tail_of (closes close) (expression most) c.turns u)) is ∙ ap (with_front xs) (done c.turns) ∙ ap (λ u. Some (u, after)) (joined-none (trees_of xs))
  where
    done : (n : ℕ) → tail_of (closes close) (expression most) n (t ∷ after) ≡ Some (none, after)
    done zero = if_true _ _ _ _ y refl
    done (suc n) = if_true _ _ _ _ y refl

tail_at : (close : Close) (most n : ℕ) (t : Token) (after : List Token) → closes close t.word ≡ false → is_comma t.word ≡ true →
    tail_of (closes close) (expression most) (suc n) (t ∷ after) ≡ tail_step (expression most 1 after) (tail_of (closes close) (expression most) n)
unfolding tail_of
tail_at close most n t after nc comma = if_false _ _ _ _ nc (if_true _ _ _ _ comma refl)

tail_refuses : (close : Close) (most n : ℕ) (t : Token) (after : List Token) → closes close t.word ≡ false → is_comma t.word ≡ false →
    tail_of (closes close) (expression most) (suc n) (t ∷ after) ≡ None
unfolding tail_of
tail_refuses close most n t after nc comma = if_false _ _ _ _ nc (if_false _ _ _ _ comma refl)

pub tails_none : (close : Close) (most : ℕ) (xs : List Expr) (rest after : List Token) (t : Token) (end : Read Trees) → rest ≡ t ∷ after → Tails close most xs rest end → closes close t.word ≡ false → is_comma t.word ≡ false → end ≡ None
tails_none close most xs rest after t end is c nc comma = go c.turns c.enough c.comes
  where
    go : (n : ℕ) → length rest ≤ n → with_front xs (tail_of (closes close) (expression most) n rest) ≡ end → end ≡ None
    go zero le comes = absurd (omega (arith, ap length is))
    go (suc n) le comes = sym comes ∙ ap (λ u. with_front xs (tail_of (closes close) (expression most) (suc n) u)) is ∙ ap (with_front xs) (tail_refuses close most n t after nc comma)

pub tails_err : (close : Close) (most : ℕ) (xs : List Expr) (rest after : List Token) (t : Token) (end : Read Trees) → rest ≡ t ∷ after → Tails close most xs rest end → closes close t.word ≡ false → is_comma t.word ≡ true →
    expression most 1 after ≡ None → end ≡ None
tails_err close most xs rest after t end is c nc comma read = go c.turns c.enough c.comes
  where
    go : (n : ℕ) → length rest ≤ n → with_front xs (tail_of (closes close) (expression most) n rest) ≡ end → end ≡ None
    go zero le comes = absurd (omega (arith, ap length is))
    go (suc n) le comes = sym comes ∙ ap (λ u. with_front xs (tail_of (closes close) (expression most) (suc n) u)) is ∙ ap (with_front xs) (tail_at close most n t after nc comma ∙ ap (λ u. tail_step u (tail_of (closes close) (expression most) n)) read)

front_push : (xs : List Expr) (e : Expr) (r : List Token) (tail : List Token → Read Trees) (read : Read Trees) → tail r ≡ read → with_front (xs ++ e ∷ []) (tail r) ≡ with_front xs (tail_step (Some (tree_of e, r)) tail)
front_push xs e r tail None is = ap (with_front (xs ++ e ∷ [])) is ∙ sym (ap (λ u. with_front xs (u >>= λ es. Some (more (tree_of e) es.0, es.1))) is)
front_push xs e r tail (Some x) is = ap (with_front (xs ++ e ∷ [])) is ∙ ap (λ u. Some (u, x.1)) (joined-push xs e x.0) ∙ sym (ap (λ u. with_front xs (u >>= λ es. Some (more (tree_of e) es.0, es.1))) is)

pub tails_next : (close : Close) (most : ℕ) (xs : List Expr) (rest after : List Token) (t : Token) (end : Read Trees) (e : Expr) (r : List Token) → rest ≡ t ∷ after → Tails close most xs rest end → closes close t.word ≡ false → is_comma t.word ≡ true →
    expression most 1 after ≡ Some (tree_of e, r) → length r ≤ length after → Tails close most (xs ++ e ∷ []) r end
tails_next close most xs rest after t end e r is c nc comma read short = go c.turns c.enough c.comes
  where
    go : (n : ℕ) → length rest ≤ n → with_front xs (tail_of (closes close) (expression most) n rest) ≡ end → Tails close most (xs ++ e ∷ []) r end
    go zero le comes = absurd (omega (arith, ap length is))
    go (suc n) le comes = record {
      turns = n;
      enough = omega (arith, ap length is);
      comes = front_push xs e r (tail_of (closes close) (expression most) n) _ refl
          ∙ sym (sym comes ∙ ap (λ u. with_front xs (tail_of (closes close) (expression most) (suc n) u)) is ∙ ap (with_front xs) (tail_at close most n t after nc comma ∙ ap (λ u. tail_step u (tail_of (closes close) (expression most) n)) read));
    }

pub tails_empty : (close : Close) (most : ℕ) (xs : List Expr) (rest : List Token) (end : Read Trees) → rest ≡ [] → Tails close most xs rest end → end ≡ None
unfolding tail_of
tails_empty close most xs rest end is c = sym c.comes ∙ ap (λ u. with_front xs (tail_of (closes close) (expression most) c.turns u)) is ∙ ap (with_front xs) (nothing c.turns)
  where
    nothing : (n : ℕ) → tail_of (closes close) (expression most) n [] ≡ None
    nothing zero = refl
    nothing (suc n) = refl

abbrev pub with_pairs : List (Expr × Expr) → Read TreePairs → Read TreePairs
with_pairs xs read = read >>= λ x. Some (joined_pairs (pairs_of xs) x.0, x.1)

pub record PairTails (most : ℕ) (xs : List (Expr × Expr)) (rest : List Token) (end : Read TreePairs) : Type 0 where
  pub turns : ℕ
  pub enough : length rest ≤ turns
  pub comes : with_pairs xs (pair_tail_of (expression most) turns rest) ≡ end

pub pair_heights_push : (xs : List (Expr × Expr)) (e : Expr × Expr) → pair_heights (pairs_of (xs ++ e ∷ [])) ≡ max (pair_heights (pairs_of xs)) (max (height (tree_of e.0) + 1) (height (tree_of e.1) + 1))
pair_heights_push [] e = omega arith
pair_heights_push (x ∷ xs) e = omega (arith, pair_heights_push xs e)

pub pair_heights_one : (e : Expr × Expr) → pair_heights (pairs_of (e ∷ [])) ≡ max (height (tree_of e.0) + 1) (height (tree_of e.1) + 1)
pair_heights_one e = omega arith

pub pair_tails_start : (most : ℕ) (ts : List Token) (d : Token) (e : Expr × Expr) (r : List Token) → is_close_value (get_or ts 0 d).word ≡ false → pair (expression most) ts ≡ Some ((tree_of e.0, tree_of e.1), r) → length r < length ts →
    PairTails most (e ∷ []) r (pairs (expression most) ts)
pair_tails_start most [] d e r nc read short = absurd (omega arith)
pair_tails_start most (t ∷ ts) d e r nc read short = record {
  turns = length ts;
  enough = omega arith;
  comes = sym (if_false _ _ _ _ nc (ap (λ u. pair_step u (pair_tail_of (expression most) (length ts))) read));
}

pub pair_tails_close : (most : ℕ) (xs : List (Expr × Expr)) (rest after : List Token) (t : Token) (end : Read TreePairs) → rest ≡ t ∷ after → PairTails most xs rest end → is_close_value t.word ≡ true → end ≡ Some (pairs_of xs, after)
unfolding pair_tail_of
pair_tails_close most xs rest after t end is c y =
    sym c.comes ∙ ap (λ u. with_pairs xs (pair_tail_of (expression most) c.turns u)) is ∙ ap (with_pairs xs) (done c.turns) ∙ ap (λ u. Some (u, after)) (joined_pairs-none (pairs_of xs))
  where
    done : (n : ℕ) → pair_tail_of (expression most) n (t ∷ after) ≡ Some (no_pairs, after)
    done zero = if_true _ _ _ _ y refl
    done (suc n) = if_true _ _ _ _ y refl

pair_tail_at : (most n : ℕ) (t : Token) (after : List Token) → is_close_value t.word ≡ false → is_comma t.word ≡ true →
    pair_tail_of (expression most) (suc n) (t ∷ after) ≡ pair_step (pair (expression most) after) (pair_tail_of (expression most) n)
unfolding pair_tail_of
pair_tail_at most n t after nc comma = if_false _ _ _ _ nc (if_true _ _ _ _ comma refl)

pair_tail_refuses : (most n : ℕ) (t : Token) (after : List Token) → is_close_value t.word ≡ false → is_comma t.word ≡ false →
    pair_tail_of (expression most) (suc n) (t ∷ after) ≡ None
unfolding pair_tail_of
pair_tail_refuses most n t after nc comma = if_false _ _ _ _ nc (if_false _ _ _ _ comma refl)

pub pair_tails_none : (most : ℕ) (xs : List (Expr × Expr)) (rest after : List Token) (t : Token) (end : Read TreePairs) → rest ≡ t ∷ after → PairTails most xs rest end → is_close_value t.word ≡ false → is_comma t.word ≡ false → end ≡ None
pair_tails_none most xs rest after t end is c nc comma = go c.turns c.enough c.comes
  where
    go : (n : ℕ) → length rest ≤ n → with_pairs xs (pair_tail_of (expression most) n rest) ≡ end → end ≡ None
    go zero le comes = absurd (omega (arith, ap length is))
    go (suc n) le comes = sym comes ∙ ap (λ u. with_pairs xs (pair_tail_of (expression most) (suc n) u)) is ∙ ap (with_pairs xs) (pair_tail_refuses most n t after nc comma)

pub pair_tails_err : (most : ℕ) (xs : List (Expr × Expr)) (rest after : List Token) (t : Token) (end : Read TreePairs) → rest ≡ t ∷ after → PairTails most xs rest end → is_close_value t.word ≡ false → is_comma t.word ≡ true →
    pair (expression most) after ≡ None → end ≡ None
pair_tails_err most xs rest after t end is c nc comma read = go c.turns c.enough c.comes
  where
    go : (n : ℕ) → length rest ≤ n → with_pairs xs (pair_tail_of (expression most) n rest) ≡ end → end ≡ None
    go zero le comes = absurd (omega (arith, ap length is))
    go (suc n) le comes = sym comes ∙ ap (λ u. with_pairs xs (pair_tail_of (expression most) (suc n) u)) is ∙ ap (with_pairs xs) (pair_tail_at most n t after nc comma ∙ ap (λ u. pair_step u (pair_tail_of (expression most) n)) read)

pairs_push : (xs : List (Expr × Expr)) (e : Expr × Expr) (r : List Token) (tail : List Token → Read TreePairs) (read : Read TreePairs) → tail r ≡ read → with_pairs (xs ++ e ∷ []) (tail r) ≡ with_pairs xs (pair_step (Some ((tree_of e.0, tree_of e.1), r)) tail)
pairs_push xs e r tail None is = ap (with_pairs (xs ++ e ∷ [])) is ∙ sym (ap (λ u. with_pairs xs (u >>= λ es. Some (more_pairs (tree_of e.0) (tree_of e.1) es.0, es.1))) is)
pairs_push xs e r tail (Some x) is = ap (with_pairs (xs ++ e ∷ [])) is ∙ ap (λ u. Some (u, x.1)) (joined_pairs-push xs e x.0) ∙ sym (ap (λ u. with_pairs xs (u >>= λ es. Some (more_pairs (tree_of e.0) (tree_of e.1) es.0, es.1))) is)

pub pair_tails_next : (most : ℕ) (xs : List (Expr × Expr)) (rest after : List Token) (t : Token) (end : Read TreePairs) (e : Expr × Expr) (r : List Token) → rest ≡ t ∷ after → PairTails most xs rest end → is_close_value t.word ≡ false → is_comma t.word ≡ true →
    pair (expression most) after ≡ Some ((tree_of e.0, tree_of e.1), r) → length r ≤ length after → PairTails most (xs ++ e ∷ []) r end
pair_tails_next most xs rest after t end e r is c nc comma read short = go c.turns c.enough c.comes
  where
    go : (n : ℕ) → length rest ≤ n → with_pairs xs (pair_tail_of (expression most) n rest) ≡ end → PairTails most (xs ++ e ∷ []) r end
    go zero le comes = absurd (omega (arith, ap length is))
    go (suc n) le comes = record {
      turns = n;
      enough = omega (arith, ap length is);
      comes = pairs_push xs e r (pair_tail_of (expression most) n) _ refl
          ∙ sym (sym comes ∙ ap (λ u. with_pairs xs (pair_tail_of (expression most) (suc n) u)) is ∙ ap (with_pairs xs) (pair_tail_at most n t after nc comma ∙ ap (λ u. pair_step u (pair_tail_of (expression most) n)) read));
    }

pub pair_tails_empty : (most : ℕ) (xs : List (Expr × Expr)) (rest : List Token) (end : Read TreePairs) → rest ≡ [] → PairTails most xs rest end → end ≡ None
unfolding pair_tail_of
pair_tails_empty most xs rest end is c = sym c.comes ∙ ap (λ u. with_pairs xs (pair_tail_of (expression most) c.turns u)) is ∙ ap (with_pairs xs) (nothing c.turns)
  where
    nothing : (n : ℕ) → pair_tail_of (expression most) n [] ≡ None
    nothing zero = refl
    nothing (suc n) = refl

-- one node further down
expression_down : (most least : ℕ) (ts : List Token) → 0 < most → expression most least ts ≡ (front (expression (most - 1)) ts >>= λ e. climb (most - 1) (expression (most - 1)) (length e.1) least e.0 e.1)
unfolding expression
expression_down zero least ts h = absurd (omega arith)
expression_down (suc most) least ts h =
    let e : most ≡ suc most - 1 = omega arith in
    subst (λ m. expression (suc most) least ts ≡ (front (expression m) ts >>= λ e. climb m (expression m) (length e.1) least e.0 e.1)) e refl

pub expression_none : (most least : ℕ) (ts : List Token) → 0 < most → front (expression (most - 1)) ts ≡ None → expression most least ts ≡ None
expression_none most least ts h e = expression_down most least ts h ∙ ap (λ r. r >>= λ e. climb (most - 1) (expression (most - 1)) (length e.1) least e.0 e.1) e

pub expression_some : (most least : ℕ) (ts : List Token) (x : Tree × List Token) → 0 < most → front (expression (most - 1)) ts ≡ Some x → expression most least ts ≡ climb (most - 1) (expression (most - 1)) (length x.1) least x.0 x.1
expression_some most least ts x h e = expression_down most least ts h ∙ ap (λ r. r >>= λ e. climb (most - 1) (expression (most - 1)) (length e.1) least e.0 e.1) e
