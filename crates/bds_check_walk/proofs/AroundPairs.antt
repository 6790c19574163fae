-- Pairs of a literal around the one whose value tells their type, and is walked first.
use Rattle.std.proofs.Common.{◌≡◌, ◌+◌, ◌<◌, false, true, ℕ, List, [], ◌∷◌, ◌++◌, length, set, slice_get, take, drop}
use Rattle.std.proofs.Common.{Option, Some, None, Result, IfOk, refl, subst, ap, sym, ◌∙◌, arith}
use Rattle.std.proofs.lemmas.List.{take-append-drop, length-take-le, length-drop, take_more_set, take-set-le, take_all}
use Rattle.std.proofs.lemmas.List.{drop-set-lt}
use Rattle.std.proofs.lemmas.Option.{slice_get_within}
use Rattle.bds_value.specs.declared.value.At.{At}
use Rattle.bds_tree.specs.declared.expr.Expr.{Expr}
use Rattle.bds_tree.specs.Tree.{Tree, TreePairs, type_of, no_pairs, more_pairs, joined_pairs}
use Rattle.bds_tree.specs.View.{tree_of, pairs_of}
use Rattle.bds_check_names.specs.declared.names.Names.{Names}
use Rattle.bds_check_names.specs.declared.names.Asked.{Asked}
use Rattle.bds_check_names.specs.declared.names.Asked.TheVariants.{Value, This}
use Rattle.bds_check_rules.specs.declared.rules.CheckFault.{CheckFault}
use Rattle.bds_check_rules.specs.declared.rules.Rule.{Rule}
use Rattle.bds_check_typing.specs.Answers.{Fits, broken_at}
use Rattle.bds_check_typing.specs.Walk.{Broken, Judged, JudgedPairs, first, also_pair, judge, judge_values, key_broken}
use Rattle.bds_check_typing.specs.Walk.{value_beside, asked_beside, both_pairs, open_value_count}
use Rattle.bds_check_walk.specs.InPlace.{LeavesPairs}
use Rattle.bds_check_walk.specs.Lone.{walked, between, asked_of_lone_pair, around_lone_pair}
use Rattle.bds_check_walk.proofs.Items.{lone_pair, lone-pair-is}
use Rattle.bds_check_walk.proofs.Around.{fits-by, fits-if, parted, whole_is, all_taken}
use Rattle.bds_check_walk.proofs.Depths.{set_drop}

-- a pair whose value breaks no rule tells the type
pub lone-pair-right : {X : Type 0} (r : Result X CheckFault) (new : TreePairs) (pairs : List (Expr
    × Expr)) (n : ℕ) (p q : Expr × Expr) (names : Names) (asked : Asked) → open_value_count (pairs_of pairs) ≡ n
    → slice_get pairs n ≡ Some p →
    q.0 ≡ p.0
    → ((judge (tree_of p.1) names Value).broken ≡ None) × (tree_of q.1 ≡ (judge (tree_of p.1) names Value).tree) →
    LeavesPairs r new (around_lone_pair (take n (set pairs n q)) (drop n (set pairs n q)) names
    (asked_of_lone_pair (drop n (set pairs n q)))) →
    LeavesPairs r new (judge_values (pairs_of pairs) names true (value_beside (pairs_of pairs) names asked))
lone-pair-right r new pairs n p q names asked m e same right k =
    let before : TreePairs = pairs_of (take n pairs) in
    let behind : TreePairs = pairs_of (drop (n + 1) pairs) in
    let key : Judged = judge (tree_of p.0) names Value in
    let j : Judged = judge (tree_of p.1) names Value in
    let within = slice_get_within pairs n p e in
    let k1 : LeavesPairs r new (around_lone_pair (take n pairs) (drop n (set pairs n q)) names
    (asked_of_lone_pair (drop n (set pairs n q)))) =
    subst (λ (ys : List (Expr
    × Expr)). LeavesPairs r new (around_lone_pair ys (drop n (set pairs n q)) names
    (asked_of_lone_pair (drop n (set pairs n q))))) (take-set-le n pairs n q (omega arith)) k in
    let k2 : LeavesPairs r new (around_lone_pair (take n pairs) (q ∷ drop (n + 1) pairs) names
    (asked_of_lone_pair (q ∷ drop (n + 1) pairs))) =
    subst (λ (ys : List (Expr
    × Expr)). LeavesPairs r new (around_lone_pair (take n pairs) ys names (asked_of_lone_pair ys)))
    (set_drop pairs n p q e) k1 in
    let k3 : LeavesPairs r new (both_pairs (judge_values before names false (This (type_of (tree_of q.1))))
    (also_pair key (walked (tree_of q.1)) (judge_values behind names false (This (type_of (tree_of q.1)))))) =
    subst (λ (w : Expr). LeavesPairs r new (both_pairs (judge_values before names false
    (This (type_of (tree_of q.1)))) (also_pair (judge (tree_of w) names Value) (walked (tree_of q.1))
    (judge_values behind names false (This (type_of (tree_of q.1))))))) same k2 in
    let a : LeavesPairs r new (both_pairs (judge_values before names false (This (type_of j.tree)))
    (also_pair key (walked j.tree) (judge_values behind names false (This (type_of j.tree))))) =
    subst (λ (w : Tree). LeavesPairs r new (both_pairs (judge_values before names false (This (type_of w)))
    (also_pair key (walked w) (judge_values behind names false (This (type_of w)))))) right.1 k3 in
    let b : LeavesPairs r new (lone_pair before (tree_of p.0) (tree_of p.1) behind names) =
    subst (λ (w : Option Broken). LeavesPairs r new (both_pairs
    (judge_values before names false (asked_beside (type_of j.tree) w)) (also_pair key (record {
      tree = j.tree;
      broken = w;
    }) (judge_values behind names false (asked_beside (type_of j.tree) w))))) (sym right.0) a in
    let count : open_value_count (pairs_of (take n pairs
    ++ p ∷ drop (n + 1) pairs)) ≡ length (take n pairs) = ap (λ (ps : List (Expr
    × Expr)). open_value_count (pairs_of ps)) (whole_is pairs n p e) ∙ m
    ∙ sym (length-take-le n pairs (omega arith)) in
    subst (λ (ps : List (Expr
    × Expr)). LeavesPairs r new (judge_values (pairs_of ps) names true (value_beside (pairs_of ps) names asked)))
    (whole_is pairs n p e)
    (subst (λ (w : JudgedPairs). LeavesPairs r new w) (sym (lone-pair-is (take n pairs) p (drop (n + 1) pairs) names
    asked count)) b)

-- one whose value breaks a rule tells none
pub lone-pair-broken : {X : Type 0} (r : Result X CheckFault) (new : TreePairs) (pairs : List (Expr
    × Expr)) (n : ℕ) (p q : Expr × Expr) (names : Names) (asked : Asked) (rule : Rule) (at : At)
    → open_value_count (pairs_of pairs) ≡ n → slice_get pairs n ≡ Some p →
    q.0 ≡ p.0 → (judge (tree_of p.1) names Value).broken ≡ Some (broken_at rule at) →
    Fits r (first (judge_values (pairs_of (take n (set pairs n q))) names false Value).broken
    (first (key_broken (pairs_of (drop n (set pairs n q))) names) (Some (broken_at rule at)))) (λ _. ⊥) →
    LeavesPairs r new (judge_values (pairs_of pairs) names true (value_beside (pairs_of pairs) names asked))
lone-pair-broken r new pairs n p q names asked rule at m e same broken k =
    let before : TreePairs = pairs_of (take n pairs) in
    let behind : TreePairs = pairs_of (drop (n + 1) pairs) in
    let key : Judged = judge (tree_of p.0) names Value in
    let j : Judged = judge (tree_of p.1) names Value in
    let within = slice_get_within pairs n p e in
    let k1 : Fits r (first (judge_values before names false Value).broken
    (first (key_broken (pairs_of (drop n (set pairs n q))) names) (Some (broken_at rule at)))) (λ _. ⊥) =
    subst (λ (ys : List (Expr
    × Expr)). Fits r (first (judge_values (pairs_of ys) names false Value).broken
    (first (key_broken (pairs_of (drop n (set pairs n q))) names) (Some (broken_at rule at)))) (λ _. ⊥))
    (take-set-le n pairs n q (omega arith)) k in
    let k2 : Fits r (first (judge_values before names false Value).broken
    (first (key_broken (pairs_of (q ∷ drop (n + 1) pairs)) names) (Some (broken_at rule at)))) (λ _. ⊥) =
    subst (λ (ys : List (Expr
    × Expr)). Fits r (first (judge_values before names false Value).broken
    (first (key_broken (pairs_of ys) names) (Some (broken_at rule at)))) (λ _. ⊥)) (set_drop pairs n p q e) k1
    in
    let k3 : Fits r (first (judge_values before names false Value).broken (first key.broken (Some (broken_at rule at))))
    (λ _. ⊥) =
    subst (λ (w : Expr). Fits r (first (judge_values before names false Value).broken
    (first (judge (tree_of w) names Value).broken (Some (broken_at rule at)))) (λ _. ⊥)) same k2 in
    let k4 : Fits r (first (judge_values before names false Value).broken (first key.broken (Some (broken_at rule at))))
    (λ _. new ≡ joined_pairs (judge_values before names false Value).pairs
    (more_pairs key.tree j.tree (judge_values behind names false Value).pairs)) =
    fits-by r (first (judge_values before names false Value).broken (first key.broken (Some (broken_at rule at))))
    (λ _. ⊥) (λ _. new ≡ joined_pairs (judge_values before names false Value).pairs
    (more_pairs key.tree j.tree (judge_values behind names false Value).pairs)) (λ y none. absurd none) k3
    in
    let b : LeavesPairs r new (lone_pair before (tree_of p.0) (tree_of p.1) behind names) =
    subst (λ (w : Option Broken). LeavesPairs r new (both_pairs
    (judge_values before names false (asked_beside (type_of j.tree) w)) (also_pair key (record {
      tree = j.tree;
      broken = w;
    }) (judge_values behind names false (asked_beside (type_of j.tree) w))))) (sym broken) k4 in
    let count : open_value_count (pairs_of (take n pairs
    ++ p ∷ drop (n + 1) pairs)) ≡ length (take n pairs) = ap (λ (ps : List (Expr
    × Expr)). open_value_count (pairs_of ps)) (whole_is pairs n p e) ∙ m
    ∙ sym (length-take-le n pairs (omega arith)) in
    subst (λ (ps : List (Expr
    × Expr)). LeavesPairs r new (judge_values (pairs_of ps) names true (value_beside (pairs_of ps) names asked)))
    (whole_is pairs n p e)
    (subst (λ (w : JudgedPairs). LeavesPairs r new w) (sym (lone-pair-is (take n pairs) p (drop (n + 1) pairs) names
    asked count)) b)

joined-of : (ps qs : List (Expr × Expr)) → pairs_of (ps ++ qs) ≡ joined_pairs (pairs_of ps) (pairs_of qs)
joined-of [] qs = refl
joined-of (p ∷ ps) qs = ap (more_pairs (tree_of p.0) (tree_of p.1)) (joined-of ps qs)

joined-joined : (ps : TreePairs) (k v : Tree) (qs : TreePairs)
    → joined_pairs (joined_pairs ps (more_pairs k v no_pairs)) qs ≡ joined_pairs ps (more_pairs k v qs)
joined-joined no_pairs k v qs = refl
joined-joined (more_pairs a b ps) k v qs = ap (more_pairs a b) (joined-joined ps k v qs)

-- the pairs before one whose value was walked are walked, and so is its key, and now those behind it
pub both-pairs-walked : {X : Type 0} (r : Result X CheckFault) (olds mids news : List (Expr
    × Expr)) (n m : ℕ) (p q : Expr × Expr) (names : Names) (asked : Asked) → m ≡ length (set mids n q) →
    ((judge_values (pairs_of (between 0 n olds)) names false asked).broken ≡ None)
    × (pairs_of (between 0 n mids) ≡ (judge_values (pairs_of (between 0 n olds)) names false asked).pairs) →
    drop n mids ≡ drop n olds → slice_get mids n ≡ Some p
    → ((judge (tree_of p.0) names Value).broken ≡ None) × (tree_of q.0 ≡ (judge (tree_of p.0) names Value).tree)
    → q.1 ≡ p.1 →
    IfOk r (λ _. take (n + 1) news ≡ take (n + 1) (set mids n q)) → IfOk r (λ _. drop m news ≡ drop m (set mids n q)) →
    LeavesPairs r (pairs_of (between (n + 1) m news)) (judge_values (pairs_of (between (n + 1) m (set mids n q))) names
    false asked) →
    LeavesPairs r (pairs_of news) (around_lone_pair (take n olds) (drop n olds) names asked)
both-pairs-walked {X = X} r olds mids news n m p q names asked long done behind here key value front empty k =
    let rest : List (Expr × Expr) = drop (n + 1) mids in
    let next : drop n olds ≡ p ∷ rest = sym behind ∙ parted mids n p here in
    let a : JudgedPairs = judge_values (pairs_of (take n olds)) names false asked in
    let b : JudgedPairs = judge_values (pairs_of rest) names false asked in
    let j : Judged = judge (tree_of p.0) names Value in
    let all : between (n + 1) m (set mids n q) ≡ rest = ap (drop (n + 1))
    (take_all m (set mids n q) (omega (arith, long))) ∙ drop-set-lt (n + 1) mids n q (omega arith) in
    let wanted : TreePairs = joined_pairs a.pairs (more_pairs j.tree (tree_of p.1) b.pairs) in
    let k2 : LeavesPairs r (pairs_of (between (n + 1) m news)) b = subst (λ (zs : List (Expr
    × Expr)). LeavesPairs r (pairs_of (between (n + 1) m news)) (judge_values (pairs_of zs) names false asked)) all
    k in
    let right : take (n + 1) news ≡ take (n + 1) (set mids n q) → drop m news ≡ drop m (set mids n q) → (y : X)
    → pairs_of (between (n + 1) m news) ≡ b.pairs → pairs_of news ≡ wanted = λ in_front none_left y same.
    let rest_new : between (n + 1) m news ≡ drop (n + 1) news =
    ap (drop (n + 1)) (all_taken (set mids n q) news m long none_left) in
    let head : take (n + 1) news ≡ take n mids ++ q ∷ [] =
    in_front ∙ take_more_set mids n q (slice_get_within mids n p here) in
    ap pairs_of (sym (take-append-drop (n + 1) news) ∙ ap (λ zs. zs ++ drop (n + 1) news) head)
    ∙ joined-of (take n mids ++ q ∷ []) (drop (n + 1) news)
    ∙ ap (λ (ts : TreePairs). joined_pairs ts (pairs_of (drop (n + 1) news))) (joined-of (take n mids) (q ∷ []))
    ∙ joined-joined (pairs_of (take n mids)) (tree_of q.0) (tree_of q.1) (pairs_of (drop (n + 1) news))
    ∙ ap (λ (zs : List (Expr
    × Expr)). joined_pairs (pairs_of (take n mids)) (more_pairs (tree_of q.0) (tree_of q.1) (pairs_of zs)))
    (sym rest_new)
    ∙ ap (λ (ts : TreePairs). joined_pairs (pairs_of (take n mids)) (more_pairs (tree_of q.0) (tree_of q.1) ts))
    same ∙ ap (λ (ts : TreePairs). joined_pairs ts (more_pairs (tree_of q.0) (tree_of q.1) b.pairs)) done.1
    ∙ ap (λ (t : Tree). joined_pairs a.pairs (more_pairs t (tree_of q.1) b.pairs)) key.1
    ∙ ap (λ (e : Expr). joined_pairs a.pairs (more_pairs j.tree (tree_of e) b.pairs)) value in
    let k3 : Fits r b.broken (λ _. pairs_of news ≡ wanted) =
    fits-if r b.broken (λ _. pairs_of (between (n + 1) m news) ≡ b.pairs) (λ _. pairs_of news ≡ wanted)
    (take (n + 1) news ≡ take (n + 1) (set mids n q)) (drop m news ≡ drop m (set mids n q)) front empty right k2
    in
    let k4 : Fits r (first j.broken (first None b.broken)) (λ _. pairs_of news ≡ wanted) =
    subst (λ (w : Option Broken). Fits r (first w b.broken) (λ _. pairs_of news ≡ wanted)) (sym key.0) k3 in
    let k5 : Fits r (first a.broken (first j.broken (first None b.broken))) (λ _. pairs_of news ≡ wanted) = subst
    (λ (w : Option Broken). Fits r (first w (first j.broken b.broken)) (λ _. pairs_of news ≡ wanted)) (sym done.0)
    k4 in
    subst (λ (ps : List (Expr
    × Expr)). LeavesPairs r (pairs_of news) (around_lone_pair (take n olds) ps names asked)) (sym next) k5

-- the key of a pair behind others is broken
pub key-is : (olds mids : List (Expr × Expr)) (n : ℕ) (p : Expr × Expr) (names : Names) → drop n mids ≡ drop n olds
    → slice_get mids n ≡ Some p → key_broken (pairs_of (drop n olds)) names ≡ (judge (tree_of p.0) names Value).broken
key-is olds mids n p names behind here =
    ap (λ (ps : List (Expr × Expr)). key_broken (pairs_of ps) names) (sym behind ∙ parted mids n p here)

pub key-broke : (before key here then_broken : Option Broken) (b : Broken) → before ≡ None → key ≡ here
    → here ≡ Some b →
    first before (first key then_broken) ≡ Some b
key-broke before key here then_broken b none same broken =
    ap (λ (w : Option Broken). first w (first key then_broken)) none
    ∙ ap (λ (w : Option Broken). first w then_broken) (same ∙ broken)

pub key-stops : (olds mids : List (Expr × Expr)) (n : ℕ) (p : Expr × Expr) (names : Names) (asked : Asked)
    → (judge_values (pairs_of (between 0 n olds)) names false asked).broken ≡ None → drop n mids ≡ drop n olds
    → slice_get mids n ≡ Some p →
    (b : Broken) → (judge (tree_of p.0) names Value).broken ≡ Some b
    → (around_lone_pair (take n olds) (drop n olds) names asked).broken ≡ Some b
key-stops olds mids n p names asked none behind here b broken =
    let rest : List (Expr × Expr) = drop (n + 1) mids in
    let next : drop n olds ≡ p ∷ rest = sym behind ∙ parted mids n p here in
    ap (λ (ps : List (Expr × Expr)). (around_lone_pair (take n olds) ps names asked).broken) next
    ∙ ap (λ (w : Option Broken). first w (first (judge (tree_of p.0) names Value).broken
    (judge_values (pairs_of rest) names false asked).broken)) none
    ∙ ap (λ (w : Option Broken). first w (judge_values (pairs_of rest) names false asked).broken) broken

-- so are those before it
pub front-pairs-stop : (olds : List (Expr × Expr)) (n : ℕ) (names : Names) (asked : Asked) → n < length olds
    → (b : Broken) → (judge_values (pairs_of (between 0 n olds)) names false asked).broken ≡ Some b
    → (around_lone_pair (take n olds) (drop n olds) names asked).broken ≡ Some b
front-pairs-stop olds n names asked within b broken = at (drop n olds) refl
  where
    at : (ps : List (Expr × Expr)) → drop n olds ≡ ps → (around_lone_pair (take n olds) ps names asked).broken ≡ Some b
    at [] e = absurd (let l = length-drop n olds in let z = ap length e in omega (arith, l, z))
    at (p ∷ rest) e = ap (λ (w : Option Broken). first w (first (judge (tree_of p.0) names Value).broken
        (judge_values (pairs_of rest) names false asked).broken)) broken
