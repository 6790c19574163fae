-- Items of a literal around the one that tells their type, which is walked first.
use Rattle.std.proofs.Common.{◌≡◌, ◌+◌, ◌-◌, ◌<◌, suc, false, true, ℕ, List, [], ◌∷◌, ◌++◌, length, set, slice_get}
use Rattle.std.proofs.Common.{take, drop, Option, Some, None, Result, Ok, Err, IfOk, refl, subst, ap, sym, ◌∙◌, add-one}
use Rattle.std.proofs.Common.{arith}
use Rattle.std.proofs.Math.Seq.{drop-cons, take-add}
use Rattle.std.proofs.lemmas.List.{take-append-drop, length-take-le, length-drop, take-set-le, take_all, drop_all}
use Rattle.std.proofs.lemmas.List.{drop-drop}
use Rattle.std.proofs.lemmas.Option.{get_or_from_slice_get, slice_get_within}
use Rattle.bds_value.specs.declared.value.At.{At}
use Rattle.bds_tree.specs.declared.expr.Expr.{Expr}
use Rattle.bds_tree.specs.Tree.{Tree, Trees, type_of, none, more, joined}
use Rattle.bds_tree.specs.View.{tree_of, trees_of}
use Rattle.bds_check_names.specs.declared.names.Names.{Names}
use Rattle.bds_check_names.specs.declared.names.Asked.{Asked}
use Rattle.bds_check_names.specs.declared.names.Asked.TheVariants.{Value, This}
use Rattle.bds_check_rules.specs.declared.rules.CheckFault.{CheckFault}
use Rattle.bds_check_rules.specs.declared.rules.CheckFault.TheVariants as fault
use Rattle.bds_check_rules.specs.declared.rules.Rule.{Rule}
use Rattle.bds_check_typing.specs.Answers.{Fits, broken_at}
use Rattle.bds_check_typing.specs.Walk.{Broken, Judged, JudgedTrees, first, also, judge, judge_items, beside}
use Rattle.bds_check_typing.specs.Walk.{asked_beside, both, open_count}
use Rattle.bds_check_walk.specs.InPlace.{LeavesExprs}
use Rattle.bds_check_walk.specs.Lone.{walked, between, asked_of_lone, around_lone}
use Rattle.bds_check_walk.proofs.Depths.{set_drop}
use Rattle.bds_check_walk.proofs.Items.{lone, lone-is}

pub fits-by : {X : Type 0} (r : Result X CheckFault) (w : Option Broken) (P Q : X → Type 0) → ((x : X) → P x → Q x)
    → Fits r w P → Fits r w Q
fits-by (Ok x) w P Q f h = (h.0, f x h.1)
fits-by (Err fault.NoMemory) w P Q f h = tt
fits-by (Err (fault.Broken rule at)) w P Q f h = h

-- by what holds where it went well
pub fits-if : {X : Type 0} (r : Result X CheckFault) (w : Option Broken) (P Q : X → Type 0) (A B : Type 0)
    → IfOk r (λ _. A) → IfOk r (λ _. B) → (A → B → (x : X) → P x → Q x) → Fits r w P → Fits r w Q
fits-if (Ok x) w P Q A B a b f h = (h.0, f a b x h.1)
fits-if (Err fault.NoMemory) w P Q A B a b f h = tt
fits-if (Err (fault.Broken rule at)) w P Q A B a b f h = h

-- a list around one of its items
pub parted : {A : Type 0} (xs : List A) (n : ℕ) (x : A) → slice_get xs n ≡ Some x → drop n xs ≡ x ∷ drop (n + 1) xs
parted xs n x e = rw add-one (drop-cons xs n x (slice_get_within xs n x e)
    ∙ ap (λ y. y ∷ drop (suc n) xs) (get_or_from_slice_get xs n x x e))

pub whole_is : {A : Type 0} (xs : List A) (n : ℕ) (x : A) → slice_get xs n ≡ Some x
    → take n xs ++ x ∷ drop (n + 1) xs ≡ xs
whole_is xs n x e = ap (λ ys. take n xs ++ ys) (sym (parted xs n x e)) ∙ take-append-drop n xs

-- what is behind the items of a list that has lost none of them
pub all_taken : {A : Type 0} (olds news : List A) (n : ℕ) → n ≡ length olds → drop n news ≡ drop n olds
    → take n news ≡ news
all_taken olds news n long same =
    let none : drop n news ≡ [] = same ∙ drop_all n olds (omega (arith, long)) in
    let short : length news - n ≡ 0 = sym (length-drop n news) ∙ ap length none in
    take_all n news (omega (arith, short))

-- an item that breaks no rule tells the type
pub lone-right : {X : Type 0} (r : Result X CheckFault) (new : Trees) (items : List Expr) (n : ℕ) (x u : Expr)
    (names : Names) (asked : Asked) → open_count (trees_of items) ≡ n → slice_get items n ≡ Some x →
    ((judge (tree_of x) names Value).broken ≡ None) × (tree_of u ≡ (judge (tree_of x) names Value).tree) →
    LeavesExprs r new (around_lone (take n (set items n u)) (drop n (set items n u)) names
    (asked_of_lone (drop n (set items n u)))) →
    LeavesExprs r new (judge_items (trees_of items) names true (beside (trees_of items) names asked))
lone-right r new items n x u names asked m e right k =
    let before : Trees = trees_of (take n items) in
    let behind : Trees = trees_of (drop (n + 1) items) in
    let j : Judged = judge (tree_of x) names Value in
    let within = slice_get_within items n x e in
    let k1 : LeavesExprs r new (around_lone (take n items) (drop n (set items n u)) names
    (asked_of_lone (drop n (set items n u)))) =
    subst (λ (ys : List Expr). LeavesExprs r new (around_lone ys (drop n (set items n u)) names
    (asked_of_lone (drop n (set items n u))))) (take-set-le n items n u (omega arith)) k in
    let k2 : LeavesExprs r new (around_lone (take n items) (u ∷ drop (n + 1) items) names
    (asked_of_lone (u ∷ drop (n + 1) items))) =
    subst (λ (ys : List Expr). LeavesExprs r new (around_lone (take n items) ys names (asked_of_lone ys)))
    (set_drop items n x u e) k1 in
    let a : LeavesExprs r new (both (judge_items before names false (This (type_of j.tree)))
    (also (walked j.tree) (judge_items behind names false (This (type_of j.tree))))) =
    subst (λ (w : Tree). LeavesExprs r new (both (judge_items before names false (This (type_of w)))
    (also (walked w) (judge_items behind names false (This (type_of w)))))) right.1 k2 in
    let b : LeavesExprs r new (lone before (tree_of x) behind names) =
    subst (λ (w : Option Broken). LeavesExprs r new (both
    (judge_items before names false (asked_beside (type_of j.tree) w)) (also (record {
      tree = j.tree;
      broken = w;
    }) (judge_items behind names false (asked_beside (type_of j.tree) w))))) (sym right.0) a in
    let count : open_count (trees_of (take n items
    ++ x ∷ drop (n + 1) items)) ≡ length (take n items) = ap (λ (es : List Expr). open_count (trees_of es))
    (whole_is items n x e) ∙ m ∙ sym (length-take-le n items (omega arith)) in
    subst (λ (es : List Expr). LeavesExprs r new (judge_items (trees_of es) names true
    (beside (trees_of es) names asked))) (whole_is items n x e)
    (subst (λ (w : JudgedTrees). LeavesExprs r new w) (sym (lone-is (take n items) x (drop (n + 1) items) names asked
    count)) b)

-- one that breaks a rule tells none
pub lone-broken : {X : Type 0} (r : Result X CheckFault) (new : Trees) (items : List Expr) (n : ℕ) (x u : Expr)
    (names : Names) (asked : Asked) (rule : Rule) (at : At) → open_count (trees_of items) ≡ n
    → slice_get items n ≡ Some x →
    (judge (tree_of x) names Value).broken ≡ Some (broken_at rule at) →
    Fits r (first (judge_items (trees_of (take n (set items n u))) names false Value).broken (Some (broken_at rule at)))
    (λ _. ⊥) →
    LeavesExprs r new (judge_items (trees_of items) names true (beside (trees_of items) names asked))
lone-broken r new items n x u names asked rule at m e broken k =
    let before : Trees = trees_of (take n items) in
    let behind : Trees = trees_of (drop (n + 1) items) in
    let j : Judged = judge (tree_of x) names Value in
    let within = slice_get_within items n x e in
    let k1 : Fits r (first (judge_items before names false Value).broken (Some (broken_at rule at))) (λ _. ⊥) =
    subst (λ (ys : List Expr). Fits r (first (judge_items (trees_of ys) names false Value).broken
    (Some (broken_at rule at))) (λ _. ⊥)) (take-set-le n items n u (omega arith)) k in
    let k2 : Fits r (first (judge_items before names false Value).broken (Some (broken_at rule at)))
    (λ _. new ≡ joined (judge_items before names false Value).trees
    (more j.tree (judge_items behind names false Value).trees)) =
    fits-by r (first (judge_items before names false Value).broken (Some (broken_at rule at))) (λ _. ⊥)
    (λ _. new ≡ joined (judge_items before names false Value).trees
    (more j.tree (judge_items behind names false Value).trees)) (λ y none. absurd none) k1 in
    let b : LeavesExprs r new (lone before (tree_of x) behind names) =
    subst (λ (w : Option Broken). LeavesExprs r new (both
    (judge_items before names false (asked_beside (type_of j.tree) w)) (also (record {
      tree = j.tree;
      broken = w;
    }) (judge_items behind names false (asked_beside (type_of j.tree) w))))) (sym broken) k2 in
    let count : open_count (trees_of (take n items
    ++ x ∷ drop (n + 1) items)) ≡ length (take n items) = ap (λ (es : List Expr). open_count (trees_of es))
    (whole_is items n x e) ∙ m ∙ sym (length-take-le n items (omega arith)) in
    subst (λ (es : List Expr). LeavesExprs r new (judge_items (trees_of es) names true
    (beside (trees_of es) names asked))) (whole_is items n x e)
    (subst (λ (w : JudgedTrees). LeavesExprs r new w) (sym (lone-is (take n items) x (drop (n + 1) items) names asked
    count)) b)

joined-of : (xs ys : List Expr) → trees_of (xs ++ ys) ≡ joined (trees_of xs) (trees_of ys)
joined-of [] ys = refl
joined-of (x ∷ xs) ys = ap (more (tree_of x)) (joined-of xs ys)

joined-joined : (ts : Trees) (t : Tree) (us : Trees) → joined (joined ts (more t none)) us ≡ joined ts (more t us)
joined-joined none t us = refl
joined-joined (more s ts) t us = ap (more s) (joined-joined ts t us)

-- the items before one that was walked are walked, and now those behind it
pub both-walked : {X : Type 0} (r : Result X CheckFault) (olds mids news : List Expr) (n m : ℕ) (names : Names)
    (asked : Asked) → n < length olds → m ≡ length mids →
    ((judge_items (trees_of (between 0 n olds)) names false asked).broken ≡ None)
    × (trees_of (between 0 n mids) ≡ (judge_items (trees_of (between 0 n olds)) names false asked).trees) →
    drop n mids ≡ drop n olds → IfOk r (λ _. take (n + 1) news ≡ take (n + 1) mids)
    → IfOk r (λ _. drop m news ≡ drop m mids) →
    LeavesExprs r (trees_of (between (n + 1) m news)) (judge_items (trees_of (between (n + 1) m mids)) names false
    asked) →
    LeavesExprs r (trees_of news) (around_lone (take n olds) (drop n olds) names asked)
both-walked {X = X} r olds mids news n m names asked within long done behind front empty k = at (drop n olds) refl
  where
    at : (ys : List Expr) → drop n olds ≡ ys → LeavesExprs r (trees_of news) (around_lone (take n olds) ys names asked)
    at [] e = absurd (let l = length-drop n olds in let z = ap length e in omega (arith, l, z))
    at (x ∷ rest) e =
        let a : JudgedTrees = judge_items (trees_of (take n olds)) names false asked in
        let b : JudgedTrees = judge_items (trees_of rest) names false asked in
        let tail : drop (n + 1) mids ≡ rest = sym (drop-drop 1 n mids) ∙ ap (drop 1) (behind ∙ e) in
        let all : between (n + 1) m mids ≡ rest = ap (drop (n + 1)) (take_all m mids (omega (arith, long))) ∙ tail in
        let k2 : LeavesExprs r (trees_of (between (n + 1) m news)) b = subst
        (λ (zs : List Expr). LeavesExprs r (trees_of (between (n + 1) m news))
        (judge_items (trees_of zs) names false asked)) all k in
        let right : take (n + 1) news ≡ take (n + 1) mids → drop m news ≡ drop m mids → (y : X)
        → trees_of (between (n + 1) m news) ≡ b.trees → trees_of news ≡ joined a.trees (more (tree_of x) b.trees) =
        λ in_front none_left y same.
        let rest_new : between (n + 1) m news ≡ drop (n + 1) news =
        ap (drop (n + 1)) (all_taken mids news m long none_left) in
        let head : take (n + 1) news ≡ take n mids ++ x ∷ [] =
        in_front ∙ take-add n 1 mids ∙ ap (λ zs. take n mids ++ take 1 zs) (behind ∙ e) in
        ap trees_of (sym (take-append-drop (n + 1) news) ∙ ap (λ zs. zs ++ drop (n + 1) news) head)
        ∙ joined-of (take n mids ++ x ∷ []) (drop (n + 1) news)
        ∙ ap (λ (ts : Trees). joined ts (trees_of (drop (n + 1) news))) (joined-of (take n mids) (x ∷ []))
        ∙ joined-joined (trees_of (take n mids)) (tree_of x) (trees_of (drop (n + 1) news))
        ∙ ap (λ (zs : List Expr). joined (trees_of (take n mids)) (more (tree_of x) (trees_of zs))) (sym rest_new)
        ∙ ap (λ (ts : Trees). joined (trees_of (take n mids)) (more (tree_of x) ts)) same
        ∙ ap (λ (ts : Trees). joined ts (more (tree_of x) b.trees)) done.1 in
        let k3 : Fits r b.broken (λ _. trees_of news ≡ joined a.trees (more (tree_of x) b.trees)) =
        fits-if r b.broken (λ _. trees_of (between (n + 1) m news) ≡ b.trees)
        (λ _. trees_of news ≡ joined a.trees (more (tree_of x) b.trees)) (take (n + 1) news ≡ take (n + 1) mids)
        (drop m news ≡ drop m mids) front empty right k2 in
        subst (λ (w : Option Broken). Fits r (first w b.broken)
        (λ _. trees_of news ≡ joined a.trees (more (tree_of x) b.trees))) (sym done.0) k3

pub front-stops : (olds : List Expr) (n : ℕ) (names : Names) (asked : Asked) → n < length olds → (b : Broken)
    → (judge_items (trees_of (between 0 n olds)) names false asked).broken ≡ Some b
    → (around_lone (take n olds) (drop n olds) names asked).broken ≡ Some b
front-stops olds n names asked within b broken = at (drop n olds) refl
  where
    at : (es : List Expr) → drop n olds ≡ es → (around_lone (take n olds) es names asked).broken ≡ Some b
    at [] e = absurd (let l = length-drop n olds in let z = ap length e in omega (arith, l, z))
    at (x ∷ rest) e = ap (λ (w : Option Broken). first w (judge_items (trees_of rest) names false asked).broken) broken
