-- Items of a literal, in parts.
use Rattle.std.proofs.Common.{◌≡◌, ℕ, zero, suc, ◌+◌, add-one, Bool, true, false, List, [], ◌∷◌, ◌++◌, length, drop}
use Rattle.std.proofs.Common.{slice_get, Option, Some, None, refl, ap, sym, ◌∙◌, if◌then◌else◌, arith}
use Rattle.bds_value.specs.declared.value.Ty.{Ty}
use Rattle.bds_tree.specs.declared.expr.Expr.{Expr}
use Rattle.bds_tree.specs.Tree.{Tree, Trees, TreePairs, more, more_pairs, joined, joined_pairs, type_of}
use Rattle.bds_tree.specs.View.{tree_of, trees_of, pairs_of}
use Rattle.bds_check_names.specs.declared.names.Names.{Names}
use Rattle.bds_check_names.specs.declared.names.Asked.{Asked}
use Rattle.bds_check_names.specs.declared.names.Asked.TheVariants.{Value}
use Rattle.bds_check_typing.specs.Walk.{both, both_pairs, Broken, Judged, JudgedTrees, JudgedPairs, first, also}
use Rattle.bds_check_typing.specs.Walk.{also_pair, judge, judge_items, judge_values, judge_arguments, items_asked}
use Rattle.bds_check_typing.specs.Walk.{beside, value_beside, unasked, asked_beside, is_open, open_count}
use Rattle.bds_check_typing.specs.Walk.{open_value_count}

pub first-assoc : (a b c : Option Broken) → first (first a b) c ≡ first a (first b c)
first-assoc None b c = refl
first-assoc (Some x) b c = refl

pub first-None : (a : Option Broken) → first a None ≡ a
first-None None = refl
first-None (Some x) = refl

-- items of which nothing more is learnt are judged one after the other
pub also-both : (j : Judged) (a b : JudgedTrees) → also j (both a b) ≡ both (also j a) b
also-both j a b = ap (λ w. record {
  trees = more j.tree (joined a.trees b.trees);
  broken = w;
}) (sym (first-assoc j.broken a.broken b.broken))

-- where all items are open, nothing tells their type
all-open-at : (e : Tree) (es : Trees) (n : ℕ) (names : Names) (asked : Asked) (b : Bool) → is_open e ≡ b
    → (if b then open_count es + 1 else 0) ≡ n + 1
    → (open_count es ≡ n → judge_items es names true asked ≡ judge_items es names false asked)
    → judge_items (more e es) names true asked ≡ judge_items (more e es) names false asked
all-open-at e es n names asked true q m h = rw q (ap (also (judge e names asked)) (h (omega (arith, m))))
all-open-at e es n names asked false q m h = absurd (omega (arith, m))

pub all-open : (es : List Expr) (names : Names) (asked : Asked) → open_count (trees_of es) ≡ length es
    → judge_items (trees_of es) names true asked ≡ judge_items (trees_of es) names false asked
all-open [] names asked m = refl
all-open (e ∷ es) names asked m = all-open-at (tree_of e) (trees_of es) (length es) names asked (is_open (tree_of e))
    refl (let k : open_count (trees_of (e ∷ es)) ≡ length es + 1 = omega (arith, m) in k) (all-open es names asked)

all-beside-at : (e : Tree) (es : Trees) (n : ℕ) (names : Names) (asked : Asked) (b : Bool) → is_open e ≡ b
    → (if b then open_count es + 1 else 0) ≡ n + 1 → (open_count es ≡ n → beside es names asked ≡ unasked asked)
    → beside (more e es) names asked ≡ unasked asked
all-beside-at e es n names asked true q m h = rw q (h (omega (arith, m)))
all-beside-at e es n names asked false q m h = absurd (omega (arith, m))

pub all-beside : (es : List Expr) (names : Names) (asked : Asked) → open_count (trees_of es) ≡ length es
    → beside (trees_of es) names asked ≡ unasked asked
all-beside [] names asked m = refl
all-beside (e ∷ es) names asked m = all-beside-at (tree_of e) (trees_of es) (length es) names asked
    (is_open (tree_of e)) refl (let k : open_count (trees_of (e ∷ es)) ≡ length es + 1 = omega (arith, m) in k)
    (all-beside es names asked)

-- the first item that isn't open, with those before and behind it
abbrev pub around : List Expr → Tree → List Expr → Names → Asked → JudgedTrees
around before e behind names asked = both (judge_items (trees_of before) names false asked)
    (also (judge e names Value) (judge_items (trees_of behind) names false asked))

split-step : (b e : Tree) (bs behind : List Expr) (rest : Trees) (names : Names) (asked : Asked) (open_here : Bool)
    → is_open b ≡ open_here → (if open_here then open_count rest + 1 else 0) ≡ length bs + 1 →
    (open_count rest ≡ length bs → judge_items rest names true asked ≡ around bs e behind names asked) →
    judge_items (more b rest) names true asked ≡ both (also (judge b names asked)
    (judge_items (trees_of bs) names false asked)) (also (judge e names Value)
    (judge_items (trees_of behind) names false asked))
split-step b e bs behind rest names asked true q m h =
    rw q (ap (also (judge b names asked)) (h (omega (arith, m)))
    ∙ also-both (judge b names asked) (judge_items (trees_of bs) names false asked)
    (also (judge e names Value) (judge_items (trees_of behind) names false asked)))
split-step b e bs behind rest names asked false q m h = absurd (omega (arith, m))

pub split : (before : List Expr) (e : Expr) (behind : List Expr) (names : Names) (asked : Asked)
    → open_count (trees_of (before ++ e ∷ behind)) ≡ length before → is_open (tree_of e) ≡ false
    → judge_items (trees_of (before ++ e ∷ behind)) names true asked ≡ around before (tree_of e) behind names asked
split [] e behind names asked m q = rw q refl
split (b ∷ bs) e behind names asked m q =
    split-step (tree_of b) (tree_of e) bs behind (trees_of (bs
    ++ e ∷ behind)) names asked (is_open (tree_of b)) refl (let k : open_count (trees_of ((b ∷ bs)
    ++ e ∷ behind)) ≡ length bs + 1 = omega (arith, m) in k) (λ h. split bs e behind names asked h q)

beside-step : (b : Tree) (n : ℕ) (rest : Trees) (names : Names) (asked given : Asked) (open_here : Bool)
    → is_open b ≡ open_here → (if open_here then open_count rest + 1 else 0) ≡ n + 1
    → (open_count rest ≡ n → beside rest names asked ≡ given) → beside (more b rest) names asked ≡ given
beside-step b n rest names asked given true q m h = rw q (h (omega (arith, m)))
beside-step b n rest names asked given false q m h = absurd (omega (arith, m))

pub split-beside : (before : List Expr) (e : Expr) (behind : List Expr) (names : Names) (asked : Asked)
    → open_count (trees_of (before ++ e ∷ behind)) ≡ length before → is_open (tree_of e) ≡ false
    → beside (trees_of (before
    ++ e ∷ behind)) names asked ≡ asked_beside (type_of (judge (tree_of e) names Value).tree)
    (judge (tree_of e) names Value).broken
split-beside [] e behind names asked m q = rw q refl
split-beside (b ∷ bs) e behind names asked m q =
    beside-step (tree_of b) (length bs) (trees_of (bs
    ++ e ∷ behind)) names asked (asked_beside (type_of (judge (tree_of e) names Value).tree)
    (judge (tree_of e) names Value).broken) (is_open (tree_of b)) refl (let k : open_count (trees_of ((b ∷ bs)
    ++ e ∷ behind)) ≡ length bs + 1 = omega (arith, m) in k) (λ h. split-beside bs e behind names asked h q)

not-open-here : (b : Bool) (n : ℕ) → (if b then n + 1 else 0) ≡ 0 → b ≡ false
not-open-here true n m = absurd (omega (arith, m))
not-open-here false n m = refl

not-open-step : (b : Bool) (n k : ℕ) → (if b then n + 1 else 0) ≡ suc k → n ≡ k
not-open-step true n k m = omega (arith, m)
not-open-step false n k m = absurd (omega (arith, m))

-- the item behind those that are open isn't open
pub not-open : (before : List Expr) (e : Expr) (behind : List Expr)
    → open_count (trees_of (before ++ e ∷ behind)) ≡ length before → is_open (tree_of e) ≡ false
not-open [] e behind m = not-open-here (is_open (tree_of e)) (open_count (trees_of behind)) m
not-open (b ∷ bs) e behind m =
    not-open bs e behind (not-open-step (is_open (tree_of b)) (open_count (trees_of (bs ++ e ∷ behind))) (length bs) m)

-- one more argument
arguments-at : (e : Tree) (es : Trees) (names : Names) (ts : List Ty) (i : ℕ)
    → judge_arguments (more e es) names (drop i ts) ≡ also (judge e names (items_asked (slice_get ts i) Value))
    (judge_arguments es names (drop (suc i) ts))
arguments-at e es names [] zero = refl
arguments-at e es names [] (suc i) = refl
arguments-at e es names (t ∷ ts) zero = refl
arguments-at e es names (t ∷ ts) (suc i) = arguments-at e es names ts i

pub arguments-next : (e : Tree) (es : Trees) (names : Names) (ts : List Ty) (i : ℕ)
    → judge_arguments (more e es) names (drop i ts) ≡ also (judge e names (items_asked (slice_get ts i) Value))
    (judge_arguments es names (drop (i + 1) ts))
arguments-next e es names ts i = rw add-one (arguments-at e es names ts i)

-- The same of the values of a map

pub also_pair-both : (k v : Judged) (a b : JudgedPairs)
    → also_pair k v (both_pairs a b) ≡ both_pairs (also_pair k v a) b
also_pair-both k v a b =
    ap (λ w. record { pairs = more_pairs k.tree v.tree (joined_pairs a.pairs b.pairs); broken = w })
    (ap (first k.broken) (sym (first-assoc v.broken a.broken b.broken))
    ∙ sym (first-assoc k.broken (first v.broken a.broken) b.broken))

all-values-open-at : (k v : Tree) (ps : TreePairs) (n : ℕ) (names : Names) (asked : Asked) (b : Bool) → is_open v ≡ b
    → (if b then open_value_count ps + 1 else 0) ≡ n + 1
    → (open_value_count ps ≡ n → judge_values ps names true asked ≡ judge_values ps names false asked)
    → judge_values (more_pairs k v ps) names true asked ≡ judge_values (more_pairs k v ps) names false asked
all-values-open-at k v ps n names asked true q m h =
    rw q (ap (also_pair (judge k names Value) (judge v names asked)) (h (omega (arith, m))))
all-values-open-at k v ps n names asked false q m h = absurd (omega (arith, m))

pub all-values-open : (ps : List (Expr × Expr)) (names : Names) (asked : Asked)
    → open_value_count (pairs_of ps) ≡ length ps
    → judge_values (pairs_of ps) names true asked ≡ judge_values (pairs_of ps) names false asked
all-values-open [] names asked m = refl
all-values-open (p ∷ ps) names asked m = all-values-open-at (tree_of p.0) (tree_of p.1) (pairs_of ps) (length ps) names
    asked (is_open (tree_of p.1)) refl (let k : open_value_count (pairs_of (p ∷ ps)) ≡ length ps + 1 = omega (arith, m)
    in k) (all-values-open ps names asked)

all-values-beside-at : (k v : Tree) (ps : TreePairs) (n : ℕ) (names : Names) (asked : Asked) (b : Bool) → is_open v ≡ b
    → (if b then open_value_count ps + 1 else 0) ≡ n + 1
    → (open_value_count ps ≡ n → value_beside ps names asked ≡ unasked asked)
    → value_beside (more_pairs k v ps) names asked ≡ unasked asked
all-values-beside-at k v ps n names asked true q m h = rw q (h (omega (arith, m)))
all-values-beside-at k v ps n names asked false q m h = absurd (omega (arith, m))

pub all-values-beside : (ps : List (Expr × Expr)) (names : Names) (asked : Asked)
    → open_value_count (pairs_of ps) ≡ length ps → value_beside (pairs_of ps) names asked ≡ unasked asked
all-values-beside [] names asked m = refl
all-values-beside (p ∷ ps) names asked m = all-values-beside-at (tree_of p.0) (tree_of p.1) (pairs_of ps) (length ps)
    names asked (is_open (tree_of p.1)) refl (let k : open_value_count (pairs_of (p ∷ ps)) ≡ length ps + 1 = omega
    (arith, m) in k) (all-values-beside ps names asked)

-- the first pair whose value isn't open, with those before and behind it
abbrev pub around_pair : List (Expr × Expr) → Tree → Tree → List (Expr × Expr) → Names → Asked → JudgedPairs
around_pair before k v behind names asked = both_pairs (judge_values (pairs_of before) names false asked)
    (also_pair (judge k names Value) (judge v names Value) (judge_values (pairs_of behind) names false asked))

split-pairs-step : (b c k v : Tree) (bs behind : List (Expr
    × Expr)) (rest : TreePairs) (names : Names) (asked : Asked) (open_here : Bool) → is_open c ≡ open_here
    → (if open_here then open_value_count rest + 1 else 0) ≡ length bs + 1 →
    (open_value_count rest ≡ length bs → judge_values rest names true asked ≡ around_pair bs k v behind names asked) →
    judge_values (more_pairs b c rest) names true asked ≡ both_pairs
    (also_pair (judge b names Value) (judge c names asked) (judge_values (pairs_of bs) names false asked))
    (also_pair (judge k names Value) (judge v names Value) (judge_values (pairs_of behind) names false asked))
split-pairs-step b c k v bs behind rest names asked true q m h =
    rw q (ap (also_pair (judge b names Value) (judge c names asked)) (h (omega (arith, m)))
    ∙ also_pair-both (judge b names Value) (judge c names asked) (judge_values (pairs_of bs) names false asked)
    (also_pair (judge k names Value) (judge v names Value) (judge_values (pairs_of behind) names false asked)))
split-pairs-step b c k v bs behind rest names asked false q m h = absurd (omega (arith, m))

pub split-pairs : (before : List (Expr × Expr)) (p : Expr
    × Expr) (behind : List (Expr × Expr)) (names : Names) (asked : Asked)
    → open_value_count (pairs_of (before ++ p ∷ behind)) ≡ length before → is_open (tree_of p.1) ≡ false
    → judge_values (pairs_of (before
    ++ p ∷ behind)) names true asked ≡ around_pair before (tree_of p.0) (tree_of p.1) behind names asked
split-pairs [] p behind names asked m q = rw q refl
split-pairs (b ∷ bs) p behind names asked m q =
    split-pairs-step (tree_of b.0) (tree_of b.1) (tree_of p.0) (tree_of p.1) bs behind (pairs_of (bs
    ++ p ∷ behind)) names asked (is_open (tree_of b.1)) refl (let k : open_value_count (pairs_of ((b ∷ bs)
    ++ p ∷ behind)) ≡ length bs + 1 = omega (arith, m) in k) (λ h. split-pairs bs p behind names asked h q)

value-beside-step : (k v : Tree) (n : ℕ) (rest : TreePairs) (names : Names) (asked given : Asked) (open_here : Bool)
    → is_open v ≡ open_here → (if open_here then open_value_count rest + 1 else 0) ≡ n + 1
    → (open_value_count rest ≡ n → value_beside rest names asked ≡ given)
    → value_beside (more_pairs k v rest) names asked ≡ given
value-beside-step k v n rest names asked given true q m h = rw q (h (omega (arith, m)))
value-beside-step k v n rest names asked given false q m h = absurd (omega (arith, m))

pub split-value-beside : (before : List (Expr × Expr)) (p : Expr
    × Expr) (behind : List (Expr × Expr)) (names : Names) (asked : Asked)
    → open_value_count (pairs_of (before ++ p ∷ behind)) ≡ length before → is_open (tree_of p.1) ≡ false
    → value_beside (pairs_of (before
    ++ p ∷ behind)) names asked ≡ asked_beside (type_of (judge (tree_of p.1) names Value).tree)
    (judge (tree_of p.1) names Value).broken
split-value-beside [] p behind names asked m q = rw q refl
split-value-beside (b ∷ bs) p behind names asked m q =
    value-beside-step (tree_of b.0) (tree_of b.1) (length bs) (pairs_of (bs
    ++ p ∷ behind)) names asked (asked_beside (type_of (judge (tree_of p.1) names Value).tree)
    (judge (tree_of p.1) names Value).broken) (is_open (tree_of b.1)) refl
    (let k : open_value_count (pairs_of ((b ∷ bs)
    ++ p ∷ behind)) ≡ length bs + 1 = omega (arith, m) in k)
    (λ h. split-value-beside bs p behind names asked h q)

-- the value behind those that are open isn't open
pub value-not-open : (before : List (Expr × Expr)) (p : Expr × Expr) (behind : List (Expr × Expr))
    → open_value_count (pairs_of (before ++ p ∷ behind)) ≡ length before → is_open (tree_of p.1) ≡ false
value-not-open [] p behind m = not-open-here (is_open (tree_of p.1)) (open_value_count (pairs_of behind)) m
value-not-open (b ∷ bs) p behind m = value-not-open bs p behind
    (not-open-step (is_open (tree_of b.1)) (open_value_count (pairs_of (bs ++ p ∷ behind))) (length bs) m)

-- the first item that isn't open tells the type of the others
abbrev pub lone : Trees → Tree → Trees → Names → JudgedTrees
lone before e behind names =
    let j : Judged = judge e names Value in
    let asked : Asked = asked_beside (type_of j.tree) j.broken in
    both (judge_items before names false asked) (also j (judge_items behind names false asked))

pub lone-is : (before : List Expr) (e : Expr) (behind : List Expr) (names : Names) (asked : Asked)
    → open_count (trees_of (before ++ e ∷ behind)) ≡ length before →
    judge_items (trees_of (before
    ++ e ∷ behind)) names true (beside (trees_of (before
    ++ e ∷ behind)) names asked) ≡ lone (trees_of before) (tree_of e) (trees_of behind) names
lone-is before e behind names asked m =
    let q : is_open (tree_of e) ≡ false = not-open before e behind m in
    ap (judge_items (trees_of (before ++ e ∷ behind)) names true) (split-beside before e behind names asked m q)
    ∙ split before e behind names (asked_beside (type_of (judge (tree_of e) names Value).tree)
    (judge (tree_of e) names Value).broken) m q

-- where all items are open
pub open-is : (items : List Expr) (names : Names) (asked : Asked) → open_count (trees_of items) ≡ length items →
    judge_items (trees_of items) names true (beside (trees_of items) names asked) ≡ judge_items (trees_of items) names
    false (unasked asked)
open-is items names asked m = all-open items names (beside (trees_of items) names asked) m
    ∙ ap (judge_items (trees_of items) names false) (all-beside items names asked m)

abbrev pub lone_pair : TreePairs → Tree → Tree → TreePairs → Names → JudgedPairs
lone_pair before k v behind names =
    let j : Judged = judge v names Value in
    let asked : Asked = asked_beside (type_of j.tree) j.broken in
    both_pairs (judge_values before names false asked) (also_pair (judge k names Value) j
    (judge_values behind names false asked))

pub lone-pair-is : (before : List (Expr × Expr)) (p : Expr
    × Expr) (behind : List (Expr × Expr)) (names : Names) (asked : Asked)
    → open_value_count (pairs_of (before ++ p ∷ behind)) ≡ length before →
    judge_values (pairs_of (before
    ++ p ∷ behind)) names true (value_beside (pairs_of (before
    ++ p ∷ behind)) names asked) ≡ lone_pair (pairs_of before) (tree_of p.0) (tree_of p.1) (pairs_of behind) names
lone-pair-is before p behind names asked m =
    let q : is_open (tree_of p.1) ≡ false = value-not-open before p behind m in
    ap (judge_values (pairs_of (before ++ p ∷ behind)) names true) (split-value-beside before p behind names asked m q)
    ∙ split-pairs before p behind names (asked_beside (type_of (judge (tree_of p.1) names Value).tree)
    (judge (tree_of p.1) names Value).broken) m q

pub open-pairs-is : (pairs : List (Expr × Expr)) (names : Names) (asked : Asked)
    → open_value_count (pairs_of pairs) ≡ length pairs →
    judge_values (pairs_of pairs) names true (value_beside (pairs_of pairs) names asked) ≡ judge_values (pairs_of pairs)
    names false (unasked asked)
open-pairs-is pairs names asked m = all-values-open pairs names (value_beside (pairs_of pairs) names asked) m
    ∙ ap (judge_values (pairs_of pairs) names false) (all-values-beside pairs names asked m)
