-- A loop that walks the items of a list in place, one behind the other, from a place up to another.
use Rattle.std.proofs.Common.{◌≡◌, ℕ, zero, suc, ◌+◌, ◌<◌, ◌≤◌, List, [], ◌∷◌, ◌++◌, Option, Some, None, Result, Err}
use Rattle.std.proofs.Common.{take, drop, map, length, get_or, set, slice_get, add-one, refl, ap, sym, subst, ◌∙◌}
use Rattle.std.proofs.Common.{append_assoc, append-nil, length-set, arith}
use Rattle.std.proofs.lemmas.List.{get_or-drop, get_or-take, take_more_set, take-set-le, take_all, drop-append-le}
use Rattle.std.proofs.lemmas.List.{drop-set-lt, drop-drop, drop_all, length-take, length-take-le, map-append}
use Rattle.std.proofs.lemmas.Option.{get_or_from_slice_get, slice_get_within}
use Rattle.std.proofs.Math.Seq.{drop-cons}
use denote.Param.Weighed.{most}
use Rattle.bds_check_rules.specs.declared.rules.CheckFault.{CheckFault}
use Rattle.bds_check_rules.specs.declared.rules.CheckFault.TheVariants as fault
use Rattle.bds_check_typing.specs.Answers.{Fits}
use Rattle.bds_check_typing.specs.Walk.{Broken, first}
use Rattle.bds_check_walk.proofs.Depths.{most-drop}

-- a broken node is the first of the whole
pub broke-off : {X Y : Type 0} (r : Result Y CheckFault) (e : CheckFault) (P : X → Type 0) (Q : Y
    → Type 0) (j whole : Option Broken) → r ≡ Err e → Fits {X = X} (Err e) j P
    → ((b : Broken) → j ≡ Some b → whole ≡ Some b) → Fits r whole Q
broke-off {X = X} {Y = Y} r e P Q j whole same h found =
    subst (λ (x : Result Y CheckFault). Fits x whole Q) (sym same) (at e h)
  where
    at : (f : CheckFault) → Fits {X = X} (Err f) j P → Fits {X = Y} (Err f) whole Q
    at fault.NoMemory k = tt
    at (fault.Broken rule place) k = found (record { rule = rule; at = place }) k

pub map_set-same : {X Y : Type 0} (f : X → Y) (xs : List X) (i : ℕ) (x y : X) → slice_get xs i ≡ Some x → f y ≡ f x
    → map f (set xs i y) ≡ map f xs
map_set-same f [] i x y e same = refl
map_set-same f (z ∷ zs) zero x y e same =
    ap (λ v. v ∷ map f zs) (same ∙ ap f (sym (get_or_from_slice_get (z ∷ zs) 0 x x e)))
map_set-same f (z ∷ zs) (suc i) x y e same = ap (λ vs. f z ∷ vs) (map_set-same f zs i x y e same)

pub most-ahead : {X : Type 0} (μ : X → ℕ) (xs : List X) (n m : ℕ) → n ≤ m → most μ (drop m xs) ≤ most μ (drop n xs)
most-ahead μ xs zero m h = most-drop μ xs m
most-ahead μ [] (suc n) m h = let l = most-drop μ [] m in omega (arith, l)
most-ahead μ (x ∷ xs) (suc n) zero h = absurd (omega (arith, h))
most-ahead μ (x ∷ xs) (suc n) (suc m) h = most-ahead μ xs n m (omega (arith, h))

-- what an item is wanted as, the first broken node in it, and what it leaves to the next one
module _ {X T S U : Type 0} (view : X → T) (bare : T → U) (wanted : S → X → T) (faulty : S → X
    → Option Broken) (next : S → X → S) where
  abbrev pub all_wanted : S → List X → List T
  all_wanted s [] = []
  all_wanted s (x ∷ xs) = wanted s x ∷ all_wanted (next s x) xs

  abbrev pub any_faulty : S → List X → Option Broken
  any_faulty s [] = None
  any_faulty s (x ∷ xs) = first (faulty s x) (any_faulty (next s x) xs)

  abbrev pub all_left : S → List X → S
  all_left s [] = s
  all_left s (x ∷ xs) = all_left (next s x) xs

  -- the items from a place up to i are walked, and none of them is broken; all others are as they were
  pub record Walking (olds : List X) (from to : ℕ) (begun : S) (i : ℕ) (news : List X) (now : S) : Type 0 where
    pub as_long : length news ≡ length olds
    pub before : take from news ≡ take from olds
    pub ahead : drop i news ≡ drop i olds
    pub unbroken : any_faulty now (drop i (take to olds)) ≡ any_faulty begun (drop from (take to olds))
    pub so_far : map view (drop from (take i news))
        ++ all_wanted now (drop i (take to olds)) ≡ all_wanted begun (drop from (take to olds))
    pub left : all_left now (drop i (take to olds)) ≡ all_left begun (drop from (take to olds))
    pub kept : map (λ x. bare (view x)) news ≡ map (λ x. bare (view x)) olds

  pub walking-none : (xs : List X) (from to : ℕ) (s : S) → from ≤ length xs → Walking xs from to s from xs s
  walking-none xs from to s within =
      let none : drop from (take from xs) ≡ [] =
      let l = length-take-le from xs within in drop_all from (take from xs) (omega arith) in
      record {
        as_long = refl;
        before = refl;
        ahead = refl;
        unbroken = refl;
        so_far = ap (λ ys. map view ys ++ all_wanted s (drop from (take to xs))) none;
        left = refl;
        kept = refl;
      }

  next_is : (olds : List X) (from to : ℕ) (s : S) (i : ℕ) (news : List X) (now : S) (x : X) → i < to
      → slice_get news i ≡ Some x → Walking olds from to s i news now
      → drop i (take to olds) ≡ x ∷ drop (i + 1) (take to olds)
  next_is olds from to s i news now x below e h =
      let here : i + 0 ≡ i = omega arith in
      let old : get_or olds i x ≡ x =
      ap (λ n. get_or olds n x) (sym here) ∙ sym (get_or-drop i olds 0 x) ∙ ap (λ xs. get_or xs 0 x) (sym h.ahead)
      ∙ get_or-drop i news 0 x ∙ ap (λ n. get_or news n x) here ∙ get_or_from_slice_get news i x x e in
      let cut : get_or (take to olds) i x ≡ x = get_or-take to olds i x below ∙ old in
      let l = slice_get_within news i x e in
      let s = h.as_long in
      let within : i < length (take to olds) = omega (arith, length-take to olds) in
      let there : drop i (take to olds) ≡ get_or (take to olds) i x ∷ drop (i + 1) (take to olds) =
      rw add-one (drop-cons (take to olds) i x within) in
      there ∙ ap (λ y. y ∷ drop (i + 1) (take to olds)) cut

  -- what is ahead is no deeper than all that is walked
  pub next_depth : (μ : X → ℕ) (olds : List X) (from to : ℕ) (s : S) (i : ℕ) (news : List X) (now : S) (x : X)
      → from ≤ i → i < to → slice_get news i ≡ Some x → Walking olds from to s i news now
      → μ x ≤ most μ (drop from (take to olds))
  next_depth μ olds from to s i news now x after below e h =
      let ahead : most μ (drop i (take to olds)) ≤ most μ (drop from (take to olds)) =
      most-ahead μ (take to olds) from i after in
      let here : most μ (drop i (take to olds)) ≡ most μ (x ∷ drop (i + 1) (take to olds)) =
      ap (most μ) (next_is olds from to s i news now x below e h) in
      omega (arith, ahead, here)

  -- one more item is walked
  pub walking-more : (olds : List X) (from to : ℕ) (s : S) (i : ℕ) (news : List X) (now : S) (x y : X) → from ≤ i
      → i < to → slice_get news i ≡ Some x → faulty now x ≡ None → view y ≡ wanted now x
      → bare (view y) ≡ bare (view x) →
      Walking olds from to s i news now → Walking olds from to s (i + 1) (set news i y) (next now x)
  walking-more olds from to s i news now x y after below e none is same h =
      let within = slice_get_within news i x e in
      let cut = next_is olds from to s i news now x below e h in
      let rest : List X = drop (i + 1) (take to olds) in
      let long : from ≤ length (take i news) = omega (arith, length-take i news) in
      let walked : drop from (take (i + 1) (set news i y)) ≡ drop from (take i news) ++ y ∷ [] =
      ap (drop from) (take_more_set news i y within) ∙ drop-append-le from (take i news) (y ∷ []) long in
      record {
        as_long = length-set news i y ∙ h.as_long;
        before = take-set-le from news i y after ∙ h.before;
        ahead = drop-set-lt (i + 1) news i y (omega arith) ∙ sym (drop-drop 1 i news) ∙ ap (drop 1) h.ahead
            ∙ drop-drop 1 i olds;
        unbroken = ap (λ b. first b (any_faulty (next now x) rest)) (sym none) ∙ sym (ap (any_faulty now) cut)
            ∙ h.unbroken;
        so_far = ap (λ zs. map view zs ++ all_wanted (next now x) rest) walked
            ∙ ap (λ ts. ts ++ all_wanted (next now x) rest) (map-append view (drop from (take i news)) (y ∷ []))
            ∙ append_assoc (map view (drop from (take i news))) (view y ∷ []) (all_wanted (next now x) rest)
            ∙ ap (λ t. map view (drop from (take i news)) ++ t ∷ all_wanted (next now x) rest) is
            ∙ ap (λ zs. map view (drop from (take i news)) ++ all_wanted now zs) (sym cut)
            ∙ h.so_far;
        left = sym (ap (all_left now) cut) ∙ h.left;
        kept = map_set-same (λ z. bare (view z)) news i x y e same ∙ h.kept;
      }

  -- the next item is broken
  pub walking-broken : (olds : List X) (from to : ℕ) (s : S) (i : ℕ) (news : List X) (now : S) (x : X) → i < to
      → slice_get news i ≡ Some x → Walking olds from to s i news now →
      (b : Broken) → faulty now x ≡ Some b → any_faulty s (drop from (take to olds)) ≡ Some b
  walking-broken olds from to s i news now x below e h b broken =
      sym h.unbroken ∙ ap (any_faulty now) (next_is olds from to s i news now x below e h)
      ∙ ap (λ c. first c (any_faulty (next now x) (drop (i + 1) (take to olds)))) broken

  pub kept-more : (olds : List X) (from to : ℕ) (s : S) (i : ℕ) (news : List X) (now : S) (x y : X)
      → slice_get news i ≡ Some x → bare (view y) ≡ bare (view x) → Walking olds from to s i news now →
      map (λ z. bare (view z)) (set news i y) ≡ map (λ z. bare (view z)) olds
  kept-more olds from to s i news now x y e same h = map_set-same (λ z. bare (view z)) news i x y e same ∙ h.kept

  -- all items are walked
  module _ (olds : List X) (from to : ℕ) (s : S) (i : ℕ) (news : List X) (now : S) (end : i ≡ to)
      (h : Walking olds from to s i news now) where
    none_ahead : drop i (take to olds) ≡ []
    none_ahead = drop_all i (take to olds) (omega (arith, length-take to olds, end))

    pub walked-unbroken : any_faulty s (drop from (take to olds)) ≡ None
    walked-unbroken = sym h.unbroken ∙ ap (any_faulty now) none_ahead

    pub walked-all : map view (drop from (take to news)) ≡ all_wanted s (drop from (take to olds))
    walked-all =
        ap (λ n. map view (drop from (take n news))) (sym end) ∙ sym (append-nil (map view (drop from (take i news))))
        ∙ ap (λ zs. map view (drop from (take i news)) ++ all_wanted now zs) (sym none_ahead) ∙ h.so_far

    pub walked-left : now ≡ all_left s (drop from (take to olds))
    walked-left = ap (all_left now) (sym none_ahead) ∙ h.left

  -- a loop over the whole list
  module _ (olds : List X) (s : S) (i : ℕ) (news : List X) (now : S) where
    all_olds : drop 0 (take (length olds) olds) ≡ olds
    all_olds = take_all (length olds) olds (omega arith)

    pub whole-broken : (x : X) → i < length olds → slice_get news i ≡ Some x → Walking olds 0 (length olds) s i news now
        → (b : Broken) → faulty now x ≡ Some b → any_faulty s olds ≡ Some b
    whole-broken x below e h b broken =
        ap (any_faulty s) (sym all_olds) ∙ walking-broken olds 0 (length olds) s i news now x below e h b broken

    pub whole-walked : i ≡ length olds → Walking olds 0 (length olds) s i news now
        → (any_faulty s olds ≡ None) × (map view news ≡ all_wanted s olds) × (now ≡ all_left s olds)
    whole-walked end h =
        let long = h.as_long in
        let all : take (length olds) news ≡ news = take_all (length olds) news (omega (arith, long)) in (
          ap (any_faulty s) (sym all_olds) ∙ walked-unbroken olds 0 (length olds) s i news now end h,
          ap (map view) (sym all) ∙ walked-all olds 0 (length olds) s i news now end h ∙ ap (all_wanted s) all_olds,
          walked-left olds 0 (length olds) s i news now end h ∙ ap (all_left s) all_olds,
        )

    pub whole-depth : (μ : X → ℕ) (x : X) → i < length olds → slice_get news i ≡ Some x
        → Walking olds 0 (length olds) s i news now → μ x ≤ most μ olds
    whole-depth μ x below e h =
        let deep = next_depth μ olds 0 (length olds) s i news now x (omega arith) below e h in rw all_olds at deep
