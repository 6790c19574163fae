-- Where a list ends, and where one that was made item by item is split.
use Rattle.std.proofs.Common.{◌≡◌, ◌∙◌, List, [], ◌∷◌, ◌++◌, map, ap, refl, sym}

pub last_or : {X : Type 0} → X → List X → X
last_or d [] = d
last_or d (x ∷ xs) = last_or x xs

pub last_is : {X : Type 0} (xs : List X) (d x : X) → last_or d (xs ++ x ∷ []) ≡ x
unfolding last_or
last_is [] d x = refl
last_is (y ∷ ys) d x = last_is ys y x

-- two lists end alike
pub same_last : {X : Type 0} (xs ys : List X) (x y : X) → xs ++ x ∷ [] ≡ ys ++ y ∷ [] → x ≡ y
same_last xs ys x y e = sym (last_is xs x x) ∙ ap (λ l. last_or x l) e ∙ last_is ys x y

abbrev rest_of : {X : Type 0} → List X → List X
rest_of [] = []
rest_of (x ∷ xs) = xs

abbrev first_or : {X : Type 0} → X → List X → X
first_or d [] = d
first_or d (x ∷ xs) = x

pub none_there : {X : Type 0} (xs ys : List X) (x : X) → [] ≡ xs ++ x ∷ ys → ⊥
none_there [] ys x e = cc e
none_there (y ∷ xs) ys x e = cc e

-- what stands behind the same front and the same item
pub nothing_behind : {X : Type 0} (x y : X) (ys : List X) → x ∷ [] ≡ y ∷ ys → ys ≡ []
nothing_behind x y ys e = sym (ap rest_of e)

-- the item from which another was made
pub record Made {X Y : Type 0} (f : X → Y) (xs : List X) (front : List Y) (y : Y) : Type 0 where
  pub before : List X
  pub item : X
  pub after : List X
  pub is : xs ≡ before ++ item ∷ after
  pub front_is : map f before ≡ front
  pub item_is : f item ≡ y

pub made_at : {X Y : Type 0} (f : X → Y) (xs : List X) (front rest : List Y) (y : Y) → map f xs ≡ front ++ y ∷ rest
    → Made f xs front y
made_at f [] front rest y e = absurd (none_there front rest y e)
made_at f (x ∷ xs) [] rest y e =
    record { before = []; item = x; after = xs; is = refl; front_is = refl; item_is = ap (λ l. first_or y l) e }
made_at f (x ∷ xs) (z ∷ front) rest y e =
    let m = made_at f xs front rest y (ap rest_of e) in
    let same : f x ≡ z = ap (λ l. first_or z l) e in
    record {
      before = x ∷ m.before;
      item = m.item;
      after = m.after;
      is = ap (λ l. x ∷ l) m.is;
      front_is = ap (λ l. f x ∷ l) m.front_is ∙ ap (λ w. w ∷ front) same;
      item_is = m.item_is;
    }
