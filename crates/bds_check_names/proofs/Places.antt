-- What is found in an index of functions.
use Rattle.std.proofs.Common.{◌≡◌, ◌++◌, is_some, rules, arith, ℕ, zero, suc, ◌+◌, ◌≤◌, List, [], ◌∷◌, Bool, true, false, Option, Some, None, refl, sym, subst, slice_get, cond, take, nat_lt, ap, ◌∙◌, if◌then◌else◌}
use Rattle.std.specs.Str.{bytes_eq}
use Rattle.std.specs.Map.{lookup}
use Rattle.std.specs.Option.{option_or}
use Rattle.std.proofs.lemmas.Bool.{lt-ltb, le-ltb}
use Rattle.std.proofs.lemmas.Slice.Eq.{bytes_eq-Decides}
use Rattle.bds_check_names.specs.declared.names.Head.{Head}
use Rattle.bds_check_names.specs.Scopes.{function_named}
use Rattle.bds_check_names.specs.Indexes.{first_place}

module _ {K X : Type 0} (name : K → List ℕ) where
  push_here : (x : List ℕ) (e : K × X) (es : List (K × X)) (k : K) (v : X) (b : Bool) → bytes_eq x (name e.0) ≡ b →
      lookup (λ k. bytes_eq x (name k)) (es ++ (k, v) ∷ []) ≡ option_or (lookup (λ k. bytes_eq x (name k)) es) (if bytes_eq x (name k) then Some v else None) →
      lookup (λ k. bytes_eq x (name k)) (e ∷ es ++ (k, v) ∷ []) ≡ option_or (lookup (λ k. bytes_eq x (name k)) (e ∷ es)) (if bytes_eq x (name k) then Some v else None)
  push_here x e es k v true q h = rw q refl
  push_here x e es k v false q h = rw q h

  only : (b : Bool) (v : X) → cond b (Some v) None ≡ (if b then Some v else None)
  only true v = refl
  only false v = refl

  pub lookup_push : (x : List ℕ) (es : List (K × X)) (k : K) (v : X) →
      lookup (λ k. bytes_eq x (name k)) (es ++ (k, v) ∷ []) ≡ option_or (lookup (λ k. bytes_eq x (name k)) es) (if bytes_eq x (name k) then Some v else None)
  lookup_push x [] k v = only (bytes_eq x (name k)) v
  lookup_push x (e ∷ es) k v = push_here x e es k v (bytes_eq x (name e.0)) refl (lookup_push x es k v)

  stays_at : (o : Option X) (b : Bool) (v : X) → (b ≡ true → is_some o ≡ true) → o ≡ option_or o (if b then Some v else None)
  stays_at (Some t) b v h = refl
  stays_at None false v h = refl
  stays_at None true v h = absurd (search (rules, h refl))

  -- a name that has an entry keeps it
  pub stays : (x y : List ℕ) (es : List (K × X)) (v : X) → is_some (lookup (λ k. bytes_eq y (name k)) es) ≡ true →
      lookup (λ k. bytes_eq x (name k)) es ≡ option_or (lookup (λ k. bytes_eq x (name k)) es) (if bytes_eq x y then Some v else None)
  stays x y es v there =
      stays_at (lookup (λ k. bytes_eq x (name k)) es) (bytes_eq x y) v
      (λ q. subst (λ z. is_some (lookup (λ k. bytes_eq z (name k)) es) ≡ true) (sym ((bytes_eq-Decides x y).0 q)) there)

  pub none_of : (o : Option X) (b : Bool) → b ≡ is_some o → b ≡ false → o ≡ None
  none_of None b q r = refl
  none_of (Some t) b q r = absurd (search (rules, q, r))

step_at : (a : Option ℕ) (b : Bool) (n : ℕ) (o : Option ℕ) → option_or (option_or a (if b then Some n else None)) o ≡ option_or a (if b then Some n else o)
step_at (Some t) b n o = refl
step_at None true n o = refl
step_at None false n o = refl

pub place_step : (x : List ℕ) (a : Option ℕ) (h : Head) (hs : List Head) (n : ℕ) →
    option_or (option_or a (if bytes_eq x h.name then Some n else None)) (first_place x hs (n + 1)) ≡ option_or a (first_place x (h ∷ hs) n)
place_step x a h hs n = step_at a (bytes_eq x h.name) n (first_place x hs (n + 1))

pub or_none : (a : Option ℕ) → option_or a None ≡ a
or_none None = refl
or_none (Some t) = refl

some_is : (m n : ℕ) → Some m ≡ Some n → m ≡ n
some_is m n h = cc

from_here : (x : List ℕ) (h : Head) (hs : List Head) (n p : ℕ) (b : Bool) → ((m : ℕ) → first_place x hs m ≡ Some p → m ≤ p) → (if b then Some n else first_place x hs (n + 1)) ≡ Some p → n ≤ p
from_here x h hs n p true rest is = let same : n ≡ p = some_is n p is in omega (arith, same)
from_here x h hs n p false rest is = let next : n + 1 ≤ p = rest (n + 1) is in omega (arith, next)

from : (x : List ℕ) (hs : List Head) (p : ℕ) (n : ℕ) → first_place x hs n ≡ Some p → n ≤ p
from x [] p n is = absurd (search (rules, is))
from x (h ∷ hs) p n is = from_here x h hs n p (bytes_eq x h.name) (from x hs p) is

none_left : (n p k : ℕ) → n + 1 ≤ p → p ≡ n + 0 → ⊥
none_left n p k a b = omega (arith, a, b)

no_further : (n p k : ℕ) → n ≡ p → p ≡ n + suc k → ⊥
no_further n p k a b = omega (arith, a, b)

found_here : (x : List ℕ) (h : Head) (hs : List Head) (n p k : ℕ) (b : Bool) →
    ((j : ℕ) → first_place x hs (n + 1) ≡ Some p → p ≡ n + 1 + j → function_named x hs ≡ slice_get hs j) →
    (if b then Some n else first_place x hs (n + 1)) ≡ Some p → p ≡ n + k → (if b then Some h else function_named x hs) ≡ slice_get (h ∷ hs) k
found_here x h hs n p zero true rest is at = refl
found_here x h hs n p (suc k) true rest is at = absurd (no_further n p k (some_is n p is) at)
found_here x h hs n p zero false rest is at = absurd (none_left n p 0 (from x hs p (n + 1) is) at)
found_here x h hs n p (suc k) false rest is at = rest k is (omega (arith, at))

found_at : (x : List ℕ) (hs : List Head) (n p k : ℕ) → first_place x hs n ≡ Some p → p ≡ n + k → function_named x hs ≡ slice_get hs k
found_at x [] n p k is at = absurd (search (rules, is))
found_at x (h ∷ hs) n p k is at = found_here x h hs n p k (bytes_eq x h.name) (λ j. found_at x hs (n + 1) p j) is at

pub found_there : (x : List ℕ) (hs : List Head) (p : ℕ) → first_place x hs 0 ≡ Some p → function_named x hs ≡ slice_get hs p
found_there x hs p is = found_at x hs 0 p p is (omega arith)

none_here : (x : List ℕ) (h : Head) (hs : List Head) (n : ℕ) (b : Bool) → (first_place x hs (n + 1) ≡ None → function_named x hs ≡ None) →
    (if b then Some n else first_place x hs (n + 1)) ≡ None → (if b then Some h else function_named x hs) ≡ None
none_here x h hs n true rest is = absurd (search (rules, is))
none_here x h hs n false rest is = rest is

none_from : (x : List ℕ) (hs : List Head) (n : ℕ) → first_place x hs n ≡ None → function_named x hs ≡ None
none_from x [] n is = refl
none_from x (h ∷ hs) n is = none_here x h hs n (bytes_eq x h.name) (none_from x hs (n + 1)) is

pub none_there : (x : List ℕ) (hs : List Head) → first_place x hs 0 ≡ None → function_named x hs ≡ None
none_there x hs is = none_from x hs 0 is

first_below_here : (x : List ℕ) (h : Head) (hs : List Head) (n p k : ℕ) (b : Bool) →
    ((j : ℕ) → first_place x hs (n + 1) ≡ Some p → is_some (function_named x (take j hs)) ≡ nat_lt p (n + 1 + j)) →
    (if b then Some n else first_place x hs (n + 1)) ≡ Some p → is_some (if b then Some h else function_named x (take k hs)) ≡ nat_lt p (n + suc k)
first_below_here x h hs n p k true rest is = let same : n ≡ p = some_is n p is in sym (lt-ltb p (n + suc k) (omega (arith, same)))
first_below_here x h hs n p k false rest is = rest k is ∙ ap (nat_lt p) (omega arith)

first_below : (x : List ℕ) (hs : List Head) (n p k : ℕ) → first_place x hs n ≡ Some p → is_some (function_named x (take k hs)) ≡ nat_lt p (n + k)
first_below x [] n p k is = absurd (search (rules, is))
first_below x (h ∷ hs) n p zero is = let from_it : n ≤ p = from x (h ∷ hs) p n is in sym (le-ltb p (n + 0) (omega (arith, from_it)))
first_below x (h ∷ hs) n p (suc k) is = first_below_here x h hs n p k (bytes_eq x h.name) (λ j. first_below x hs (n + 1) p j) is

pub among_first : (x : List ℕ) (hs : List Head) (p k : ℕ) → first_place x hs 0 ≡ Some p → is_some (function_named x (take k hs)) ≡ nat_lt p k
among_first x hs p k is = first_below x hs 0 p k is ∙ ap (nat_lt p) (omega arith)

none_above_here : (x : List ℕ) (h : Head) (hs : List Head) (n k : ℕ) (b : Bool) → (first_place x hs (n + 1) ≡ None → is_some (function_named x (take k hs)) ≡ false) →
    (if b then Some n else first_place x hs (n + 1)) ≡ None → is_some (if b then Some h else function_named x (take k hs)) ≡ false
none_above_here x h hs n k true rest is = absurd (search (rules, is))
none_above_here x h hs n k false rest is = rest is

none_above : (x : List ℕ) (hs : List Head) (n k : ℕ) → first_place x hs n ≡ None → is_some (function_named x (take k hs)) ≡ false
none_above x [] n zero is = refl
none_above x [] n (suc k) is = refl
none_above x (h ∷ hs) n zero is = refl
none_above x (h ∷ hs) n (suc k) is = none_above_here x h hs n k (bytes_eq x h.name) (none_above x hs (n + 1) k) is

pub none_among_first : (x : List ℕ) (hs : List Head) (k : ℕ) → first_place x hs 0 ≡ None → is_some (function_named x (take k hs)) ≡ false
none_among_first x hs k is = none_above x hs 0 k is
