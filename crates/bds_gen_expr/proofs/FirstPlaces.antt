-- What is found in an index of names, and what is there behind one more.
use Rattle.std.proofs.Common.{◌≡◌, ◌++◌, rules, arith, ℕ, zero, suc, ◌+◌, ◌≤◌, List, [], ◌∷◌, map, length, Bool, true, false, Option, Some, None, refl, ap, ◌∙◌, slice_get, if◌then◌else◌}
use Rattle.std.specs.Option.{option_map, option_or}
use Rattle.std.specs.Str.{bytes_eq}
use Rattle.bds_check_names.specs.Indexes.{place_if}
use Rattle.bds_check_names.specs.Scopes.{first_type}
use Rattle.bds_gen_expr.specs.declared.scope.Callee.{Callee}
use Rattle.bds_gen_expr.specs.declared.scope.Numbered.{Numbered}
use Rattle.bds_gen_expr.specs.Indexes.{first_place, names_of, callee_names}
use Rattle.bds_gen_expr.specs.Numbers.{first_number, first_callee, variables_of}

some_is : (m n : ℕ) → Some m ≡ Some n → m ≡ n
some_is m n h = cc

from_here : (n p : ℕ) (b : Bool) (o : Option ℕ) → (o ≡ Some p → suc n ≤ p) → (if b then Some n else o) ≡ Some p → n ≤ p
from_here n p true o rest is = let same : n ≡ p = some_is n p is in omega (arith, same)
from_here n p false o rest is = let next : suc n ≤ p = rest is in omega (arith, next)

from : (x : List ℕ) (ys : List (List ℕ)) (n p : ℕ) → first_place x ys n ≡ Some p → n ≤ p
from x [] n p is = absurd (search (rules, is))
from x (y ∷ ys) n p is = from_here n p (bytes_eq x y) (first_place x ys (suc n)) (from x ys (suc n) p) is

push_here : (b : Bool) (n : ℕ) (o p : Option ℕ) → (if b then Some n else option_or o p) ≡ option_or (if b then Some n else o) p
push_here true n o p = refl
push_here false n o p = refl

-- one more name behind
pub first_push : (x : List ℕ) (ys : List (List ℕ)) (y : List ℕ) (n : ℕ) → first_place x (ys ++ y ∷ []) n ≡ option_or (first_place x ys n) (place_if x y (length ys + n))
first_push x [] y n = let place : n ≡ length {A = List ℕ} [] + n = omega arith in ap (place_if x y) place
first_push x (z ∷ ys) y n =
    let place : length ys + suc n ≡ length (z ∷ ys) + n = omega arith in
    ap (λ o. if bytes_eq x z then Some n else o) (first_push x ys y (suc n) ∙ ap (λ k. option_or (first_place x ys (suc n)) (place_if x y k)) place)
    ∙ push_here (bytes_eq x z) n (first_place x ys (suc n)) (place_if x y (length (z ∷ ys) + n))

-- in any list of things with names
module _ {E : Type 0} (name : E → List ℕ) where
  pub first_of : List ℕ → List E → Option E
  first_of x [] = None
  first_of x (e ∷ es) = if bytes_eq x (name e) then Some e else first_of x es

  none_left : (n p : ℕ) → suc n ≤ p → p ≡ n + 0 → ⊥
  none_left n p a b = omega (arith, a, b)

  no_further : (n p k : ℕ) → n ≡ p → p ≡ n + suc k → ⊥
  no_further n p k a b = omega (arith, a, b)

  found_here : (e : E) (es : List E) (n p k : ℕ) (b : Bool) (o : Option ℕ) (r : Option E) → (o ≡ Some p → suc n ≤ p) → ((j : ℕ) → o ≡ Some p → p ≡ suc n + j → r ≡ slice_get es j)
      → (if b then Some n else o) ≡ Some p → p ≡ n + k → (if b then Some e else r) ≡ slice_get (e ∷ es) k
  found_here e es n p zero true o r low rest is at = refl
  found_here e es n p (suc k) true o r low rest is at = absurd (no_further n p k (some_is n p is) at)
  found_here e es n p zero false o r low rest is at = absurd (none_left n p (low is) at)
  found_here e es n p (suc k) false o r low rest is at = rest k is (omega (arith, at))

  found_at : (x : List ℕ) (es : List E) (n p k : ℕ) → first_place x (map name es) n ≡ Some p → p ≡ n + k → first_of x es ≡ slice_get es k
  unfolding first_of
  found_at x [] n p k is at = absurd (search (rules, is))
  found_at x (e ∷ es) n p k is at =
      found_here e es n p k (bytes_eq x (name e)) (first_place x (map name es) (suc n)) (first_of x es) (from x (map name es) (suc n) p) (λ j. found_at x es (suc n) p j) is at

  pub found_there : (x : List ℕ) (es : List E) (p : ℕ) → first_place x (map name es) 0 ≡ Some p → first_of x es ≡ slice_get es p
  found_there x es p is = found_at x es 0 p p is (omega arith)

  none_here : (e : E) (n : ℕ) (b : Bool) (o : Option ℕ) (r : Option E) → (o ≡ None → r ≡ None) → (if b then Some n else o) ≡ None → (if b then Some e else r) ≡ None
  none_here e n true o r rest is = absurd (search (rules, is))
  none_here e n false o r rest is = rest is

  none_from : (x : List ℕ) (es : List E) (n : ℕ) → first_place x (map name es) n ≡ None → first_of x es ≡ None
  unfolding first_of
  none_from x [] n is = refl
  none_from x (e ∷ es) n is = none_here e n (bytes_eq x (name e)) (first_place x (map name es) (suc n)) (first_of x es) (none_from x es (suc n)) is

  pub none_there : (x : List ℕ) (es : List E) → first_place x (map name es) 0 ≡ None → first_of x es ≡ None
  none_there x es is = none_from x es 0 is

  pub map_here : {X : Type 0} (f : E → X) (e : E) (b : Bool) (o : Option X) (r : Option E) → o ≡ option_map f r → (if b then Some (f e) else o) ≡ option_map f (if b then Some e else r)
  map_here f e true o r h = refl
  map_here f e false o r h = h

abbrev variable_name : Numbered → List ℕ
variable_name n = n.variable.name

abbrev callee_name : Callee → List ℕ
callee_name c = c.name

number-is : (x : List ℕ) (ns : List Numbered) → first_number x ns ≡ option_map (λ (n : Numbered). n.number) (first_of variable_name x ns)
unfolding first_of
number-is x [] = refl
number-is x (n ∷ ns) = map_here variable_name (λ (n : Numbered). n.number) n (bytes_eq x n.variable.name) (first_number x ns) (first_of variable_name x ns) (number-is x ns)

type-is : (x : List ℕ) (ns : List Numbered) → first_type x (variables_of ns) ≡ option_map (λ (n : Numbered). n.variable.ty) (first_of variable_name x ns)
unfolding first_of
type-is x [] = refl
type-is x (n ∷ ns) = map_here variable_name (λ (n : Numbered). n.variable.ty) n (bytes_eq x n.variable.name) (first_type x (variables_of ns)) (first_of variable_name x ns) (type-is x ns)

callee-is : (x : List ℕ) (cs : List Callee) → first_callee x cs ≡ option_map (λ (c : Callee). c.number) (first_of callee_name x cs)
unfolding first_of
callee-is x [] = refl
callee-is x (c ∷ cs) = map_here callee_name (λ (c : Callee). c.number) c (bytes_eq x c.name) (first_callee x cs) (first_of callee_name x cs) (callee-is x cs)

pub number-there : (x : List ℕ) (ns : List Numbered) (p : ℕ) → first_place x (names_of ns) 0 ≡ Some p → first_number x ns ≡ option_map (λ (n : Numbered). n.number) (slice_get ns p)
number-there x ns p h = number-is x ns ∙ ap (option_map (λ (n : Numbered). n.number)) (found_there variable_name x ns p h)

pub number-none : (x : List ℕ) (ns : List Numbered) → first_place x (names_of ns) 0 ≡ None → first_number x ns ≡ None
number-none x ns h = number-is x ns ∙ ap (option_map (λ (n : Numbered). n.number)) (none_there variable_name x ns h)

pub type-there : (x : List ℕ) (ns : List Numbered) (p : ℕ) → first_place x (names_of ns) 0 ≡ Some p → first_type x (variables_of ns) ≡ option_map (λ (n : Numbered). n.variable.ty) (slice_get ns p)
type-there x ns p h = type-is x ns ∙ ap (option_map (λ (n : Numbered). n.variable.ty)) (found_there variable_name x ns p h)

pub type-none : (x : List ℕ) (ns : List Numbered) → first_place x (names_of ns) 0 ≡ None → first_type x (variables_of ns) ≡ None
type-none x ns h = type-is x ns ∙ ap (option_map (λ (n : Numbered). n.variable.ty)) (none_there variable_name x ns h)

pub callee-there : (x : List ℕ) (cs : List Callee) (p : ℕ) → first_place x (callee_names cs) 0 ≡ Some p → first_callee x cs ≡ option_map (λ (c : Callee). c.number) (slice_get cs p)
callee-there x cs p h = callee-is x cs ∙ ap (option_map (λ (c : Callee). c.number)) (found_there callee_name x cs p h)

pub callee-none : (x : List ℕ) (cs : List Callee) → first_place x (callee_names cs) 0 ≡ None → first_callee x cs ≡ None
callee-none x cs h = callee-is x cs ∙ ap (option_map (λ (c : Callee). c.number)) (none_there callee_name x cs h)
