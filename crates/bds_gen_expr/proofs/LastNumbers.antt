-- The number of the last variable of a name, by its place.
use Rattle.std.proofs.Common.{◌≡◌, ◌++◌, ℕ, zero, suc, List, [], ◌∷◌, Bool, true, false, Option, Some, None, refl, ap, ◌∙◌, take, drop, slice_get, if◌then◌else◌}
use Rattle.std.specs.Option.{option_map}
use Rattle.std.specs.Str.{bytes_eq}
use Rattle.bds_check_names.specs.Indexes.{behind_one, last_place}
use Rattle.bds_gen_expr.specs.declared.scope.Numbered.{Numbered}
use Rattle.bds_gen_expr.specs.Indexes.{number_at_place}
use Rattle.bds_gen_expr.specs.Numbers.{last_number, variables_of}

number_or : List Numbered → ℕ → Option ℕ → Option ℕ
number_or ns zero found = found
number_or ns (suc n) found = option_map (λ m. m.number) (slice_get ns n)

number_here : (m : Numbered) (ns : List Numbered) (b : Bool) (n : ℕ) (found : Option ℕ) → number_or ns n (if b then Some m.number else found) ≡ number_or (m ∷ ns) (behind_one b n) found
unfolding number_or
number_here m ns true zero found = refl
number_here m ns false zero found = refl
number_here m ns b (suc n) found = refl

number_found : (x : List ℕ) (ns : List Numbered) (found : Option ℕ) → last_number x ns found ≡ number_or ns (last_place x (variables_of ns)) found
unfolding number_or
number_found x [] found = refl
number_found x (m ∷ ns) found = number_found x ns (if bytes_eq x m.variable.name then Some m.number else found) ∙ number_here m ns (bytes_eq x m.variable.name) (last_place x (variables_of ns)) found

or_none : (ns : List Numbered) (n : ℕ) → number_or ns n None ≡ number_at_place ns n
unfolding number_or
or_none ns zero = refl
or_none ns (suc n) = refl

pub number_place : (x : List ℕ) (ns : List Numbered) → last_number x ns None ≡ number_at_place ns (last_place x (variables_of ns))
number_place x ns = number_found x ns None ∙ or_none ns (last_place x (variables_of ns))

pub variables_push : (ns : List Numbered) (m : Numbered) → variables_of (ns ++ m ∷ []) ≡ variables_of ns ++ m.variable ∷ []
variables_push [] m = refl
variables_push (n ∷ ns) m = ap (λ vs. n.variable ∷ vs) (variables_push ns m)

pub variables_take : (ns : List Numbered) (n : ℕ) → variables_of (take n ns) ≡ take n (variables_of ns)
variables_take [] zero = refl
variables_take [] (suc n) = refl
variables_take (m ∷ ns) zero = refl
variables_take (m ∷ ns) (suc n) = ap (λ vs. m.variable ∷ vs) (variables_take ns n)

pub variables_drop : (ns : List Numbered) (n : ℕ) → variables_of (drop n ns) ≡ drop n (variables_of ns)
variables_drop [] zero = refl
variables_drop [] (suc n) = refl
variables_drop (m ∷ ns) zero = refl
variables_drop (m ∷ ns) (suc n) = variables_drop ns n
