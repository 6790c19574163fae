-- The value that is set for a name is that of the last word that sets it.
use Rattle.std.proofs.Common.{◌≡◌, ℕ, zero, suc, List, [], ◌∷◌, Option, Some, None, Bool, true, false, slice_get, refl, sym, ap, subst, ◌∙◌, rules, if◌then◌else◌}
use Rattle.std.specs.Option.{option_map}
use Rattle.std.specs.Str.{bytes_eq}
use Rattle.std.proofs.lemmas.Slice.Eq.{bytes_eq-Decides}
use Rattle.bds_value.specs.declared.value.Value.{Value}
use Rattle.bds_check_typing.specs.declared.given.Given.{Given}
use Rattle.bds_check_typing.specs.GivenValues.{set_by}
use Rattle.bds_check_names.specs.Indexes.{last_place, behind_one}
use Rattle.bds_check_size.specs.ScriptSize.{set_value, later}
use Rattle.bds_gen_size.specs.GivenNames.{names_given, given_at}

turned : (x y : List ℕ) (b : Bool) → bytes_eq x y ≡ b → bytes_eq y x ≡ b
turned x y true e = let same : x ≡ y = (bytes_eq-Decides x y).0 e in subst (λ z. bytes_eq z x ≡ true) same ((bytes_eq-Decides x x).1 refl)
turned x y false e = no (bytes_eq y x) refl
  where
    no : (c : Bool) → bytes_eq y x ≡ c → bytes_eq y x ≡ false
    no false q = q
    no true q = let same : y ≡ x = (bytes_eq-Decides y x).0 q in absurd (let same-again : bytes_eq x y ≡ true = (bytes_eq-Decides x y).1 (sym same) in search (rules, sym e ∙ same-again))

-- what stands at the place of a name, and what is set for it
data Found (gs : List Given) (n : ℕ) (v : Option Value) : Type 0 where
  nothing : n ≡ 0 → v ≡ None → Found gs n v
  there : (g : Given) (k : ℕ) → n ≡ suc k → v ≡ Some g.value → slice_get gs k ≡ Some g → Found gs n v

none-behind : (g : Given) (gs : List Given) (b : Bool) → Found (g ∷ gs) (behind_one b 0) (later None (if b then Some g.value else None))
none-behind g gs true = there g 0 refl refl refl
none-behind g gs false = nothing refl refl

one-behind : (g : Given) (gs : List Given) (b : Bool) (n : ℕ) (v : Option Value) → Found gs n v → Found (g ∷ gs) (behind_one b n) (later v (if b then Some g.value else None))
one-behind g gs b n v (nothing e f) =
    subst (λ (m : ℕ). Found (g ∷ gs) (behind_one b m) (later v (if b then Some g.value else None))) (sym e)
    (subst (λ (w : Option Value). Found (g ∷ gs) (behind_one b 0) (later w (if b then Some g.value else None))) (sym f) (none-behind g gs b))
one-behind g gs b n v (there h k e f q) = there h (suc k) (ap (behind_one b) e) (ap (λ (w : Option Value). later w (if b then Some g.value else None)) f) q

found : (gs : List Given) (x : List ℕ) → Found gs (last_place x (names_given gs)) (set_value (set_by gs) x)
found [] x = nothing refl refl
found (g ∷ gs) x =
    subst (λ b. Found (g ∷ gs) (behind_one (bytes_eq x g.name) (last_place x (names_given gs))) (later (set_value (set_by gs) x) (if b then Some g.value else None)))
    (sym (turned x g.name (bytes_eq x g.name) refl))
    (one-behind g gs (bytes_eq x g.name) (last_place x (names_given gs)) (set_value (set_by gs) x) (found gs x))

value-there : (gs : List Given) (n : ℕ) (v : Option Value) → Found gs n v → option_map (λ g. g.value) (given_at gs n) ≡ v
value-there gs n v (nothing e f) = ap (λ (m : ℕ). option_map (λ (g : Given). g.value) (given_at gs m)) e ∙ sym f
value-there gs n v (there g k e f q) = ap (λ (m : ℕ). option_map (λ (g : Given). g.value) (given_at gs m)) e ∙ ap (option_map (λ (g : Given). g.value)) q ∙ sym f

pub set-is : (gs : List Given) (x : List ℕ) → option_map (λ g. g.value) (given_at gs (last_place x (names_given gs))) ≡ set_value (set_by gs) x
set-is gs x = value-there gs (last_place x (names_given gs)) (set_value (set_by gs) x) (found gs x)
