-- Values of a type, and results that are one.
use Rattle.std.proofs.Common.{◌≡◌, ◌≤◌, ◌&&◌, ℕ, ℤ, ◌+◌, List, [], ◌∷◌, length, nat_le, Bool, true, false, cond, Some, None, Ok, Err, refl, arith}
use Rattle.std.proofs.lemmas.Bool.{leb-true}
use Rattle.std.specs.Bool.{IsTrue}
use Rattle.std.specs.Prelude.{⊤}
use Rattle.std.specs.List.{AllByRecursion}
use Rattle.bds_value.specs.declared.TheConstants.{MAX_TEXT, MAX_ITEMS, MAX_NESTING}
use Rattle.bds_value.specs.declared.value.Ty.{Ty}
use Rattle.bds_value.specs.declared.value.Ty.TheVariants as ty
use Rattle.bds_value.specs.declared.value.Value.{Value}
use Rattle.bds_value.specs.declared.value.Value.TheVariants as value
use Rattle.bds_value.specs.Fields.{IsValueTy, nesting, nesting_step, is_solid, solid_step}
use Rattle.bds_value.specs.Order.{KeysRise}
use Rattle.bds_value.specs.Spelling.{IsWithinHere, IsWithinLimits}
use Rattle.bds_value.specs.Value.{type_of, FitsHere, IsWellFormed}
use Rattle.bds_value.proofs.Every.{every-Bool, every-Int, every-Text, every-List, every-Map}
use Rattle.bds_value.proofs.Folds.{ty_fold-Bool, ty_fold-Int, ty_fold-Text, ty_fold-List, ty_fold-Map}
use Rattle.bds_value.proofs.ValueFieldLaws.{type_of-Bool, type_of-Int, type_of-Text, type_of-List, type_of-Map}
use Rattle.bds_value.specs.Types.{fits_within}
use Rattle.bds_verify.specs.Threads.{Holds}
use Rattle.bds_machine_values.specs.Faults.{Outcome}

-- types of values

pub value-Bool : IsValueTy ty.Bool
value-Bool = (rw (ty_fold-Bool nesting_step) (omega arith), rw (ty_fold-Bool solid_step) refl)

pub value-Int : IsValueTy ty.Int
value-Int = (rw (ty_fold-Int nesting_step) (omega arith), rw (ty_fold-Int solid_step) refl)

pub value-Text : IsValueTy ty.Text
value-Text = (rw (ty_fold-Text nesting_step) (omega arith), rw (ty_fold-Text solid_step) refl)

pub value-List : (t : Ty) → nesting t + 1 ≤ MAX_NESTING → IsTrue (is_solid t) → IsValueTy (ty.List t)
value-List t deep solid = (rw (ty_fold-List nesting_step t) deep, rw (ty_fold-List solid_step t) solid)

pub value-Map : (t : Ty) → nesting t + 1 ≤ MAX_NESTING → IsTrue (is_solid t) → IsValueTy (ty.Map t)
value-Map t deep solid = (rw (ty_fold-Map nesting_step t) deep, rw (ty_fold-Map solid_step t) solid)

pub list_inside : (t : Ty) → IsValueTy (ty.List t) → (nesting t + 1 ≤ MAX_NESTING) × IsTrue (is_solid t)
list_inside t h = (rw (ty_fold-List nesting_step t) at h.0, rw (ty_fold-List solid_step t) at h.1)

pub map_inside : (t : Ty) → IsValueTy (ty.Map t) → (nesting t + 1 ≤ MAX_NESTING) × IsTrue (is_solid t)
map_inside t h = (rw (ty_fold-Map nesting_step t) at h.0, rw (ty_fold-Map solid_step t) at h.1)

pub shallow : (t : Ty) → nesting t + 1 ≤ MAX_NESTING → IsTrue (is_solid t) → IsValueTy t
shallow t deep solid = (omega (arith, deep), solid)

pub value-Texts : IsValueTy (ty.List ty.Text)
value-Texts = value-List ty.Text (rw (ty_fold-Text nesting_step) (omega arith)) value-Text.1

pub both : (a b : Bool) → (a && b) ≡ true → (a ≡ true) × (b ≡ true)
both true true h = (refl, refl)
both true false h = absurd (cc)
both false b h = absurd (cc)

pub within : (t : Ty) (n : ℕ) → fits_within t n ≡ true → (nesting t ≤ n) × IsTrue (is_solid t)
within t n h = let parts = both (nat_le (nesting t) n) (is_solid t) h in (leb-true (nesting t) n parts.0, parts.1)

-- values of each type

pub holds-Bool : (b : Bool) → Holds (value.Bool b) ty.Bool
holds-Bool b = record { type = type_of-Bool b; formed = (every-Bool FitsHere b).1 tt; limits = (every-Bool IsWithinHere b).1 tt; nests = value-Bool }

pub holds-Int : (n : ℤ) → Holds (value.Int n) ty.Int
holds-Int n = record { type = type_of-Int n; formed = (every-Int FitsHere n).1 tt; limits = (every-Int IsWithinHere n).1 tt; nests = value-Int }

pub holds-Text : (t : List ℕ) → length t ≤ MAX_TEXT → Holds (value.Text t) ty.Text
holds-Text t short = record { type = type_of-Text t; formed = (every-Text FitsHere t).1 tt; limits = (every-Text IsWithinHere t).1 short; nests = value-Text }

-- values of one type
abbrev pub AllHold : Ty → List Value → Type 0
AllHold t = AllByRecursion (λ v. Holds v t)

types_of : (t : Ty) (vs : List Value) → AllHold t vs → AllByRecursion (λ v. type_of v ≡ t) vs
types_of t [] h = tt
types_of t (v ∷ vs) h = (h.0.type, types_of t vs h.1)

formed_of : (t : Ty) (vs : List Value) → AllHold t vs → AllByRecursion IsWellFormed vs
formed_of t [] h = tt
formed_of t (v ∷ vs) h = (h.0.formed, formed_of t vs h.1)

limits_of : (t : Ty) (vs : List Value) → AllHold t vs → AllByRecursion IsWithinLimits vs
limits_of t [] h = tt
limits_of t (v ∷ vs) h = (h.0.limits, limits_of t vs h.1)

pub holds-List : (t : Ty) (vs : List Value) → IsValueTy (ty.List t) → length vs ≤ MAX_ITEMS → AllHold t vs → Holds (value.List t vs) (ty.List t)
holds-List t vs nests few h = record {
  type = type_of-List t vs;
  formed = (every-List FitsHere t vs).1 (types_of t vs h, formed_of t vs h);
  limits = (every-List IsWithinHere t vs).1 (few, limits_of t vs h);
  nests = nests;
}

abbrev pub Pairs : Type 0
Pairs = List (List ℕ × Value)

-- a key within the limit, and a value of a type
abbrev pub PairHolds : Ty → List ℕ × Value → Type 0
PairHolds t p = (length p.0 ≤ MAX_TEXT) × Holds p.1 t

abbrev pub PairsHold : Ty → Pairs → Type 0
PairsHold t = AllByRecursion (PairHolds t)

pair_types : (t : Ty) (ps : Pairs) → PairsHold t ps → AllByRecursion {X = List ℕ × Value} (λ p. type_of p.1 ≡ t) ps
pair_types t [] h = tt
pair_types t (p ∷ ps) h = (h.0.1.type, pair_types t ps h.1)

pair_formed : (t : Ty) (ps : Pairs) → PairsHold t ps → AllByRecursion {X = List ℕ × Value} (λ p. IsWellFormed p.1) ps
pair_formed t [] h = tt
pair_formed t (p ∷ ps) h = (h.0.1.formed, pair_formed t ps h.1)

pair_keys : (t : Ty) (ps : Pairs) → PairsHold t ps → AllByRecursion {X = List ℕ × Value} (λ p. length p.0 ≤ MAX_TEXT) ps
pair_keys t [] h = tt
pair_keys t (p ∷ ps) h = (h.0.0, pair_keys t ps h.1)

pair_limits : (t : Ty) (ps : Pairs) → PairsHold t ps → AllByRecursion {X = List ℕ × Value} (λ p. IsWithinLimits p.1) ps
pair_limits t [] h = tt
pair_limits t (p ∷ ps) h = (h.0.1.limits, pair_limits t ps h.1)

pub holds-Map : (t : Ty) (ps : Pairs) → IsValueTy (ty.Map t) → length ps ≤ MAX_ITEMS → KeysRise ps → PairsHold t ps → Holds (value.Map t ps) (ty.Map t)
holds-Map t ps nests few rise h = record {
  type = type_of-Map t ps;
  formed = (every-Map FitsHere t ps).1 ((pair_types t ps h, rise), pair_formed t ps h);
  limits = (every-Map IsWithinHere t ps).1 ((few, pair_keys t ps h), pair_limits t ps h);
  nests = nests;
}

-- a value of a type, or a fault
abbrev pub IsHeld : Ty → Outcome Value → Type 0
IsHeld t None = ⊥
IsHeld t (Some (Ok v)) = Holds v t
IsHeld t (Some (Err e)) = ⊤

-- a result that is there where a test holds
pub held_where : (b : Bool) (t : Ty) (o : Outcome Value) → b ≡ true → IsHeld t o → IsHeld t (cond b o None)
held_where true t o e h = h
held_where false t o e h = absurd (cc)
