-- The locals of a call that begins.
use Rattle.std.proofs.Common.{◌≡◌, ◌≢◌, ◌<◌, ◌≤◌, ◌+◌, ◌&&◌, ◌||◌, ℕ, zero, suc, nat_eq, nat_lt, nat_le, List, [], ◌∷◌, ◌++◌, map, take, length, get_or, slice_get, Option, Some, None, IsSome, Bool, true, false, IsTrue, refl, sym, ◌∙◌, ap, subst, arith, add-one}
use Rattle.std.specs.List.{list_all}
use Rattle.std.proofs.lemmas.Bool.{leb-true}
use Rattle.std.proofs.lemmas.Grind.{common_steps}
use Rattle.std.proofs.lemmas.List.{map-append}
use Rattle.std.proofs.Math.Seq.{take-suc}
use Rattle.bds_value.specs.declared.TheConstants.{MAX_COUNT, MAX_NESTING}
use Rattle.bds_value.specs.declared.value.Ty.{Ty}
use Rattle.bds_value.specs.declared.value.Ty.TheVariants as ty
use Rattle.bds_value.specs.declared.value.Value.{Value}
use Rattle.bds_value.specs.Fields.{nesting, is_solid, IsValueTy}
use Rattle.bds_value.specs.Types.{fits_within}
use Rattle.bds_value.specs.Value.{default_of, IsOf}
use Rattle.bds_value.proofs.FormedLaws.{default_is}
use Rattle.bds_value.proofs.Limits.{limits-default}
use Rattle.bds_value.proofs.TypeLaws.{room-Void}
use Rattle.bds_code.specs.declared.unit.Function.{Function}
use Rattle.bds_code.specs.declared.unit.Unit.{Unit as CodeUnit}
use Rattle.bds_code_frames.specs.Stack.{Stack, stack, call_at, slot_added}
use Rattle.bds_verify.specs.Threads.{Holds, Typed}
use Rattle.bds_verify.specs.Whole.{is_value_ty, are_value_tys, is_text, is_whole, is_heading, is_code, are_labels, are_lines}

pub both : (a b : Bool) → (a && b) ≡ true → (a ≡ true) × (b ≡ true)
both true true h = (refl, refl)
both true false h = absurd (cc)
both false b h = absurd (cc)

pub value_ty : (t : Ty) → is_value_ty t ≡ true → IsValueTy t
value_ty t h = let parts = both (nat_le (nesting t) MAX_NESTING) (is_solid t) h in (leb-true (nesting t) MAX_NESTING parts.0, parts.1)

all_get : (p : Ty → Bool) (ts : List Ty) (i : ℕ) (t : Ty) → i < length ts → t ≡ get_or ts i t → list_all p ts ≡ true → p t ≡ true
all_get p [] i t l e h = absurd (omega arith)
all_get p (x ∷ xs) zero t l e h = subst (λ y. p y ≡ true) (sym e) (both (p x) (list_all p xs) h).0
all_get p (x ∷ xs) (suc i) t l e h = all_get p xs i t (omega arith) e (both (p x) (list_all p xs) h).1

-- a local is a type of values
pub not_void : (ts : List Ty) (i : ℕ) (t : Ty) → i < length ts → t ≡ get_or ts i t → list_all is_value_ty ts ≡ true → t ≢ ty.Void
not_void ts i t l e h void =
    let good : is_value_ty t ≡ true = all_get is_value_ty ts i t l e h in
    let bad : is_value_ty t ≡ false = ap is_value_ty void ∙ room-Void MAX_NESTING in
    absurd (cc)

-- one more default
pub more_defaults : (ts : List Ty) (i : ℕ) (t : Ty) → i < length ts → t ≡ get_or ts i t → map default_of (take (i + 1) ts) ≡ map default_of (take i ts) ++ default_of t ∷ []
more_defaults ts i t l e =
    ap (λ n. map default_of (take n ts)) (add-one i) ∙ ap (map default_of) (take-suc ts i t l) ∙ map-append default_of (take i ts) (get_or ts i t ∷ [])
    ∙ ap (λ x. map default_of (take i ts) ++ default_of x ∷ []) (sym e)

-- a call that begins gets a slot
pub slot_allowed : (n : ℕ) (slots : List Value) (s : Stack) (v : Value) → s ≡ call_at n slots ∷ [] → IsSome (slot_added v s)
slot_allowed n slots s v e = subst (λ s. IsSome (slot_added v s)) (sym e) refl

pub slot_begun : (n : ℕ) (slots : List Value) (s new : Stack) (v : Value) → s ≡ call_at n slots ∷ [] → slot_added v s ≡ Some new → new ≡ call_at n (slots ++ v ∷ []) ∷ []
slot_begun n slots s new v e h =
    let a : slot_added v s ≡ Some (call_at n (slots ++ v ∷ []) ∷ []) = ap (slot_added v) e in
    let b : Some new ≡ Some (call_at n (slots ++ v ∷ []) ∷ []) = sym h ∙ a in cc

-- the default of a type of values
holds-default : (t : Ty) → is_value_ty t ≡ true → Holds (default_of t) t
holds-default t h =
    let of_type : IsOf (default_of t) t = default_is t (λ e. let bad : is_value_ty t ≡ false = ap is_value_ty e ∙ room-Void MAX_NESTING in absurd (cc)) in
    record { type = of_type.1; formed = of_type.0; limits = limits-default t; nests = value_ty t h }

pub defaults-typed : (ts : List Ty) → list_all is_value_ty ts ≡ true → Typed (map default_of ts) ts
defaults-typed [] h = tt
defaults-typed (t ∷ ts) h = let parts = both (is_value_ty t) (list_all is_value_ty ts) h in (holds-default t parts.0, defaults-typed ts parts.1)

pub typed-append : (vs ws : List Value) (ts us : List Ty) → Typed vs ts → Typed ws us → Typed (vs ++ ws) (ts ++ us)
typed-append [] ws [] us h k = k
typed-append [] ws (t ∷ ts) us h k = absurd h
typed-append (v ∷ vs) ws [] us h k = absurd h
typed-append (v ∷ vs) ws (t ∷ ts) us h k = (h.0, typed-append vs ws ts us h.1 k)

module _ (u : CodeUnit) (f : Function) (w : is_whole u f ≡ true) where
  heading-whole : is_heading f ≡ true
  heading-whole = (both (is_heading f) _ w).0

  pub starts_somewhere : 0 < length f.code
  starts_somewhere =
      let some : nat_lt 0 (length f.code) ≡ true = (both (nat_lt 0 (length f.code)) _ (both (is_code f.code) _ (both (is_heading f) _ w).1).0).0 in
      grind (arith, common_steps)

  pub locals-values : list_all is_value_ty f.locals ≡ true
  locals-values =
      let tys : are_value_tys f.locals ≡ true = (both (are_value_tys f.locals) _ (both (are_value_tys f.params) _ (both (is_text f.name) _ heading-whole).1).1).0 in
      (both (nat_le (length f.locals) MAX_COUNT) _ tys).1

  pub locals-typed : Typed (map default_of f.locals) f.locals
  locals-typed = defaults-typed f.locals locals-values
