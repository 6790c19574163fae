-- A call of a function.
use Rattle.std.proofs.Common.{◌≡◌, ◌≢◌, ◌<◌, ◌+◌, ◌-◌, ◌&&◌, ℕ, List, [], ◌∷◌, map, length, reverse, get_or, slice_get, nat_lt, nat_eq, Bool, true, false, Some, None, IsSome, refl, ap, ◌∙◌, subst, arith}
use Rattle.std.specs.List.{list_all, All}
use Rattle.std.proofs.lemmas.Grind.{common_steps}
use Rattle.std.proofs.lemmas.List.{length-reverse, length-map}
use Rattle.std.proofs.lemmas.List.Folds.{list_all_at}
use Rattle.bds_value.specs.declared.TheConstants.{MAX_CALLS, MAX_NESTING}
use Rattle.bds_value.specs.declared.value.Ty.{Ty}
use Rattle.bds_value.specs.declared.value.Ty.TheVariants.{Void}
use Rattle.bds_value.specs.declared.value.Value.{Value}
use Rattle.bds_value.proofs.TypeLaws.{room-Void}
use Rattle.bds_value.specs.Options.{◌>>=◌}
use Rattle.bds_value.specs.Value.{default_of}
use Rattle.bds_code.specs.declared.unit.Function.{Function}
use Rattle.bds_code.specs.declared.unit.Unit.{Unit as CodeUnit}
use Rattle.bds_code_frames.specs.declared.frame.Frame.{Frame}
use Rattle.bds_code_frames.specs.Stack.{Stack, stack, call_of, slots_added}
use Rattle.bds_verify.specs.Verified.{VerifiedUnit}
use Rattle.bds_verify.specs.Whole.{is_heading, is_value_ty}
use Rattle.bds_machine.specs.Calls.{goes, with_defaults, enters, calls}

first : (a b : Bool) → a && b ≡ true → a ≡ true
first true b h = refl
first false b h = absurd (cc)

pub heading : (u : CodeUnit) (n : ℕ) (f : Function) → VerifiedUnit u → slice_get u.functions n ≡ Some f → is_heading f ≡ true
heading u n f v e = first (is_heading f) _ (v.functions n f e).whole

pub length-stack : (fs : List Frame) → length (stack fs) ≡ length fs
length-stack fs = length-map (reverse fs) call_of ∙ length-reverse fs

-- a call that isn't too deep and has a tick
module _ (u : CodeUnit) (f : Function) (n place : ℕ) (s : Stack) (t : ℕ) (few : length s < MAX_CALLS) (some : t ≢ 0) where
  called : (g : List Value) → calls u f n place g s t ≡ (slice_get u.functions n >>= λ callee. enters n callee (place + 1) s >>= goes g (t - 1))
  called g =
      let shallow : nat_lt (length s) MAX_CALLS ≡ true = grind (arith, common_steps) in
      let left : nat_eq t 0 ≡ false = grind (arith, common_steps) in
      rw shallow rw left refl

  pub function_there : IsSome (calls u f n place [] s t) → IsSome (slice_get u.functions n)
  function_there h =
      elim (slice_get u.functions n) as (λ o. IsSome (o >>= λ callee. enters n callee (place + 1) s >>= goes [] (t - 1)) → IsSome o) [ None ↦ (λ h. h) | Some x ↦ (λ h. refl) ]
      (subst IsSome (called []) h)

  pub enters_there : (callee : Function) → slice_get u.functions n ≡ Some callee → IsSome (calls u f n place [] s t) → IsSome (enters n callee (place + 1) s)
  enters_there callee e h =
      elim (enters n callee (place + 1) s) as (λ o. IsSome (o >>= goes [] (t - 1)) → IsSome o) [ None ↦ (λ h. h) | Some x ↦ (λ h. refl) ]
      (subst IsSome (called [] ∙ ap (λ o. o >>= λ callee. enters n callee (place + 1) s >>= goes [] (t - 1)) e) h)

-- the slots of a new call that hold what their types begin with
pub defaults_added : (tys : List Ty) (s : Stack) → with_defaults tys s ≡ slots_added (map default_of tys) s
defaults_added tys [] = refl
defaults_added tys (c ∷ below) = refl

-- locals are types of values
pub all_values : (ts : List Ty) → list_all is_value_ty ts ≡ true → All (λ t. t ≢ Void) ts
all_values ts all k d l e =
    let bad : is_value_ty (get_or ts k d) ≡ false = ap is_value_ty e ∙ room-Void MAX_NESTING in
    let none : list_all is_value_ty ts ≡ false = list_all_at is_value_ty ts k d l bad in
    absurd (cc)
