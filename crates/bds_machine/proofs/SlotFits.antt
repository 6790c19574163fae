-- The rows that push a value, drop one, or move one between operands, slots and globals keep the types.
use Rattle.std.proofs.Common.{◌≡◌, ℕ, zero, suc, List, [], ◌∷◌, ◌++◌, slice_get, slice_set, cond, true, false, Option, Some, None, Ok, refl, sym, ap, ◌∙◌, subst}
use Rattle.bds_value.specs.declared.value.Ty.{Ty}
use Rattle.bds_value.specs.declared.value.Ty.TheVariants as ty
use Rattle.bds_value.specs.declared.value.Value.{Value}
use Rattle.bds_value.specs.Fields.{IsValueTy}
use Rattle.bds_value.specs.Value.{default_of, IsOf}
use Rattle.bds_value.proofs.FormedLaws.{default_is}
use Rattle.bds_value.proofs.Limits.{limits-default}
use Rattle.bds_value.specs.Types.{is_void, is_void_at}
use Rattle.bds_value.specs.Options.{◌>>=◌}
use Rattle.bds_code.specs.declared.unit.Function.{Function}
use Rattle.bds_code.specs.Operands.{there, giving, any_taken, taken, swapped}
use Rattle.bds_code.specs.Row as row
use Rattle.bds_code_frames.specs.Stack.{Stack, Call, swapped as exchanged, beside, slot_at, with_slots}
use Rattle.bds_verify.specs.Threads.{Holds, Typed, IsCall}
use Rattle.bds_machine_values.specs.Faults.{gives}
use Rattle.bds_machine_values.specs.Worked.{global_stored}
use Rattle.bds_machine_values.specs.Values.{defaulted, loaded, stored, dropped}
use Rattle.bds_machine.proofs.OperandFits.{kept_here, take_any}
use Rattle.bds_machine.proofs.ResultFits.{Fits, FitsBoth, gives_fits}
use Rattle.bds_machine.proofs.TypesFits.{bind_ok, there-ok, any-ok, taken-ok, giving-ok, swapped-ok, value-not_void}

-- the value in a place that has a type
pub typed-get : (vs : List Value) (ts : List Ty) (i : ℕ) (t : Ty) → Typed vs ts → slice_get ts i ≡ Some t → (v : Value) × (slice_get vs i ≡ Some v) × Holds v t
typed-get vs [] i t h e = absurd (cc)
typed-get [] (x ∷ xs) i t h e = absurd h
typed-get (v ∷ vs) (x ∷ xs) zero t h e = let same : x ≡ t = cc in (v, refl, subst (Holds v) same h.0)
typed-get (v ∷ vs) (x ∷ xs) (suc i) t h e = typed-get vs xs i t h.1 e

pub typed-set : (vs : List Value) (ts : List Ty) (i : ℕ) (t : Ty) (v : Value) → Typed vs ts → slice_get ts i ≡ Some t → Holds v t → Typed (slice_set vs i v) ts
typed-set vs [] i t v h e k = absurd (cc)
typed-set [] (x ∷ xs) i t v h e k = absurd h
typed-set (w ∷ vs) (x ∷ xs) zero t v h e k = let same : t ≡ x = cc in (subst (Holds v) same k, h.1)
typed-set (w ∷ vs) (x ∷ xs) (suc i) t v h e k = (h.0, typed-set vs xs i t v h.1 e k)

-- the default of a type of values
pub holds-default : (t : Ty) → IsValueTy t → Holds (default_of t) t
holds-default t h = record { type = of_type.1; formed = of_type.0; limits = limits-default t; nests = h }
  where
    is_void-Void : is_void ty.Void ≡ true
    is_void-Void = ap is_void_at ty.outs-Void

    of_type : IsOf (default_of t) t
    of_type = default_is t (λ e. let no : false ≡ true = sym (value-not_void t h) ∙ ap is_void e ∙ is_void-Void in absurd (cc))

module _ (f : Function) (next : List Ty) (c : Call) (below : Stack) where
  pub push_fits : (shape : List Ty) (t : Ty) (v : Value) → swapped [] t shape ≡ Ok next → Holds v t → IsCall f shape c → Fits f next c below (gives v (c ∷ below))
  push_fits shape t v h k call = let r = swapped-ok [] t shape next h in gives_fits f next c below r.0 t v c r.2 k (kept_here f shape r.0 c r.1 call)

  pub defaulted_fits : (shape : List Ty) (t : Ty) → swapped [] t shape ≡ Ok next → IsValueTy t → IsCall f shape c → Fits f next c below (defaulted t (c ∷ below))
  defaulted_fits shape t h k call =
      subst (λ b. Fits f next c below (cond b None (gives (default_of t) (c ∷ below)))) (sym (value-not_void t k)) (push_fits shape t (default_of t) h (holds-default t k) call)

  loaded_fits : (shape : List Ty) (o : Option Ty) (i : ℕ) (x : Option Value) → row.loaded o i shape ≡ Ok next → ((t : Ty) → o ≡ Some t → (v : Value) × (x ≡ Some v) × Holds v t) → IsCall f shape c → Fits f next c below (loaded x (c ∷ below))
  loaded_fits shape o i x h finds call =
      let r = bind_ok (there o i) (λ t. giving t shape) next h in
      let v = finds r.0 (there-ok o i r.0 r.1) in
      subst (λ o. Fits f next c below (loaded o (c ∷ below))) (sym v.1) (gives_fits f next c below shape r.0 v.0 c (giving-ok r.0 shape next r.2) v.2 (kept_here f shape shape c refl call))

  pub load_fits : (shape : List Ty) (i : ℕ) → row.loaded (row.slot_ty f i) i shape ≡ Ok next → IsCall f shape c → Fits f next c below (loaded (slot_at i (c ∷ below)) (c ∷ below))
  load_fits shape i h call = loaded_fits shape (row.slot_ty f i) i (slice_get c.slots i) h (λ t e. typed-get c.slots (f.params ++ f.locals) i t call.slots e) call

  pub load_global_fits : (shape : List Ty) (i : ℕ) (g : List Value) (globals : List Ty) → row.loaded (slice_get globals i) i shape ≡ Ok next → Typed g globals → IsCall f shape c → Fits f next c below (loaded (slice_get g i) (c ∷ below))
  load_global_fits shape i g globals h typed call = loaded_fits shape (slice_get globals i) i (slice_get g i) h (λ t e. typed-get g globals i t typed e) call

  stored-ok : (shape : List Ty) (o : Option Ty) (i : ℕ) → row.stored o i shape ≡ Ok next → (t : Ty) × (o ≡ Some t) × (shape ≡ t ∷ next)
  stored-ok shape o i h = let r = bind_ok (there o i) (λ t. taken t shape) next h in (r.0, there-ok o i r.0 r.1, taken-ok r.0 shape next r.2)

  pub store_fits : (shape : List Ty) (i : ℕ) → row.stored (row.slot_ty f i) i shape ≡ Ok next → IsCall f shape c → Fits f next c below (stored i (c ∷ below))
  store_fits shape i h call =
      let r = stored-ok shape (row.slot_ty f i) i h in
      take_any (Fits f next c below) f c below r.0 next c (λ x. exchanged i x.0 x.1 >>= λ old. Some (Ok old.1)) (kept_here f shape (r.0 ∷ next) c r.2 call)
      (λ v d k kept.
      let old = typed-get d.slots (f.params ++ f.locals) i r.0 kept.call.slots r.1 in
      let put : Stack = with_slots (slice_set d.slots i v) d ∷ below in
      subst (λ o. Fits f next c below (beside o put >>= λ old. Some (Ok old.1))) (sym old.1)
      (record { function = kept.function; place = kept.place; call = record { slots = typed-set d.slots (f.params ++ f.locals) i r.0 v kept.call.slots r.1 k; ops = kept.call.ops } }, refl))

  pub store_global_fits : (shape : List Ty) (i : ℕ) (g : List Value) (globals : List Ty) → row.stored (slice_get globals i) i shape ≡ Ok next → Typed g globals → IsCall f shape c → FitsBoth f next c below globals (global_stored i g (c ∷ below))
  store_global_fits shape i g globals h typed call =
      let r = stored-ok shape (slice_get globals i) i h in
      take_any (FitsBoth f next c below globals) f c below r.0 next c (λ x. slice_get g i >>= λ old. Some (Ok (slice_set g i x.0, x.1))) (kept_here f shape (r.0 ∷ next) c r.2 call)
      (λ v d k kept.
      let old = typed-get g globals i r.0 typed r.1 in
      subst (λ o. FitsBoth f next c below globals (o >>= λ old. Some (Ok (slice_set g i v, d ∷ below)))) (sym old.1)
      (typed-set g globals i r.0 v typed r.1 k, (kept, refl)))

  pub drop_fits : (shape : List Ty) → row.dropped shape ≡ Ok next → IsCall f shape c → Fits f next c below (dropped (c ∷ below))
  drop_fits shape h call =
      let r = bind_ok (any_taken shape) (λ r. Ok r.1) next h in
      let rest : r.0.1 ≡ next = cc in
      take_any (Fits f next c below) f c below r.0.0 next c (λ x. Some (Ok x.1)) (kept_here f shape (r.0.0 ∷ next) c (any-ok shape r.0 r.1 ∙ ap (λ xs. r.0.0 ∷ xs) rest) call)
      (λ v d k kept. (kept, refl))
