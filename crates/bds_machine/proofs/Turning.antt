-- A call or a return, by the instruction at the place of the newest call.
use Rattle.std.proofs.Common.{◌≡◌, ◌+◌, ◌-◌, ℕ, List, [], ◌∷◌, length, slice_get, cond, nat_lt, nat_eq, true, false, Option, Some, None, IsSome, refl, ap, ◌∙◌, subst}
use Rattle.bds_value.specs.declared.TheConstants.{MAX_CALLS}
use Rattle.bds_value.specs.declared.value.Ty.{Ty}
use Rattle.bds_value.specs.declared.value.Value.{Value}
use Rattle.bds_value.specs.declared.faults.RunFault.TheVariants.{CallsTooDeep}
use Rattle.bds_value.specs.Options.{◌>>=◌}
use Rattle.bds_code.specs.declared.instr.Instr.{Instr}
use Rattle.bds_code.specs.declared.instr.Instr.TheVariants.{Call, Return}
use Rattle.bds_code.specs.declared.unit.Function.{Function}
use Rattle.bds_code.specs.declared.unit.Unit.{Unit as CodeUnit}
use Rattle.bds_code_frames.specs.Stack.{Stack, place_of, closed}
use Rattle.bds_machine.specs.declared.point.Point.{Point}
use Rattle.bds_machine.specs.declared.point.Point.TheVariants as point
use Rattle.bds_machine.specs.Calls.{Step, Leaves, goes, stops, enters, calls, received, back, result_taken, returns}
use Rattle.bds_machine.specs.Running.{rows, stepped, Turned}
use Rattle.bds_machine.specs.Table.{row, step}
use Rattle.bds_machine.proofs.Branches.{row_taken, step_there}
use Rattle.bds_machine.proofs.LastLooks.{step_at}

-- whether a call is there doesn't depend on the globals
called_any : (u : CodeUnit) (f : Function) (n place : ℕ) (g : List Value) (s : Stack) (t : ℕ) → IsSome (calls u f n place g s t) → IsSome (calls u f n place [] s t)
called_any u f n place g s t h =
    let go : List Value → ℕ → Option Step = λ g t. slice_get u.functions n >>= λ callee. enters n callee (place + 1) s >>= goes g t in
    elim (nat_lt (length s) MAX_CALLS) as (λ b. IsSome (cond b (cond (nat_eq t 0) (Some (Leaves point.Spent g s t)) (go g (t - 1))) (stops f place CallsTooDeep t)) → IsSome (cond b (cond (nat_eq t 0) (Some (Leaves point.Spent [] s t)) (go [] (t - 1))) (stops f place CallsTooDeep t))) [
      | true ↦ elim (nat_eq t 0) as (λ b. IsSome (cond b (Some (Leaves point.Spent g s t)) (go g (t - 1))) → IsSome (cond b (Some (Leaves point.Spent [] s t)) (go [] (t - 1)))) [
        | true ↦ (λ h. refl)
        | false ↦ elim (slice_get u.functions n) as (λ o. IsSome (o >>= λ callee. enters n callee (place + 1) s >>= goes g (t - 1)) → IsSome (o >>= λ callee. enters n callee (place + 1) s >>= goes [] (t - 1))) [
          | None ↦ (λ h. h)
          | Some callee ↦ elim (enters n callee (place + 1) s) as (λ o. IsSome (o >>= goes g (t - 1)) → IsSome (o >>= goes [] (t - 1))) [ None ↦ (λ h. h) | Some x ↦ (λ h. refl) ]
        ]
      ]
      | false ↦ (λ h. h)
    ] h

back_any : (v : Option Value) (g : List Value) (s : Stack) (t : ℕ) → IsSome (back v g s t) → IsSome (back v [] s 0)
back_any v g [] t h = refl
back_any v g (c ∷ below) t h = elim (received v (c ∷ below)) as (λ o. IsSome (o >>= goes g t) → IsSome (o >>= goes [] 0)) [ None ↦ (λ h. h) | Some x ↦ (λ h. refl) ] h

returned_any : (ret : Ty) (g : List Value) (s : Stack) (t : ℕ) → IsSome (returns ret g s t) → IsSome (returns ret [] s 0)
returned_any ret g s t h =
    elim (result_taken ret s) as (λ o. IsSome (o >>= λ r. closed r.1 >>= λ below. back r.0 g below t) → IsSome (o >>= λ r. closed r.1 >>= λ below. back r.0 [] below 0)) [
      | None ↦ (λ h. h)
      | Some (v, s') ↦ elim (closed s') as (λ o. IsSome (o >>= λ below. back v g below t) → IsSome (o >>= λ below. back v [] below 0)) [ None ↦ (λ h. h) | Some below ↦ back_any v g below t ]
    ] h

module _ (u : CodeUnit) (number at : ℕ) (f : Function) (g : List Value) (s : Stack) (t : ℕ) (stands : place_of s ≡ Some (number, at)) (found : slice_get u.functions number ≡ Some f) (i : Instr) (here : slice_get f.code at ≡ Some i) where
  row_here : step u g s t ≡ row u f i at g s t
  row_here = step_at u f g t number at s stands found ∙ ap (λ o. o >>= λ i. row u f i at g s t) here

  -- a call
  module _ (n : ℕ) (is : i ≡ Call n) where
    called_here : step u g s t ≡ calls u f n at g s t
    called_here = row_here ∙ ap (λ i. row u f i at g s t) is

    pub call_there : ((m : ℕ) → IsSome (rows u m g s t)) → IsSome (calls u f n at [] s t)
    call_there fine = called_any u f n at g s t (subst IsSome called_here (step_there u number at f g s t stands found fine))

    pub call_taken : (s' : Stack) (t' : ℕ) (p : Option Point) → ((g : List Value) → calls u f n at g s t ≡ Some (stepped p g s' t')) → Turned u g s t p g s' t'
    call_taken s' t' p e = row_taken u number at f g s t stands found g s' t' p (called_here ∙ e g)

  -- a return
  module _ (is : i ≡ Return) where
    returned_here : step u g s t ≡ returns f.ret g s t
    returned_here = row_here ∙ ap (λ i. row u f i at g s t) is

    pub return_there : ((m : ℕ) → IsSome (rows u m g s t)) → IsSome (returns f.ret [] s 0)
    return_there fine = returned_any f.ret g s t (subst IsSome returned_here (step_there u number at f g s t stands found fine))

    pub return_taken : (s' : Stack) (p : Option Point) → ((g : List Value) (t : ℕ) → returns f.ret g s t ≡ Some (stepped p g s' t)) → Turned u g s t p g s' t
    return_taken s' p e = row_taken u number at f g s t stands found g s' t p (returned_here ∙ e g t)
