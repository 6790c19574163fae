-- Whether a row is there doesn't depend on the ticks.
use Rattle.std.proofs.Common.{◌≡◌, ◌≢◌, ◌+◌, ℕ, List, slice_get, Some, None, Ok, Err, true, false, IsSome, refl, ap, ◌∙◌, subst}
use Rattle.bds_value.specs.Statuses.{status_of}
use Rattle.bds_value.specs.declared.value.Value.{Value}
use Rattle.bds_value.specs.declared.faults.RunFault.TheVariants.{Error}
use Rattle.bds_value.specs.Options.{◌>>=◌}
use Rattle.bds_value.specs.Readers.{as_bool, as_int, as_text}
use Rattle.bds_code.specs.declared.instr.Instr.{Instr}
use Rattle.bds_code.specs.declared.instr.Instr.TheVariants.{JumpUnless, Jump, Tick, Call, Return, Stop, Exit, FileRead, FileWrite, FileRemove, FileStamp, Out, Sys, OutOfDate, NewTask, Declare, Goal, Spawn, Wait, WaitAll, Save, SaveHere}
use Rattle.bds_code.specs.declared.unit.Function.{Function}
use Rattle.bds_code.specs.declared.unit.Unit.{Unit as CodeUnit}
use Rattle.bds_code_frames.specs.Stack.{Stack, moved}
use Rattle.bds_machine.specs.declared.point.Point.TheVariants as point
use Rattle.bds_machine_values.specs.Operands.{taken_as}
use Rattle.bds_machine.specs.Points.{asked}
use Rattle.bds_machine.specs.Calls.{Step, On, Leaves, Ends, branches, goes, stops, tested}
use Rattle.bds_machine_values.specs.Faults.{Outcome}
use Rattle.bds_machine_values.specs.Worked.{changed}
use Rattle.bds_machine.specs.Table.{onward, asks, changes, behind, row, fails, exits}

pub onward_any : {X : Type 0} (f : Function) (place : ℕ) (o : Outcome X) (t t' : ℕ) (go go' : X → Step) → IsSome (onward f place o t go) → IsSome (onward f place o t' go')
onward_any f place None t t' go go' h = h
onward_any f place (Some (Ok x)) t t' go go' h = refl
onward_any f place (Some (Err e)) t t' go go' h = elim (slice_get f.lines place) as (λ o. IsSome (o >>= λ at. Some (Ends (point.Stop e at) t)) → IsSome (o >>= λ at. Some (Ends (point.Stop e at) t'))) [ None ↦ (λ h. h) | Some at ↦ (λ h. refl) ] h

tested_any : (to : ℕ) (g : List Value) (s : Stack) (t t' : ℕ) → IsSome (tested to g s t) → IsSome (tested to g s t')
tested_any to g s t t' h =
    elim (taken_as as_bool s) as (λ o. IsSome (o >>= λ b. branches b.0 to g b.1 t) → IsSome (o >>= λ b. branches b.0 to g b.1 t')) [
      | None ↦ (λ h. h)
      | Some (b, s') ↦ elim b as (λ b. IsSome (branches b to g s' t) → IsSome (branches b to g s' t')) [
        | true ↦ (λ h. refl)
        | false ↦ elim (moved to s') as (λ o. IsSome (o >>= goes g t) → IsSome (o >>= goes g t')) [ None ↦ (λ h. h) | Some x ↦ (λ h. refl) ]
      ]
    ] h

fails_any : (f : Function) (place : ℕ) (s : Stack) (t t' : ℕ) → IsSome (fails f place s t) → IsSome (fails f place s t')
fails_any f place s t t' h =
    elim (taken_as as_text s) as (λ o. IsSome (o >>= λ text. stops f place (Error text.0) t) → IsSome (o >>= λ text. stops f place (Error text.0) t')) [
      | None ↦ (λ h. h)
      | Some text ↦ elim (slice_get f.lines place) as (λ o. IsSome (o >>= λ at. Some (Ends (point.Stop (Error text.0) at) t)) → IsSome (o >>= λ at. Some (Ends (point.Stop (Error text.0) at) t'))) [ None ↦ (λ h. h) | Some at ↦ (λ h. refl) ]
    ] h

exits_any : (s : Stack) (t t' : ℕ) → IsSome (exits s t) → IsSome (exits s t')
exits_any s t t' h = elim (taken_as as_int s) as (λ o. IsSome (o >>= λ n. Some (Ends (point.Exit (status_of n.0)) t)) → IsSome (o >>= λ n. Some (Ends (point.Exit (status_of n.0)) t'))) [ None ↦ (λ h. h) | Some n ↦ (λ h. refl) ] h

module _ (u : CodeUnit) (f : Function) (p : ℕ) (g : List Value) (t : ℕ) where
  ask_any : (i : Instr) (s : Stack) (t' : ℕ) → IsSome (asks u f i p g s t) → IsSome (asks u f i p g s t')
  ask_any i s t' = onward_any f p (asked u i s) t t' (λ x. Leaves x.0 g x.1 t) (λ x. Leaves x.0 g x.1 t')

  change_any : (i : Instr) (s : Stack) (t' : ℕ) → IsSome (changes f i p g s t) → IsSome (changes f i p g s t')
  change_any i s t' = onward_any f p (changed i g s) t t' (λ x. On x.0 x.1 t) (λ x. On x.0 x.1 t')

  behind_any : (i : Instr) (s : Stack) (t' : ℕ) → IsSome (behind u f i p g s t) → IsSome (behind u f i p g s t')
  behind_any (JumpUnless to) s t' h = tested_any to g s t t' h
  behind_any Stop s t' h = fails_any f p s t t' h
  behind_any Exit s t' h = exits_any s t t' h
  behind_any FileRead s t' h = ask_any FileRead s t' h
  behind_any FileWrite s t' h = ask_any FileWrite s t' h
  behind_any FileRemove s t' h = ask_any FileRemove s t' h
  behind_any (FileStamp q) s t' h = ask_any (FileStamp q) s t' h
  behind_any Out s t' h = ask_any Out s t' h
  behind_any Sys s t' h = ask_any Sys s t' h
  behind_any OutOfDate s t' h = ask_any OutOfDate s t' h
  behind_any NewTask s t' h = ask_any NewTask s t' h
  behind_any Declare s t' h = ask_any Declare s t' h
  behind_any Goal s t' h = ask_any Goal s t' h
  behind_any (Spawn n) s t' h = ask_any (Spawn n) s t' h
  behind_any Wait s t' h = ask_any Wait s t' h
  behind_any WaitAll s t' h = ask_any WaitAll s t' h
  behind_any Save s t' h = ask_any Save s t' h
  behind_any SaveHere s t' h = ask_any SaveHere s t' h
  behind_any i s t' h = change_any i s t' h

  other_row : (i : Instr) (s : Stack) → ((to : ℕ) → i ≢ Jump to) → i ≢ Tick → ((n : ℕ) → i ≢ Call n) → i ≢ Return → row u f i p g s t ≡ (moved (p + 1) s >>= λ s. behind u f i p g s t)
  other_row (Jump to) s j k c r = absurd (j to refl)
  other_row Tick s j k c r = absurd (k refl)
  other_row (Call n) s j k c r = absurd (c n refl)
  other_row Return s j k c r = absurd (r refl)
  other_row i s j k c r = refl

  pub behind_there : (i : Instr) (s s' : Stack) → ((to : ℕ) → i ≢ Jump to) → i ≢ Tick → ((n : ℕ) → i ≢ Call n) → i ≢ Return → moved (p + 1) s ≡ Some s' → IsSome (row u f i p g s t) → IsSome (behind u f i p g s' 0)
  behind_there i s s' j k c r e h = behind_any i s' 0 (subst IsSome (other_row i s j k c r ∙ ap (λ o. o >>= λ s. behind u f i p g s t) e) h)
