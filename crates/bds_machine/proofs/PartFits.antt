-- The rows that take a part of a value keep the types.
use Rattle.std.proofs.Common.{◌≡◌, ℕ, ℤ, List, [], ◌∷◌, ◌++◌, Some, is_some, Result, Ok, refl, ap, ◌∙◌}
use Rattle.bds_value.specs.declared.value.Place.{Place}
use Rattle.bds_value.specs.declared.value.Place.TheVariants.{Index, Key}
use Rattle.bds_value.specs.declared.value.Ty.{Ty}
use Rattle.bds_value.specs.declared.value.Ty.TheVariants as ty
use Rattle.bds_value.specs.Path.{item_of, type_at_path}
use Rattle.bds_value.specs.Value.{type_of}
use Rattle.bds_value.specs.RunFaults.{put_fault}
use Rattle.bds_value.specs.Results as results
use Rattle.bds_code.specs.declared.effects.EffectFault.{EffectFault}
use Rattle.bds_code.specs.declared.unit.Function.{Function}
use Rattle.bds_code.specs.Operands.{given, giving, any_taken, taken, entry_of}
use Rattle.bds_code.specs.Operands as code
use Rattle.bds_code.specs.Row as row
use Rattle.bds_code_frames.specs.Stack.{Call, Stack}
use Rattle.bds_verify.specs.Threads.{IsCall}
use Rattle.bds_machine_values.specs.Faults.{outcome, finishes}
use Rattle.bds_machine_values.specs.Results.{part_of}
use Rattle.bds_machine_values.specs.Typing.{leads}
use Rattle.bds_machine_values.specs.Values.{part_given, item_given, entry_given}
use Rattle.bds_machine.proofs.Fits.{Kept}
use Rattle.bds_machine.proofs.HeldFits.{held_where}
use Rattle.bds_machine.proofs.LawFits.{PartLaw}
use Rattle.bds_machine.proofs.OperandFits.{kept_here, take_any, take_int, take_text}
use Rattle.bds_machine.proofs.ResultFits.{Fits, finishes_fits}
use Rattle.bds_machine.proofs.TypesFits.{bind_ok, any-ok, taken-ok, giving-ok, item-ok, entry-ok}

module _ (law : PartLaw) (f : Function) (next : List Ty) (c : Call) (below : Stack) where
  part_fits : (place : Place) (l t : Ty) (rest : List Ty) (d : Call) → type_at_path (place ∷ []) l ≡ Some t → next ≡ given t ++ rest → Kept f (l ∷ rest) c d → Fits f next c below (part_given place (d ∷ below))
  part_fits place l t rest d fits n kept =
      take_any (Fits f next c below) f c below l rest d (λ r. finishes (part_of place r.0) r.1) kept
      (λ v e h kept. finishes_fits f next c below rest t (part_of place v) e n
      (held_where (leads (place ∷ []) (type_of v)) t (outcome put_fault (item_of (place ∷ []) v)) (ap is_some (ap (type_at_path (place ∷ [])) h.type ∙ fits)) (law (place ∷ []) v l t h fits)) kept)

  -- an index or a key, and below it a value that has parts of a type
  behind : (key : Ty) (inside : Ty → Result Ty EffectFault) (shape : List Ty) → results.◌>>=◌ (results.◌>>=◌ (taken key shape) any_taken) (λ r. results.◌>>=◌ (inside r.0) (λ t. giving t r.1)) ≡ Ok next
      → (l : Ty) × (t : Ty) × (rest : List Ty) × (shape ≡ key ∷ l ∷ rest) × (inside l ≡ Ok t) × (next ≡ given t ++ rest)
  behind key inside shape h =
      let r = bind_ok (results.◌>>=◌ (taken key shape) any_taken) (λ r. results.◌>>=◌ (inside r.0) (λ t. giving t r.1)) next h in
      let s = bind_ok (taken key shape) any_taken r.0 r.1 in
      let i = bind_ok (inside r.0.0) (λ t. giving t r.0.1) next r.2 in
      (r.0.0, i.0, r.0.1, taken-ok key shape s.0 s.1 ∙ ap (λ xs. key ∷ xs) (any-ok s.0 r.0 s.2), i.1, giving-ok i.0 r.0.1 next i.2)

  pub item_fits : (shape : List Ty) → row.item_taken shape ≡ Ok next → IsCall f shape c → Fits f next c below (item_given (c ∷ below))
  item_fits shape h call =
      let r = behind ty.Int code.item_of shape h in
      let fits : (i : ℤ) → type_at_path (Index i ∷ []) r.0 ≡ Some r.1 = λ i. rw (item-ok r.0 r.1 r.4, ty.outs-List r.1) refl in
      take_int (Fits f next c below) f c below (r.0 ∷ r.2) c (λ i. part_given (Index i.0) i.1) (kept_here f shape (ty.Int ∷ r.0 ∷ r.2) c r.3 call)
      (λ i d kept. part_fits (Index i) r.0 r.1 r.2 d (fits i) r.5 kept)

  pub entry_fits : (shape : List Ty) → row.entry_taken shape ≡ Ok next → IsCall f shape c → Fits f next c below (entry_given (c ∷ below))
  entry_fits shape h call =
      let r = behind ty.Text entry_of shape h in
      let fits : (k : List ℕ) → type_at_path (Key k ∷ []) r.0 ≡ Some r.1 = λ k. rw (entry-ok r.0 r.1 r.4, ty.outs-Map r.1) refl in
      take_text (Fits f next c below) f c below (r.0 ∷ r.2) c (λ k. part_given (Key k.0) k.1) (kept_here f shape (ty.Text ∷ r.0 ∷ r.2) c r.3 call)
      (λ k d kept. part_fits (Key k) r.0 r.1 r.2 d (fits k) r.5 kept)
