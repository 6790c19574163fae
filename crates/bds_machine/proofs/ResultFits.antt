-- What a row goes on with keeps the types.
use Rattle.std.proofs.Common.{◌≡◌, List, [], ◌∷◌, ◌++◌, Some, None, Ok, Err, refl, sym, ap, ◌∙◌, subst, inl, inr}
use Rattle.std.specs.Prelude.{⊤}
use Rattle.bds_value.specs.declared.value.Ty.{Ty}
use Rattle.bds_value.specs.declared.value.Value.{Value}
use Rattle.bds_code.specs.declared.unit.Function.{Function}
use Rattle.bds_code.specs.declared.unit.Unit.{Unit as CodeUnit}
use Rattle.bds_code.specs.Operands.{given}
use Rattle.bds_code_frames.specs.Stack.{Stack, Call}
use Rattle.bds_verify.specs.Threads.{Holds, Typed}
use Rattle.bds_machine_values.specs.Faults.{Outcome, gives, finishes}
use Rattle.bds_machine_values.specs.Worked.{beside}
use Rattle.bds_machine.proofs.Fits.{Kept, FitsRow}
use Rattle.bds_machine.proofs.HeldFits.{IsHeld}
use Rattle.bds_machine.proofs.TypesFits.{given-value}

module _ (f : Function) (next : List Ty) (c : Call) (below : Stack) where
  -- another call in place of the newest
  abbrev pub IsKept : Stack → Type 0
  IsKept [] = ⊥
  IsKept (d ∷ rest) = Kept f next c d × (rest ≡ below)

  -- a row on the newest call keeps the types
  abbrev pub Fits : Outcome Stack → Type 0
  Fits None = ⊥
  Fits (Some (Err e)) = ⊤
  Fits (Some (Ok s)) = IsKept s

  -- a row on globals and the newest call keeps the types
  abbrev pub FitsBoth : List Ty → Outcome (List Value × Stack) → Type 0
  FitsBoth globals None = ⊥
  FitsBoth globals (Some (Err e)) = ⊤
  FitsBoth globals (Some (Ok r)) = Typed r.0 globals × IsKept r.1

  pub gives_fits : (shape : List Ty) (t : Ty) (v : Value) (d : Call) → next ≡ given t ++ shape → Holds v t → Kept f shape c d → Fits (gives v (d ∷ below))
  gives_fits shape t v d e h k =
      let whole : next ≡ t ∷ shape = e ∙ ap (λ ts. ts ++ shape) (given-value t h.nests) in
      (record { function = k.function; place = k.place; call = record { slots = k.call.slots; ops = subst (Typed (v ∷ d.ops)) (sym whole) (h, k.call.ops) } }, refl)

  pub finishes_fits : (shape : List Ty) (t : Ty) (r : Outcome Value) (d : Call) → next ≡ given t ++ shape → IsHeld t r → Kept f shape c d → Fits (finishes r (d ∷ below))
  finishes_fits shape t None d e h k = absurd h
  finishes_fits shape t (Some (Err x)) d e h k = tt
  finishes_fits shape t (Some (Ok v)) d e h k = gives_fits shape t v d e h k

  pub beside_fits : (globals : List Ty) (g : List Value) (o : Outcome Stack) → Typed g globals → Fits o → FitsBoth globals (beside g o)
  beside_fits globals g None h k = absurd k
  beside_fits globals g (Some (Err e)) h k = tt
  beside_fits globals g (Some (Ok s)) h k = (h, k)

  kept_row : (u : CodeUnit) (g : List Value) (s : Stack) → Typed g u.globals → IsKept s → FitsRow u f next c below (Some (Ok (g, s)))
  kept_row u g [] h k = absurd k
  kept_row u g (d ∷ rest) h k = inr (g, d, ap (λ (b : Stack). Some (Ok (g, d ∷ b))) k.1, h, k.0)

  pub row_fits : (u : CodeUnit) (o : Outcome (List Value × Stack)) → FitsBoth u.globals o → FitsRow u f next c below o
  row_fits u None h = absurd h
  row_fits u (Some (Err e)) h = inl (e, refl)
  row_fits u (Some (Ok r)) h = kept_row u r.0 r.1 h.0 h.1
