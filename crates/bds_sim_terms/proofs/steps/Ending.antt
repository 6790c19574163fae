-- The rows that end a program, the one that stores a global, and the one that makes a thread.
use Rattle.std.proofs.Common.{◌≡◌, ℕ, ℤ, ◌+◌, List, ◌∷◌, ◌++◌, length, reverse, Option, Some, None, IsSome, Ok, slice_get, slice_set, refl, sym, ap, ◌∙◌}
use Rattle.bds_value.specs.declared.value.At.{At}
use Rattle.bds_value.specs.declared.value.Value.{Value, out-Value}
use Rattle.bds_value.specs.declared.faults.RunFault.TheVariants.{Error as Told}
use Rattle.bds_code.specs.declared.instr.Instr.TheVariants as instr
use Rattle.bds_code.specs.declared.unit.Function.{Function}
use Rattle.bds_code.specs.declared.unit.Unit.{Unit as CodeUnit}
use Rattle.bds_code_frames.specs.Stack.{Stack}
use Rattle.bds_machine.specs.declared.point.Point.TheVariants as point
use Rattle.bds_machine.specs.Calls.{Step, On, Leaves, Ends, stops}
use Rattle.bds_machine.specs.Points.{leaves}
use Rattle.bds_machine_values.specs.Faults.{Outcome}
use Rattle.bds_value.specs.Options.{◌>>=◌}
use Rattle.bds_value.specs.Readers.{as_int, as_text}
use Rattle.bds_machine_values.specs.Operands.{taken_all}
use Rattle.bds_machine.specs.Table.{onward, row}
use Rattle.bds_value.specs.Statuses.{status_of}
use Rattle.bds_value.specs.Readers.{number_in, text_in}
use Rattle.bds_sim.proofs.Reading.{number_read, text_read}
use Rattle.bds_sim_terms.proofs.steps.Rows.{frame, with_rest, taken_front}

module _ (u : CodeUnit) (f : Function) (fn pc : ℕ) (g slots : List Value) (below : Stack) (t : ℕ) where
  abbrev stop_step : List Value → Option (List ℕ) → Option Step
  stop_step ops o = with_rest u f fn pc g slots below t ops o >>= λ text. stops f pc (Told text.0) t

  stop_there : (v : Value) (ops : List Value) (line : At) (o : Option (List ℕ)) → as_text v ≡ o → slice_get f.lines pc ≡ Some line → IsSome (stop_step ops o) → stop_step ops o ≡ Some (Ends (point.Stop (Told (text_in v)) line) t)
  stop_there v ops line None e l h = absurd (cc h)
  stop_there v ops line (Some s) e l h = ap (λ o. o >>= λ at. Some (Ends (point.Stop (Told s) at) t)) l ∙ ap (λ s. Some (Ends (point.Stop (Told s) line) t)) (sym (text_read (out-Value v) s e))

  pub stop_row : (v : Value) (ops : List Value) (line : At) → slice_get f.lines pc ≡ Some line → IsSome (row u f instr.Stop pc g (frame fn pc slots (v ∷ ops) ∷ below) t)
      → row u f instr.Stop pc g (frame fn pc slots (v ∷ ops) ∷ below) t ≡ Some (Ends (point.Stop (Told (text_in v)) line) t)
  stop_row v ops line l h = stop_there v ops line (as_text v) refl l h

  abbrev exit_step : List Value → Option ℤ → Option Step
  exit_step ops o = with_rest u f fn pc g slots below t ops o >>= λ n. Some (Ends (point.Exit (status_of n.0)) t)

  exit_there : (v : Value) (ops : List Value) (o : Option ℤ) → as_int v ≡ o → IsSome (exit_step ops o) → exit_step ops o ≡ Some (Ends (point.Exit (status_of (number_in v))) t)
  exit_there v ops None e h = absurd (cc h)
  exit_there v ops (Some n) e h = ap (λ n. Some (Ends (point.Exit (status_of n)) t)) (sym (number_read (out-Value v) n e))

  pub exit_row : (v : Value) (ops : List Value) → IsSome (row u f instr.Exit pc g (frame fn pc slots (v ∷ ops) ∷ below) t)
      → row u f instr.Exit pc g (frame fn pc slots (v ∷ ops) ∷ below) t ≡ Some (Ends (point.Exit (status_of (number_in v))) t)
  exit_row v ops h = exit_there v ops (as_int v) refl h

  abbrev put : ℕ → Value → List Value → Option Value → Outcome (List Value × Stack)
  put i v ops o = o >>= λ old. Some (Ok (slice_set g i v, frame fn (pc + 1) slots ops ∷ below))

  put_there : (i : ℕ) (v : Value) (ops : List Value) (o : Option Value) → IsSome (onward f pc (put i v ops o) t (λ x. On x.0 x.1 t)) → onward f pc (put i v ops o) t (λ x. On x.0 x.1 t) ≡ Some (On (slice_set g i v) (frame fn (pc + 1) slots ops ∷ below) t)
  put_there i v ops None h = absurd (cc h)
  put_there i v ops (Some old) h = refl

  pub store_global_row : (i : ℕ) (v : Value) (ops : List Value) → IsSome (row u f (instr.StoreGlobal i) pc g (frame fn pc slots (v ∷ ops) ∷ below) t)
      → row u f (instr.StoreGlobal i) pc g (frame fn pc slots (v ∷ ops) ∷ below) t ≡ Some (On (slice_set g i v) (frame fn (pc + 1) slots ops ∷ below) t)
  store_global_row i v ops h = put_there i v ops (slice_get g i) h

  abbrev spawn_args : ℕ → Option (List Value × Stack) → Option Step
  spawn_args n o = onward f pc (o >>= λ args. leaves (point.Spawn n args.0) args.1) t (λ x. Leaves x.0 g x.1 t)

  abbrev spawn_step : ℕ → Stack → Option Function → Option Step
  spawn_step n s o = onward f pc (o >>= λ callee. taken_all (length callee.params) s >>= λ args. leaves (point.Spawn n args.0) args.1) t (λ x. Leaves x.0 g x.1 t)

  pub spawn_row : (n : ℕ) (callee : Function) (us ops : List Value) → slice_get u.functions n ≡ Some callee → length us ≡ length callee.params
      → row u f (instr.Spawn n) pc g (frame fn pc slots (us ++ ops) ∷ below) t ≡ Some (Leaves (point.Spawn n (reverse us)) g (frame fn (pc + 1) slots ops ∷ below) t)
  spawn_row n callee us ops there e =
      ap (spawn_step n (frame fn (pc + 1) slots (us ++ ops) ∷ below)) there ∙ ap (spawn_args n) (taken_front fn (pc + 1) (length callee.params) slots us ops below e)
