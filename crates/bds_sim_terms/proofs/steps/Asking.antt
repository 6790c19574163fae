-- The points at which actions leave the machine.
use Rattle.std.proofs.Common.{◌≡◌, ℕ, ◌+◌, List, [], ◌∷◌, ◌++◌, map, length, Option, Some, None, IsSome, refl, sym, ap, ◌∙◌, arith}
use Rattle.bds_value.specs.declared.value.Value.{Value, out-Value}
use Rattle.bds_value.specs.declared.value.Value.TheOpen.{Value-F}
use Rattle.bds_host.specs.declared.asks.Ask.TheVariants as ask
use Rattle.bds_code.specs.declared.unit.Function.{Function}
use Rattle.bds_code.specs.declared.unit.Unit.{Unit as CodeUnit}
use Rattle.bds_code_frames.specs.Stack.{Stack}
use Rattle.bds_machine.specs.declared.point.Point.{Point}
use Rattle.bds_machine.specs.declared.point.Point.TheVariants as point
use Rattle.bds_machine.specs.Calls.{Step, Leaves}
use Rattle.std.specs.Option.{unwrap_or}
use Rattle.bds_value.specs.Options.{◌>>=◌}
use Rattle.bds_value.specs.Readers.{as_text, as_texts}
use Rattle.bds_machine_values.specs.Operands.{taken_as}
use Rattle.bds_machine.specs.Points.{leaves}
use Rattle.bds_machine.specs.Table.{onward, row}
use Rattle.bds_meaning.specs.Actions.{request_of}
use Rattle.bds_meaning.specs.Acts.{Code}
use Rattle.bds_meaning.specs.Term.{Action, Printed, FileRead, FileWritten, FileRemoved, FileStamped, CommandRun, Compared, Achieved, IdsAwaited, AllAwaited, Saved, SavedHere}
use Rattle.bds_value.specs.Readers.{text_in, texts_in}
use Rattle.bds_sim_terms.specs.steps.Stands.{takes, action_code, IsPoint}
use Rattle.bds_sim.proofs.Reading.{text_read}
use Rattle.bds_sim_terms.proofs.steps.Rows.{frame, with_rest, text_step, text_there}

-- a list of texts that is read is one
pub texts_read : (v : Value) (ts : List (List ℕ)) → as_texts v ≡ Some ts → ts ≡ texts_in v
texts_read v ts e = sym (ap (λ r. unwrap_or r []) e)

module _ (u : CodeUnit) (f : Function) (fn pc : ℕ) (g slots : List Value) (below : Stack) (t : ℕ) where
  abbrev left : Point → List Value → Option Step
  left p ops = Some (Leaves p g (frame fn (pc + 1) slots ops ∷ below) t)

  -- a point of one text
  text_at : (makes : List ℕ → Point) (v : Value) (ops : List Value) → IsSome (text_step u f fn pc g slots below t makes ops (as_text v)) → text_step u f fn pc g slots below t makes ops (as_text v) ≡ left (makes (text_in v)) ops
  text_at makes v ops h = text_there u f fn pc g slots below t makes v ops (as_text v) refl h

  abbrev texts_step : (List (List ℕ) → Point) → List Value → Option (List (List ℕ)) → Option Step
  texts_step makes ops o = onward f pc (with_rest u f fn pc g slots below t ops o >>= λ r. leaves (makes r.0) r.1) t (λ x. Leaves x.0 g x.1 t)

  texts_there : (makes : List (List ℕ) → Point) (v : Value) (ops : List Value) (o : Option (List (List ℕ))) → as_texts v ≡ o → IsSome (texts_step makes ops o) → texts_step makes ops o ≡ left (makes (texts_in v)) ops
  texts_there makes v ops None e h = absurd (cc h)
  texts_there makes v ops (Some ts) e h = ap (λ ts. left (makes ts) ops) (texts_read v ts e)

  abbrev written_step : Value → List Value → Option (List ℕ) → Option Step
  written_step path ops o = onward f pc (with_rest u f fn pc g slots below t (path ∷ ops) o >>= λ text. taken_as as_text text.1 >>= λ path. leaves (point.Asks (ask.Write path.0 text.0)) path.1) t (λ x. Leaves x.0 g x.1 t)

  written_there : (path text : Value) (ops : List Value) (o : Option (List ℕ)) → as_text text ≡ o → IsSome (written_step path ops o) → written_step path ops o ≡ left (point.Asks (ask.Write (text_in path) (text_in text))) ops
  written_there path text ops None e h = absurd (cc h)
  written_there path text ops (Some s) e h =
      text_at (λ p. point.Asks (ask.Write p s)) path ops h ∙ ap (λ s. left (point.Asks (ask.Write (text_in path) s)) ops) (sym (text_read (out-Value text) s e))

  abbrev compared_step : Value → List Value → Option (List (List ℕ)) → Option Step
  compared_step outs ops o = onward f pc (with_rest u f fn pc g slots below t (outs ∷ ops) o >>= λ ins. taken_as as_texts ins.1 >>= λ outs. leaves (point.Old outs.0 ins.0) outs.1) t (λ x. Leaves x.0 g x.1 t)

  compared_there : (outs ins : Value) (ops : List Value) (o : Option (List (List ℕ))) → as_texts ins ≡ o → IsSome (compared_step outs ops o) → compared_step outs ops o ≡ left (point.Old (texts_in outs) (texts_in ins)) ops
  compared_there outs ins ops None e h = absurd (cc h)
  compared_there outs ins ops (Some ts) e h = texts_there (λ o. point.Old o ts) outs ops (as_texts outs) refl h ∙ ap (λ ts. left (point.Old (texts_in outs) ts) ops) (texts_read ins ts e)

-- where an action leaves the machine, with these operands
pub record Asks (action : Action) (us : List Value) : Type 0 where
  pub point : Point
  pub is : IsPoint (request_of {S = Code} action us) point
  pub row_is : (u : CodeUnit) (f : Function) (fn pc : ℕ) (g slots ops : List Value) (below : Stack) (t : ℕ) → IsSome (row u f (action_code action) pc g (frame fn pc slots (us ++ ops) ∷ below) t)
      → row u f (action_code action) pc g (frame fn pc slots (us ++ ops) ∷ below) t ≡ Some (Leaves point g (frame fn (pc + 1) slots ops ∷ below) t)

none : (P : List Value → Type 0) (us : List Value) → length us ≡ 0 → P [] → P us
none P [] e h = h
none P (x ∷ us) e h = absurd (omega (arith, e))

one : (P : List Value → Type 0) (us : List Value) → length us ≡ 1 → ((x : Value) → P (x ∷ [])) → P us
one P [] e h = absurd (omega (arith, e))
one P (x ∷ []) e h = h x
one P (x ∷ y ∷ us) e h = absurd (omega (arith, e))

two : (P : List Value → Type 0) (us : List Value) → length us ≡ 2 → ((y x : Value) → P (y ∷ x ∷ [])) → P us
two P [] e h = absurd (omega (arith, e))
two P (x ∷ []) e h = absurd (omega (arith, e))
two P (y ∷ x ∷ []) e h = h y x
two P (x ∷ y ∷ z ∷ us) e h = absurd (omega (arith, e))

pub asks : (action : Action) (us : List Value) → length us ≡ takes action → Asks action us
asks Printed us e = one (Asks Printed) us e λ x. record { point = point.Asks (ask.Out (text_in x)); is = refl; row_is = λ u f fn pc g slots ops below t h. text_at u f fn pc g slots below t (λ s. point.Asks (ask.Out s)) x ops h }
asks FileRead us e = one (Asks FileRead) us e λ x. record { point = point.Asks (ask.Read (text_in x)); is = refl; row_is = λ u f fn pc g slots ops below t h. text_at u f fn pc g slots below t (λ s. point.Asks (ask.Read s)) x ops h }
asks FileWritten us e = two (Asks FileWritten) us e λ y x. record { point = point.Asks (ask.Write (text_in x) (text_in y)); is = refl; row_is = λ u f fn pc g slots ops below t h. written_there u f fn pc g slots below t x y ops (as_text y) refl h }
asks FileRemoved us e = one (Asks FileRemoved) us e λ x. record { point = point.Asks (ask.Remove (text_in x)); is = refl; row_is = λ u f fn pc g slots ops below t h. text_at u f fn pc g slots below t (λ s. point.Asks (ask.Remove s)) x ops h }
asks (FileStamped q) us e = one (Asks (FileStamped q)) us e λ x. record { point = point.Asks (ask.Stamp (text_in x)); is = refl; row_is = λ u f fn pc g slots ops below t h. text_at u f fn pc g slots below t (λ s. point.Asks (ask.Stamp s)) x ops h }
asks CommandRun us e = one (Asks CommandRun) us e λ x. record { point = point.Asks (ask.Sys (text_in x)); is = refl; row_is = λ u f fn pc g slots ops below t h. text_at u f fn pc g slots below t (λ s. point.Asks (ask.Sys s)) x ops h }
asks Compared us e = two (Asks Compared) us e λ y x. record { point = point.Old (texts_in x) (texts_in y); is = refl; row_is = λ u f fn pc g slots ops below t h. compared_there u f fn pc g slots below t x y ops (as_texts y) refl h }
asks Achieved us e = one (Asks Achieved) us e λ x. record { point = point.Goal (texts_in x); is = refl; row_is = λ u f fn pc g slots ops below t h. texts_there u f fn pc g slots below t point.Goal x ops (as_texts x) refl h }
asks IdsAwaited us e = one (Asks IdsAwaited) us e λ x. record { point = point.Wait (texts_in x); is = refl; row_is = λ u f fn pc g slots ops below t h. texts_there u f fn pc g slots below t point.Wait x ops (as_texts x) refl h }
asks AllAwaited us e = none (Asks AllAwaited) us e (record { point = point.WaitAll; is = refl; row_is = λ u f fn pc g slots ops below t h. refl })
asks Saved us e = one (Asks Saved) us e λ x. record { point = point.Save (Some (text_in x)); is = refl; row_is = λ u f fn pc g slots ops below t h. text_at u f fn pc g slots below t (λ s. point.Save (Some s)) x ops h }
asks SavedHere us e = none (Asks SavedHere) us e (record { point = point.Save None; is = refl; row_is = λ u f fn pc g slots ops below t h. refl })
