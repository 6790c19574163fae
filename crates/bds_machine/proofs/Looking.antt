-- Rows that load a value and look at it, one after the other.
use Rattle.std.proofs.Common.{◌≡◌, ◌+◌, ℕ, suc, List, [], ◌∷◌, slice_get, true, Option, Some, None, refl, sym, ap, ◌∙◌, subst}
use Rattle.bds_value.specs.declared.value.Value.{Value}
use Rattle.bds_value.specs.Options.{◌>>=◌}
use Rattle.bds_code.specs.declared.instr.Instr.{Instr}
use Rattle.bds_code.specs.declared.instr.Instr.TheVariants.{Load, LoadGlobal, PushInt, PushText}
use Rattle.bds_code.specs.declared.unit.Function.{Function}
use Rattle.bds_code.specs.declared.unit.Unit.{Unit as CodeUnit}
use Rattle.bds_code_frames.specs.Stack.{Call, Stack, place_of, with_place}
use Rattle.bds_machine.specs.declared.looks.Look.{Look}
use Rattle.bds_machine.specs.declared.looks.Look.TheVariants as look
use Rattle.bds_machine.specs.Calls.{Step}
use Rattle.bds_machine.specs.Looks.{pushes, is_variable, seen, goes_behind, looked, looked_far, worked_rows, IsAhead}
use Rattle.bds_machine.specs.Running.{rows}
use Rattle.bds_machine.proofs.LastLooks.{behind_push, variable_pushes, push_rows, last_alone, middle}
use Rattle.bds_machine.proofs.FarLooks.{far_rows}

-- how many rows a look takes behind the first
abbrev pub rows_behind : Look → ℕ
rows_behind look.Alone = 1
rows_behind look.With = 2
rows_behind (look.Far k) = suc k

module _ (u : CodeUnit) (f : Function) (g : List Value) (t : ℕ) where
  by_variable : (n : ℕ) (i : Instr) (c : Call) (below : Stack) (go : Value → Option Step) → slice_get u.functions c.function ≡ Some f → slice_get f.code c.place ≡ Some i → is_variable i ≡ true
      → ((v : Value) → pushes i g (c ∷ below) ≡ Some v → rows u n g (behind_push v c ∷ below) t ≡ go v) → rows u (suc n) g (c ∷ below) t ≡ (pushes i g (c ∷ below) >>= go)
  by_variable n i c below go there at is each = push_rows u f g t n i c below there at (variable_pushes i is) ∙ by_value (pushes i g (c ∷ below)) refl
    where
      by_value : (o : Option Value) → pushes i g (c ∷ below) ≡ o → (o >>= λ v. rows u n g (behind_push v c ∷ below) t) ≡ (o >>= go)
      by_value None e = refl
      by_value (Some v) e = each v e

  looked_call : (l : Look) (i : Instr) (c : Call) (below : Stack) → slice_get u.functions c.function ≡ Some f → slice_get f.code c.place ≡ Some i → IsAhead l f i c.place
      → rows u (suc (rows_behind l)) g (c ∷ below) t ≡ looked l f i c.place g (c ∷ below) t
  looked_call look.Alone i c below there at ahead =
      by_variable 1 i c below (λ v. slice_get f.code (c.place + 1) >>= λ j. goes_behind f (c.place + 1) (seen j v []) g (c ∷ below) t) there at ahead.0
      (λ v e. last_alone u f g t (slice_get f.code (c.place + 1)) v (with_place (c.place + 1) c) below there refl ahead.1)
  looked_call look.With i c below there at ahead =
      by_variable 2 i c below
      (λ v. slice_get f.code (c.place + 1) >>= λ j. pushes j g (c ∷ below) >>= λ x. slice_get f.code (c.place + 1 + 1) >>= λ k. goes_behind f (c.place + 1 + 1) (seen k v (x ∷ [])) g (c ∷ below) t)
      there at ahead.0
      (λ v e. middle u f g t (slice_get f.code (c.place + 1)) v (with_place (c.place + 1) c) below there refl ahead.1 ahead.2 ∙ by_operand v (slice_get f.code (c.place + 1)))
    where
      by_operand : (v : Value) (o : Option Instr)
          → (o >>= λ j. pushes j g (with_place (c.place + 1) c ∷ below) >>= λ x. slice_get f.code (c.place + 1 + 1) >>= λ k. goes_behind f (c.place + 1 + 1) (seen k v (x ∷ [])) g (with_place (c.place + 1) c ∷ below) t)
          ≡ (o >>= λ j. pushes j g (c ∷ below) >>= λ x. slice_get f.code (c.place + 1 + 1) >>= λ k. goes_behind f (c.place + 1 + 1) (seen k v (x ∷ [])) g (c ∷ below) t)
      by_operand v None = refl
      by_operand v (Some (Load k)) = refl
      by_operand v (Some (LoadGlobal k)) = refl
      by_operand v (Some (PushInt n)) = refl
      by_operand v (Some (PushText x)) = refl
      by_operand v (Some j) = refl
  looked_call (look.Far k) i c below there at ahead =
      by_variable (suc k) i c below (λ v. looked_far f i (c.place + 1 + k) g t (worked_rows f k (c.place + 1) g (c ∷ below))) there at ahead.0
      (λ v e. far_rows u f g t i c below v c.place (c.place + 1 + k) there e ahead.0 k (c.place + 1) 0 [] c.ops refl refl ahead.1 ahead.2)

  -- the rows that load a value and look at it
  pub looked_rows : (l : Look) (i : Instr) (number at : ℕ) (s : Stack) → place_of s ≡ Some (number, at) → slice_get u.functions number ≡ Some f → slice_get f.code at ≡ Some i → IsAhead l f i at
      → rows u (suc (rows_behind l)) g s t ≡ looked l f i at g s t
  looked_rows l i number at [] stands there code ahead = absurd (cc)
  looked_rows l i number at (c ∷ below) stands there code ahead =
      let stand : (c.function, c.place) ≡ (number, at) = same_pair (c.function, c.place) (number, at) stands in
      let function : c.function ≡ number = ap (λ (p : ℕ × ℕ). p.0) stand in
      let here : c.place ≡ at = ap (λ (p : ℕ × ℕ). p.1) stand in
      subst (λ n. rows u (suc (rows_behind l)) g (c ∷ below) t ≡ looked l f i n g (c ∷ below) t) here
      (looked_call l i c below (ap (slice_get u.functions) function ∙ there) (ap (slice_get f.code) here ∙ code) (subst (IsAhead l f i) (sym here) ahead))
    where
      same_pair : (a b : ℕ × ℕ) → Some a ≡ Some b → a ≡ b
      same_pair a b e = cc
