-- What the loop takes at a place: one row, the rows up to a look, or a stretch of them on whole numbers.
use Rattle.std.proofs.Common.{◌≡◌, ◌<◌, ◌^◌, ℕ, suc, List, [], ◌∷◌, slice_get, true, Option, Some, None, IsSome, sym, ap, ◌∙◌, subst}
use Rattle.bds_value.specs.declared.value.Value.{Value}
use Rattle.bds_value.specs.Options.{◌>>=◌}
use Rattle.bds_code.specs.declared.instr.Instr.{Instr}
use Rattle.bds_code.specs.declared.unit.Function.{Function}
use Rattle.bds_code.specs.declared.unit.Unit.{Unit as CodeUnit}
use Rattle.bds_code_frames.specs.Stack.{Stack, stack, place_of, with_place}
use Rattle.bds_code_frames.specs.declared.frame.Frame.{Frame}
use Rattle.bds_verify.specs.Verified.{VerifiedUnit}
use Rattle.bds_machine.specs.declared.looks.Look.{Look}
use Rattle.bds_machine.specs.declared.point.Point.{Point}
use Rattle.bds_machine.specs.Looks.{pushes, is_variable, looked, IsAhead}
use Rattle.bds_machine.specs.Running.{rows, stepped, Turned}
use Rattle.bds_machine.specs.Stretches.{with_pushed, IsOf, Runs, LeadsOn}
use Rattle.bds_machine.specs.Table.{row, step}
use Rattle.bds_machine.proofs.LastLooks.{bound, step_at, variable_there}
use Rattle.bds_machine.proofs.Looking.{rows_behind, looked_rows}
use Rattle.bds_machine.proofs.Seeing.{looked_any}
use Rattle.bds_machine.proofs.Strides.{first_there, one_row}
use Rattle.bds_machine.proofs.Wholes.{small}

same_pair : (a b : ℕ × ℕ) → Some a ≡ Some b → a ≡ b
same_pair a b e = cc

of_function : (u : CodeUnit) (number at : ℕ) (f : Function) (s : Stack) → place_of s ≡ Some (number, at) → slice_get u.functions number ≡ Some f → IsOf u f s
of_function u number at f [] stands found = absurd (cc)
of_function u number at f (c ∷ below) stands found = ap (λ (p : ℕ × ℕ). slice_get u.functions p.0) (same_pair (c.function, c.place) (number, at) stands) ∙ found

same_stack : (number at : ℕ) (s : Stack) → place_of s ≡ Some (number, at) → with_pushed [] at s ≡ s
same_stack number at [] stands = absurd (cc)
same_stack number at (c ∷ below) stands = ap (λ (p : ℕ × ℕ). with_place p.1 c ∷ below) (sym (same_pair (c.function, c.place) (number, at) stands))

-- the newest call, of a function at a place
module _ (u : CodeUnit) (number at : ℕ) (f : Function) (g : List Value) (s : Stack) (t : ℕ) (stands : place_of s ≡ Some (number, at)) (found : slice_get u.functions number ≡ Some f) where
  pub row_taken : (g' : List Value) (s' : Stack) (t' : ℕ) (p : Option Point) → step u g s t ≡ Some (stepped p g' s' t') → Turned u g s t p g' s' t'
  row_taken g' s' t' p e = (0, one_row u g s t ∙ e)

  module _ (fine : (n : ℕ) → IsSome (rows u n g s t)) where
    row_there : IsSome (slice_get f.code at >>= λ i. row u f i at g s t)
    row_there = subst IsSome (step_at u f g t number at s stands found) (first_there u 0 g s t (fine 1))

    pub instr_there : IsSome (slice_get f.code at)
    instr_there = bound (slice_get f.code at) (λ i. row u f i at g s t) row_there

    pub step_there : IsSome (step u g s t)
    step_there = first_there u 0 g s t (fine 1)

    pub stretch_runs : Runs f at [] g s
    stretch_runs = record { unit = u; ticks = t; call = of_function u number at f s stands found; fine = λ n. subst (λ s. IsSome (rows u n g s t)) (sym (same_stack number at s stands)) (fine n) }

  pub stretch_taken : (g' : List Value) (s' : Stack) (t' : ℕ) → LeadsOn f at g s t g' s' t' → Turned u g s t None g' s' t'
  stretch_taken g' s' t' l = let far = l u (of_function u number at f s stands found) in (far.0, ap (λ s. rows u (suc far.0) g s t) (sym (same_stack number at s stands)) ∙ far.1)

  module _ (i : Instr) (here : slice_get f.code at ≡ Some i) where
    pub small_place : VerifiedUnit u → at < 2 ^ 24
    small_place v = small u number at f i v found here

    pub value_there : ((n : ℕ) → IsSome (rows u n g s t)) → is_variable i ≡ true → IsSome (pushes i g s)
    value_there fine is = variable_there u f g t i at s is (subst IsSome (ap (λ o. o >>= λ i. row u f i at g s t) here) (row_there fine))

    module _ (l : Look) (ahead : IsAhead l f i at) where
      pub look_there : ((n : ℕ) → IsSome (rows u n g s t)) → IsSome (looked l f i at g s 0)
      look_there fine = looked_any f i at g s l t 0 (subst IsSome (looked_rows u f g t l i number at s stands found here ahead) (fine (suc (rows_behind l))))

      pub look_taken : (s' : Stack) (p : Option Point) → ((t : ℕ) → looked l f i at g s t ≡ Some (stepped p g s' t)) → Turned u g s t p g s' t
      look_taken s' p e = (rows_behind l, looked_rows u f g t l i number at s stands found here ahead ∙ e t)

-- a turn on the code of a verified unit
pub turned_of : (u code : CodeUnit) (g g' : List Value) (s s' : Stack) (t t' : ℕ) (p q : Option Point) → code ≡ u → p ≡ q → Turned code g s t p g' s' t' → Turned u g s t q g' s' t'
turned_of u code g g' s s' t t' p q same is turned = subst (λ p. Turned u g s t p g' s' t') is (subst (λ u. Turned u g s t p g' s' t') same turned)

pub fine_of : (u code : CodeUnit) (g : List Value) (s : Stack) (t : ℕ) → code ≡ u → ((n : ℕ) → IsSome (rows u n g s t)) → (n : ℕ) → IsSome (rows code n g s t)
fine_of u code g s t same fine n = subst (λ u. IsSome (rows u n g s t)) (sym same) (fine n)

-- where the short way wasn't taken all is as before
module _ (u : CodeUnit) (g g' : List Value) (fs fs' : List Frame) (t t' : ℕ) (same : (g' ≡ g) × (fs' ≡ fs) × (t' ≡ t)) where
  pub fine_kept : ((n : ℕ) → IsSome (rows u n g (stack fs) t)) → (n : ℕ) → IsSome (rows u n g' (stack fs') t')
  fine_kept fine n =
      subst (λ x. IsSome (rows u n x (stack fs') t')) (sym same.0)
      (subst (λ x. IsSome (rows u n g (stack x) t')) (sym same.1)
      (subst (λ x. IsSome (rows u n g (stack fs) x)) (sym same.2) (fine n)))

  pub turned_kept : (p : Option Point) (g'' : List Value) (s'' : Stack) (t'' : ℕ) → Turned u g' (stack fs') t' p g'' s'' t'' → Turned u g (stack fs) t p g'' s'' t''
  turned_kept p g'' s'' t'' turned =
      subst (λ x. Turned u x (stack fs) t p g'' s'' t'') same.0
      (subst (λ x. Turned u g' (stack x) t p g'' s'' t'') same.1
      (subst (λ x. Turned u g' (stack fs') x p g'' s'' t'') same.2 turned))
