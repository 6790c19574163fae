-- Rows, one after the other.
use Rattle.std.proofs.Common.{◌≡◌, ◌≢◌, ◌<◌, ℕ, suc, List, [], true, Some, IsSome, refl, ap, ◌∙◌, subst}
use Rattle.bds_value.specs.declared.value.Value.{Value}
use Rattle.bds_value.specs.Options.{◌>>=◌}
use Rattle.bds_code.specs.declared.unit.Unit.{Unit as CodeUnit}
use Rattle.bds_code_frames.specs.Stack.{Stack}
use Rattle.bds_verify.specs.Threads.{AreLive}
use Rattle.bds_verify.specs.Verified.{VerifiedUnit}
use Rattle.bds_machine.specs.declared.point.Point.{Point}
use Rattle.bds_machine.specs.declared.point.Point.TheVariants as point
use Rattle.bds_machine.specs.Answers.{is_awaited}
use Rattle.bds_machine.specs.Calls.{Step, On, Leaves}
use Rattle.bds_machine.specs.Running.{rows, further, left_at}
use Rattle.bds_machine.specs.Table.{step}
use Rattle.bds_machine.specs.Weight.{weight}
use Rattle.bds_machine.proofs.Moves.{LeavesWell, Rests, Well}
use Rattle.bds_machine.proofs.Progress.{next_row}

module _ (u : CodeUnit) where
  -- from globals, frames and ticks rows come to others
  abbrev pub Reaches : List Value → Stack → ℕ → List Value → Stack → ℕ → Type 0
  Reaches g s t g' s' t' = (k : ℕ) → (j : ℕ) × (rows u j g s t ≡ rows u k g' s' t')

  pub reaches_here : (g : List Value) (s : Stack) (t : ℕ) → Reaches g s t g s t
  reaches_here g s t k = (k, refl)

  pub reaches_next : (g g' g'' : List Value) (s s' s'' : Stack) (t t' t'' : ℕ) → Reaches g s t g' s' t' → step u g' s' t' ≡ Some (On g'' s'' t'') → Reaches g s t g'' s'' t''
  reaches_next g g' g'' s s' s'' t t' t'' r e k = let far = r (suc k) in (far.0, far.1 ∙ ap (λ x. x >>= λ y. further y (rows u k)) e)

  ends_there : (p : Point) (g : List Value) (s : Stack) (t : ℕ) → further (left_at p g s t) (rows u 0) ≡ Some (left_at p g s t)
  ends_there (point.Asks a) g s t = refl
  ends_there (point.Old a b) g s t = refl
  ends_there (point.Task a) g s t = refl
  ends_there (point.Declare a) g s t = refl
  ends_there (point.Goal a) g s t = refl
  ends_there (point.Spawn a b) g s t = refl
  ends_there (point.Wait a) g s t = refl
  ends_there point.WaitAll g s t = refl
  ends_there (point.Save a) g s t = refl
  ends_there (point.Exit a) g s t = refl
  ends_there (point.Stop a b) g s t = refl
  ends_there point.Finished g s t = refl
  ends_there point.Spent g s t = refl

  pub reaches_point : (g g' gnew : List Value) (s s' new : Stack) (t t' tnew : ℕ) (p : Point) → Reaches g s t g' s' t' → step u g' s' t' ≡ Some (left_at p gnew new tnew)
      → (n : ℕ) × (rows u n g s t ≡ Some (left_at p gnew new tnew))
  reaches_point g g' gnew s s' new t t' tnew p r e = let far = r 1 in (far.0, far.1 ∙ ap (λ x. x >>= λ y. further y (rows u 0)) e ∙ ends_there p gnew new tnew)

  awaited_left : (p : Point) (g : List Value) (s : Stack) (t : ℕ) → is_awaited p ≡ true → left_at p g s t ≡ Leaves p g s t
  awaited_left (point.Exit a) g s t h = absurd (cc)
  awaited_left (point.Stop a b) g s t h = absurd (cc)
  awaited_left (point.Asks a) g s t h = refl
  awaited_left (point.Old a b) g s t h = refl
  awaited_left (point.Task a) g s t h = refl
  awaited_left (point.Declare a) g s t h = refl
  awaited_left (point.Goal a) g s t h = refl
  awaited_left (point.Spawn a b) g s t h = refl
  awaited_left (point.Wait a) g s t h = refl
  awaited_left point.WaitAll g s t h = refl
  awaited_left (point.Save a) g s t h = refl
  awaited_left point.Finished g s t h = absurd (cc)
  awaited_left point.Spent g s t h = absurd (cc)

  module _ (v : VerifiedUnit u) (g : List Value) (s : Stack) (t : ℕ) (live : AreLive u g s) (some : s ≢ []) where
    pub goes_well : IsSome (step u g s t)
    goes_well = let x = next_row u g s t v live some in rw x.1 refl

    well : (y : Step) → step u g s t ≡ Some y → Well u s t y
    well y e =
        let x = next_row u g s t v live some in
        let same : x.0 ≡ y = cc in
        subst (Well u s t) same x.2

    pub stays_well : (g' : List Value) (s' : Stack) (t' : ℕ) → step u g s t ≡ Some (On g' s' t') → AreLive u g' s' × (s' ≢ []) × (weight u s' t' < weight u s t)
    stays_well g' s' t' e = well (On g' s' t') e

    pub left_well : (p : Point) (g' : List Value) (s' : Stack) (t' : ℕ) → step u g s t ≡ Some (left_at p g' s' t') → is_awaited p ≡ true → LeavesWell u p g' s'
    left_well p g' s' t' e h = (well (Leaves p g' s' t') (e ∙ ap (λ x. Some x) (awaited_left p g' s' t' h))).0 h

    pub rests_well : (p : Point) (g' : List Value) (s' : Stack) (t' : ℕ) → step u g s t ≡ Some (left_at p g' s' t') → Rests u p g' s'
    rests_well point.Finished g' s' t' e = (well (Leaves point.Finished g' s' t') e).1
    rests_well point.Spent g' s' t' e = (well (Leaves point.Spent g' s' t') e).1
    rests_well (point.Asks a) g' s' t' e = tt
    rests_well (point.Old a b) g' s' t' e = tt
    rests_well (point.Task a) g' s' t' e = tt
    rests_well (point.Declare a) g' s' t' e = tt
    rests_well (point.Goal a) g' s' t' e = tt
    rests_well (point.Spawn a b) g' s' t' e = tt
    rests_well (point.Wait a) g' s' t' e = tt
    rests_well point.WaitAll g' s' t' e = tt
    rests_well (point.Save a) g' s' t' e = tt
    rests_well (point.Exit a) g' s' t' e = tt
    rests_well (point.Stop a b) g' s' t' e = tt
