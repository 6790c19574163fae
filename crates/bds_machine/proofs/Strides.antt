-- Several rows, the last of which goes on or leaves the machine.
use Rattle.std.proofs.Common.{◌≡◌, ◌≢◌, ◌≤◌, ℕ, zero, suc, List, [], Option, Some, None, IsSome, refl, sym, ap, ◌∙◌, arith}
use Rattle.bds_value.specs.declared.value.Value.{Value}
use Rattle.bds_value.specs.Options.{◌>>=◌}
use Rattle.bds_code.specs.declared.unit.Unit.{Unit as CodeUnit}
use Rattle.bds_code_frames.specs.Stack.{Stack}
use Rattle.bds_verify.specs.Threads.{AreLive}
use Rattle.bds_verify.specs.Verified.{VerifiedUnit}
use Rattle.bds_machine.specs.Calls.{Step, On, Leaves, Ends}
use Rattle.bds_machine.specs.Running.{rows, further}
use Rattle.bds_machine.specs.Table.{step}
use Rattle.bds_machine.specs.Weight.{weight}
use Rattle.bds_machine.proofs.Moves.{Well}
use Rattle.bds_machine.proofs.Progress.{next_row}
use Rattle.bds_machine.proofs.Rows.{Reaches, reaches_here, stays_well}

module _ (u : CodeUnit) where
  reaches_first : (g g' g'' : List Value) (s s' s'' : Stack) (t t' t'' : ℕ) → step u g s t ≡ Some (On g' s' t') → Reaches u g' s' t' g'' s'' t'' → Reaches u g s t g'' s'' t''
  reaches_first g g' g'' s s' s'' t t' t'' e r k = let far = r k in (suc far.0, ap (λ x. x >>= λ y. further y (rows u far.0)) e ∙ far.1)

  pub reaches_on : (g g' g'' : List Value) (s s' s'' : Stack) (t t' t'' : ℕ) → Reaches u g s t g' s' t' → Reaches u g' s' t' g'' s'' t'' → Reaches u g s t g'' s'' t''
  reaches_on g g' g'' s s' s'' t t' t'' a b k =
      let last = b k in
      let first = a last.0 in
      (first.0, first.1 ∙ last.1)

  -- a row that is alone there
  pub first_there : (n : ℕ) (g : List Value) (s : Stack) (t : ℕ) → IsSome (rows u (suc n) g s t) → IsSome (step u g s t)
  first_there n g s t h = from (step u g s t) h
    where
      from : (o : Option Step) → IsSome (o >>= λ x. further x (rows u n)) → IsSome o
      from None h = h
      from (Some x) h = refl

  pub one_row : (g : List Value) (s : Stack) (t : ℕ) → rows u 1 g s t ≡ step u g s t
  one_row g s t = from (step u g s t)
    where
      from : (o : Option Step) → (o >>= λ x. further x (rows u 0)) ≡ o
      from None = refl
      from (Some (On g s t)) = refl
      from (Some (Leaves p g s t)) = refl
      from (Some (Ends p t)) = refl

  module _ (v : VerifiedUnit u) where
    rows_behind : (n : ℕ) (s : Stack) (t : ℕ) → ((g' : List Value) (s' : Stack) (t' : ℕ) → AreLive u g' s' → s' ≢ [] → IsSome (rows u n g' s' t')) → (x : Step) → Well u s t x → IsSome (further x (rows u n))
    rows_behind n s t each (On g' s' t') h = each g' s' t' h.0 h.1
    rows_behind n s t each (Leaves p g' s' t') h = refl
    rows_behind n s t each (Ends p t') h = refl

    pub all_rows : (n : ℕ) (g : List Value) (s : Stack) (t : ℕ) → AreLive u g s → s ≢ [] → IsSome (rows u n g s t)
    all_rows zero g s t live some = refl
    all_rows (suc n) g s t live some = let next = next_row u g s t v live some in rw next.1 (rows_behind n s t (all_rows n) next.0 next.2)

    -- the last of several rows
    pub record LastRow (g : List Value) (s : Stack) (t : ℕ) (y : Step) : Type 0 where
      pub globals : List Value
      pub frames : Stack
      pub ticks : ℕ
      pub live : AreLive u globals frames
      pub some : frames ≢ []
      pub reaches : Reaches u g s t globals frames ticks
      pub less : weight u frames ticks ≤ weight u s t
      pub last : step u globals frames ticks ≡ Some y

    module _ (g : List Value) (s : Stack) (t : ℕ) (y : Step) (live : AreLive u g s) (some : s ≢ []) where
      at_once : (x : Step) → step u g s t ≡ Some x → x ≡ y → LastRow g s t y
      at_once x here same =
          record { globals = g; frames = s; ticks = t; live = live; some = some; reaches = reaches_here u g s t; less = omega arith; last = here ∙ ap (λ x. Some x) same }

      last_behind : (n : ℕ) → ((g' : List Value) (s' : Stack) (t' : ℕ) → AreLive u g' s' → s' ≢ [] → rows u (suc n) g' s' t' ≡ Some y → LastRow g' s' t' y)
          → (o : Option Step) → step u g s t ≡ o → (o >>= λ x. further x (rows u (suc n))) ≡ Some y → LastRow g s t y
      last_behind n each None here e = absurd (cc)
      last_behind n each (Some (Leaves p g' s' t')) here e = at_once (Leaves p g' s' t') here (cc)
      last_behind n each (Some (Ends p t')) here e = at_once (Ends p t') here (cc)
      last_behind n each (Some (On g' s' t')) here e =
          let next = stays_well u v g s t live some g' s' t' here in
          let last = each g' s' t' next.0 next.1 e in
          let fell = next.2 in
          let more = last.less in
          record {
            globals = last.globals;
            frames = last.frames;
            ticks = last.ticks;
            live = last.live;
            some = last.some;
            reaches = reaches_first g g' last.globals s s' last.frames t t' last.ticks here last.reaches;
            less = omega (arith, fell, more);
            last = last.last;
          }

    pub last_row : (n : ℕ) (g : List Value) (s : Stack) (t : ℕ) (y : Step) → AreLive u g s → s ≢ [] → rows u (suc n) g s t ≡ Some y → LastRow g s t y
    last_row zero g s t y live some e = at_once g s t y live some y (sym (one_row g s t) ∙ e) refl
    last_row (suc n) g s t y live some e = last_behind g s t y live some n (λ g' s' t' live some e. last_row n g' s' t' y live some e) (step u g s t) refl e
