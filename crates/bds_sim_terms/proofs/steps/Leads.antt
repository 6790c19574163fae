-- Rows that count no tick lead from one state of a thread to another.
use Rattle.std.proofs.Common.{◌≤◌, length, ◌≡◌, ℕ, zero, suc, List, ◌∷◌, Option, Some, IsSome, slice_get, refl, sym, ap, ◌∙◌, subst}
use Rattle.bds_value.specs.declared.TheConstants.{MAX_ITEMS}
use Rattle.bds_value.specs.declared.value.Value.{Value}
use Rattle.bds_code.specs.declared.instr.Instr.{Instr}
use Rattle.bds_code.specs.declared.instr.Instr.TheVariants as instr
use Rattle.bds_code.specs.declared.unit.Unit.{Unit as CodeUnit}
use Rattle.bds_code_frames.specs.Stack.{Call as Running, Stack}
use Rattle.bds_machine.specs.Calls.{Step, On}
use Rattle.bds_value.specs.Options.{◌>>=◌}
use Rattle.bds_machine.specs.Table.{step, row}
use Rattle.bds_value.specs.Readers.{items_in}
use Rattle.bds_meaning.specs.Variables.{Variables}
use Rattle.bds_sim_terms.specs.steps.Stands.{Source, parts, values, Site, at, Is, Jumps, Comes}
use Rattle.bds_sim.specs.Threads.{Parts}

module _ (u : CodeUnit) where
  abbrev pub next : Parts → ℕ → Option Step
  next m t = step u m.globals m.calls t

  -- a row goes on and counts no tick
  abbrev pub Goes : Parts → Parts → Type 0
  Goes m m' = (t : ℕ) → next m t ≡ Some (On m'.globals m'.calls t)

  abbrev pub Walks : ℕ → Parts → Parts → Type 0
  Walks zero m m' = m ≡ m'
  Walks (suc n) m m' = (mid : Parts) × Goes m mid × Walks n mid m'

  pub record Leads (m m' : Parts) : Type 0 where
    pub count : ℕ
    pub walk : Walks count m m'

  -- a live state has a next row, and where that goes on the state is live behind it
  pub record Moves (Live : Parts → Type 0) : Type 0 where
    pub moves : (m : Parts) (t : ℕ) → Live m → IsSome (next m t)
    pub stays : (m m' : Parts) (t t' : ℕ) → Live m → next m t ≡ Some (On m'.globals m'.calls t') → Live m'
    -- lists in slots are within the limit of values
    pub short : (m : Parts) (c : Running) (below : Stack) (i : ℕ) (v : Value) → Live m → m.calls ≡ c ∷ below → slice_get c.slots i ≡ Some v → length (items_in v) ≤ MAX_ITEMS

  pub stays : (m : Parts) → Leads m m
  stays m = record { count = 0; walk = refl }

  pub one : (m m' : Parts) → Goes m m' → Leads m m'
  one m m' e = record { count = 1; walk = (m', e, refl) }

  walked : (n : ℕ) (a b c : Parts) → Walks n a b → Leads b c → Leads a c
  walked zero a b c w l = subst (λ z. Leads z c) (sym w) l
  walked (suc n) a b c w l = let r = walked n w.0 b c w.2 l in record { count = suc r.count; walk = (w.0, w.1, r.walk) }

  pub leads_on : (a b c : Parts) → Leads a b → Leads b c → Leads a c
  leads_on a b c l l' = walked l.count a b c l.walk l'

  module _ (Live : Parts → Type 0) (moves : Moves Live) where
    walk_lives : (n : ℕ) (a b : Parts) → Walks n a b → Live a → Live b
    walk_lives zero a b w l = subst Live w l
    walk_lives (suc n) a b w l = walk_lives n w.0 b w.2 (moves.stays a w.0 0 0 l (w.1 0))

    pub lives : (a b : Parts) → Leads a b → Live a → Live b
    lives a b l live = walk_lives l.count a b l.walk live

module _ (o : Source) (u : CodeUnit) where
  -- the instruction at the newest call's place
  pub here : (g : List Value) (c : Running) (below : Stack) (t : ℕ) (i : Instr) (is : Is o u c.function c.place i) → step u g (c ∷ below) t ≡ row u is.f i c.place g (c ∷ below) t
  unfolding step
  here g c below t i is =
      ap (λ o. o >>= λ f. slice_get f.code c.place >>= λ i. row u f i c.place g (c ∷ below) t) is.there ∙ ap (λ o. o >>= λ i. row u is.f i c.place g (c ∷ below) t) is.code

  jumps_lead : (vs : Variables) (c : Site) (n pc to : ℕ) (slots ops : List Value) → Jumps o u c.function n pc to → Leads u (parts vs (at c pc slots ops)) (parts vs (at c to slots ops))
  jumps_lead vs c zero pc to slots ops e = subst (λ z. Leads u (parts vs (at c pc slots ops)) (parts vs (at c z slots ops))) e (stays u (parts vs (at c pc slots ops)))
  jumps_lead vs c (suc n) pc to slots ops j =
      let call : Running = record { function = c.function; place = pc; slots = slots; ops = ops } in
      leads_on u (parts vs (at c pc slots ops)) (parts vs (at c j.0 slots ops)) (parts vs (at c to slots ops))
      (one u (parts vs (at c pc slots ops)) (parts vs (at c j.0 slots ops)) (λ t. here (values vs.globals) call c.below t (instr.Jump j.0) j.1))
      (jumps_lead vs c n j.0 to slots ops j.2)

  pub comes_lead : (vs : Variables) (c : Site) (pc to : ℕ) (slots ops : List Value) → Comes o u c.function pc to → Leads u (parts vs (at c pc slots ops)) (parts vs (at c to slots ops))
  comes_lead vs c pc to slots ops e = jumps_lead vs c e.count pc to slots ops e.jumps
