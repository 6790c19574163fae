-- A turn of the source's thread is the machine's run to a point.
use Rattle.std.proofs.Common.{◌≡◌, ℕ, zero, suc, ◌<◌, true, false, List, [], ◌∷◌, ◌++◌, length, Option, Some, None, slice_get, refl, sym, ap, ◌∙◌, subst, inl, inr, arith}
use Rattle.bds_value.specs.declared.value.Value.{Value}
use Rattle.bds_code.specs.declared.instr.Instr.TheVariants as instr
use Rattle.bds_code.specs.declared.unit.Function.{Function}
use Rattle.bds_code.specs.declared.unit.Unit.{Unit as CodeUnit}
use Rattle.bds_code_frames.specs.Stack.{Stack}
use Rattle.bds_machine.specs.declared.point.Point.{Point}
use Rattle.bds_machine.specs.declared.point.Point.TheVariants as point
use Rattle.bds_machine.specs.Calls.{Step, On, Leaves, Ends}
use Rattle.bds_value.specs.Options.{◌>>=◌}
use Rattle.bds_machine.specs.Running.{further, rows, left_at}
use Rattle.bds_machine.specs.Table.{step as machine_step}
use Rattle.bds_meaning.specs.Acts.{Act, Has, Becomes, Wants, Fails, Returns, Breaks, Continues, Exits, Code, code}
use Rattle.bds_meaning.specs.Step.{Function as Definition, step}
use Rattle.bds_meaning.specs.Threads.{acted}
use Rattle.bds_meaning.specs.Variables.{Variables}
use Rattle.bds_sim_terms.specs.steps.Turn.{Turn, Going, Needing, Failed, Exited, Finished, Spent, turned, turn}
use Rattle.bds_sim_terms.specs.steps.Stands.{Source, Names, parts, values, Site, Points, results, Is, IsBehind, EndsAt, StandsAlone, Codes}
use Rattle.bds_sim.specs.Threads.{Parts}
use Rattle.bds_sim_terms.specs.steps.Law.{StandsAnswered, IsAt}
use Rattle.bds_sim_terms.proofs.steps.Leads.{next, Walks, Leads, Moves, lives, here}
use Rattle.bds_sim_terms.proofs.steps.Follows.{Ticks, Follows}
use Rattle.bds_sim_terms.proofs.steps.Rows.{last_return}
use Rattle.bds_sim_terms.proofs.steps.Walking.{dead}
use Rattle.bds_sim_terms.proofs.steps.Sim.{sim}
use Rattle.bds_sim_terms.proofs.steps.Weight.{weight, Lighter, lighter}

-- a run leaves the machine at one point

abbrev HasLeft : Step → Type 0
HasLeft (On g s t) = ⊥
HasLeft (Leaves p g s t) = Unit {0}
HasLeft (Ends p t) = Unit {0}

same_end : (u : CodeUnit) (j k : ℕ) (g : List Value) (s : Stack) (t : ℕ) (x y : Step) → rows u j g s t ≡ Some x → HasLeft x → rows u k g s t ≡ Some y → HasLeft y → x ≡ y
same_end u zero k g s t x y e h e' h' = absurd (subst HasLeft (let q : x ≡ On g s t = cc e in q) h)
same_end u (suc j) zero g s t x y e h e' h' = absurd (subst HasLeft (let q : y ≡ On g s t = cc e' in q) h')
same_end u (suc j) (suc k) g s t x y e h e' h' = go (λ g s t e e'. same_end u j k g s t x y e h e' h') (machine_step u g s t) e e'
  where
    go : ((g : List Value) (s : Stack) (t : ℕ) → rows u j g s t ≡ Some x → rows u k g s t ≡ Some y → x ≡ y) → (o : Option Step) → (o >>= λ z. further z (rows u j)) ≡ Some x → (o >>= λ z. further z (rows u k)) ≡ Some y → x ≡ y
    go again None e e' = absurd (cc e)
    go again (Some (On g s t)) e e' = again g s t e e'
    go again (Some (Leaves p g s t)) e e' = cc (e, e')
    go again (Some (Ends p t)) e e' = cc (e, e')

has_left : (p : Point) (g : List Value) (s : Stack) (t : ℕ) → HasLeft (left_at p g s t)
has_left (point.Stop e at) g s t = tt
has_left (point.Exit code) g s t = tt
has_left _ g s t = tt

leaves_is : (p p' : Point) (g g' : List Value) (s s' : Stack) (t t' : ℕ) → left_at p g s t ≡ Leaves p' g' s' t' → (p ≡ p') × (g ≡ g') × (s ≡ s') × (t ≡ t')
leaves_is (point.Stop e at) p' g g' s s' t t' q = absurd (cc q)
leaves_is (point.Exit code) p' g g' s s' t t' q = absurd (cc q)
leaves_is _ p' g g' s s' t t' q = (cc q, cc q, cc q, cc q)

ends_is : (p p' : Point) (g : List Value) (s : Stack) (t t' : ℕ) → left_at p g s t ≡ Ends p' t' → (p ≡ p') × (t ≡ t')
ends_is (point.Stop e at) p' g s t t' q = (cc q, cc q)
ends_is (point.Exit code) p' g s t t' q = (cc q, cc q)
ends_is _ p' g s t t' q = absurd (cc q)

module _ (program : List Definition) where
  abbrev IsDone : Turn → Type 0
  IsDone (Going c left) = ⊥
  IsDone _ = Unit {0}

  abbrev Settles : ℕ → Type 0
  Settles left = (c : Code) → (n : ℕ) × IsDone (turn program n c left)

  abbrev Behind_tick : ℕ → Type 0
  Behind_tick zero = Unit {0}
  Behind_tick (suc left) = Settles left

  by_act : (left : ℕ) (vs : Variables) (x : Act) (w v : ℕ) → v < suc w → Behind_tick left → ((c : Code) → weight c.term < w → (n : ℕ) × IsDone (turn program n c left)) → Lighter x v → (n : ℕ) × IsDone (turned (turn program n) left (acted vs x))
  by_act left vs (Has us) w v h bt rec l = (0, tt)
  by_act left vs (Becomes false vs' t) w v h bt rec l = rec (code vs' t) (omega (arith, l, h))
  by_act zero vs (Becomes true vs' t) w v h bt rec l = (0, tt)
  by_act (suc left) vs (Becomes true vs' t) w v h bt rec l = bt (code vs' t)
  by_act left vs (Wants at q go) w v h bt rec l = (0, tt)
  by_act left vs (Fails at fault) w v h bt rec l = (0, tt)
  by_act left vs (Returns us) w v h bt rec l = (0, tt)
  by_act left vs Breaks w v h bt rec l = (0, tt)
  by_act left vs Continues w v h bt rec l = (0, tt)
  by_act left vs (Exits status) w v h bt rec l = (0, tt)

  by_weight : (left : ℕ) → Behind_tick left → (w : ℕ) (c : Code) → weight c.term < w → (n : ℕ) × IsDone (turn program n c left)
  by_weight left bt zero c h = absurd (omega (arith, h))
  by_weight left bt (suc w) c h =
      let r = by_act left c.variables (step program c.variables 1 c.term) w (weight c.term) h bt (by_weight left bt w) (lighter program c.term c.variables 1) in
      (suc r.0, r.1)

  pub settles : (left : ℕ) → Settles left
  settles zero c = by_weight zero tt (suc (weight c.term)) c (omega arith)
  settles (suc left) c = by_weight (suc left) (settles left) (suc (weight c.term)) c (omega arith)

module _ (o : Source) (u : CodeUnit) (Live : Parts → Type 0) (moves : Moves u Live) (codes : Codes o u) where
  abbrev runs : ℕ → Parts → ℕ → Option Step
  runs j m t = rows u j m.globals m.calls t

  -- rows lead to where the source's steps have led
  abbrev Reaches : Turn → Parts → ℕ → Type 0
  Reaches (Going c left) m b = (j : ℕ) × ((s : Stack) × (runs j m b ≡ Some (On (values c.variables.globals) s left)) × StandsAlone o u c.variables c.term s × Live (parts c.variables s))
  Reaches (Needing line r go left) m b = (j : ℕ) × ((p : Point) × ((g : List Value) × ((s : Stack) × Points o u r p g s × (runs j m b ≡ Some (Leaves p g s left)) × IsBehind o u line s × StandsAnswered o u r go g s)))
  Reaches (Failed line fault left) m b = (j : ℕ) × (runs j m b ≡ Some (Ends (point.Stop fault line) left))
  Reaches (Exited status left) m b = (j : ℕ) × (runs j m b ≡ Some (Ends (point.Exit status) left))
  Reaches (Finished c left) m b = (j : ℕ) × (runs j m b ≡ Some (Leaves point.Finished (values c.variables.globals) [] left))
  Reaches Spent m b = (j : ℕ) × ((g : List Value) × ((s : Stack) × (runs j m b ≡ Some (Leaves point.Spent g s 0))))

  by_walk : (n : ℕ) (a b : Parts) → Walks u n a b → (k t : ℕ) → (j : ℕ) × (runs j a t ≡ runs k b t)
  by_walk zero a b w k t = (k, ap (λ (m : Parts). runs k m t) w)
  by_walk (suc n) a b w k t = let r = by_walk n w.0 b w.2 k t in (suc r.0, ap (λ q. q >>= λ x. further x (rows u r.0)) (w.1 t) ∙ r.1)

  -- where rows of one state are those of another
  moved : (x : Turn) (a b : Parts) (t t' : ℕ) → ((k : ℕ) → (j : ℕ) × (runs j a t ≡ runs k b t')) → Reaches x b t' → Reaches x a t
  moved (Going c left) a b t t' go r = let q = go r.0 in (q.0, (r.1.0, q.1 ∙ r.1.1, r.1.2, r.1.3))
  moved (Needing line q' go' left) a b t t' go r = let q = go r.0 in (q.0, (r.1.0, (r.1.1.0, (r.1.1.1.0, r.1.1.1.1, q.1 ∙ r.1.1.1.2, r.1.1.1.3, r.1.1.1.4))))
  moved (Failed line fault left) a b t t' go r = let q = go r.0 in (q.0, q.1 ∙ r.1)
  moved (Exited status left) a b t t' go r = let q = go r.0 in (q.0, q.1 ∙ r.1)
  moved (Finished c left) a b t t' go r = let q = go r.0 in (q.0, q.1 ∙ r.1)
  moved Spent a b t t' go r = let q = go r.0 in (q.0, (r.1.0, (r.1.1.0, q.1 ∙ r.1.1.1)))

  reaches_by : (x : Turn) (a b : Parts) (t : ℕ) → Leads u a b → Reaches x b t → Reaches x a t
  reaches_by x a b t l r = moved x a b t t (λ k. by_walk l.count a b l.walk k t) r

  one_row : (a : Parts) (t : ℕ) (x : Step) (j : ℕ) → next u a t ≡ Some x → runs (suc j) a t ≡ further x (rows u j)
  one_row a t x j e = ap (λ q. q >>= λ x. further x (rows u j)) e

  reaches_tick : (x : Turn) (a b : Parts) (t : ℕ) → Ticks o u a b → Reaches x b t → Reaches x a (suc t)
  reaches_tick x a b t k r = moved x a b (suc t) t (λ j. (suc j, one_row a (suc t) (On b.globals b.calls t) j (k.ticks t))) r

  -- the oldest call's Return
  ends_at : (vs : Variables) (fn pc : ℕ) (slots us ops : List Value) (t : ℕ) (is : Is o u fn pc instr.Return) → length us ≡ results is.f.ret
      → next u (parts vs (record { function = fn; place = pc; slots = slots; ops = us ++ ops } ∷ [])) t ≡ Some (Leaves point.Finished (values vs.globals) [] t)
  ends_at vs fn pc slots us ops t is few = here o u (values vs.globals) (record { function = fn; place = pc; slots = slots; ops = us ++ ops }) [] t instr.Return is ∙ last_return u is.f fn pc (values vs.globals) slots [] t us ops few refl

  abbrev Onward : (Code → ℕ → Turn) → Type 0
  Onward go = (c : Code) (s : Stack) (left : ℕ) → StandsAlone o u c.variables c.term s → Live (parts c.variables s) → Reaches (go c left) (parts c.variables s) left

  abbrev alone : ℕ → Names → ℕ → Site
  alone fn names exit = record { function = fn; loop = None; names = names; exit = exit; kind = 0; base = []; below = []; held = []; kept = [] }

  -- what a step's rows lead to
  acts : (x : Act) (go : Code → ℕ → Turn) (vs : Variables) (fn : ℕ) (names : Names) (f : Function) (exit : ℕ) (s : Stack) (left : ℕ) → slice_get u.functions fn ≡ Some f → EndsAt o u fn f exit → Live (parts vs s) → Onward go
      → Follows o u x vs (alone fn names exit) s → Reaches (turned go left (acted vs x)) (parts vs s) left
  acts (Has us) go vs fn names f exit s left there ends live onward q = by ends
    where
      by : EndsAt o u fn f exit → Reaches (Finished (code (Rattle.bds_meaning.specs.Variables.with_locals [] vs) Rattle.bds_meaning.specs.Term.Nothing) left) (parts vs s) left
      by = elim [
        | inl e ↦ absurd (dead o u Live moves vs fn f q.2.0 (us ++ []) [] there (subst (λ n. Live (parts vs (record { function = fn; place = n; slots = q.2.0; ops = us ++ [] } ∷ []))) e (lives u Live moves _ _ q.2.2 live)))
        | inr w ↦ reaches_by (Finished (code (Rattle.bds_meaning.specs.Variables.with_locals [] vs) Rattle.bds_meaning.specs.Term.Nothing) left) _ _ left q.2.2 (1, one_row _ left (Leaves point.Finished (values vs.globals) [] left) 0 (ends_at vs fn exit q.2.0 us [] left w.0 (q.0 ∙ w.1)))
      ]
  acts (Becomes false vs' t) go vs fn names f exit s left there ends live onward q =
      reaches_by (go (code vs' t) left) _ _ left q.1 (onward (code vs' t) q.0 left (record { number = fn; names = names; f = f; there = there; exit = exit; ends = ends; stands = q.2 }) (lives u Live moves _ _ q.1 live))
  acts (Becomes true vs' t) go vs fn names f exit s zero there ends live onward q = reaches_by Spent _ _ 0 q.3 (1, (values vs.globals, (q.0, one_row (parts vs q.0) 0 (Leaves point.Spent (values vs.globals) q.0 0) 0 q.4.spent)))
  acts (Becomes true vs' t) go vs fn names f exit s (suc left) there ends live onward q =
      let live1 = lives u Live moves _ _ q.3 live in
      let live2 = moves.stays (parts vs q.0) (parts vs' q.1) (suc left) left live1 (q.4.ticks left) in
      reaches_by (go (code vs' t) left) _ _ (suc left) q.3
      (reaches_tick (go (code vs' t) left) _ _ left q.4
      (reaches_by (go (code vs' t) left) _ _ left q.5 (onward (code vs' t) q.2 left (record { number = fn; names = names; f = f; there = there; exit = exit; ends = ends; stands = q.6 }) (lives u Live moves _ _ q.5 live2))))
  acts (Wants line r next') go vs fn names f exit s left there ends live onward q =
      reaches_by (Needing line r (λ us. code vs (next' us)) left) _ _ left q.2 (
        1,
        (
          q.3.0,
          (
            values vs.globals,
            (
              q.1,
              q.3.1,
              one_row (parts vs q.0) left (Leaves q.3.0 (values vs.globals) q.1 left) 0 (q.3.2 left),
              q.3.3,
              λ us len. let w = q.3.4 us len in (w.0, w.1, record { globals_are = refl; calls = record { number = fn; names = names; f = f; there = there; exit = exit; ends = ends; stands = w.2 } }),
            ),
          ),
        ),
      )
  acts (Fails line fault) go vs fn names f exit s left there ends live onward q = reaches_by (Failed line fault left) _ _ left q.1 (1, one_row (parts vs q.0) left (Ends (point.Stop fault line) left) 0 (q.2 left))
  acts (Returns us) go vs fn names f exit s left there ends live onward q =
      reaches_by (Finished (code (Rattle.bds_meaning.specs.Variables.with_locals [] vs) Rattle.bds_meaning.specs.Term.Nothing) left) _ _ left q.leads (1, one_row _ left (Leaves point.Finished (values vs.globals) [] left) 0 (ends_at vs fn q.pc q.slots us q.ops left q.is q.few))
  acts Breaks go vs fn names f exit s left there ends live onward q = absurd (Prim.cc q.here)
  acts Continues go vs fn names f exit s left there ends live onward q = absurd (Prim.cc q.here)
  acts (Exits status) go vs fn names f exit s left there ends live onward q = reaches_by (Exited status left) _ _ left q.1 (1, one_row (parts vs q.0) left (Ends (point.Exit status) left) 0 (q.2 left))

  -- n steps of the source
  leads_to : (n : ℕ) → Onward (turn o.program n)
  leads_to zero c s left st live = (0, (s, refl, st, live))
  leads_to (suc n) c s left st live =
      acts (step o.program c.variables 1 c.term) (turn o.program n) c.variables st.number st.names st.f st.exit s left st.there st.ends live (leads_to n) (sim o u Live moves codes c.term c.variables 1 (alone st.number st.names st.exit) s refl live st.stands)

  -- a machine that has left at a point is where the source's turn has led
  at_end : (x : Turn) (m : Parts) (b : ℕ) → IsDone o.program x → Reaches x m b → (j : ℕ) (p : Point) (g : List Value) (s : Stack) (left : ℕ) → runs j m b ≡ Some (left_at p g s left) → IsAt o u x p g s left
  at_end (Going c left') m b d r j p g s left e = absurd d
  at_end (Needing line q go left') m b d r j p g s left e =
      let p' = r.1.0 in
      let g' = r.1.1.0 in
      let s' = r.1.1.1.0 in
      let w = r.1.1.1 in
      let k = leaves_is p p' g g' s s' left left' (same_end u j r.0 m.globals m.calls b (left_at p g s left) _ e (has_left p g s left) w.2 tt) in
      (subst (λ p. Points o u q p g s) (sym k.0) (subst (λ g. Points o u q p' g s) (sym k.1) (subst (λ s. Points o u q p' g' s) (sym k.2) w.1)), k.3, subst (IsBehind o u line) (sym k.2) w.3, subst (λ g. StandsAnswered o u q go g s) (sym k.1) (subst (λ s. StandsAnswered o u q go g' s) (sym k.2) w.4))
  at_end (Failed line fault left') m b d r j p g s left e = ends_is p (point.Stop fault line) g s left left' (same_end u j r.0 m.globals m.calls b (left_at p g s left) _ e (has_left p g s left) r.1 tt)
  at_end (Exited status left') m b d r j p g s left e = ends_is p (point.Exit status) g s left left' (same_end u j r.0 m.globals m.calls b (left_at p g s left) _ e (has_left p g s left) r.1 tt)
  at_end (Finished c left') m b d r j p g s left e =
      let q = leaves_is p point.Finished g (values c.variables.globals) s [] left left' (same_end u j r.0 m.globals m.calls b (left_at p g s left) _ e (has_left p g s left) r.1 tt) in
      (q.0, q.3, q.1, q.2)
  at_end Spent m b d r j p g s left e =
      let q = leaves_is p point.Spent g r.1.0 s r.1.1.0 left 0 (same_end u j r.0 m.globals m.calls b (left_at p g s left) _ e (has_left p g s left) r.1.1.1 tt) in
      (q.0, q.3)

  -- whatever point the machine comes to is the one to which the source's turn leads
  pub turns : (c : Code) (s : Stack) (b : ℕ) → StandsAlone o u c.variables c.term s → Live (parts c.variables s) → (j : ℕ) (p : Point) (g' : List Value) (s' : Stack) (left : ℕ)
      → rows u j (values c.variables.globals) s b ≡ Some (left_at p g' s' left) → (n : ℕ) × IsAt o u (turn o.program n c b) p g' s' left
  turns c s b st live j p g' s' left e =
      let n = settles o.program b c in
      (n.0, at_end (turn o.program n.0 c b) (parts c.variables s) b n.1 (leads_to n.0 c s b st live) j p g' s' left e)
