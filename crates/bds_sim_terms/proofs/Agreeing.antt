-- Threads that stand for each other agree: their turns are left alike, with the same ticks.
use Rattle.std.proofs.Common.{◌≡◌, ℕ, zero, suc, ◌+◌, ◌-◌, ◌<◌, true, false, List, [], ◌∷◌, ◌++◌, length, Some, None, slice_get, refl, sym, ap, ◌∙◌, subst, inl, inr, arith}
use Rattle.std.specs.Prelude.{unwrap_or, ⊤}
use Rattle.bds_value.specs.declared.value.At.{At}
use Rattle.bds_value.specs.declared.value.Value.{Value}
use Rattle.bds_code.specs.declared.instr.Instr.TheVariants as instr
use Rattle.bds_code.specs.declared.unit.Function.{Function}
use Rattle.bds_code.specs.declared.unit.Unit.{Unit as CodeUnit}
use Rattle.bds_code_frames.specs.Stack.{Stack}
use Rattle.bds_machine.specs.declared.point.Point.{Point}
use Rattle.bds_machine.specs.Answers.{is_awaited}
use Rattle.bds_machine.specs.Calls.{Leaves}
use Rattle.bds_value.specs.Options.{◌>>=◌}
use Rattle.bds_meaning.specs.Acts.{Act, Has, Becomes, Wants, Fails, Returns, Breaks, Continues, Exits, Code, code}
use Rattle.bds_schedule.specs.Requests.{Request, ThreadAct, GoesOn, Finishes}
use Rattle.bds_schedule.specs.Requests.{Needs, Stops as Faults, Quits}
use Rattle.bds_schedule.specs.Requests as request
use Rattle.bds_meaning.specs.Step.{step}
use Rattle.bds_meaning.specs.Term.{Term, Nothing}
use Rattle.bds_meaning.specs.Threads.{acted, thread_step}
use Rattle.bds_meaning.specs.Variables.{Variables, with_locals}
use Rattle.bds_sim_terms.specs.steps.Stands.{Source, Names, parts, values, Site, count_of, Points, results, Is, IsBehind, EndsAt, StandsAlone, Codes}
use Rattle.bds_sim.specs.Threads.{Parts}
use Rattle.bds_sim_terms.proofs.steps.Leads.{Leads, Moves, lives, here, Walks as Rows}
use Rattle.bds_sim_terms.proofs.steps.Follows.{Follows}
use Rattle.bds_sim_terms.proofs.steps.Rows.{last_return}
use Rattle.bds_sim_terms.proofs.steps.Sim.{sim}
use Rattle.bds_sim_terms.proofs.steps.Walking.{dead}
use Rattle.bds_sim_terms.proofs.steps.Weight.{weight, Lighter, lighter}
use Rattle.bds_sim.specs.schedule.Agree.{Walks, IsTick, IsGiven, SameRequest, Same, Meets, Agree}
use Rattle.bds_sim.specs.Row.{no_line, line_behind, request_of, behind, left as left_so, outcome_of, row_step}
use Rattle.bds_sim_terms.proofs.Telling.{told_request}
use Rattle.bds_sim_terms.specs.Stand.{Stand, Finished}
use Rattle.bds_sim.proofs.Valid.{StaysLive}

-- what is given has the number of values of its request
given_count : (r : Request Code) (us : List Value) → IsGiven r us → length us ≡ count_of r
given_count (request.Contacts (Rattle.bds_host.specs.declared.asks.Ask.TheVariants.Read path)) us h = ap (λ (l : List Value). length l) h.2
given_count (request.Contacts (Rattle.bds_host.specs.declared.asks.Ask.TheVariants.Sys command)) us h = ap (λ (l : List Value). length l) h.2
given_count (request.Contacts (Rattle.bds_host.specs.declared.asks.Ask.TheVariants.Stamp path)) us h = ap (λ (l : List Value). length l) h
given_count (request.Contacts (Rattle.bds_host.specs.declared.asks.Ask.TheVariants.Write path text)) us h = ap (λ (l : List Value). length l) h
given_count (request.Contacts (Rattle.bds_host.specs.declared.asks.Ask.TheVariants.Remove path)) us h = ap (λ (l : List Value). length l) h
given_count (request.Contacts (Rattle.bds_host.specs.declared.asks.Ask.TheVariants.Out text)) us h = ap (λ (l : List Value). length l) h
given_count (request.Contacts (Rattle.bds_host.specs.declared.asks.Ask.TheVariants.Err text)) us h = ap (λ (l : List Value). length l) h
given_count (request.Contacts (Rattle.bds_host.specs.declared.asks.Ask.TheVariants.Start task attempt command)) us h = ap (λ (l : List Value). length l) h
given_count (request.Contacts (Rattle.bds_host.specs.declared.asks.Ask.TheVariants.Next ks ns)) us h = ap (λ (l : List Value). length l) h
given_count (request.Contacts (Rattle.bds_host.specs.declared.asks.Ask.TheVariants.Save path image)) us h = ap (λ (l : List Value). length l) h
given_count (request.Inspects q path) us h = ap (λ (l : List Value). length l) h.1
given_count (request.Compares outs ins) us h = ap (λ (l : List Value). length l) h.1
given_count (request.MakesTask task) us h = ap (λ (l : List Value). length l) h.2
given_count (request.Declares rule) us h = ap (λ (l : List Value). length l) h
given_count (request.Achieves targets) us h = ap (λ (l : List Value). length l) h.1.2
given_count (request.Spawns c) us h = ap (λ (l : List Value). length l) h.2
given_count (request.AwaitsIds texts) us h = ap (λ (l : List Value). length l) h
given_count request.AwaitsAll us h = ap (λ (l : List Value). length l) h
given_count (request.Saves path) us h = ap (λ (l : List Value). length l) h

-- a point of a request is no end
point_left : (u : CodeUnit) (r : Request Code) (o : Source) (p : Point) (g : List Value) (s : Stack) → Points o u r p g s → left_so u p g s ≡ Needs (unwrap_or (line_behind u s) no_line) (request_of u g s p) (behind g s)
point_left u (request.Contacts a) o p g s e = subst (λ p. left_so u p g s ≡ Needs (unwrap_or (line_behind u s) no_line) (request_of u g s p) (behind g s)) (sym e.0) refl
point_left u (request.Inspects q path) o p g s e = subst (λ p. left_so u p g s ≡ Needs (unwrap_or (line_behind u s) no_line) (request_of u g s p) (behind g s)) (sym e.0) refl
point_left u (request.Compares outs ins) o p g s e = subst (λ p. left_so u p g s ≡ Needs (unwrap_or (line_behind u s) no_line) (request_of u g s p) (behind g s)) (sym e) refl
point_left u (request.MakesTask task) o p g s e = subst (λ p. left_so u p g s ≡ Needs (unwrap_or (line_behind u s) no_line) (request_of u g s p) (behind g s)) (sym e) refl
point_left u (request.Declares rule) o p g s e = subst (λ p. left_so u p g s ≡ Needs (unwrap_or (line_behind u s) no_line) (request_of u g s p) (behind g s)) (sym e) refl
point_left u (request.Achieves targets) o p g s e = subst (λ p. left_so u p g s ≡ Needs (unwrap_or (line_behind u s) no_line) (request_of u g s p) (behind g s)) (sym e) refl
point_left u (request.Spawns c) o p g s e = subst (λ p. left_so u p g s ≡ Needs (unwrap_or (line_behind u s) no_line) (request_of u g s p) (behind g s)) (sym e.0.is) refl
point_left u (request.AwaitsIds texts) o p g s e = subst (λ p. left_so u p g s ≡ Needs (unwrap_or (line_behind u s) no_line) (request_of u g s p) (behind g s)) (sym e) refl
point_left u request.AwaitsAll o p g s e = subst (λ p. left_so u p g s ≡ Needs (unwrap_or (line_behind u s) no_line) (request_of u g s p) (behind g s)) (sym e) refl
point_left u (request.Saves path) o p g s e = subst (λ p. left_so u p g s ≡ Needs (unwrap_or (line_behind u s) no_line) (request_of u g s p) (behind g s)) (sym e) refl

-- nor one at which nothing is awaited
point_awaited : (u : CodeUnit) (r : Request Code) (o : Source) (p : Point) (g : List Value) (s : Stack) → Points o u r p g s → is_awaited p ≡ true
point_awaited u (request.Contacts a) o p g s e = ap is_awaited e.0
point_awaited u (request.Inspects q path) o p g s e = ap is_awaited e.0
point_awaited u (request.Compares outs ins) o p g s e = ap is_awaited e
point_awaited u (request.MakesTask task) o p g s e = ap is_awaited e
point_awaited u (request.Declares rule) o p g s e = ap is_awaited e
point_awaited u (request.Achieves targets) o p g s e = ap is_awaited e
point_awaited u (request.Spawns c) o p g s e = ap is_awaited e.0.is
point_awaited u (request.AwaitsIds texts) o p g s e = ap is_awaited e
point_awaited u request.AwaitsAll o p g s e = ap is_awaited e
point_awaited u (request.Saves path) o p g s e = ap is_awaited e

-- the same requests are given the same
given_same : {S M : Type 0} (R F : S → M → Type 0) (r : Request S) (q : Request M) (us : List Value) → SameRequest R F r q → IsGiven r us → IsGiven q us
given_same R F _ _ us (SameRequest.contacts (Rattle.bds_host.specs.declared.asks.Ask.TheVariants.Read path) plainly) h = h
given_same R F _ _ us (SameRequest.contacts (Rattle.bds_host.specs.declared.asks.Ask.TheVariants.Sys command) plainly) h = h
given_same R F _ _ us (SameRequest.contacts (Rattle.bds_host.specs.declared.asks.Ask.TheVariants.Stamp path) plainly) h = h
given_same R F _ _ us (SameRequest.contacts (Rattle.bds_host.specs.declared.asks.Ask.TheVariants.Write path text) plainly) h = h
given_same R F _ _ us (SameRequest.contacts (Rattle.bds_host.specs.declared.asks.Ask.TheVariants.Remove path) plainly) h = h
given_same R F _ _ us (SameRequest.contacts (Rattle.bds_host.specs.declared.asks.Ask.TheVariants.Out text) plainly) h = h
given_same R F _ _ us (SameRequest.contacts (Rattle.bds_host.specs.declared.asks.Ask.TheVariants.Err text) plainly) h = h
given_same R F _ _ us (SameRequest.contacts (Rattle.bds_host.specs.declared.asks.Ask.TheVariants.Start task attempt command) plainly) h = h
given_same R F _ _ us (SameRequest.contacts (Rattle.bds_host.specs.declared.asks.Ask.TheVariants.Next ks ns) plainly) h = h
given_same R F _ _ us (SameRequest.contacts (Rattle.bds_host.specs.declared.asks.Ask.TheVariants.Save path image) plainly) h = h
given_same R F _ _ us (SameRequest.inspects q path) h = h
given_same R F _ _ us (SameRequest.compares outs ins) h = h
given_same R F _ _ us (SameRequest.makes_task task) h = h
given_same R F _ _ us (SameRequest.declares rule) h = h
given_same R F _ _ us (SameRequest.achieves targets) h = h
given_same R F _ _ us (SameRequest.spawns s m r) h = h
given_same R F _ _ us (SameRequest.awaits_ids texts) h = h
given_same R F _ _ us SameRequest.awaits_all h = h
given_same R F _ _ us (SameRequest.saves path) h = h

module _ (o : Source) (u : CodeUnit) (Live : Parts → Type 0) (moves : Moves u Live) (codes : Codes o u) (lasts : StaysLive u Live) where
  abbrev R : Code → Parts → Type 0
  R c m = Stand o u Live c m

  abbrev F : Code → Parts → Type 0
  F c m = Finished o u Live c m

  abbrev source : Code → ThreadAct Code
  source c = thread_step o.program c

  abbrev machine : Parts → ThreadAct Parts
  machine m = row_step u m

  abbrev Meet : Code → Parts → ℕ → Type 0
  Meet c m left = Meets R F source machine c m left

  rows_then : (n : ℕ) (a b : Parts) (t : ℕ) (c : Parts) → Rows u n a b → Walks machine b t c → Walks machine a t c
  rows_then zero a b t c w v = subst (λ z. Walks machine z t c) (sym w) v
  rows_then (suc n) a b t c w v = Walks.inner a w.0 t c (ap (outcome_of u) (w.1 1)) (rows_then n w.0 b t c w.2 v)

  then_walks : (a b : Parts) (t : ℕ) (c : Parts) → Leads u a b → Walks machine b t c → Walks machine a t c
  then_walks a b t c l v = rows_then l.count a b t c l.walk v

  -- one step of the source without a tick
  meet_inner : (c c' : Code) (m m' : Parts) (left : ℕ) → source c ≡ GoesOn false c' → Leads u m m' → Meet c' m' left → Meet c m left
  meet_inner c c' m m' left e l (Meets.leave s' n t le ws wm same) = Meets.leave s' n t le (Walks.inner c c' t s' e ws) (then_walks m m' t n l wm) same
  meet_inner c c' m m' left e l (Meets.spend s' n ws wm h h') = Meets.spend s' n (Walks.inner c c' left s' e ws) (then_walks m m' left n l wm) h h'

  -- and one with a tick
  meet_tick : (c c' : Code) (m m1 m2 m3 : Parts) (left : ℕ) → source c ≡ GoesOn true c' → Leads u m m1 → machine m1 ≡ GoesOn true m2 → Leads u m2 m3 → Meet c' m3 left → Meet c m (suc left)
  meet_tick c c' m m1 m2 m3 left e l ticks l' (Meets.leave s' n t le ws wm same) =
      Meets.leave s' n (suc t) (omega (arith, le)) (Walks.tick c c' t s' e ws) (then_walks m m1 (suc t) n l (Walks.tick m1 m2 t n ticks (then_walks m2 m3 t n l' wm))) same
  meet_tick c c' m m1 m2 m3 left e l ticks l' (Meets.spend s' n ws wm h h') =
      Meets.spend s' n (Walks.tick c c' left s' e ws) (then_walks m m1 (suc left) n l (Walks.tick m1 m2 left n ticks (then_walks m2 m3 left n l' wm))) h h'

  -- a step that leaves the turn
  meet_leave : (c : Code) (m m' : Parts) (left : ℕ) (x : ThreadAct Code) (y : ThreadAct Parts) → source c ≡ x → Leads u m m' → machine m' ≡ y → Same R F x y → Meet c m left
  meet_leave c m m' left x y e l e' same =
      Meets.leave c m' 0 (omega arith) (Walks.here c) (then_walks m m' 0 m' l (Walks.here m')) (subst (λ x. Same R F x (machine m')) (sym e) (subst (λ y. Same R F x y) (sym e') same))

  line_is : (line : At) (s : Stack) → IsBehind o u line s → unwrap_or (line_behind u s) no_line ≡ line
  line_is line s b =
      ap (λ x. unwrap_or (x >>= λ at. slice_get u.functions at.0 >>= λ f. slice_get f.lines (at.1 - 1)) no_line) b.stands
      ∙ ap (λ x. unwrap_or (x >>= λ f. slice_get f.lines (b.pc + 1 - 1)) no_line) b.there
      ∙ ap (λ n. unwrap_or (slice_get b.f.lines n) no_line) (let q : b.pc + 1 - 1 ≡ b.pc = omega arith in q)
      ∙ ap (λ x. unwrap_or x no_line) b.lines

  abbrev alone : ℕ → Names → ℕ → Site
  alone fn names exit = record { function = fn; loop = None; names = names; exit = exit; kind = 0; base = []; below = []; held = []; kept = [] }

  abbrev Agreed : ℕ → Code → Stack → Type 0
  Agreed left c s = StandsAlone o u c.variables c.term s → Live (parts c.variables s) → Meet c (parts c.variables s) left

  abbrev Behind_tick : ℕ → Type 0
  Behind_tick zero = ⊤
  Behind_tick (suc left) = (c : Code) (s : Stack) → Agreed left c s

  -- the oldest call's Return
  ends_row : (vs : Variables) (fn pc : ℕ) (slots us ops : List Value) (is : Is o u fn pc instr.Return) → length us ≡ results is.f.ret
      → machine (parts vs (record { function = fn; place = pc; slots = slots; ops = us ++ ops } ∷ [])) ≡ Finishes (record { globals = values vs.globals; calls = [] })
  ends_row vs fn pc slots us ops is few =
      ap (outcome_of u) (here o u (values vs.globals) (record { function = fn; place = pc; slots = slots; ops = us ++ ops }) [] 1 instr.Return is ∙ last_return u is.f fn pc (values vs.globals) slots [] 1 us ops few refl)

  meet_end : (vs : Variables) (t : Term) (s : Stack) (left fn pc : ℕ) (slots us ops : List Value) → source (code vs t) ≡ Finishes (code (with_locals [] vs) Nothing) → (is : Is o u fn pc instr.Return) → length us ≡ results is.f.ret
      → Leads u (parts vs s) (parts vs (record { function = fn; place = pc; slots = slots; ops = us ++ ops } ∷ [])) → Meet (code vs t) (parts vs s) left
  meet_end vs t s left fn pc slots us ops e is few l =
      meet_leave (code vs t) (parts vs s) (parts vs (record { function = fn; place = pc; slots = slots; ops = us ++ ops } ∷ [])) left _ _ e l (ends_row vs fn pc slots us ops is few) (Same.finishes _ _ (record { globals_are = refl; none = refl }))

  by_act : (left : ℕ) (vs : Variables) (t : Term) (x : Act) (fn : ℕ) (names : Names) (f : Function) (exit : ℕ) (s : Stack) (w v : ℕ)
      → StandsAlone o u vs t s → step o.program vs 1 t ≡ x → slice_get u.functions fn ≡ Some f → EndsAt o u fn f exit → Live (parts vs s) → v < suc w → Lighter x v → Behind_tick left
      → ((c : Code) (s : Stack) → weight c.term < w → Agreed left c s)
      → Follows o u x vs (alone fn names exit) s → Meet (code vs t) (parts vs s) left
  by_act left vs t (Has us) fn names f exit s w v st e there ends live h l bt rec q = by ends
    where
      by : EndsAt o u fn f exit → Meet (code vs t) (parts vs s) left
      by = elim [
        | inl p ↦ absurd (dead o u Live moves vs fn f q.2.0 (us ++ []) [] there (subst (λ n. Live (parts vs (record { function = fn; place = n; slots = q.2.0; ops = us ++ [] } ∷ []))) p (lives u Live moves _ _ q.2.2 live)))
        | inr p ↦ meet_end vs t s left fn exit q.2.0 us [] (ap (acted vs) e) p.0 (q.0 ∙ p.1) q.2.2
      ]
  by_act left vs t (Becomes false vs' t') fn names f exit s w v st e there ends live h l bt rec q =
      meet_inner (code vs t) (code vs' t') (parts vs s) (parts vs' q.0) left (ap (acted vs) e) q.1
      (rec (code vs' t') q.0 (omega (arith, l, h)) (record { number = fn; names = names; f = f; there = there; exit = exit; ends = ends; stands = q.2 }) (lives u Live moves _ _ q.1 live))
  by_act zero vs t (Becomes true vs' t') fn names f exit s w v st e there ends live h l bt rec q =
      Meets.spend (code vs t) (parts vs q.0) (Walks.here (code vs t)) (then_walks (parts vs s) (parts vs q.0) 0 (parts vs q.0) q.3 (Walks.here (parts vs q.0)))
      (subst (λ x. IsTick x) (sym (ap (acted vs) e)) tt) (subst (λ x. IsTick x) (sym (ap (outcome_of u) (q.4.ticks 0))) tt)
  by_act (suc left) vs t (Becomes true vs' t') fn names f exit s w v st e there ends live h l bt rec q =
      let live1 = lives u Live moves _ _ q.3 live in
      let live2 = moves.stays (parts vs q.0) (parts vs' q.1) (suc left) left live1 (q.4.ticks left) in
      meet_tick (code vs t) (code vs' t') (parts vs s) (parts vs q.0) (parts vs' q.1) (parts vs' q.2) left (ap (acted vs) e) q.3 (ap (outcome_of u) (q.4.ticks 0)) q.5
      (bt (code vs' t') q.2 (record { number = fn; names = names; f = f; there = there; exit = exit; ends = ends; stands = q.6 }) (lives u Live moves _ _ q.5 live2))
  by_act left vs t (Wants line r next') fn names f exit s w v st e there ends live h l bt rec q =
      let m1 : Parts = parts vs q.0 in
      let p : Point = q.3.0 in
      let g : List Value = values vs.globals in
      let live1 : Live m1 = lives u Live moves _ _ q.2 live in
      let leaves = q.3.2 1 in
      let same : SameRequest R F r (request_of u g q.1 p) = told_request o u Live r p g q.1 q.3.1 (λ n args is. lasts.begun m1 n args g q.1 live1 (leaves ∙ ap (λ p. Some (Leaves p g q.1 1)) is)) in
      meet_leave (code vs t) (parts vs s) m1 left (Needs line r (λ us. code vs (next' us))) (Needs line (request_of u g q.1 p) (behind g q.1)) (ap (acted vs) e) q.2
      (ap (outcome_of u) leaves ∙ point_left u r o p g q.1 q.3.1 ∙ ap (λ x. Needs x (request_of u g q.1 p) (behind g q.1)) (line_is line q.1 q.3.3))
      (Same.needs line r (request_of u g q.1 p) (λ us. code vs (next' us)) (behind g q.1) same
      (λ us given.
      let a = q.3.4 us (given_count r us given) in
      subst (λ m. R (code vs (next' us)) m) (sym (ap (λ x. record { globals = g; calls = unwrap_or x q.1 }) a.1))
      (record { globals_are = refl; calls = record { number = fn; names = names; f = f; there = there; exit = exit; ends = ends; stands = a.2 }; live = lasts.answered m1 p g q.1 us a.0 live1 (point_awaited u r o p g q.1 q.3.1) leaves (given_same R F r (request_of u g q.1 p) us same given) a.1 })))
  by_act left vs t (Fails line fault) fn names f exit s w v st e there ends live h l bt rec q =
      meet_leave (code vs t) (parts vs s) (parts vs q.0) left (Faults line fault) (Faults line fault) (ap (acted vs) e) q.1 (ap (outcome_of u) (q.2 1)) (Same.fails line fault)
  by_act left vs t (Returns us) fn names f exit s w v st e there ends live h l bt rec q = meet_end vs t s left fn q.pc q.slots us q.ops (ap (acted vs) e) q.is q.few q.leads
  by_act left vs t Breaks fn names f exit s w v st e there ends live h l bt rec q = absurd (Prim.cc q.here)
  by_act left vs t Continues fn names f exit s w v st e there ends live h l bt rec q = absurd (Prim.cc q.here)
  by_act left vs t (Exits status) fn names f exit s w v st e there ends live h l bt rec q =
      meet_leave (code vs t) (parts vs s) (parts vs q.0) left (Quits status) (Quits status) (ap (acted vs) e) q.1 (ap (outcome_of u) (q.2 1)) (Same.exits status)

  by_weight : (left : ℕ) → Behind_tick left → (w : ℕ) (c : Code) (s : Stack) → weight c.term < w → Agreed left c s
  by_weight left bt zero c s h st live = absurd (omega (arith, h))
  by_weight left bt (suc w) c s h st live =
      by_act left c.variables c.term (step o.program c.variables 1 c.term) st.number st.names st.f st.exit s w (weight c.term) st refl st.there st.ends live h (lighter o.program c.term c.variables 1) bt (by_weight left bt w)
      (sim o u Live moves codes c.term c.variables 1 (alone st.number st.names st.exit) s refl live st.stands)

  agreed : (left : ℕ) (c : Code) (s : Stack) → Agreed left c s
  agreed zero c s = by_weight zero tt (suc (weight c.term)) c s (omega arith)
  agreed (suc left) c s = by_weight (suc left) (agreed left) (suc (weight c.term)) c s (omega arith)

  -- the law of threads, for the machine's rows
  pub agree : Agree R F source machine
  agree c m r left =
      subst (λ g. Meet c (record { globals = g; calls = m.calls }) left) (sym r.globals_are) (agreed left c m.calls r.calls (subst (λ g. Live (record { globals = g; calls = m.calls })) r.globals_are r.live))
