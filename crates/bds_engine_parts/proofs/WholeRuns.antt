-- Runs of whole states are runs of the machine, and an ask that the log holds was made on the way.
use Rattle.std.proofs.Common.{◌≡◌, ℕ, List, [], ◌∷◌, ◌++◌, ◌⊎◌, Result, Ok, Err, inl, inr, refl, sym, ap, ◌∙◌, subst, append_assoc, append-nil, drop}
use Rattle.std.proofs.lemmas.List.{append_cancel_left}
use Rattle.bds_host.specs.declared.asks.Ask.{Ask}
use Rattle.bds_host.specs.declared.asks.Reply.{Reply}
use Rattle.bds_host.specs.declared.asks.Reply.TheVariants.{NoRoom}
use Rattle.bds_host.specs.Host.{Log}
use Rattle.bds_code.specs.declared.unit.Unit.{Unit as CodeUnit}
use Rattle.bds_schedule.specs.Stages.{End}
use Rattle.bds_schedule.specs.Steps.{Step, Asks, Leads, Halts}
use Rattle.bds_sim.specs.MachineRun.{State}
use Rattle.bds_sim.specs.MachineRun as machine
use Rattle.bds_state.specs.Parts.{Parts}
use Rattle.bds_engine_parts.specs.Image.{image}
use Rattle.bds_engine_parts.specs.Run.{Runs}
use Rattle.bds_engine_parts.specs.Saving.{Moves, RunEnds, RunHalts}
use Rattle.bds_engine_parts.specs.Seen.{opening}
use Rattle.bds_engine_parts.specs.declared.stop.RunStop.{RunStop}
use Rattle.bds_engine_parts.specs.declared.stop.RunStop.TheVariants as stop

module _ (u : CodeUnit) (a : State) (x : Log) where
  pub leads_plainly : (b : State) (y : Log) → Leads (Moves u) a x b y → Leads (machine.Moves u u.files (image u)) a x b y
  leads_plainly b y Leads.here = Leads.here
  leads_plainly b y (Leads.goes s _ _ l m) = Leads.goes s b y (leads_plainly s y l) m.0
  leads_plainly b y (Leads.asks s log _ ask next reply l m answered) = Leads.asks s log y ask next reply (leads_plainly s log l) m.0 answered

  pub ends_plainly : (y : Log) (e : End) → RunEnds u a x y e → machine.ComesTo u u.files (image u) a x y e
  ends_plainly y e h = (h.0, leads_plainly h.0 y h.1, h.2)

  pub halts_plainly : (y : Log) → RunHalts u a x y → machine.RunHalts u u.files (image u) a x y
  halts_plainly y (Halts.halts_at d way l) = Halts.halts_at d way (leads_plainly d y l)
  halts_plainly y (Halts.halts_asking d log ask next l m e) = Halts.halts_asking d log ask next (leads_plainly d log l) m.0 e

-- where a pair stands in a list that has one more at its end
pub none_behind : {X : Type 0} (es : List X) (p : X) (rest : List X) → [] ≡ es ++ p ∷ rest → ⊥
none_behind [] p rest e = absurd (cc e)
none_behind (x ∷ es) p rest e = absurd (cc e)

abbrev pub first_or : {X : Type 0} → X → List X → X
first_or d [] = d
first_or d (x ∷ xs) = x

abbrev pub Stands_in : {X : Type 0} → List X → List X → X → X → Type 0
Stands_in {X = X} xs es q p = ((xs ≡ es) × (q ≡ p)) ⊎ ((more : List X) × (xs ≡ es ++ p ∷ more))

one_more : {X : Type 0} (xs es : List X) (q p x y : X) → x ≡ y → Stands_in xs es q p → Stands_in (x ∷ xs) (y ∷ es) q p
one_more xs es q p x y same (inl h) = inl (ap (λ z. z ∷ xs) same ∙ ap (λ zs. y ∷ zs) h.0, h.1)
one_more xs es q p x y same (inr h) = inr (h.0, ap (λ z. z ∷ xs) same ∙ ap (λ zs. y ∷ zs) h.1)

last_or_before : {X : Type 0} (xs es rest : List X) (q p : X) → xs ++ q ∷ [] ≡ es ++ p ∷ rest → Stands_in xs es q p
last_or_before [] [] rest q p e = inl (refl, ap (λ l. first_or q l) e)
last_or_before [] (y ∷ es) rest q p e = absurd (none_behind es p rest (ap (λ l. drop 1 l) e))
last_or_before (x ∷ xs) [] rest q p e = inr (xs, ap (λ y. y ∷ xs) (ap (λ l. first_or q l) e))
last_or_before (x ∷ xs) (y ∷ es) rest q p e = one_more xs es q p x y (ap (λ l. first_or q l) e) (last_or_before xs es rest q p (ap (λ l. drop 1 l) e))

module _ {S E : Type 0} (steps : S → Step S E → Type 0) (from : S) (before : Log) where
  -- what was added to the log
  pub added : (s : S) (after : Log) → Leads steps from before s after → (pairs : Log) × (after ≡ before ++ pairs)
  added s after Leads.here = ([], sym (append-nil before))
  added s after (Leads.goes t _ _ l m) = added t after l
  added s after (Leads.asks t log _ ask next reply l m answered) =
      let r = added t log l in
      (r.0 ++ (ask, reply) ∷ [], answered.grown ∙ ap (λ x. x ++ (ask, reply) ∷ []) r.1 ∙ append_assoc before r.0 ((ask, reply) ∷ []))

  -- steps led to an ask
  pub record WasAsked (earlier : Log) (ask : Ask) : Type 0 where
    pub at : S
    pub next : Reply → S
    pub leads : Leads steps from before at (before ++ earlier)
    pub asks : steps at (Asks ask next)

  asked_so : (s : S) (log earlier : Log) (ask ask' : Ask) (next : Reply → S) → Leads steps from before s log → steps s (Asks ask next) → log ≡ before ++ earlier → ask ≡ ask' → WasAsked earlier ask'
  asked_so s log earlier ask ask' next l m e same = record { at = s; next = next; leads = subst (λ x. Leads steps from before s x) e l; asks = subst (λ a. steps s (Asks a next)) same m }

  asked_by : (s : S) (log earlier : Log) (a : Ask) (r : Reply) (ask : Ask) (reply : Reply) (next : Reply → S) → Leads steps from before s log → steps s (Asks a next) → (xs : Log) → log ≡ before ++ xs
      → ((more : Log) → xs ≡ earlier ++ (ask, reply) ∷ more → WasAsked earlier ask) → Stands_in xs earlier (a, r) (ask, reply) → WasAsked earlier ask
  asked_by s log earlier a r ask reply next l m xs g before_it (inl h) = asked_so s log earlier a ask next l m (g ∙ ap (λ z. before ++ z) h.0) (ap (λ (p : Ask × Reply). p.0) h.1)
  asked_by s log earlier a r ask reply next l m xs g before_it (inr h) = before_it h.0 h.1

  -- each ask in what was added
  pub asked : (s : S) (after pairs : Log) → Leads steps from before s after → after ≡ before ++ pairs → (earlier rest : Log) (ask : Ask) (reply : Reply) → pairs ≡ earlier ++ (ask, reply) ∷ rest → WasAsked earlier ask
  asked s after pairs Leads.here e earlier rest ask reply is = absurd (none_behind earlier (ask, reply) rest (append_cancel_left before [] pairs (append-nil before ∙ e) ∙ is))
  asked s after pairs (Leads.goes t _ _ l m) e earlier rest ask reply is = asked t after pairs l e earlier rest ask reply is
  asked s after pairs (Leads.asks t log _ a next r l m answered) e earlier rest ask reply is =
      let w = added t log l in
      let grown : before ++ (w.0 ++ (a, r) ∷ []) ≡ before ++ pairs = sym (append_assoc before w.0 ((a, r) ∷ [])) ∙ ap (λ x. x ++ (a, r) ∷ []) (sym w.1) ∙ sym answered.grown ∙ e in
      asked_by t log earlier a r ask reply next l m w.0 w.1 (λ more h. asked t log w.0 l w.1 earlier more ask reply h)
      (last_or_before w.0 earlier rest (a, r) (ask, reply) (append_cancel_left before (w.0 ++ (a, r) ∷ []) pairs grown ∙ is))

  -- and the last one, for which there was no room
  pub asked_last : (s : S) (log after : Log) (a : Ask) (next : Reply → S) → Leads steps from before s log → steps s (Asks a next) → after ≡ log ++ (a, NoRoom) ∷ []
      → (earlier rest : Log) (ask : Ask) (reply : Reply) → after ≡ before ++ (earlier ++ (ask, reply) ∷ rest) → WasAsked earlier ask
  asked_last s log after a next l m e earlier rest ask reply is =
      let w = added s log l in
      let grown : before ++ (w.0 ++ (a, NoRoom) ∷ []) ≡ before ++ (earlier ++ (ask, reply) ∷ rest) = sym (append_assoc before w.0 ((a, NoRoom) ∷ [])) ∙ ap (λ x. x ++ (a, NoRoom) ∷ []) (sym w.1) ∙ sym e ∙ is in
      asked_by s log earlier a NoRoom ask reply next l m w.0 w.1 (λ more h. asked s log w.0 l w.1 earlier more ask reply h)
      (last_or_before w.0 earlier rest (a, NoRoom) (ask, reply) (append_cancel_left before (w.0 ++ (a, NoRoom) ∷ []) (earlier ++ (ask, reply) ∷ rest) grown))

-- what the run of a state added to the log
pub runs_grow : (s : Parts) (cpus budget : ℕ) (before after : Log) (r : Result ℕ RunStop) → Runs s cpus budget before after r → (pairs : Log) × (after ≡ before ++ pairs)
runs_grow s cpus budget before after (Ok status) h = added (Moves s.unit) (opening s cpus budget) before h.0 after h.1
runs_grow s cpus budget before after (Err stop.Device) h = added (Moves s.unit) (opening s cpus budget) before h.0 after h.1
runs_grow s cpus budget before after (Err stop.Ticks) h = added (Moves s.unit) (opening s cpus budget) before h.0 after h.1
runs_grow s cpus budget before after (Err stop.NoMemory) (Halts.halts_at d way l) = added (Moves s.unit) (opening s cpus budget) before d after l
runs_grow s cpus budget before after (Err stop.NoMemory) (Halts.halts_asking d log a next l m e) =
    let w = added (Moves s.unit) (opening s cpus budget) before d log l in
    (w.0 ++ (a, NoRoom) ∷ [], e ∙ ap (λ x. x ++ (a, NoRoom) ∷ []) w.1 ∙ append_assoc before w.0 ((a, NoRoom) ∷ []))
