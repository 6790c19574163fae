-- Steps one after the other.
use Rattle.std.proofs.Common.{◌≡◌, ℕ, List, Result, Ok, Err, inl, inr, sym, ap, ◌∙◌, subst, IsErrAnd}
use Rattle.bds_host.specs.declared.asks.Ask.{Ask}
use Rattle.bds_host.specs.declared.asks.Reply.{Reply}
use Rattle.bds_host.specs.Host.{Log, Answered, FoundNoRoom}
use Rattle.bds_schedule.specs.Configuration.{IsOnWay}
use Rattle.bds_schedule.specs.Stages.{End}
use Rattle.bds_schedule.specs.Steps.{Step, Asks as AsksNext, Halts, Leads}
use Rattle.bds_rank.specs.Machine.{LeadsOn}
use Rattle.bds_sim.specs.MachineRun.{State}
use Rattle.bds_state.specs.Parts.{Parts, with_tasks}
use Rattle.bds_tasks.specs.declared.task.Task.{Task}
use Rattle.bds_engine_parts.specs.Saving.{RunHalts}
use Rattle.bds_engine_parts.specs.Saving as whole
use Rattle.bds_engine_stages.specs.declared.stage.Stage.{Stage}
use Rattle.bds_engine_stages.specs.declared.stop.Halt.{Halt}
use Rattle.bds_engine_stages.specs.declared.stop.Halt.TheVariants as halt
use Rattle.bds_engine_stages.specs.Steps.{AsksThen, IsAt, CallLeadsTo}

pub leads_on : {S E : Type 0} (steps : S → Step S E → Type 0) (a b : S) (x y : Log) (c : S) (z : Log)
    → Leads steps a x b y → Leads steps b y c z → Leads steps a x c z
leads_on steps a b x y c z l Leads.here = l
leads_on steps a b x y c z l (Leads.goes s _ _ m h) = Leads.goes s c z (leads_on steps a b x y s z l m) h
leads_on steps a b x y c z l (Leads.asks s log _ ask next reply m h answered) =
    Leads.asks s log z ask next reply (leads_on steps a b x y s log l m) h answered

-- and one step at least among the latter
leads_further : {S E : Type 0} (steps : S → Step S E → Type 0) (a b : S) (x y : Log) (c : S) (z : Log)
    → Leads steps a x b y → LeadsOn steps b y c z → LeadsOn steps a x c z
leads_further steps a b x y c z l (LeadsOn.goes s _ _ m h) = LeadsOn.goes s c z (leads_on steps a b x y s z l m) h
leads_further steps a b x y c z l (LeadsOn.asks s log _ ask next reply m h answered) =
    LeadsOn.asks s log z ask next reply (leads_on steps a b x y s log l m) h answered

pub leads_plain : {S E : Type 0} (steps : S → Step S E → Type 0) (a c : S) (x z : Log) → LeadsOn steps a x c z
    → Leads steps a x c z
leads_plain steps a c x z (LeadsOn.goes s _ _ m h) = Leads.goes s c z m h
leads_plain steps a c x z (LeadsOn.asks s log _ ask next reply m h answered) =
    Leads.asks s log z ask next reply m h answered

module _ (s : Parts) (cpus budget : ℕ) where
  abbrev Moves : State → Step State End → Type 0
  Moves d x = whole.Moves s.unit d x

  halts_on : (a b : State) (x y z : Log) → Leads Moves a x b y → RunHalts s.unit b y z → RunHalts s.unit a x z
  halts_on a b x y z l (Halts.halts_at d way m) = Halts.halts_at d way (leads_on Moves a b x y d z l m)
  halts_on a b x y z l (Halts.halts_asking d log ask next m h e) =
      Halts.halts_asking d log ask next (leads_on Moves a b x y d log l m) h e

  -- what a call reaches behind steps
  pub reaches_on : (a b : State) (x y z : Log) (s' : Parts) (used : ℕ) (r : Result Stage Halt) → Leads Moves a x b y
      → CallLeadsTo s cpus budget b y z s' used r → CallLeadsTo s cpus budget a x z s' used r
  reaches_on a b x y z s' used (Ok g) l h =
      record { unit = h.unit; d' = h.d'; is = h.is; leads = leads_further Moves a b x y h.d' z l h.leads }
  reaches_on a b x y z s' used (Err halt.Spent) l h = (h.0, leads_on Moves a b x y h.0 z l h.1, h.2)
  reaches_on a b x y z s' used (Err halt.NoMemory) l h = halts_on a b x y z l h

  -- no memory for an ask, or before it
  pub no_room : (d : State) → IsOnWay d.mode → (before after : Log) (a : Ask) (next : Reply → State)
      → Moves d (AsksNext a next) → FoundNoRoom before after a → RunHalts s.unit d before after
  no_room d way before after a next m (inl same) =
      Halts.halts_at d way (subst (λ z. Leads Moves d before d z) (sym same) Leads.here)
  no_room d way before after a next m (inr more) = Halts.halts_asking d before a next Leads.here m more

  -- a call that makes the ask of a configuration, and goes on by the reply as that does
  pub asks_reach : (d : State) → IsOnWay d.mode
      → (before after : Log) (a : Ask) (next : Reply → State) (s' : Parts) (used : ℕ) (f : Reply → Stage)
      (r : Result Stage Halt) → Moves d (AsksNext a next) → s'.unit ≡ s.unit
      → ((reply : Reply) → Answered before after a reply → IsAt s' cpus budget used (f reply) (next reply))
      → AsksThen a before after f r → CallLeadsTo s cpus budget d before after s' used r
  asks_reach d way before after a next s' used f (Ok g) m same at h = record {
    unit = same;
    d' = next h.reply;
    is = subst (λ g. IsAt s' cpus budget used g (next h.reply)) (sym h.is) (at h.reply h.answered);
    leads = LeadsOn.asks d before after a next h.reply Leads.here m h.answered;
  }
  asks_reach d way before after a next s' used f (Err halt.Spent) m same at h = absurd h
  asks_reach d way before after a next s' used f (Err halt.NoMemory) m same at h = no_room d way before after a next m h

  -- want of memory that a call passes on
  pub halts_err : (d : State) (before after : Log) (s' : Parts) (used : ℕ) (r : Result Stage Halt)
      → IsErrAnd r (λ x. x ≡ halt.NoMemory) → RunHalts s.unit d before after
      → CallLeadsTo s cpus budget d before after s' used r
  halts_err d before after s' used (Ok g) is h = absurd is
  halts_err d before after s' used (Err e) is h =
      subst (λ x. CallLeadsTo s cpus budget d before after s' used (Err x)) (sym is) h

-- a state whose tasks have changed, by its parts
pub tasks_put : (s0 s : Parts) → s0 ≡ s → (ts : List Task) (f : List Task → List Task) → ts ≡ f s0.tasks
    → with_tasks (f s.tasks) s ≡ with_tasks ts s0
tasks_put s0 s same ts f e = ap (λ (z : Parts). with_tasks (f z.tasks) z) (sym same) ∙ ap (λ x. with_tasks x s0) (sym e)
