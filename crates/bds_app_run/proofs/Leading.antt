-- The job of a call, one step after the other.
use Rattle.std.proofs.Common.{subst, sym, inl, inr, Result, Ok, Err}
use Rattle.bds_host.specs.declared.asks.Ask.{Ask}
use Rattle.bds_host.specs.declared.asks.Ask.TheVariants.{Err as Tells}
use Rattle.bds_host.specs.declared.asks.Reply.{Reply}
use Rattle.bds_host.specs.declared.asks.Reply.TheVariants.{Done, Fault as Faulted}
use Rattle.bds_host.specs.declared.faults.Fault.{Fault as AFault}
use Rattle.bds_host.specs.declared.faults.Fault.TheVariants as fault
use Rattle.bds_host.specs.Host.{Log, Answered, FoundNoRoom}
use Rattle.bds_host.specs.Message.{message_of}
use Rattle.bds_meaning.specs.Begin.{ran, refused, Stage, Refusing, Faulting, AtEnd, Steps, IsOnWay, or_faulting}
use Rattle.bds_schedule.specs.Stages.{DeviceFault as DeviceFailed}
use Rattle.bds_schedule.specs.Steps.{Step, Goes, Asks, Leads, Halts}
use Rattle.bds_app_run.specs.declared.stop.Stop.{Stop}
use Rattle.bds_app_run.specs.declared.stop.Stop.TheVariants.{Fault, NoMemory}
use Rattle.bds_app_run.specs.Job.{JobSteps}
use Rattle.bds_app_run.specs.declared.call.Call.{Call}
use Rattle.bds_app_run.specs.Asks.{IsAskDone}
use Rattle.bds_app_run.specs.Ways.{Reaches}

module _ {S E : Type 0} {Steps : S → Step S E → Type 0} (from middle : S) (before between : Log) (first : Leads Steps from before middle between) where
  pub leads_on : (to : S) (after : Log) → Leads Steps middle between to after → Leads Steps from before to after
  leads_on to after Leads.here = first
  leads_on to after (Leads.goes s t log there step) = Leads.goes s t log (leads_on s log there) step
  leads_on to after (Leads.asks s log after' ask next reply there step answered) = Leads.asks s log after' ask next reply (leads_on s log there) step answered

  pub halts_on : (On : S → Type 0) (after : Log) → Halts Steps On middle between after → Halts Steps On from before after
  halts_on On after (Halts.halts_at s on there) = Halts.halts_at s on (leads_on s after there)
  halts_on On after (Halts.halts_asking s log ask next there step e) = Halts.halts_asking s log ask next (leads_on s log there) step e

module _ (c : Call) where
  pub reaches_on : {T : Type 0} (from middle : Stage) (before between after : Log) (to : T → Stage) (r : Result T Stop)
      → Leads (JobSteps c) from before middle between → Reaches c middle between after to r → Reaches c from before after to r
  reaches_on from middle before between after to (Ok x) first rest = leads_on from middle before between first (to x) after rest
  reaches_on from middle before between after to (Err Fault) first rest = leads_on from middle before between first Faulting after rest
  reaches_on from middle before between after to (Err NoMemory) first rest = halts_on from middle before between first IsOnWay after rest

  -- a stage that goes on by itself
  pub reaches_by : {T : Type 0} (from middle : Stage) (before after : Log) (to : T → Stage) (r : Result T Stop) → JobSteps c from (Goes middle) → Reaches c middle before after to r
      → Reaches c from before after to r
  reaches_by from middle before after to r step rest = reaches_on from middle before before after to r (Leads.goes from middle before Leads.here step) rest

  -- an ask that found no memory
  halts_at_ask : (s : Stage) (ask : Ask) (next : Reply → Stage) (before after : Log) → IsOnWay s → JobSteps c s (Asks ask next) → FoundNoRoom before after ask → Halts (JobSteps c) IsOnWay s before after
  halts_at_ask s ask next before after on step (inl same) = let P : Log → Type 0 = λ log. Halts (JobSteps c) IsOnWay s before log in subst P (sym same) (Halts.halts_at s on Leads.here)
  halts_at_ask s ask next before after on step (inr more) = Halts.halts_asking s before ask next Leads.here step more

  -- why a job isn't run is told
  pub refusal_told : (f : AFault) (before after : Log) (r : Result Unit Stop) → IsAskDone (Tells (message_of f)) before after r → Reaches c (Refusing f) before after (λ _. AtEnd refused) r
  refusal_told f before after (Ok u) told = Leads.asks (Refusing f) before after (Tells (message_of f)) (or_faulting (AtEnd refused)) Done Leads.here (Steps.refuses f) told
  refusal_told f before after (Err Fault) told = Leads.asks (Refusing f) before after (Tells (message_of f)) (or_faulting (AtEnd refused)) Faulted Leads.here (Steps.refuses f) told
  refusal_told f before after (Err NoMemory) told = halts_at_ask (Refusing f) (Tells (message_of f)) (or_faulting (AtEnd refused)) before after tt (Steps.refuses f) told

  -- and where it wasn't told
  pub refusal_untold : {T : Type 0} (f : AFault) (before after : Log) (to : T → Stage) (e : Stop) → IsAskDone (Tells (message_of f)) before after (Err e) → Reaches {T = T} c (Refusing f) before after to (Err e)
  refusal_untold f before after to Fault told = Leads.asks (Refusing f) before after (Tells (message_of f)) (or_faulting (AtEnd refused)) Faulted Leads.here (Steps.refuses f) told
  refusal_untold f before after to NoMemory told = halts_at_ask (Refusing f) (Tells (message_of f)) (or_faulting (AtEnd refused)) before after tt (Steps.refuses f) told

  -- a fault is told
  pub device_told : (reply : Reply) (before after : Log) → Answered before after (Tells (message_of fault.Device)) reply → Leads (JobSteps c) Faulting before (AtEnd (ran DeviceFailed)) after
  device_told reply before after answered = Leads.asks Faulting before after (Tells (message_of fault.Device)) (λ _. AtEnd (ran DeviceFailed)) reply Leads.here Steps.faults answered

  pub device_untold : (before after : Log) → FoundNoRoom before after (Tells (message_of fault.Device)) → Halts (JobSteps c) IsOnWay Faulting before after
  device_untold before after room = halts_at_ask Faulting (Tells (message_of fault.Device)) (λ _. AtEnd (ran DeviceFailed)) before after tt Steps.faults room
