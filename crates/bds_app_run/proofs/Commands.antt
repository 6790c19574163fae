-- From the parts of a command to what it does.
use Rattle.std.proofs.Common.{ℕ, ◌≡◌, false, List, [], Ok, Err, sym, subst}
use Rattle.bds_host.specs.Host.{Log}
use Rattle.bds_state.specs.Parts.{Parts}
use Rattle.bds_ckpt.specs.Loading.{GivesState}
use Rattle.bds_ckpt.specs.declared.fault.LoadFault.{LoadFault}
use Rattle.bds_ckpt.specs.declared.fault.LoadFault.TheVariants as load
use Rattle.bds_meaning.specs.Begin.{Reading, Faulting, AtEnd, ran, IsOnWay}
use Rattle.bds_schedule.specs.Stages.{DeviceFault as DeviceFailed}
use Rattle.bds_app_run.specs.Commands.{OpensFile, RunsScript, outcome_of}
use Rattle.bds_app_run.specs.Telling.{TellsDevice}
use Rattle.bds_app_run.specs.Ways.{Reaches, RefusesFile, at_end, end_of, is_want}
use Rattle.bds_app_run.specs.declared.call.Call.{Call}
use Rattle.bds_app_run.specs.declared.ending.Ending.{Ending}
use Rattle.bds_app_run.specs.declared.outcome.Outcome.{Outcome}
use Rattle.bds_app_run.specs.declared.stop.Stop.TheVariants as stop
use Rattle.bds_app_run.proofs.Leading.{device_told, device_untold, halts_on, leads_on}

-- bytes that aren't loaded, though memory wasn't wanting, are those of no state
pub none_loaded : (s : Parts) (f : LoadFault) → is_want f ≡ false → GivesState s (Err f) → ⊥
none_loaded s (load.Short at) e h = h
none_loaded s (load.BadTag at byte) e h = h
none_loaded s (load.BadNumber at n) e h = h
none_loaded s (load.NotRising at) e h = h
none_loaded s (load.Extra at) e h = h
none_loaded s (load.BadSum at) e h = h
none_loaded s (load.Unverified function at) e h = h
none_loaded s (load.BadThread n) e h = h
none_loaded s (load.BadFrame n i) e h = h
none_loaded s (load.BadTask n) e h = h
none_loaded s (load.BadRule n) e h = h
none_loaded s load.NoMemory e h = absurd (cc e)

-- the answer of a job that came so far
module _ (c : Call) (before : Log) where
  pub runs_to_end : (after : Log) (end : Ending) (o : Outcome) → o ≡ outcome_of (end_of end) → Reaches c (Reading []) before after at_end (Ok end) → RunsScript c before after o
  runs_to_end after end o e h = subst (λ x. RunsScript c before after x) (sym e) (RunsScript.came (end_of end) h)

  pub runs_to_fault : (between after : Log) (o : Outcome) → Reaches {T = Ending} c (Reading []) before between at_end (Err stop.Fault) → TellsDevice between after o → RunsScript c before after o
  runs_to_fault between after _ h (TellsDevice.told_so r a) = RunsScript.came (ran DeviceFailed) (leads_on (Reading []) Faulting before between h (AtEnd (ran DeviceFailed)) after (device_told c r between after a))
  runs_to_fault between after _ h (TellsDevice.untold room) = RunsScript.no_memory (halts_on (Reading []) Faulting before between h IsOnWay after (device_untold c between after room))

-- whatever is done with states, it is told why there is none
pub opens_refused : (path : List ℕ) (Does : Parts → Log → Log → Outcome → Type 0) (before after : Log) (o : Outcome) → RefusesFile path before after o → OpensFile path Does before after o
opens_refused path Does before after o (RefusesFile.bad_file f log _ none told) = OpensFile.bad_file f log o none told
opens_refused path Does before after o (RefusesFile.unread log _ a told) = OpensFile.unread log o a told
opens_refused path Does before after _ (RefusesFile.unloaded none) = OpensFile.unloaded none
