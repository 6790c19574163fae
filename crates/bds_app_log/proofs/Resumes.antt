-- What a call on a file comes to, its steps lead to.
use Rattle.std.proofs.Common.{◌≡◌, ◌∙◌, ◌⊎◌, inl, inr, ℕ, List, Result, Ok, Err, ap, refl}
use Rattle.bds_host.specs.declared.asks.Ask.TheVariants.{Read, Err as Tells}
use Rattle.bds_host.specs.declared.asks.Reply.{Reply}
use Rattle.bds_host.specs.declared.asks.Reply.TheVariants as reply
use Rattle.bds_host.specs.declared.faults.Fault.{Fault}
use Rattle.bds_host.specs.declared.faults.Fault.TheVariants as fault
use Rattle.bds_host.specs.Host.{Log, Answered}
use Rattle.bds_host.specs.Message.{message_of}
use Rattle.bds_code.specs.declared.unit.Unit.{Unit as CodeUnit}
use Rattle.bds_schedule.specs.Stages.{End, Done, Spent, DeviceFault}
use Rattle.bds_schedule.specs.Steps.{Leads}
use Rattle.bds_sim.specs.MachineRun.{State}
use Rattle.bds_sim.specs.MachineRun as machine
use Rattle.bds_state.specs.Parts.{Parts}
use Rattle.bds_engine_parts.specs.Seen.{revived_state}
use Rattle.bds_engine_parts.specs.Image.{image}
use Rattle.bds_engine_parts.specs.Run.{ComesTo}
use Rattle.bds_engine_parts.specs.Seen.{opening}
use Rattle.bds_engine_parts.specs.declared.stop.RunStop.{RunStop}
use Rattle.bds_engine_parts.specs.declared.stop.RunStop.TheVariants as run_stop
use Rattle.bds_engine_parts.proofs.WholeRuns.{ends_plainly}
use Rattle.bds_app_run.specs.Commands.{OpensFile, ResumesFile, run_outcome}
use Rattle.bds_app_run.specs.Resume.{HoldsState, HoldsNone, GoesOn}
use Rattle.bds_app_run.specs.Telling.{Says, TellsDevice, TellsFault}
use Rattle.bds_app_run.specs.declared.outcome.Outcome.{Outcome}
use Rattle.bds_app_run.specs.declared.outcome.Outcome.TheVariants.{Ended, BadFile, Device, NoMemory, Ticks}
use Rattle.bds_app_log.proofs.Files.{AtEnd, Failing, FileEnd, FileStage, FileSteps, Loading, Running, Telling, Unread}
use Rattle.bds_app_log.proofs.Files.{bad_file, device, in_unit, opened, or_failing, ran, read_gives, run_at}

abbrev pub run_end : End → Outcome
run_end (Done status) = Ended status
run_end Spent = Ticks
run_end DeviceFault = Device

-- how the end of a call on a file is answered
abbrev pub file_outcome : FileEnd → Outcome
file_outcome (ran e) = run_end e
file_outcome bad_file = BadFile
file_outcome device = Device

module _ (path : List ℕ) (cpus ticks : ℕ) (before : Log) where
  abbrev Led : FileStage → Log → Type 0
  Led s log = Leads (FileSteps path cpus ticks) Unread before s log

  -- steps led to an end that is answered so, or there was no memory
  abbrev pub ComesSo : Log → Outcome → Type 0
  ComesSo after o = (o ≡ NoMemory) ⊎ ((e : FileEnd) × ((o ≡ file_outcome e) × Led (AtEnd e) after))

  run_leads : (u : CodeUnit) (a : State) (mid : Log) → Led (Running (run_at u a)) mid → (d : State) (after : Log)
      → Leads (machine.Moves u u.files (image u)) a mid d after → Led (Running (run_at u d)) after
  run_leads u a mid first _ _ Leads.here = first
  run_leads u a mid first d after (Leads.goes s _ _ l m) =
      Leads.goes (Running (run_at u s)) (Running (run_at u d)) after (run_leads u a mid first s after l)
      (FileSteps.run_goes (run_at u s) (run_at u d) (ap (in_unit u) m))
  run_leads u a mid first _ after (Leads.asks s log _ ask next r l m answered) =
      Leads.asks (Running (run_at u s)) log after ask (λ reply. Running (run_at u (next reply))) r
      (run_leads u a mid first s log l)
      (FileSteps.run_asks (run_at u s) ask (λ reply. run_at u (next reply)) (ap (in_unit u) m)) answered

  run_comes : (s : Parts) (mid after : Log) (e : End) → Led (Running (opened path cpus ticks s)) mid
      → ComesTo (revived_state s) cpus ticks mid after e → Led (AtEnd (ran e)) after
  run_comes s mid after e first h =
      let u = (revived_state s).unit in
      let x = ends_plainly u (opening (revived_state s) cpus ticks) mid after e h in
      Leads.goes (Running (run_at u x.0)) (AtEnd (ran e)) after
      (run_leads u (opening (revived_state s) cpus ticks) mid first x.0 after x.1)
      (FileSteps.run_ends (run_at u x.0) e (ap (in_unit u) x.2))

  goes_comes : (s : Parts) (mid after : Log) (r : Result ℕ RunStop) → Led (Running (opened path cpus ticks s)) mid
      → GoesOn cpus ticks s mid after r → ComesSo after (run_outcome r)
  goes_comes s mid after (Ok status) first h =
      inr (ran (Done status), (refl, run_comes s mid after (Done status) first h))
  goes_comes s mid after (Err run_stop.Device) first h =
      inr (ran DeviceFault, (refl, run_comes s mid after DeviceFault first h))
  goes_comes s mid after (Err run_stop.Ticks) first h = inr (ran Spent, (refl, run_comes s mid after Spent first h))
  goes_comes s mid after (Err run_stop.NoMemory) first h = inl refl

  so : (after : Log) (o o' : Outcome) → o ≡ o' → ComesSo after o' → ComesSo after o
  so after o o' is (inl none) = inl (is ∙ none)
  so after o o' is (inr h) = inr (h.0, (is ∙ h.1.0, h.1.1))

  device_comes : (mid after : Log) (o : Outcome) → Led Failing mid → TellsDevice mid after o → ComesSo after o
  device_comes mid after _ first (TellsDevice.told_so r a) =
      inr (
        device,
        (
          refl,
          Leads.asks Failing mid after (Tells (message_of fault.Device)) (λ reply. AtEnd device) r first
              FileSteps.fails a,
        ),
      )
  device_comes mid after _ first (TellsDevice.untold room) = inl refl

  told_comes : (f : Fault) (mid after : Log) (o : Outcome) → Led (Telling f) mid → TellsFault f BadFile mid after o
      → ComesSo after o
  told_comes f mid after _ first (Says.said a) =
      inr (
        bad_file,
        (
          refl,
          Leads.asks (Telling f) mid after (Tells (message_of f)) (or_failing (AtEnd bad_file))
              reply.Done first (FileSteps.tells f) a,
        ),
      )
  told_comes f mid after o first (Says.faulted log _ a t) =
      device_comes log after o (Leads.asks (Telling f) mid log (Tells (message_of f)) (or_failing (AtEnd bad_file))
      reply.Fault first (FileSteps.tells f) a) t
  told_comes f mid after _ first (Says.no_memory room) = inl refl

  read_leads : (log : Log) (r : Reply) → Answered before log (Read path) r → Led (read_gives path r) log
  read_leads log r a = Leads.asks Unread before log (Read path) (read_gives path) r Leads.here FileSteps.reads a

  held_leads : (s : Parts) (log : Log) → HoldsState path s before log → Led (Running (opened path cpus ticks s)) log
  held_leads s log h = Leads.goes (Loading h.bytes) (Running (opened path cpus ticks s)) log
      (read_leads log (reply.Bytes h.bytes) h.read) (FileSteps.loads h.bytes s h.loadable)

  none_leads : (f : Fault) (log : Log) → HoldsNone path before log f → Led (Telling f) log
  none_leads _ log (HoldsNone.missing a) = read_leads log reply.Missing a
  none_leads _ log (HoldsNone.not_loadable bytes a none) =
      Leads.goes (Loading bytes) (Telling (fault.NotLoadable path)) log (read_leads log (reply.Bytes bytes) a)
      (FileSteps.holds_none bytes none)

  pub file_comes : (after : Log) (o : Outcome) → ResumesFile cpus ticks path before after o → ComesSo after o
  file_comes after o (OpensFile.held s log _ holds h) =
      so after o (run_outcome h.0) h.1.1 (goes_comes s log after h.0 (held_leads s log holds) h.1.0)
  file_comes after o (OpensFile.bad_file f log _ none told) = told_comes f log after o (none_leads f log none) told
  file_comes after o (OpensFile.unread log _ a told) = device_comes log after o (read_leads log reply.Fault a) told
  file_comes after _ (OpensFile.unloaded lacked) = inl refl
