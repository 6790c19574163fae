-- Steps of a run that stops.
use Rattle.std.proofs.Common.{◌≡◌, ◌≢◌, ℕ, List, [], ◌∷◌, Result, Ok, refl, sym, ap, ◌∙◌, subst}
use Rattle.bds_host.specs.declared.asks.Ask.TheVariants.{Err as Tells, Next, Save}
use Rattle.bds_host.specs.declared.asks.Reply.{Reply}
use Rattle.bds_host.specs.declared.asks.Reply.TheVariants as reply
use Rattle.bds_host.specs.declared.faults.Fault.{Fault}
use Rattle.bds_host.specs.declared.faults.Fault.TheVariants as fault
use Rattle.bds_host.specs.Host.{Log, Answered, FoundNoRoom}
use Rattle.bds_host.specs.Message.{message_of}
use Rattle.bds_ckpt.specs.Loading.{Loadable}
use Rattle.bds_tasks.specs.Ends.{ended}
use Rattle.bds_tasks.specs.Tasks.{running}
use Rattle.bds_schedule.specs.Configuration.{IsOnWay, Mode, stopping, saving, faulted, fault_told, done, in_mode}
use Rattle.bds_schedule.specs.Configuration as meaning
use Rattle.bds_schedule.specs.Moves.{move, move_in}
use Rattle.bds_schedule.specs.Stages.{End, checkpoint_of, stopped, told, task_ended}
use Rattle.bds_schedule.specs.Stages as stages
use Rattle.bds_schedule.specs.Steps.{Step, Asks as AsksNext, Halts, Leads}
use Rattle.bds_rank.specs.Machine.{LeadsOn}
use Rattle.bds_sim.specs.MachineRun.{State}
use Rattle.bds_sim.specs.Row.{row_step}
use Rattle.bds_state.specs.Parts.{Parts, with_tasks}
use Rattle.bds_state.specs.StateSpelling.{spells2}
use Rattle.bds_state.specs.Valid.{IsValid}
use Rattle.bds_engine_parts.specs.Image.{image}
use Rattle.bds_engine_parts.specs.Saving.{RunHalts, SavesState}
use Rattle.bds_engine_parts.specs.Seen.{seen}
use Rattle.bds_engine_parts.proofs.Images.{same_state}
use Rattle.bds_engine_stages.specs.declared.stage.Cause.{Cause}
use Rattle.bds_engine_stages.specs.declared.stage.Cause.TheVariants as cause
use Rattle.bds_engine_stages.specs.declared.stage.Stage.{Stage}
use Rattle.bds_engine_stages.specs.declared.stage.Stage.TheVariants as stage
use Rattle.bds_engine_stages.specs.declared.stop.Halt.{Halt}
use Rattle.bds_engine_stages.specs.Steps.{AsksThen, IsAt, Leads_to, CallLeadsTo, cause_seen, mode_seen, or_faulted}
use Rattle.bds_engine_stages.proofs.Joining.{asks_reach, no_room}

module _ (s : Parts) (cpus budget used : ℕ) where
  abbrev next : State → Step State End
  next d = move s.unit.files (image s.unit) (row_step s.unit) d

  abbrev At : Stage → State → Type 0
  At g d = IsAt s cpus budget used g d

  -- what the machine stands at while it stops: its tasks are those of the state
  mode_is : (g : Stage) (d : State) → At g d → d.mode ≡ mode_seen g
  mode_is g _ (IsAt.whole _) = refl
  mode_is _ _ (IsAt.bare c ts b) = refl
  mode_is g d (IsAt.over _ _ o e) = e

  tasks_are : (c : Cause) (d : State) → At (stage.Stopping c) d → d.tasks ≡ s.tasks
  tasks_are c _ (IsAt.whole _) = refl
  tasks_are c _ (IsAt.bare _ ts b) = refl
  tasks_are c d (IsAt.over _ _ o e) = absurd o

  stops_next : (c : Cause) (d : State) → At (stage.Stopping c) d → next d ≡ stopped d (cause_seen c) (running s.tasks)
  stops_next c d at = ap (move_in s.unit.files (image s.unit) (row_step s.unit) d) (mode_is (stage.Stopping c) d at) ∙ ap (λ ts. stopped d (cause_seen c) (running ts)) (tasks_are c d at)

  tells_next : (c : Cause) (d : State) → At (stage.Stopping c) d → running s.tasks ≡ [] → next d ≡ told d (cause_seen c)
  tells_next c d at none = stops_next c d at ∙ ap (λ ns. stopped d (cause_seen c) ns) none

  on_way : (c : Cause) (d : State) → At (stage.Stopping c) d → IsOnWay d.mode
  on_way c d at = subst IsOnWay (sym (mode_is (stage.Stopping c) d at)) tt

  ended_at : (c : Cause) (n code : ℕ) (d : State) → At (stage.Stopping c) d → IsAt (with_tasks (ended n code s.tasks) s) cpus budget used (stage.Stopping c) (meaning.with_tasks (ended n code d.tasks) d)
  ended_at c n code _ (IsAt.whole _) = IsAt.whole (stage.Stopping c)
  ended_at c n code _ (IsAt.bare _ ts b) = IsAt.bare c ts b
  ended_at c n code d (IsAt.over _ _ o e) = absurd o

  -- The ends of tasks

  asks_on : (d : State) (c : Cause) (ns : List ℕ) → ns ≢ [] → stopped d (cause_seen c) ns ≡ stages.asking d (Next [] ns) (task_ended d)
  asks_on d c [] some = absurd (some refl)
  asks_on d c (n ∷ ns) some = refl

  module _ (c : Cause) (d : State) (at : At (stage.Stopping c) d) (ns : List ℕ) (e : ns ≡ running s.tasks) (some : ns ≢ []) where
    ends_next : next d ≡ stages.asking d (Next [] ns) (task_ended d)
    ends_next = stops_next c d at ∙ ap (λ xs. stopped d (cause_seen c) xs) (sym e) ∙ asks_on d c ns some

    pub end_halts : (before after : Log) → FoundNoRoom before after (Next [] ns) → RunHalts s.unit d before after
    end_halts before after h = no_room s cpus budget d (on_way c d at) before after (Next [] ns) (λ r. stages.unless_fault d r (task_ended d r)) (ends_next, tt) h

    pub end_faults : (before after : Log) → Answered before after (Next [] ns) reply.Fault → Leads_to s cpus budget d before after s used stage.Faulted
    end_faults before after answered = record {
      unit = refl;
      d' = in_mode faulted d;
      is = IsAt.over stage.Faulted (in_mode faulted d) tt refl;
      leads = LeadsOn.asks d before after (Next [] ns) (λ r. stages.unless_fault d r (task_ended d r)) reply.Fault Leads.here (ends_next, tt) answered;
    }

    pub end_comes : (before after : Log) (n code : ℕ) → Answered before after (Next [] ns) (reply.Ended n code) → Leads_to s cpus budget d before after (with_tasks (ended n code s.tasks) s) used (stage.Stopping c)
    end_comes before after n code answered = record {
      unit = refl;
      d' = meaning.with_tasks (ended n code d.tasks) d;
      is = ended_at c n code d at;
      leads = LeadsOn.asks d before after (Next [] ns) (λ r. stages.unless_fault d r (task_ended d r)) (reply.Ended n code) Leads.here (ends_next, tt) answered;
    }

  -- the same behind a fault, and a stage that is over behind another reply
  ends_behind : (d : State) (m : ℕ) (r : Reply) → At (or_faulted (stage.Done m) r) (stages.unless_fault d r (in_mode (done m) d))
  ends_behind d m (reply.Bytes text) = IsAt.over (stage.Done m) (in_mode (done m) d) tt refl
  ends_behind d m reply.Missing = IsAt.over (stage.Done m) (in_mode (done m) d) tt refl
  ends_behind d m (reply.Stamp there size time) = IsAt.over (stage.Done m) (in_mode (done m) d) tt refl
  ends_behind d m reply.Done = IsAt.over (stage.Done m) (in_mode (done m) d) tt refl
  ends_behind d m (reply.SysDone code out) = IsAt.over (stage.Done m) (in_mode (done m) d) tt refl
  ends_behind d m reply.Started = IsAt.over (stage.Done m) (in_mode (done m) d) tt refl
  ends_behind d m (reply.Run k) = IsAt.over (stage.Done m) (in_mode (done m) d) tt refl
  ends_behind d m (reply.Ended n code) = IsAt.over (stage.Done m) (in_mode (done m) d) tt refl
  ends_behind d m reply.Fault = IsAt.over stage.Faulted (in_mode faulted d) tt refl
  ends_behind d m reply.NoRoom = IsAt.over (stage.Done m) (in_mode (done m) d) tt refl

  whole_behind : (g : Stage) (m : Mode) (d : State) → d ≡ seen s cpus budget used m → (r : Reply) → At (or_faulted g r) (stages.unless_fault d r (seen s cpus budget used (mode_seen g)))
  whole_behind g m d e (reply.Bytes text) = IsAt.whole g
  whole_behind g m d e reply.Missing = IsAt.whole g
  whole_behind g m d e (reply.Stamp there size time) = IsAt.whole g
  whole_behind g m d e reply.Done = IsAt.whole g
  whole_behind g m d e (reply.SysDone code out) = IsAt.whole g
  whole_behind g m d e reply.Started = IsAt.whole g
  whole_behind g m d e (reply.Run k) = IsAt.whole g
  whole_behind g m d e (reply.Ended n code) = IsAt.whole g
  whole_behind g m d e reply.Fault = IsAt.over stage.Faulted (in_mode faulted d) tt refl
  whole_behind g m d e reply.NoRoom = IsAt.whole g

  -- an exit
  pub exits : (d : State) (before : Log) (status : ℕ) → running s.tasks ≡ [] → At (stage.Stopping (cause.Exited status)) d → CallLeadsTo s cpus budget d before before s used (Ok (stage.Done status))
  exits d before status none at = record {
    unit = refl;
    d' = in_mode (done status) d;
    is = IsAt.over (stage.Done status) (in_mode (done status) d) tt refl;
    leads = LeadsOn.goes d (in_mode (done status) d) before Leads.here (tells_next (cause.Exited status) d at none, tt);
  }

  -- want of memory before anything is asked
  pub halts : (c : Cause) (d : State) (before : Log) → At (stage.Stopping c) d → RunHalts s.unit d before before
  halts c d before at = Halts.halts_at d (on_way c d at) Leads.here

  -- a fault is told
  pub tells_fault : (d : State) (before after : Log) (f : Fault) (text : List ℕ) (r : Result Stage Halt) → running s.tasks ≡ [] → At (stage.Stopping (cause.Failed f)) d → text ≡ message_of f
      → AsksThen (Tells text) before after (or_faulted (stage.Done 1)) r → CallLeadsTo s cpus budget d before after s used r
  tells_fault d before after f text r none at is h =
      asks_reach s cpus budget d (on_way (cause.Failed f) d at) before after (Tells text) (λ r. stages.unless_fault d r (in_mode (done 1) d)) s used (or_faulted (stage.Done 1)) r
      (tells_next (cause.Failed f) d at none ∙ ap (λ x. AsksNext (Tells x) (λ r. stages.unless_fault d r (in_mode (done 1) d))) (sym is), tt)
      refl (λ r answered. ends_behind d 1 r) h

  whole_of : (n code : ℕ) (d : State) → At (stage.Stopping (cause.TaskFailed n code)) d → d ≡ seen s cpus budget used (stopping (meaning.task_failed n code))
  whole_of n code _ (IsAt.whole _) = refl
  whole_of n code _ (IsAt.bare _ ts b) = absurd b
  whole_of n code d (IsAt.over _ _ o e) = absurd o

  -- a task that failed is told
  pub tells_task : (d : State) (before after : Log) (n code : ℕ) (text : List ℕ) (r : Result Stage Halt) → running s.tasks ≡ [] → At (stage.Stopping (cause.TaskFailed n code)) d → text ≡ message_of (fault.TaskFailed n code)
      → AsksThen (Tells text) before after (or_faulted stage.Saving) r → CallLeadsTo s cpus budget d before after s used r
  tells_task d before after n code text r none at is h =
      let e : d ≡ seen s cpus budget used (stopping (meaning.task_failed n code)) = whole_of n code d at in
      asks_reach s cpus budget d (on_way (cause.TaskFailed n code) d at) before after (Tells text) (λ r. stages.unless_fault d r (in_mode saving d)) s used (or_faulted stage.Saving) r
      (tells_next (cause.TaskFailed n code) d at none ∙ ap (λ x. AsksNext (Tells x) (λ r. stages.unless_fault d r (in_mode saving d))) (sym is), tt)
      refl (λ r answered. subst (λ z. At (or_faulted stage.Saving r) (stages.unless_fault d r z)) (ap (λ z. in_mode saving z) (sym e)) (whole_behind stage.Saving (stopping (meaning.task_failed n code)) d e r)) h

  -- Saving

  saved_whole : (d : State) → At stage.Saving d → d ≡ seen s cpus budget used saving
  saved_whole _ (IsAt.whole _) = refl
  saved_whole d (IsAt.over _ _ o e) = absurd o

  pub saves_next : IsValid s → (d : State) → At stage.Saving d → (path bytes : List ℕ) → path ≡ checkpoint_of s.path → bytes ≡ spells2 s → next d ≡ AsksNext (Save path bytes) (λ r. stages.unless_fault d r (in_mode (done 1) d))
  saves_next valid d at path bytes p b =
      let e : d ≡ seen s cpus budget used saving = saved_whole d at in
      let i : image s.unit d ≡ spells2 s = ap (image s.unit) e ∙ ap spells2 (same_state s valid cpus budget used saving) in
      ap (move_in s.unit.files (image s.unit) (row_step s.unit) d) (mode_is stage.Saving d at)
      ∙ ap (λ x. AsksNext (Save (checkpoint_of d.path) x) (λ r. stages.unless_fault d r (in_mode (done 1) d))) (i ∙ sym b)
      ∙ ap (λ x. AsksNext (Save x bytes) (λ r. stages.unless_fault d r (in_mode (done 1) d))) (ap (λ (z : State). checkpoint_of z.path) e ∙ sym p)

  -- what is saved is the state, and the run ends with it
  saves_whole : (d : State) → At stage.Saving d → (bytes : List ℕ) → Loadable bytes s → SavesState s.unit bytes (in_mode (done 1) d)
  saves_whole d at bytes loads = record { state = s; unit = refl; loads = loads; is = ap (λ z. in_mode (done 1) z) e ∙ ap (λ (z : State). seen s z.cpus z.budget z.used (done 1)) (sym e) }
    where
      e : d ≡ seen s cpus budget used saving
      e = saved_whole d at

  pub save_halts : (d : State) (before : Log) → At stage.Saving d → RunHalts s.unit d before before
  save_halts d before at = Halts.halts_at d (subst IsOnWay (sym (mode_is stage.Saving d at)) tt) Leads.here

  pub saves : (d : State) → At stage.Saving d → (before after : Log) (path bytes : List ℕ) (r : Result Stage Halt) → path ≡ checkpoint_of s.path → bytes ≡ spells2 s → Loadable bytes s
      → AsksThen (Save path bytes) before after (or_faulted (stage.Done 1)) r → CallLeadsTo s cpus budget d before after s used r
  saves d at before after path bytes r p b loads h =
      asks_reach s cpus budget d (subst IsOnWay (sym (mode_is stage.Saving d at)) tt) before after (Save path bytes) (λ r. stages.unless_fault d r (in_mode (done 1) d)) s used (or_faulted (stage.Done 1)) r
      (saves_next loads.valid d at path bytes p b, saves_whole d at bytes loads) refl (λ r answered. ends_behind d 1 r) h

  -- The device's fault

  pub device_halts : (d : State) (before : Log) → At stage.Faulted d → RunHalts s.unit d before before
  device_halts d before at = Halts.halts_at d (subst IsOnWay (sym (mode_is stage.Faulted d at)) tt) Leads.here

  device_next : (d : State) → At stage.Faulted d → (text : List ℕ) → text ≡ message_of fault.Device → next d ≡ AsksNext (Tells text) (λ r. in_mode fault_told d)
  device_next d at text is = ap (move_in s.unit.files (image s.unit) (row_step s.unit) d) (mode_is stage.Faulted d at) ∙ ap (λ x. AsksNext (Tells x) (λ r. in_mode fault_told d)) (sym is)

  pub device_asks : (d : State) → At stage.Faulted d → (before after : Log) (text : List ℕ) (r : Result Stage Halt) → text ≡ message_of fault.Device → AsksThen (Tells text) before after (λ r. stage.Told) r → CallLeadsTo s cpus budget d before after s used r
  device_asks d at before after text r is h =
      asks_reach s cpus budget d (subst IsOnWay (sym (mode_is stage.Faulted d at)) tt) before after (Tells text) (λ r. in_mode fault_told d) s used (λ r. stage.Told) r
      (device_next d at text is, tt) refl (λ r answered. IsAt.over stage.Told (in_mode fault_told d) tt refl) h
