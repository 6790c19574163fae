-- Each ask of a script that is run, and of a file that is resumed, has found room, or each but the last.
use Rattle.std.proofs.Common.{◌≡◌, ◌∙◌, ◌++◌, inl, inr, ℕ, List, [], ◌∷◌, Result, Ok, Err, sym, ap, subst}
use Rattle.std.proofs.Common.{append_assoc, append-nil}
use Rattle.std.specs.Prelude.{◌≢◌}
use Rattle.bds_host.specs.declared.asks.Ask.{Ask}
use Rattle.bds_host.specs.declared.asks.Ask.TheVariants.{Read, Err as Tells}
use Rattle.bds_host.specs.declared.asks.Reply.{Reply}
use Rattle.bds_host.specs.declared.asks.Reply.TheVariants as reply
use Rattle.bds_host.specs.declared.faults.Fault.{Fault as AFault}
use Rattle.bds_host.specs.declared.faults.Fault.TheVariants as fault
use Rattle.bds_host.specs.Host.{Log, FoundNoRoom}
use Rattle.bds_host.specs.Message.{message_of}
use Rattle.bds_meaning.specs.Begin.{Reading}
use Rattle.bds_schedule.specs.Steps.{Step, Leads, Halts}
use Rattle.bds_state.specs.Parts.{Parts}
use Rattle.bds_engine_parts.specs.Seen.{revived_state}
use Rattle.bds_engine_parts.specs.Saving.{Moves}
use Rattle.bds_engine_parts.specs.Seen.{opening}
use Rattle.bds_engine_parts.specs.declared.stop.RunStop.{RunStop}
use Rattle.bds_engine_parts.specs.declared.stop.RunStop.TheVariants as run_stop
use Rattle.bds_app_run.specs.Commands.{GoesOnTo, OpensFile, ResumesFile, RunsScript, run_outcome}
use Rattle.bds_app_run.specs.Job.{JobSteps}
use Rattle.bds_app_run.specs.Resume.{HoldsState, HoldsNone, IsUnloaded, GoesOn}
use Rattle.bds_app_run.specs.Telling.{Says, TellsDevice}
use Rattle.bds_app_run.specs.declared.call.Call.{Call}
use Rattle.bds_app_run.specs.declared.outcome.Outcome.{Outcome}
use Rattle.bds_app_run.specs.declared.outcome.Outcome.TheVariants.{BadFile, NoMemory}
use Rattle.bds_app_run.specs.Rooms.{FoundRoom, HaveRoom}

-- each ask that was added so far has found room
record Roomy (before after : Log) : Type 0 where
  pub pairs : Log
  pub room : HaveRoom pairs
  pub grown : after ≡ before ++ pairs

nothing_asked : (log : Log) → Roomy log log
nothing_asked log = record { pairs = []; room = tt; grown = sym (append-nil log) }

one_more : (ps : Log) (a : Ask) (r : Reply) → HaveRoom ps → r ≢ reply.NoRoom → HaveRoom (ps ++ (a, r) ∷ [])
one_more [] a r h told = (told, tt)
one_more (p ∷ ps) a r h told = (h.0, one_more ps a r h.1 told)

module _ (before log : Log) (so_far : Roomy before log) where
  added : (after more : Log) → after ≡ log ++ more → after ≡ before ++ (so_far.pairs ++ more)
  added after more e = e ∙ ap (λ l. l ++ more) so_far.grown ∙ append_assoc before so_far.pairs more

  asked : (after : Log) (a : Ask) (r : Reply) → r ≢ reply.NoRoom → after ≡ log ++ (a, r) ∷ [] → Roomy before after
  asked after a r told e =
      record {
        pairs = so_far.pairs ++ (a, r) ∷ [];
        room = one_more so_far.pairs a r so_far.room told;
        grown = added after ((a, r) ∷ []) e;
      }

  -- an ask without room is the last
  lacked : (after : Log) (a : Ask) → after ≡ log ++ (a, reply.NoRoom) ∷ [] → FoundRoom before after NoMemory
  lacked after a e = FoundRoom.but_last so_far.pairs a so_far.room (added after ((a, reply.NoRoom) ∷ []) e)

roomy_all : (before after : Log) (o : Outcome) → Roomy before after → FoundRoom before after o
roomy_all before after o h = FoundRoom.all h.pairs o h.room h.grown

module _ (before log : Log) (so_far : Roomy before log) where
  unasked : (after : Log) (a : Ask) → FoundNoRoom log after a → FoundRoom before after NoMemory
  unasked after a (inl same) = roomy_all before after NoMemory (subst (λ l. Roomy before l) (sym same) so_far)
  unasked after a (inr more) = lacked before log so_far after a more

  tells_device : (after : Log) (o : Outcome) → TellsDevice log after o → FoundRoom before after o
  tells_device after _ (TellsDevice.told_so r a) =
      roomy_all before after _ (asked before log so_far after (Tells (message_of fault.Device)) r a.told a.grown)
  tells_device after _ (TellsDevice.untold room) = unasked after (Tells (message_of fault.Device)) room

  -- steps
  led : {S E : Type 0} (Steps : S → Step S E → Type 0) (from s : S) (after : Log) → Leads Steps from log s after
      → Roomy before after
  led Steps from s _ Leads.here = so_far
  led Steps from s after (Leads.goes t _ _ there step) = led Steps from t after there
  led Steps from s after (Leads.asks t mid _ a next r there step answered) =
      asked before mid (led Steps from t mid there) after a r answered.told answered.grown

  halted : {S E : Type 0} (Steps : S → Step S E → Type 0) (On : S → Type 0) (from : S) (after : Log)
      → Halts Steps On from log after → FoundRoom before after NoMemory
  halted Steps On from after (Halts.halts_at s on there) =
      roomy_all before after NoMemory (led Steps from s after there)
  halted Steps On from after (Halts.halts_asking s mid a next there step e) =
      lacked before mid (led Steps from s mid there) after a e

module _ (before log : Log) (so_far : Roomy before log) where
  says : (text : List ℕ) (refusal : Outcome) (after : Log) (o : Outcome) → Says text refusal log after o
      → FoundRoom before after o
  says text refusal after _ (Says.said a) =
      roomy_all before after _ (asked before log so_far after (Tells text) reply.Done a.told a.grown)
  says text refusal after o (Says.faulted mid _ a told) =
      tells_device before mid (asked before log so_far mid (Tells text) reply.Fault a.told a.grown) after o told
  says text refusal after _ (Says.no_memory room) = unasked before log so_far after (Tells text) room

  goes_on : (cpus ticks : ℕ) (s : Parts) (after : Log) (r : Result ℕ RunStop) → GoesOn cpus ticks s log after r
      → FoundRoom before after (run_outcome r)
  goes_on cpus ticks s after (Ok status) h =
      let v = revived_state s in
      roomy_all before after _ (led before log so_far (Moves v.unit) (opening v cpus ticks) h.0 after h.1)
  goes_on cpus ticks s after (Err run_stop.Device) h =
      let v = revived_state s in
      roomy_all before after _ (led before log so_far (Moves v.unit) (opening v cpus ticks) h.0 after h.1)
  goes_on cpus ticks s after (Err run_stop.Ticks) h =
      let v = revived_state s in
      roomy_all before after _ (led before log so_far (Moves v.unit) (opening v cpus ticks) h.0 after h.1)
  goes_on cpus ticks s after (Err run_stop.NoMemory) h =
      let v = revived_state s in
      halted before log so_far (Moves v.unit) _ (opening v cpus ticks) after h

pub script_room : (c : Call) (before after : Log) (o : Outcome) → RunsScript c before after o
    → FoundRoom before after o
script_room c before after _ (RunsScript.came e there) =
    roomy_all before after _ (led before before (nothing_asked before) (JobSteps c) (Reading []) _ after there)
script_room c before after _ (RunsScript.no_memory h) =
    halted before before (nothing_asked before) (JobSteps c) _ (Reading []) after h

module _ (path : List ℕ) (before : Log) where
  none_held : (log : Log) (f : AFault) → HoldsNone path before log f → Roomy before log
  none_held log _ (HoldsNone.missing a) =
      asked before before (nothing_asked before) log (Read path) reply.Missing a.told a.grown
  none_held log _ (HoldsNone.not_loadable bytes a none) =
      asked before before (nothing_asked before) log (Read path) (reply.Bytes bytes) a.told a.grown

  unloaded : (after : Log) → IsUnloaded path before after → FoundRoom before after NoMemory
  unloaded after (inl room) = unasked before before (nothing_asked before) after (Read path) room
  unloaded after (inr h) =
      roomy_all before after NoMemory
      (asked before before (nothing_asked before) after (Read path) (reply.Bytes h.0) h.1.told h.1.grown)

  held : (cpus ticks : ℕ) (s : Parts) (log after : Log) (o : Outcome) → HoldsState path s before log
      → GoesOnTo cpus ticks s log after o → FoundRoom before after o
  held cpus ticks s log after o holds h =
      let read = asked before before (nothing_asked before) log (Read path) (reply.Bytes holds.bytes) holds.read.told
      holds.read.grown in
      subst (λ x. FoundRoom before after x) (sym h.1.1) (goes_on before log read cpus ticks s after h.0 h.1.0)

  pub file_room : (cpus ticks : ℕ) (after : Log) (o : Outcome) → ResumesFile cpus ticks path before after o
      → FoundRoom before after o
  file_room cpus ticks after o (OpensFile.held s log _ holds does) = held cpus ticks s log after o holds does
  file_room cpus ticks after o (OpensFile.bad_file f log _ none told) =
      says before log (none_held log f none) (message_of f) BadFile after o told
  file_room cpus ticks after o (OpensFile.unread log _ a told) =
      tells_device before log (asked before before (nothing_asked before) log (Read path) reply.Fault a.told a.grown)
      after o told
  file_room cpus ticks after _ (OpensFile.unloaded none) = unloaded after none
