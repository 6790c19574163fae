-- Where a run asks what comes next, it names a ready thread or a running task.
use Rattle.std.proofs.Common.{◌≡◌, ℕ, ◌+◌, Bool, true, false, List, [], ◌∷◌, ◌++◌, Option, Some, None, Ok, Err, subst}
use Rattle.std.specs.Prelude.{nat_lt, nat_le, slice_get, ⊤, length}
use Rattle.bds_value.specs.declared.value.At.{At}
use Rattle.bds_value.specs.declared.value.Stamp.{Stamp}
use Rattle.bds_value.specs.declared.value.Value.{Value}
use Rattle.bds_value.specs.declared.faults.RunFault.{RunFault}
use Rattle.bds_value.specs.declared.TheConstants.{MAX_TASKS, MAX_RULES, MAX_THREADS}
use Rattle.bds_host.specs.declared.asks.Ask.{Ask}
use Rattle.bds_host.specs.declared.asks.Ask.TheVariants as ask
use Rattle.bds_tasks.specs.declared.task.Task.{Task}
use Rattle.bds_tasks.specs.declared.task.Waited.{Waited}
use Rattle.bds_tasks.specs.declared.task.Waited.TheVariants.{Not, Well, Failed}
use Rattle.bds_tasks.specs.Tasks.{running}
use Rattle.bds_rules.specs.declared.rule.Rule.{Rule}
use Rattle.bds_rules.specs.Makers.{made_already}
use Rattle.bds_goal.specs.Reach.{reach, has_cycle}
use Rattle.bds_goal.specs.Plan.{unmade, plan}
use Rattle.bds_schedule.specs.Configuration.{Life, Ready, Waits, Closes, Ended, Thread, Configuration, Mode, Cause}
use Rattle.bds_schedule.specs.Configuration.{at_point, turn_of, stopping, saving, faulted, fault_told, done, exited}
use Rattle.bds_schedule.specs.Configuration.{failed, task_failed}
use Rattle.bds_schedule.specs.Faults.{Outcome}
use Rattle.bds_schedule.specs.Ids.{Id, ids_of}
use Rattle.bds_schedule.specs.Moves.{move, move_in, next_start, chosen, at_point_next}
use Rattle.bds_schedule.specs.Requests.{Request, Contacts, Inspects, Compares, MakesTask, Declares, Achieves, Spawns}
use Rattle.bds_schedule.specs.Requests.{AwaitsIds}
use Rattle.bds_schedule.specs.Requests.{AwaitsAll, Saves, ThreadAct, GoesOn, Needs, Stops, Quits, Finishes}
use Rattle.bds_meaning.specs.Run.{Program, Conf, Moves}
use Rattle.bds_schedule.specs.Stages.{End, told, stopped}
use Rattle.bds_schedule.specs.Steps.{Step, Goes, Asks, Ends}
use Rattle.bds_meaning.specs.Threads.{thread_step}
use Rattle.bds_schedule.specs.Turns.{with_stamps, where_room, declared_if, planned_if, reached, achieved, awaited}
use Rattle.bds_schedule.specs.Turns.{requested}
use Rattle.bds_schedule.specs.Turns.{taken, over, ticked, turn_in, turn_at}
use Rattle.bds_schedule.specs.Waiting.{ready, wait_state}
use Rattle.bds_meaning_laws.proofs.Plain.{AsksPlainly, IsPlainThread, is_plain, plain_thread}
use Rattle.bds_app_trials.specs.DryRuns.{NamesOne}

abbrev pub AsksOne : {S E : Type 0} → Step S E → Type 0
AsksOne (Goes c) = ⊤
AsksOne (Asks a next) = NamesOne a
AsksOne (Ends e) = ⊤

plain_names : (a : Ask) → is_plain a ≡ true → NamesOne a
plain_names (ask.Next ready running) h = absurd (cc h)
plain_names (ask.Read p) h = tt
plain_names (ask.Stamp p) h = tt
plain_names (ask.Write p t) h = tt
plain_names (ask.Remove p) h = tt
plain_names (ask.Out t) h = tt
plain_names (ask.Err t) h = tt
plain_names (ask.Sys t) h = tt
plain_names (ask.Start n k t) h = tt
plain_names (ask.Save p t) h = tt

module _ {S : Type 0} where
  chosen_one : (c : Configuration S) (ks ns : List ℕ) → AsksOne (chosen c ks ns)
  chosen_one c [] [] = tt
  chosen_one c (k ∷ []) [] = tt
  chosen_one c [] (n ∷ ns) = tt
  chosen_one c (k ∷ []) (n ∷ ns) = tt
  chosen_one c (k ∷ k' ∷ ks) [] = tt
  chosen_one c (k ∷ k' ∷ ks) (n ∷ ns) = tt

  point_one : (c : Configuration S) (o : Option (ℕ × Task)) → AsksOne (at_point_next c o)
  point_one c (Some p) = tt
  point_one c None = chosen_one c (ready c) (running c.tasks)

  told_one : (c : Configuration S) (cause : Cause) → AsksOne (told c cause)
  told_one c (exited status) = tt
  told_one c (failed f) = tt
  told_one c (task_failed n code) = tt

  stopped_one : (c : Configuration S) (cause : Cause) (ns : List ℕ) → AsksOne (stopped c cause ns)
  stopped_one c cause [] = told_one c cause
  stopped_one c cause (n ∷ ns) = tt

  stamps_one : (k : ℕ) (stamps : List Stamp) (c : Configuration S) (o : Option (List ℕ)) (behind : Configuration S)
      → AsksOne (with_stamps k stamps c o behind)
  stamps_one k stamps c (Some file) behind = tt
  stamps_one k stamps c None behind = tt

  over_one : (c : Configuration S) (w : Waited) (behind : Configuration S) → AsksOne (over c w behind)
  over_one c (Failed n code) behind = tt
  over_one c Well behind = tt
  over_one c Not behind = tt

  tick_one : (b : Bool) (k : ℕ) (c : Configuration S) (s : S) → AsksOne (ticked b k c s)
  tick_one true k c s = tt
  tick_one false k c s = tt

  module _ (files : List (List ℕ)) where
    room_one : (b : Bool) (c : Configuration S) (at : At) (f : RunFault) (behind : Configuration S)
        → AsksOne (where_room files b c at f behind)
    room_one true c at f behind = tt
    room_one false c at f behind = tt

    declared_one : (o : Option (List ℕ × ℕ)) (k : ℕ) (c : Configuration S) (at : At) (rule : Rule) (next : List Value
        → S)
        → AsksOne (declared_if files o k c at rule next)
    declared_one (Some p) k c at rule next = tt
    declared_one None k c at rule next = room_one (nat_lt (length c.rules) MAX_RULES) c at _ _

    planned_one : (o : Option (List ℕ)) (k : ℕ) (stamps : List Stamp) (c : Configuration S) (at : At)
        (targets : List (List ℕ))
        (next : List Value → S) → AsksOne (planned_if files o k stamps c at targets next)
    planned_one (Some file) k stamps c at targets next = tt
    planned_one None k stamps c at targets next =
        room_one (nat_le (length c.tasks + length (plan c.rules targets stamps c.tasks)) MAX_TASKS) c at _ _

    reached_one : (o : Option (List ℕ)) (k : ℕ) (stamps : List Stamp) (c : Configuration S) (at : At)
        (targets : List (List ℕ))
        (next : List Value → S) → AsksOne (reached files o k stamps c at targets next)
    reached_one (Some file) k stamps c at targets next = tt
    reached_one None k stamps c at targets next =
        planned_one (unmade c.rules targets stamps c.tasks) k stamps c at targets next

    achieved_one : (b : Bool) (k : ℕ) (stamps : List Stamp) (c : Configuration S) (at : At) (targets : List (List ℕ))
        (next : List Value → S) → AsksOne (achieved files b k stamps c at targets next)
    achieved_one true k stamps c at targets next = tt
    achieved_one false k stamps c at targets next =
        reached_one (slice_get (reach c.rules targets) (length stamps)) k stamps c at targets next

    awaited_one : (k : ℕ) (c : Configuration S) (at : At) (next : List Value → S) (o : Outcome (List Id))
        → AsksOne (awaited files k c at next o)
    awaited_one k c at next (Ok ids) = tt
    awaited_one k c at next (Err f) = tt

    module _ (image : Configuration S → List ℕ) (step : S → ThreadAct S) (plainly : (s : S)
        → IsPlainThread (step s)) where
      requested_one : (k : ℕ) (stamps : List Stamp) (c : Configuration S) (at : At) (r : Request S) (next : List Value
          → S)
          → AsksPlainly r → AsksOne (requested files image step k stamps c at r next)
      requested_one k stamps c at (Contacts a) next plain = plain_names a plain
      requested_one k stamps c at (Inspects q file) next plain = tt
      requested_one k stamps c at (Compares outs ins) next plain =
          stamps_one k stamps c (slice_get (outs ++ ins) (length stamps)) _
      requested_one k stamps c at (MakesTask task) next plain = room_one (nat_lt (length c.tasks) MAX_TASKS) c at _ _
      requested_one k stamps c at (Declares rule) next plain =
          declared_one (made_already c.rules rule.outs) k c at rule next
      requested_one k stamps c at (Achieves targets) next plain =
          achieved_one (has_cycle c.rules targets) k stamps c at targets next
      requested_one k stamps c at (Spawns begins) next plain = room_one (nat_lt (length c.threads) MAX_THREADS) c at _ _
      requested_one k stamps c at (AwaitsIds texts) next plain =
          awaited_one k c at next (ids_of (length c.tasks) (length c.threads) texts)
      requested_one k stamps c at AwaitsAll next plain = tt
      requested_one k stamps c at (Saves path) next plain = tt

      taken_one : (k : ℕ) (stamps : List Stamp) (c : Configuration S) (o : ThreadAct S) → IsPlainThread o
          → AsksOne (taken files image step k stamps c o)
      taken_one k stamps c (GoesOn false s) plain = tt
      taken_one k stamps c (GoesOn true s) plain = tick_one (nat_lt c.used c.budget) k c s
      taken_one k stamps c (Needs at r next) plain = requested_one k stamps c at r next plain
      taken_one k stamps c (Stops at f) plain = tt
      taken_one k stamps c (Quits status) plain = tt
      taken_one k stamps c (Finishes s) plain = tt

      life_one : (k : ℕ) (stamps : List Stamp) (c : Configuration S) (l : Life S)
          → AsksOne (turn_in files image step k stamps c l)
      life_one k stamps c (Ready s) = taken_one k stamps c (step s) (plainly s)
      life_one k stamps c (Waits ids s) = over_one c (wait_state c ids) _
      life_one k stamps c (Closes ids s) = over_one c (wait_state c ids) _
      life_one k stamps c Ended = tt

      turn_one : (k : ℕ) (stamps : List Stamp) (c : Configuration S) (o : Option (Thread S))
          → AsksOne (turn_at files image step k stamps c o)
      turn_one k stamps c None = tt
      turn_one k stamps c (Some t) = life_one k stamps c t.life

      mode_one : (c : Configuration S) (m : Mode) → AsksOne (move_in files image step c m)
      mode_one c at_point = point_one c (next_start c)
      mode_one c (turn_of k stamps) = turn_one k stamps c (slice_get c.threads k)
      mode_one c (stopping cause) = stopped_one c cause (running c.tasks)
      mode_one c saving = tt
      mode_one c faulted = tt
      mode_one c fault_told = tt
      mode_one c (done status) = tt

      pub move_one : (c : Configuration S) → AsksOne (move files image step c)
      move_one c = mode_one c c.mode

-- so is each move of the source
pub source_one : (program : Program) (c : Conf) (s : Step Conf End) → Moves program c s → AsksOne s
source_one program c s (bytes, is) =
    subst (λ (u : Step Conf End). AsksOne u) is
    (move_one program.files (λ saved. bytes) (thread_step program.functions) (plain_thread program.functions) c)
