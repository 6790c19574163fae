-- A run whose threads count no tick is never spent.
use Rattle.std.proofs.Common.{◌≡◌, ℕ, zero, suc, ◌+◌, Bool, true, false, List, [], ◌∷◌, ◌++◌, length, Option, Some}
use Rattle.std.proofs.Common.{None, Ok, Err, refl, sym, subst, if◌then◌else◌}
use Rattle.std.specs.Prelude.{⊤, slice_get, nat_eq, nat_lt, nat_le}
use Rattle.std.specs.List.{AllByRecursion}
use Rattle.std.proofs.lemmas.Bool.{false≢true}
use Rattle.bds_value.specs.declared.TheConstants.{MAX_TASKS, MAX_RULES}
use Rattle.bds_value.specs.declared.value.At.{At}
use Rattle.bds_value.specs.declared.value.Stamp.{Stamp}
use Rattle.bds_value.specs.declared.value.Value.{Value}
use Rattle.bds_value.specs.declared.faults.RunFault.{RunFault}
use Rattle.bds_value.specs.declared.faults.RunFault.TheVariants as run
use Rattle.bds_host.specs.declared.asks.Ask.{Ask}
use Rattle.bds_host.specs.declared.asks.Ask.TheVariants as ask
use Rattle.bds_host.specs.declared.asks.Reply.{Reply}
use Rattle.bds_host.specs.declared.asks.Reply.TheVariants as reply
use Rattle.bds_host.specs.declared.faults.Fault.TheVariants as fault
use Rattle.bds_host.specs.Message.{message_of}
use Rattle.bds_goal.specs.Plan.{plan, unmade}
use Rattle.bds_goal.specs.Reach.{reach, has_cycle}
use Rattle.bds_rules.specs.Makers.{made_already}
use Rattle.bds_rules.specs.declared.rule.Rule.{Rule}
use Rattle.bds_tasks.specs.declared.task.Task.{Task}
use Rattle.bds_tasks.specs.declared.task.Waited.{Waited}
use Rattle.bds_tasks.specs.declared.task.Waited.TheVariants.{Not, Well, Failed}
use Rattle.bds_tasks.specs.Starts.{started}
use Rattle.bds_tasks.specs.Tasks.{added, running}
use Rattle.bds_schedule.specs.Configuration.{Life, Ready, Waits, Closes, Ended, Thread, Configuration, Cause, exited}
use Rattle.bds_schedule.specs.Configuration.{failed, task_failed, Mode, at_point, turn_of, stopping, saving, faulted}
use Rattle.bds_schedule.specs.Configuration.{fault_told, done, in_mode, lives, with_rules, with_tasks, with_life_from}
use Rattle.bds_schedule.specs.Configuration.{becomes}
use Rattle.bds_schedule.specs.Faults.{Outcome}
use Rattle.bds_schedule.specs.Ids.{Id, ids_of}
use Rattle.bds_schedule.specs.Moves.{move, move_in, at_rest, chosen, chosen_by, at_point_next, next_start}
use Rattle.bds_schedule.specs.Replies.{values_given, answer_to, is_point, stamp_in}
use Rattle.bds_schedule.specs.Requests.{Request, Contacts, Inspects, Compares, MakesTask, Declares, Achieves, Spawns}
use Rattle.bds_schedule.specs.Requests.{AwaitsIds, AwaitsAll, Saves, ThreadAct, GoesOn, Needs, Stops, Quits, Finishes}
use Rattle.bds_schedule.specs.Stages.{End, Spent, Move, asking, unless_fault, checkpoint_of, task_ended, told, stopped}
use Rattle.bds_schedule.specs.Steps.{Goes, Asks, Ends}
use Rattle.bds_schedule.specs.Turns as turns
use Rattle.bds_schedule.specs.Waiting.{all_ended, made_by, ready, wait_state}
use Rattle.bds_made.proofs.Calm.{IsAlone, StaysIdle}

abbrev pub IsSpent : End → Type 0
IsSpent Spent = ⊤
IsSpent _ = ⊥

module _ {S : Type 0} (Live : S → Type 0) where
  abbrev pub LivesOn : Life S → Type 0
  LivesOn (Ready s) = Live s
  LivesOn (Waits ids s) = Live s
  LivesOn (Closes ids s) = ⊤
  LivesOn Ended = ⊤

  abbrev AllLive : List (Thread S) → Type 0
  AllLive ts = AllByRecursion (λ (t : Thread S). LivesOn t.life) ts

  abbrev pub Idle : Configuration S → Type 0
  Idle c = AllLive c.threads

  -- a move keeps that, whatever is replied, and isn't the end of a run that is spent
  abbrev pub KeepsIdle : Move S → Type 0
  KeepsIdle (Goes d) = Idle d
  KeepsIdle (Asks a next) = (r : Reply) → Idle (next r)
  KeepsIdle (Ends e) = IsSpent e → ⊥

  one_changes : (n k : ℕ) (life : Life S) (ts : List (Thread S)) → LivesOn life → AllLive ts
      → AllLive (with_life_from n k life ts)
  one_changes n k life [] h all = tt
  one_changes n k life (t ∷ ts) h all = (here (nat_eq n k), one_changes (n + 1) k life ts h all.1)
    where
      here : (b : Bool) → LivesOn (if b then lives life t else t).life
      here true = h
      here false = all.0

  live_at : (ts : List (Thread S)) (k : ℕ) (t : Thread S) → AllLive ts → slice_get ts k ≡ Some t → LivesOn t.life
  live_at [] k t all there = absurd (cc there)
  live_at (x ∷ ts) zero t all there = let same : x ≡ t = cc in subst (λ (y : Thread S). LivesOn y.life) same all.0
  live_at (x ∷ ts) (suc k) t all there = live_at ts k t all.1 there

  module _ (files : List (List ℕ)) (image : Configuration S → List ℕ) (step : S → ThreadAct S) (c : Configuration S)
      (idle : Idle c) where
    behind_reply : (r : Reply) (d : Configuration S) → Idle d → Idle (unless_fault c r d)
    behind_reply (reply.Bytes text) d h = h
    behind_reply reply.Missing d h = h
    behind_reply (reply.Stamp there size time) d h = h
    behind_reply reply.Done d h = h
    behind_reply (reply.SysDone code out) d h = h
    behind_reply reply.Started d h = h
    behind_reply (reply.Run k) d h = h
    behind_reply (reply.Ended n code) d h = h
    behind_reply reply.Fault d h = idle
    behind_reply reply.NoRoom d h = h

    asks_idle : (a : Ask) (next : Reply → Configuration S) → ((r : Reply) → Idle (next r)) → KeepsIdle (asking c a next)
    asks_idle a next all r = behind_reply r (next r) (all r)

    -- the turn of a thread

    module _ (k : ℕ) (stamps : List Stamp) where
      now : (life : Life S) (m : Mode) (d : Configuration S) → Idle d → LivesOn life → Idle (becomes k life m d)
      now life m d all h = one_changes 0 k life d.threads h all

      on : (s : S) → Live s → Idle (turns.goes_on k c s)
      on s h = now (Ready s) (turn_of k []) c idle h

      comes : (d : Configuration S) → Idle d → (s : S) → Live s → Idle (turns.comes k d s)
      comes d all s h = now (Ready s) at_point d all h

      stamped_idle : (file : List ℕ) → KeepsIdle (turns.stamped k stamps c file)
      stamped_idle file =
          asks_idle (ask.Stamp file) (λ r. in_mode (turn_of k (stamps ++ stamp_in r ∷ [])) c) (λ r. idle)

      with_idle : (o : Option (List ℕ)) (d : Configuration S) → Idle d → KeepsIdle (turns.with_stamps k stamps c o d)
      with_idle (Some file) d is = stamped_idle file
      with_idle None d is = is

      room_idle : (b : Bool) (at : At) (f : RunFault) (d : Configuration S) → Idle d
          → KeepsIdle (turns.where_room files b c at f d)
      room_idle true at f d is = is
      room_idle false at f d is = idle

      given_idle : (point : Bool) (at : At) (next : List Value → S) → ((us : List Value) → Live (next us))
          → (o : Outcome (List Value)) → Idle (turns.given files point k c at next o)
      given_idle true at next h (Ok vs) = comes c idle (next vs) (h vs)
      given_idle false at next h (Ok vs) = on (next vs) (h vs)
      given_idle point at next h (Err f) = idle

      awaited_idle : (at : At) (next : List Value → S) → Live (next []) → (o : Outcome (List Id))
          → KeepsIdle (turns.awaited files k c at next o)
      awaited_idle at next h (Ok ids) = now (Waits ids (next [])) at_point c idle h
      awaited_idle at next h (Err f) = idle

      declared_idle : (o : Option (List ℕ × ℕ)) (at : At) (rule : Rule) (next : List Value → S) → Live (next [])
          → KeepsIdle (turns.declared_if files o k c at rule next)
      declared_idle (Some p) at rule next h = idle
      declared_idle None at rule next h =
          room_idle (nat_lt (length c.rules) MAX_RULES) at run.TooManyRules
          (turns.goes_on k (with_rules (c.rules ++ rule ∷ []) c) (next []))
          (now (Ready (next [])) (turn_of k []) (with_rules (c.rules ++ rule ∷ []) c) idle h)

      module _ (next : List Value → S) (targets : List (List ℕ)) (h : (us : List Value) → Live (next us)) where
        planned_idle : (at : At) (rules : List ℕ) → KeepsIdle (turns.planned files k c at rules next)
        planned_idle at rules =
            room_idle (nat_le (length c.tasks + length rules) MAX_TASKS) at run.TooManyTasks _
            (comes (with_tasks (turns.tasks_planned k c rules) c) idle _ (h _))

        planned_if_idle : (o : Option (List ℕ)) (at : At)
            → KeepsIdle (turns.planned_if files o k stamps c at targets next)
        planned_if_idle (Some file) at = idle
        planned_if_idle None at = planned_idle at (plan c.rules targets stamps c.tasks)

        reached_idle : (o : Option (List ℕ)) (at : At) → KeepsIdle (turns.reached files o k stamps c at targets next)
        reached_idle (Some file) at = stamped_idle file
        reached_idle None at = planned_if_idle (unmade c.rules targets stamps c.tasks) at

        achieved_idle : (b : Bool) (at : At) → KeepsIdle (turns.achieved files b k stamps c at targets next)
        achieved_idle true at = idle
        achieved_idle false at = reached_idle (slice_get (reach c.rules targets) (length stamps)) at

      requested_idle : (at : At) (request : Request S) (next : List Value → S) → IsAlone request
          → ((us : List Value) → Live (next us))
          → KeepsIdle (turns.requested files image step k stamps c at request next)
      requested_idle at (Contacts a) next alone h =
          asks_idle a (λ r. turns.given files (is_point a) k c at next (values_given a r))
          (λ r. given_idle (is_point a) at next h (values_given a r))
      requested_idle at (Inspects question file) next alone h =
          asks_idle (ask.Stamp file) (λ r. turns.goes_on k c (next (answer_to question (stamp_in r) ∷ [])))
          (λ r. on (next (answer_to question (stamp_in r) ∷ [])) (h (answer_to question (stamp_in r) ∷ [])))
      requested_idle at (Compares outs ins) next alone h =
          with_idle (slice_get (outs ++ ins) (length stamps)) _ (on _ (h _))
      requested_idle at (MakesTask task) next alone h =
          room_idle (nat_lt (length c.tasks) MAX_TASKS) at run.TooManyTasks _
          (comes (with_tasks (added c.tasks (turns.made_in k task)) c) idle _ (h _))
      requested_idle at (Declares rule) next alone h =
          declared_idle (made_already c.rules rule.outs) at rule next (h [])
      requested_idle at (Achieves targets) next alone h = achieved_idle next targets h (has_cycle c.rules targets) at
      requested_idle at (Spawns begins) next alone h = absurd alone
      requested_idle at (AwaitsIds texts) next alone h =
          awaited_idle at next (h []) (ids_of (length c.tasks) (length c.threads) texts)
      requested_idle at AwaitsAll next alone h = now (Waits (made_by c k) (next [])) at_point c idle (h [])
      requested_idle at (Saves path) next alone h =
          asks_idle (ask.Save (turns.path_in c path) (image (turns.comes k c (next []))))
          (λ r. turns.comes k c (next [])) (λ r. comes c idle (next []) (h []))

      taken_idle : (a : ThreadAct S) → StaysIdle Live a → KeepsIdle (turns.taken files image step k stamps c a)
      taken_idle (GoesOn false s) h = on s h.1
      taken_idle (GoesOn true s) h = absurd (false≢true (sym h.0))
      taken_idle (Needs at request next) h = requested_idle at request next h.0 h.1
      taken_idle (Stops at f) h = idle
      taken_idle (Quits status) h = idle
      taken_idle (Finishes s) h = now (Closes (made_by c k) s) at_point c idle tt

      over_idle : (w : Waited) (d : Configuration S) → Idle d → KeepsIdle (turns.over c w d)
      over_idle (Failed n code) d is = idle
      over_idle Well d is = is
      over_idle Not d is = idle

      turn_idle : ((s : S) → Live s → StaysIdle Live (step s)) → (life : Life S) → LivesOn life
          → KeepsIdle (turns.turn_in files image step k stamps c life)
      turn_idle stays (Ready s) h = taken_idle (step s) (stays s h)
      turn_idle stays (Waits ids s) h = over_idle (wait_state c ids) (turns.goes_on k c s) (on s h)
      turn_idle stays (Closes ids s) h =
          over_idle (wait_state c ids) (becomes k Ended at_point c) (now Ended at_point c idle tt)
      turn_idle stays Ended h = idle

      turned_idle : ((s : S) → Live s → StaysIdle Live (step s)) → (o : Option (Thread S)) → slice_get c.threads k ≡ o
          → KeepsIdle (turns.turn_at files image step k stamps c o)
      turned_idle stays (Some t) is = turn_idle stays t.life (live_at c.threads k t idle is)
      turned_idle stays None is = idle

    -- at a point

    by_idle : (r : Reply) → Idle (chosen_by c r)
    by_idle (reply.Bytes text) = idle
    by_idle reply.Missing = idle
    by_idle (reply.Stamp there size time) = idle
    by_idle reply.Done = idle
    by_idle (reply.SysDone code out) = idle
    by_idle reply.Started = idle
    by_idle (reply.Run k) = idle
    by_idle (reply.Ended n code) = idle
    by_idle reply.Fault = idle
    by_idle reply.NoRoom = idle

    next_idle : (ks ns : List ℕ) → KeepsIdle (asking c (ask.Next ks ns) (chosen_by c))
    next_idle ks ns = asks_idle (ask.Next ks ns) (chosen_by c) by_idle

    rest_idle : (all : Bool) → Idle (at_rest all c)
    rest_idle true = idle
    rest_idle false = idle

    listed_idle : (ks ns : List ℕ) → KeepsIdle (chosen c ks ns)
    listed_idle [] [] = rest_idle (all_ended c)
    listed_idle (k ∷ []) [] = idle
    listed_idle (k ∷ l ∷ ks) [] = next_idle (k ∷ l ∷ ks) []
    listed_idle [] (n ∷ ns) = next_idle [] (n ∷ ns)
    listed_idle (k ∷ []) (n ∷ ns) = next_idle (k ∷ []) (n ∷ ns)
    listed_idle (k ∷ l ∷ ks) (n ∷ ns) = next_idle (k ∷ l ∷ ks) (n ∷ ns)

    point_idle : (o : Option (ℕ × Task)) → KeepsIdle (at_point_next c o)
    point_idle (Some p) =
        asks_idle (ask.Start p.0 p.1.attempt p.1.made.command) (λ r. with_tasks (started p.0 c.tasks) c) (λ r. idle)
    point_idle None = listed_idle (ready c) (running c.tasks)

    -- where the run stops

    ended_idle : (r : Reply) → Idle (task_ended c r)
    ended_idle (reply.Bytes text) = idle
    ended_idle reply.Missing = idle
    ended_idle (reply.Stamp there size time) = idle
    ended_idle reply.Done = idle
    ended_idle (reply.SysDone code out) = idle
    ended_idle reply.Started = idle
    ended_idle (reply.Run k) = idle
    ended_idle (reply.Ended n code) = idle
    ended_idle reply.Fault = idle
    ended_idle reply.NoRoom = idle

    told_idle : (cause : Cause) → KeepsIdle (told c cause)
    told_idle (exited status) = idle
    told_idle (failed f) = asks_idle (ask.Err (message_of f)) (λ r. in_mode (done 1) c) (λ r. idle)
    told_idle (task_failed n code) =
        asks_idle (ask.Err (message_of (fault.TaskFailed n code))) (λ r. in_mode saving c) (λ r. idle)

    stopped_idle : (cause : Cause) (ns : List ℕ) → KeepsIdle (stopped c cause ns)
    stopped_idle cause [] = told_idle cause
    stopped_idle cause (n ∷ ns) = asks_idle (ask.Next [] (n ∷ ns)) (task_ended c) ended_idle

    in_idle : ((s : S) → Live s → StaysIdle Live (step s)) → (m : Mode) → KeepsIdle (move_in files image step c m)
    in_idle stays at_point = point_idle (next_start c)
    in_idle stays (turn_of k stamps) = turned_idle k stamps stays (slice_get c.threads k) refl
    in_idle stays (stopping cause) = stopped_idle cause (running c.tasks)
    in_idle stays saving = asks_idle (ask.Save (checkpoint_of c.path) (image c)) (λ r. in_mode (done 1) c) (λ r. idle)
    in_idle stays faulted = λ r. idle
    in_idle stays fault_told = λ spent. spent
    in_idle stays (done status) = λ spent. spent

    pub move_idle : ((s : S) → Live s → StaysIdle Live (step s)) → KeepsIdle (move files image step c)
    move_idle stays = in_idle stays c.mode
