-- Each move keeps that a turn is that of a thread that is there and ready.
use Rattle.std.proofs.Common.{◌≡◌, ℕ, ◌+◌, Bool, true, false, List, [], ◌∷◌, ◌++◌, length, Option, Some, None, Ok, Err}
use Rattle.std.proofs.Common.{sym, refl, subst}
use Rattle.std.specs.Prelude.{slice_get, nat_lt, nat_le}
use Rattle.bds_value.specs.declared.TheConstants.{MAX_THREADS, MAX_TASKS, MAX_RULES}
use Rattle.bds_value.specs.declared.value.At.{At}
use Rattle.bds_value.specs.declared.value.Stamp.{Stamp}
use Rattle.bds_value.specs.declared.value.Value.{Value}
use Rattle.bds_value.specs.declared.faults.RunFault.{RunFault}
use Rattle.bds_value.specs.declared.faults.RunFault.TheVariants as run
use Rattle.bds_host.specs.declared.asks.Ask.{Ask}
use Rattle.bds_host.specs.declared.asks.Ask.TheVariants as ask
use Rattle.bds_host.specs.declared.asks.Reply.{Reply}
use Rattle.bds_host.specs.declared.asks.Reply.TheVariants as reply
use Rattle.bds_host.specs.declared.faults.Fault.TheVariants as fault
use Rattle.bds_host.specs.Asks.{fits, has}
use Rattle.bds_host.specs.Message.{message_of}
use Rattle.bds_goal.specs.Plan.{plan, unmade}
use Rattle.bds_goal.specs.Reach.{reach, has_cycle}
use Rattle.bds_rules.specs.Makers.{made_already}
use Rattle.bds_rules.specs.declared.rule.Rule.{Rule}
use Rattle.bds_tasks.specs.declared.task.Task.{Task}
use Rattle.bds_tasks.specs.declared.task.Waited.{Waited}
use Rattle.bds_tasks.specs.declared.task.Waited.TheVariants.{Not, Well, Failed}
use Rattle.bds_tasks.specs.Ends.{ended}
use Rattle.bds_tasks.specs.Starts.{started}
use Rattle.bds_tasks.specs.Tasks.{added, running}
use Rattle.bds_schedule.specs.Configuration.{Life, Ready, Waits, Closes, Ended, Thread, Configuration, Cause, exited}
use Rattle.bds_schedule.specs.Configuration.{failed, task_failed, Mode, at_point, turn_of, stopping, saving, faulted}
use Rattle.bds_schedule.specs.Configuration.{fault_told, done, in_mode, with_rules, with_tasks, with_threads}
use Rattle.bds_schedule.specs.Configuration.{count_tick, becomes}
use Rattle.bds_schedule.specs.Faults.{Outcome}
use Rattle.bds_schedule.specs.Ids.{Id, ids_of}
use Rattle.bds_schedule.specs.Moves.{move_in, at_rest, chosen, chosen_by, at_point_next, next_start}
use Rattle.bds_schedule.specs.Replies.{values_given, answer_to, is_point, stamp_in}
use Rattle.bds_schedule.specs.Requests.{Request, Contacts, Inspects, Compares, MakesTask, Declares, Achieves, Spawns}
use Rattle.bds_schedule.specs.Requests.{AwaitsIds, AwaitsAll, Saves, ThreadAct, GoesOn, Needs, Stops, Quits, Finishes}
use Rattle.bds_schedule.specs.Stages.{Move, asking, checkpoint_of, fails, task_ended, told, stopped}
use Rattle.bds_schedule.specs.Turns as turns
use Rattle.bds_schedule.specs.Waiting.{all_ended, made_by, ready, wait_state}
use Rattle.bds_rank.proofs.Replies.{behind_reply}
use Rattle.bds_rank.specs.Keeping.{IsTurnOfReady, Keeps}
use Rattle.bds_rank.specs.Lessening.{IsNoTurn}
use Rattle.bds_rank.proofs.Right.{chosen_right, goes_right, no_turn, one_ready, stamp_right}

abbrev KeepsRight : {S : Type 0} → Move S → Type 0
KeepsRight m = Keeps IsTurnOfReady m

module _ {S : Type 0} (files : List (List ℕ)) (image : Configuration S → List ℕ) (step : S → ThreadAct S)
    (c : Configuration S) where
  asks_right : (a : Ask) (next : Reply → Configuration S) → ((r : Reply) → fits a r ≡ true → IsTurnOfReady (next r))
      → KeepsRight (asking c a next)
  asks_right a next all r fit told =
      behind_reply IsTurnOfReady c (next r) r (λ faults. no_turn (in_mode faulted c) tt) (λ faults. all r fit)

  stops_right : (cause : Cause) → IsTurnOfReady (in_mode (stopping cause) c)
  stops_right cause = no_turn (in_mode (stopping cause) c) tt

  fails_right : (at : At) (f : RunFault) → IsTurnOfReady (fails files c at f)
  fails_right at f = no_turn (fails files c at f) tt

  -- the turn of a thread

  module _ (k : ℕ) (stamps : List Stamp) (turn : c.mode ≡ turn_of k stamps) (right : IsTurnOfReady c) (t : Thread S)
      (there : slice_get c.threads k ≡ Some t) where
    on : (s : S) → IsTurnOfReady (turns.goes_on k c s)
    on s = goes_right k s c t there

    stamped_right : (file : List ℕ) → KeepsRight (turns.stamped k stamps c file)
    stamped_right file =
        asks_right (ask.Stamp file) (λ r. in_mode (turn_of k (stamps ++ stamp_in r ∷ [])) c)
        (λ r fit. stamp_right k stamps (stamps ++ stamp_in r ∷ []) c turn right)

    with_right : (o : Option (List ℕ)) (d : Configuration S) → IsTurnOfReady d
        → KeepsRight (turns.with_stamps k stamps c o d)
    with_right (Some file) d is = stamped_right file
    with_right None d is = is

    room_right : (b : Bool) (at : At) (f : RunFault) (d : Configuration S) → IsTurnOfReady d
        → KeepsRight (turns.where_room files b c at f d)
    room_right true at f d is = is
    room_right false at f d is = fails_right at f

    ticked_right : (b : Bool) (s : S) → KeepsRight (turns.ticked b k c s)
    ticked_right true s = goes_right k s (count_tick c) t there
    ticked_right false s = tt

    given_right : (point : Bool) (at : At) (next : List Value → S) (o : Outcome (List Value))
        → IsTurnOfReady (turns.given files point k c at next o)
    given_right true at next (Ok vs) = no_turn (turns.comes k c (next vs)) tt
    given_right false at next (Ok vs) = on (next vs)
    given_right point at next (Err f) = fails_right at f

    awaited_right : (at : At) (next : List Value → S) (o : Outcome (List Id))
        → KeepsRight (turns.awaited files k c at next o)
    awaited_right at next (Ok ids) = no_turn (becomes k (Waits ids (next [])) at_point c) tt
    awaited_right at next (Err f) = fails_right at f

    declared_right : (o : Option (List ℕ × ℕ)) (at : At) (rule : Rule) (next : List Value → S)
        → KeepsRight (turns.declared_if files o k c at rule next)
    declared_right (Some p) at rule next = fails_right at (run.TwoRules p.0 p.1)
    declared_right None at rule next =
        room_right (nat_lt (length c.rules) MAX_RULES) at run.TooManyRules
        (turns.goes_on k (with_rules (c.rules ++ rule ∷ []) c) (next []))
        (goes_right k (next []) (with_rules (c.rules ++ rule ∷ []) c) t there)

    -- a thread that comes to a point with more tasks or threads
    comes_right : (b : Bool) (at : At) (f : RunFault) (d : Configuration S) (s : S)
        → KeepsRight (turns.where_room files b c at f (turns.comes k d s))
    comes_right b at f d s = room_right b at f (turns.comes k d s) (no_turn (turns.comes k d s) tt)

    planned_right : (o : Option (List ℕ)) (at : At) (targets : List (List ℕ)) (next : List Value → S)
        → KeepsRight (turns.planned_if files o k stamps c at targets next)
    planned_right (Some file) at targets next = fails_right at (run.NoRule file)
    planned_right None at targets next =
        let rules = plan c.rules targets stamps c.tasks in
        comes_right (nat_le (length c.tasks + length rules) MAX_TASKS) at run.TooManyTasks
        (with_tasks (turns.tasks_planned k c rules) c) (next _)

    reached_right : (o : Option (List ℕ)) (at : At) (targets : List (List ℕ)) (next : List Value → S)
        → KeepsRight (turns.reached files o k stamps c at targets next)
    reached_right (Some file) at targets next = stamped_right file
    reached_right None at targets next = planned_right (unmade c.rules targets stamps c.tasks) at targets next

    achieved_right : (b : Bool) (at : At) (targets : List (List ℕ)) (next : List Value → S)
        → KeepsRight (turns.achieved files b k stamps c at targets next)
    achieved_right true at targets next = fails_right at (run.Cycle [])
    achieved_right false at targets next =
        reached_right (slice_get (reach c.rules targets) (length stamps)) at targets next

    requested_right : (at : At) (request : Request S) (next : List Value → S)
        → KeepsRight (turns.requested files image step k stamps c at request next)
    requested_right at (Contacts a) next =
        asks_right a (λ r. turns.given files (is_point a) k c at next (values_given a r))
        (λ r fit. given_right (is_point a) at next (values_given a r))
    requested_right at (Inspects question file) next =
        asks_right (ask.Stamp file) (λ r. turns.goes_on k c (next (answer_to question (stamp_in r) ∷ [])))
        (λ r fit. on (next (answer_to question (stamp_in r) ∷ [])))
    requested_right at (Compares outs ins) next = with_right (slice_get (outs ++ ins) (length stamps)) _ (on _)
    requested_right at (MakesTask task) next =
        comes_right (nat_lt (length c.tasks) MAX_TASKS) at run.TooManyTasks
        (with_tasks (added c.tasks (turns.made_in k task)) c) _
    requested_right at (Declares rule) next = declared_right (made_already c.rules rule.outs) at rule next
    requested_right at (Achieves targets) next = achieved_right (has_cycle c.rules targets) at targets next
    requested_right at (Spawns begins) next =
        comes_right (nat_lt (length c.threads) MAX_THREADS) at run.TooManyThreads
        (with_threads (c.threads ++ record { parent = k; life = Ready begins } ∷ []) c) _
    requested_right at (AwaitsIds texts) next = awaited_right at next (ids_of (length c.tasks) (length c.threads) texts)
    requested_right at AwaitsAll next = no_turn (becomes k (Waits (made_by c k) (next [])) at_point c) tt
    requested_right at (Saves path) next =
        asks_right (ask.Save (turns.path_in c path) (image (turns.comes k c (next []))))
        (λ r. turns.comes k c (next [])) (λ r fit. no_turn (turns.comes k c (next [])) tt)

    taken_right : (a : ThreadAct S) → KeepsRight (turns.taken files image step k stamps c a)
    taken_right (GoesOn false s) = on s
    taken_right (GoesOn true s) = ticked_right (nat_lt c.used c.budget) s
    taken_right (Needs at request next) = requested_right at request next
    taken_right (Stops at f) = fails_right at f
    taken_right (Quits status) = stops_right (exited status)
    taken_right (Finishes s) = no_turn (becomes k (Closes (made_by c k) s) at_point c) tt

    over_right : (w : Waited) (d : Configuration S) → IsTurnOfReady d → KeepsRight (turns.over c w d)
    over_right (Failed n code) d is = stops_right (task_failed n code)
    over_right Well d is = is
    over_right Not d is = no_turn (in_mode at_point c) tt

    turn_right : (life : Life S) → KeepsRight (turns.turn_in files image step k stamps c life)
    turn_right (Ready s) = taken_right (step s)
    turn_right (Waits ids s) = over_right (wait_state c ids) (turns.goes_on k c s) (on s)
    turn_right (Closes ids s) =
        over_right (wait_state c ids) (becomes k Ended at_point c) (no_turn (becomes k Ended at_point c) tt)
    turn_right Ended = no_turn (in_mode at_point c) tt

  turned_right : (k : ℕ) (stamps : List Stamp) → c.mode ≡ turn_of k stamps → IsTurnOfReady c
      → KeepsRight (turns.turn files image step k stamps c)
  turned_right k stamps turn right =
      let w = right k stamps turn in
      subst (λ o. KeepsRight (turns.turn_at files image step k stamps c o)) (sym w.1)
      (turn_right k stamps turn right w.0 w.1 w.0.life)

  -- between the turns

  module _ (none : IsNoTurn c.mode) where
    ended_right : (r : Reply) → IsTurnOfReady (task_ended c r)
    ended_right (reply.Bytes text) = no_turn c none
    ended_right reply.Missing = no_turn c none
    ended_right (reply.Stamp there size time) = no_turn c none
    ended_right reply.Done = no_turn c none
    ended_right (reply.SysDone code out) = no_turn c none
    ended_right reply.Started = no_turn c none
    ended_right (reply.Run k) = no_turn c none
    ended_right (reply.Ended n code) = no_turn (with_tasks (ended n code c.tasks) c) none
    ended_right reply.Fault = no_turn c none
    ended_right reply.NoRoom = no_turn c none

    by_right : (ks ns : List ℕ) → ks ≡ ready c → (r : Reply) → fits (ask.Next ks ns) r ≡ true
        → IsTurnOfReady (chosen_by c r)
    by_right ks ns are (reply.Bytes text) fit = no_turn c none
    by_right ks ns are reply.Missing fit = no_turn c none
    by_right ks ns are (reply.Stamp there size time) fit = no_turn c none
    by_right ks ns are reply.Done fit = no_turn c none
    by_right ks ns are (reply.SysDone code out) fit = no_turn c none
    by_right ks ns are reply.Started fit = no_turn c none
    by_right ks ns are (reply.Run k) fit = chosen_right k c (subst (λ l. has l k ≡ true) are fit)
    by_right ks ns are (reply.Ended n code) fit = no_turn (with_tasks (ended n code c.tasks) c) none
    by_right ks ns are reply.Fault fit = no_turn c none
    by_right ks ns are reply.NoRoom fit = no_turn c none

    next_right : (ks ns : List ℕ) → ks ≡ ready c → KeepsRight (asking c (ask.Next ks ns) (chosen_by c))
    next_right ks ns are = asks_right (ask.Next ks ns) (chosen_by c) (by_right ks ns are)

    rest_right : (all : Bool) → IsTurnOfReady (at_rest all c)
    rest_right true = no_turn (in_mode (done 0) c) tt
    rest_right false = stops_right (failed fault.Deadlock)

    listed_right : (ks ns : List ℕ) → ks ≡ ready c → KeepsRight (chosen c ks ns)
    listed_right [] [] are = rest_right (all_ended c)
    listed_right (k ∷ []) [] are = chosen_right k c (one_ready k c are)
    listed_right (k ∷ l ∷ ks) [] are = next_right (k ∷ l ∷ ks) [] are
    listed_right [] (n ∷ ns) are = next_right [] (n ∷ ns) are
    listed_right (k ∷ []) (n ∷ ns) are = next_right (k ∷ []) (n ∷ ns) are
    listed_right (k ∷ l ∷ ks) (n ∷ ns) are = next_right (k ∷ l ∷ ks) (n ∷ ns) are

    point_right : (o : Option (ℕ × Task)) → KeepsRight (at_point_next c o)
    point_right (Some p) =
        asks_right (ask.Start p.0 p.1.attempt p.1.made.command) (λ r. with_tasks (started p.0 c.tasks) c)
        (λ r fit. no_turn (with_tasks (started p.0 c.tasks) c) none)
    point_right None = listed_right (ready c) (running c.tasks) refl

    told_right : (cause : Cause) → KeepsRight (told c cause)
    told_right (exited status) = no_turn (in_mode (done status) c) tt
    told_right (failed f) =
        asks_right (ask.Err (message_of f)) (λ r. in_mode (done 1) c) (λ r fit. no_turn (in_mode (done 1) c) tt)
    told_right (task_failed n code) =
        asks_right (ask.Err (message_of (fault.TaskFailed n code))) (λ r. in_mode saving c)
        (λ r fit. no_turn (in_mode saving c) tt)

    stopping_right : (cause : Cause) (ns : List ℕ) → KeepsRight (stopped c cause ns)
    stopping_right cause [] = told_right cause
    stopping_right cause (n ∷ ns) = asks_right (ask.Next [] (n ∷ ns)) (task_ended c) (λ r fit. ended_right r)

  pub move_right : (m : Mode) → c.mode ≡ m → IsTurnOfReady c → KeepsRight (move_in files image step c m)
  move_right at_point is right = point_right (subst IsNoTurn (sym is) tt) (next_start c)
  move_right (turn_of k stamps) is right = turned_right k stamps is right
  move_right (stopping cause) is right = stopping_right (subst IsNoTurn (sym is) tt) cause (running c.tasks)
  move_right saving is right =
      asks_right (ask.Save (checkpoint_of c.path) (image c)) (λ r. in_mode (done 1) c)
      (λ r fit. no_turn (in_mode (done 1) c) tt)
  move_right faulted is right = λ r fit told. no_turn (in_mode fault_told c) tt
  move_right fault_told is right = tt
  move_right (done status) is right = tt
