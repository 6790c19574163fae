-- Each move keeps threads live, and rules with few retries, as long as threads go on.
use Rattle.std.proofs.Common.{◌≡◌, ◌≢◌, ◌∙◌, ℕ, zero, suc, ◌+◌, ◌<◌, ◌≤◌, Bool, true, false, List, [], ◌∷◌, ◌++◌}
use Rattle.std.proofs.Common.{length, Option, Some, None, Ok, Err, sym, refl, subst, arith, if◌then◌else◌}
use Rattle.std.specs.Prelude.{slice_get, nat_eq, nat_lt, nat_le}
use Rattle.std.specs.List.{AllByRecursion}
use Rattle.std.proofs.lemmas.Bool.{ltb-true, leb-true}
use Rattle.bds_value.specs.declared.TheConstants.{MAX_THREADS, MAX_TASKS, MAX_RULES, MAX_RETRY}
use Rattle.bds_value.specs.declared.value.At.{At}
use Rattle.bds_value.specs.declared.value.Stamp.{Stamp}
use Rattle.bds_value.specs.declared.value.Value.{Value}
use Rattle.bds_value.specs.declared.faults.RunFault.{RunFault}
use Rattle.bds_value.specs.declared.faults.RunFault.TheVariants as run
use Rattle.bds_host.specs.declared.asks.Ask.{Ask}
use Rattle.bds_host.specs.declared.asks.Ask.TheVariants as ask
use Rattle.bds_host.specs.declared.asks.Reply.{Reply}
use Rattle.bds_host.specs.declared.asks.Reply.TheVariants as reply
use Rattle.bds_host.specs.Asks.{fits}
use Rattle.bds_host.specs.Host.{is_fault}
use Rattle.bds_host.specs.Message.{message_of}
use Rattle.bds_host.specs.declared.faults.Fault.TheVariants as fault
use Rattle.bds_goal.specs.Plan.{plan, unmade}
use Rattle.bds_goal.specs.Reach.{reach, has_cycle}
use Rattle.bds_rules.specs.Makers.{made_already}
use Rattle.bds_rules.specs.declared.rule.Rule.{Rule}
use Rattle.bds_tasks.specs.declared.task.Task.{Task}
use Rattle.bds_tasks.specs.declared.task.Waited.{Waited}
use Rattle.bds_tasks.specs.declared.task.Waited.TheVariants.{Not, Well, Failed}
use Rattle.bds_tasks.specs.Ends.{ended}
use Rattle.bds_tasks.specs.Starts.{started}
use Rattle.bds_tasks.specs.Tasks.{added, running}
use Rattle.bds_schedule.specs.Configuration.{Life, Ready, Waits, Closes, Ended, Thread, Configuration, Cause, exited}
use Rattle.bds_schedule.specs.Configuration.{failed, task_failed, Mode, at_point, turn_of, stopping, saving, faulted}
use Rattle.bds_schedule.specs.Configuration.{fault_told, done, in_mode, lives, with_rules, with_tasks, with_threads}
use Rattle.bds_schedule.specs.Configuration.{with_life_from, count_tick, becomes}
use Rattle.bds_schedule.specs.Faults.{Outcome}
use Rattle.bds_schedule.specs.Ids.{Id, ids_of}
use Rattle.bds_schedule.specs.Moves.{move_in, at_rest, chosen, chosen_by, at_point_next, next_start}
use Rattle.bds_schedule.specs.Replies.{values_given, answer_to, is_point, stamp_in}
use Rattle.bds_schedule.specs.Requests.{Request, Contacts, Inspects, Compares, MakesTask, Declares, Achieves, Spawns}
use Rattle.bds_schedule.specs.Requests.{AwaitsIds, AwaitsAll, Saves, ThreadAct, GoesOn, Needs, Stops, Quits, Finishes}
use Rattle.bds_schedule.specs.Stages.{Move, asking, checkpoint_of, task_ended, told, stopped}
use Rattle.bds_schedule.specs.Steps.{Goes, Asks, Ends}
use Rattle.bds_schedule.specs.Turns as turns
use Rattle.bds_schedule.specs.Waiting.{all_ended, made_by, ready, wait_state}
use Rattle.bds_goal.proofs.MakerLaws.{some_is}
use Rattle.bds_rank.proofs.Replies.{behind_reply}
use Rattle.bds_sim.specs.schedule.Agree.{IsGiven}
use Rattle.bds_sim.proofs.schedule.Taken.{Gives, values_given_so}
use Rattle.bds_rank.specs.Keeping.{AreLive, GoesOnIn, HaveFewRetries, IsFit, IsTurnOfReady, IsSound, Keeps, LivesOn}
use Rattle.bds_rank.specs.Keeping.{StaysLive}
use Rattle.bds_rank.proofs.Keeping.{move_right}

-- rules

one_rule : (rules : List Rule) (r : Rule) → HaveFewRetries rules → r.retry ≤ MAX_RETRY
    → HaveFewRetries (rules ++ r ∷ [])
one_rule [] r few h = (h, tt)
one_rule (x ∷ rules) r few h = (few.0, one_rule rules r few.1 h)

module _ {S : Type 0} (Live : S → Type 0) where
  abbrev AllLive : List (Thread S) → Type 0
  AllLive ts = AllByRecursion (λ (t : Thread S). LivesOn Live t.life) ts

  -- threads

  one_changes : (n k : ℕ) (life : Life S) (ts : List (Thread S)) → LivesOn Live life → AllLive ts
      → AllLive (with_life_from n k life ts)
  one_changes n k life [] h all = tt
  one_changes n k life (t ∷ ts) h all = (here (nat_eq n k), one_changes (n + 1) k life ts h all.1)
    where
      here : (b : Bool) → LivesOn Live (if b then lives life t else t).life
      here true = h
      here false = all.0

  one_more : (ts : List (Thread S)) (t : Thread S) → AllLive ts → LivesOn Live t.life → AllLive (ts ++ t ∷ [])
  one_more [] t all h = (h, tt)
  one_more (x ∷ ts) t all h = (all.0, one_more ts t all.1 h)

  pub live_at : (ts : List (Thread S)) (k : ℕ) (t : Thread S) → AllLive ts → slice_get ts k ≡ Some t
      → LivesOn Live t.life
  live_at [] k t all there = absurd (cc there)
  live_at (x ∷ ts) zero t all there = subst (λ (y : Thread S). LivesOn Live y.life) (some_is x t there) all.0
  live_at (x ∷ ts) (suc k) t all there = live_at ts k t all.1 there

  -- as long as threads go on, all of them are live
  abbrev OnLive : Configuration S → Type 0
  OnLive c = GoesOnIn c.mode → AreLive Live c

  module _ (files : List (List ℕ)) (image : Configuration S → List ℕ) (step : S → ThreadAct S) (c : Configuration S)
    where
      asks_live : (a : Ask) (next : Reply → Configuration S)
          → ((r : Reply) → fits a r ≡ true → r ≢ reply.NoRoom → is_fault r ≡ false → OnLive (next r))
          → Keeps OnLive (asking c a next)
      asks_live a next all r fit told =
          behind_reply OnLive c (next r) r (λ faults on. absurd on) (λ faults. all r fit told faults)

      -- the turn of a thread

      module _ (k : ℕ) (stamps : List Stamp) (live : AreLive Live c) where
        -- it lives so now, beside these threads and rules
        now : (life : Life S) (m : Mode) (d : Configuration S) → AreLive Live d → LivesOn Live life
            → OnLive (becomes k life m d)
        now life m d all h on = record { threads = one_changes 0 k life d.threads h all.threads; rules = all.rules }

        abbrev on : (s : S) → Live s → OnLive (turns.goes_on k c s)
        on s h = now (Ready s) (turn_of k []) c live h

        abbrev comes : (d : Configuration S) → AreLive Live d → (s : S) → Live s → OnLive (turns.comes k d s)
        comes d all s h = now (Ready s) at_point d all h

        stamped_live : (file : List ℕ) → Keeps OnLive (turns.stamped k stamps c file)
        stamped_live file =
            asks_live (ask.Stamp file) (λ r. in_mode (turn_of k (stamps ++ stamp_in r ∷ [])) c)
            (λ r fit told faults on. record { threads = live.threads; rules = live.rules })

        with_live : (o : Option (List ℕ)) (d : Configuration S) → OnLive d
            → Keeps OnLive (turns.with_stamps k stamps c o d)
        with_live (Some file) d is = stamped_live file
        with_live None d is = is

        room_live : (b : Bool) (at : At) (f : RunFault) (d : Configuration S) → (b ≡ true → OnLive d)
            → Keeps OnLive (turns.where_room files b c at f d)
        room_live true at f d is = is refl
        room_live false at f d is = λ on. absurd on

        ticked_live : (b : Bool) (s : S) → Live s → Keeps OnLive (turns.ticked b k c s)
        ticked_live true s h =
            now (Ready s) (turn_of k []) (count_tick c) (record { threads = live.threads; rules = live.rules }) h
        ticked_live false s h = tt

        given_live : (point : Bool) (at : At) (a : Ask) (next : List Value → S)
            → ((us : List Value) → IsGiven {S = S} (Contacts a) us → Live (next us)) → (o : Outcome (List Value))
            → Gives S a o → OnLive (turns.given files point k c at next o)
        given_live true at a next h (Ok vs) gives = comes c live (next vs) (h vs gives)
        given_live false at a next h (Ok vs) gives = on (next vs) (h vs gives)
        given_live point at a next h (Err f) gives = λ on. absurd on

        awaited_live : (at : At) (next : List Value → S) → Live (next []) → (o : Outcome (List Id))
            → Keeps OnLive (turns.awaited files k c at next o)
        awaited_live at next h (Ok ids) = now (Waits ids (next [])) at_point c live h
        awaited_live at next h (Err f) = λ on. absurd on

        declared_live : (o : Option (List ℕ × ℕ)) (at : At) (rule : Rule) (next : List Value → S)
            → rule.retry ≤ MAX_RETRY → Live (next []) → Keeps OnLive (turns.declared_if files o k c at rule next)
        declared_live (Some p) at rule next few h = λ on. absurd on
        declared_live None at rule next few h =
            room_live (nat_lt (length c.rules) MAX_RULES) at run.TooManyRules
            (turns.goes_on k (with_rules (c.rules ++ rule ∷ []) c) (next []))
            (λ room. now (Ready (next [])) (turn_of k []) (with_rules (c.rules ++ rule ∷ []) c)
            (record { threads = live.threads; rules = one_rule c.rules rule live.rules few }) h)

        module _ (next : List Value → S) (targets : List (List ℕ))
            (h : (us : List Value) → IsGiven {S = S} (Achieves targets) us → Live (next us)) where
          few_enough : (n m : ℕ) → n + m ≤ MAX_TASKS → (n + 1) + m ≤ MAX_TASKS + 1
          few_enough n m le = omega arith

          planned_live : (at : At) (rules : List ℕ) → Keeps OnLive (turns.planned files k c at rules next)
          planned_live at rules =
              room_live (nat_le (length c.tasks + length rules) MAX_TASKS) at run.TooManyTasks _
              (λ room. comes (with_tasks (turns.tasks_planned k c rules) c)
              (record { threads = live.threads; rules = live.rules }) _
              (h _ (
                length c.tasks + 1,
                (
                  rules,
                  few_enough (length c.tasks) (length rules)
                      (leb-true (length c.tasks + length rules) MAX_TASKS room),
                  refl,
                ),
              )))

          planned_if_live : (o : Option (List ℕ)) (at : At)
              → Keeps OnLive (turns.planned_if files o k stamps c at targets next)
          planned_if_live (Some file) at = λ on. absurd on
          planned_if_live None at = planned_live at (plan c.rules targets stamps c.tasks)

          reached_live : (o : Option (List ℕ)) (at : At)
              → Keeps OnLive (turns.reached files o k stamps c at targets next)
          reached_live (Some file) at = stamped_live file
          reached_live None at = planned_if_live (unmade c.rules targets stamps c.tasks) at

          achieved_live : (b : Bool) (at : At) → Keeps OnLive (turns.achieved files b k stamps c at targets next)
          achieved_live true at = λ on. absurd on
          achieved_live false at = reached_live (slice_get (reach c.rules targets) (length stamps)) at

        within : (n : ℕ) → n < MAX_TASKS → n + 1 ≤ MAX_TASKS
        within n less = omega arith

        requested_live : (at : At) (request : Request S) (next : List Value → S) → IsFit Live request
            → ((us : List Value) → IsGiven request us → Live (next us))
            → Keeps OnLive (turns.requested files image step k stamps c at request next)
        requested_live at (Contacts a) next fit h =
            asks_live a (λ r. turns.given files (is_point a) k c at next (values_given a r))
            (λ r fit told faults. given_live (is_point a) at a next h (values_given a r)
            (values_given_so S a r fit told faults))
        requested_live at (Inspects question file) next fit h =
            asks_live (ask.Stamp file) (λ r. turns.goes_on k c (next (answer_to question (stamp_in r) ∷ [])))
            (λ r fit told faults. on (next (answer_to question (stamp_in r) ∷ []))
            (h (answer_to question (stamp_in r) ∷ []) (stamp_in r, refl)))
        requested_live at (Compares outs ins) next fit h =
            with_live (slice_get (outs ++ ins) (length stamps)) _ (on _ (h _ (turns.is_old c outs ins stamps, refl)))
        requested_live at (MakesTask task) next fit h =
            room_live (nat_lt (length c.tasks) MAX_TASKS) at run.TooManyTasks _
            (λ room. comes (with_tasks (added c.tasks (turns.made_in k task)) c)
            (record { threads = live.threads; rules = live.rules }) _
            (h _ (length c.tasks + 1, within (length c.tasks) (ltb-true (length c.tasks) MAX_TASKS room), refl)))
        requested_live at (Declares rule) next fit h =
            declared_live (made_already c.rules rule.outs) at rule next fit (h [] refl)
        requested_live at (Achieves targets) next fit h = achieved_live next targets h (has_cycle c.rules targets) at
        requested_live at (Spawns begins) next fit h =
            room_live (nat_lt (length c.threads) MAX_THREADS) at run.TooManyThreads _
            (λ room. comes (with_threads (c.threads ++ record { parent = k; life = Ready begins } ∷ []) c)
            (record {
              threads = one_more c.threads (record { parent = k; life = Ready begins }) live.threads fit;
              rules = live.rules;
            }) _
            (h _ (length c.threads, ltb-true (length c.threads) MAX_THREADS room, refl)))
        requested_live at (AwaitsIds texts) next fit h =
            awaited_live at next (h [] refl) (ids_of (length c.tasks) (length c.threads) texts)
        requested_live at AwaitsAll next fit h = now (Waits (made_by c k) (next [])) at_point c live (h [] refl)
        requested_live at (Saves path) next fit h =
            asks_live (ask.Save (turns.path_in c path) (image (turns.comes k c (next []))))
            (λ r. turns.comes k c (next [])) (λ r fit told faults. comes c live (next []) (h [] refl))

        taken_live : (a : ThreadAct S) → StaysLive Live a → Keeps OnLive (turns.taken files image step k stamps c a)
        taken_live (GoesOn false s) h = on s h
        taken_live (GoesOn true s) h = ticked_live (nat_lt c.used c.budget) s h
        taken_live (Needs at request next) h = requested_live at request next h.0 h.1
        taken_live (Stops at f) h = λ on. absurd on
        taken_live (Quits status) h = λ on. absurd on
        taken_live (Finishes s) h = now (Closes (made_by c k) s) at_point c live tt

        over_live : (w : Waited) (d : Configuration S) → OnLive d → Keeps OnLive (turns.over c w d)
        over_live (Failed n code) d is = λ on. absurd on
        over_live Well d is = is
        over_live Not d is = λ on. record { threads = live.threads; rules = live.rules }

        turn_live : ((s : S) → Live s → StaysLive Live (step s)) → (life : Life S) → LivesOn Live life
            → Keeps OnLive (turns.turn_in files image step k stamps c life)
        turn_live stays (Ready s) h = taken_live (step s) (stays s h)
        turn_live stays (Waits ids s) h = over_live (wait_state c ids) (turns.goes_on k c s) (on s h)
        turn_live stays (Closes ids s) h =
            over_live (wait_state c ids) (becomes k Ended at_point c) (now Ended at_point c live tt)
        turn_live stays Ended h = λ on. record { threads = live.threads; rules = live.rules }

        turned_live : ((s : S) → Live s → StaysLive Live (step s)) → (o : Option (Thread S))
            → slice_get c.threads k ≡ o → Keeps OnLive (turns.turn_at files image step k stamps c o)
        turned_live stays (Some t) is = turn_live stays t.life (live_at c.threads k t live.threads is)
        turned_live stays None is = λ on. record { threads = live.threads; rules = live.rules }

      -- at a point

      module _ (live : AreLive Live c) where
        also : (d : Configuration S) → d.threads ≡ c.threads → d.rules ≡ c.rules → OnLive d
        also d threads rules on =
            record {
              threads = subst AllLive (sym threads) live.threads;
              rules = subst HaveFewRetries (sym rules)
                  live.rules;
            }

        by_live : (r : Reply) → OnLive (chosen_by c r)
        by_live (reply.Bytes text) = also c refl refl
        by_live reply.Missing = also c refl refl
        by_live (reply.Stamp there size time) = also c refl refl
        by_live reply.Done = also c refl refl
        by_live (reply.SysDone code out) = also c refl refl
        by_live reply.Started = also c refl refl
        by_live (reply.Run k) = also (in_mode (turn_of k []) c) refl refl
        by_live (reply.Ended n code) = also (with_tasks (ended n code c.tasks) c) refl refl
        by_live reply.Fault = also c refl refl
        by_live reply.NoRoom = also c refl refl

        next_live : (ks ns : List ℕ) → Keeps OnLive (asking c (ask.Next ks ns) (chosen_by c))
        next_live ks ns = asks_live (ask.Next ks ns) (chosen_by c) (λ r fit told faults. by_live r)

        rest_live : (all : Bool) → OnLive (at_rest all c)
        rest_live true = λ on. absurd on
        rest_live false = λ on. absurd on

        listed_live : (ks ns : List ℕ) → Keeps OnLive (chosen c ks ns)
        listed_live [] [] = rest_live (all_ended c)
        listed_live (k ∷ []) [] = also (in_mode (turn_of k []) c) refl refl
        listed_live (k ∷ l ∷ ks) [] = next_live (k ∷ l ∷ ks) []
        listed_live [] (n ∷ ns) = next_live [] (n ∷ ns)
        listed_live (k ∷ []) (n ∷ ns) = next_live (k ∷ []) (n ∷ ns)
        listed_live (k ∷ l ∷ ks) (n ∷ ns) = next_live (k ∷ l ∷ ks) (n ∷ ns)

        point_live : (o : Option (ℕ × Task)) → Keeps OnLive (at_point_next c o)
        point_live (Some p) =
            asks_live (ask.Start p.0 p.1.attempt p.1.made.command) (λ r. with_tasks (started p.0 c.tasks) c)
            (λ r fit told faults. also (with_tasks (started p.0 c.tasks) c) refl refl)
        point_live None = listed_live (ready c) (running c.tasks)

      -- where the run stops

      module _ (cause : Cause) (stops : c.mode ≡ stopping cause) where
        over_here : (d : Configuration S) → d.mode ≡ c.mode → OnLive d
        over_here d same on = absurd (subst GoesOnIn (same ∙ stops) on)

        ended_live : (r : Reply) → OnLive (task_ended c r)
        ended_live (reply.Bytes text) = over_here c refl
        ended_live reply.Missing = over_here c refl
        ended_live (reply.Stamp there size time) = over_here c refl
        ended_live reply.Done = over_here c refl
        ended_live (reply.SysDone code out) = over_here c refl
        ended_live reply.Started = over_here c refl
        ended_live (reply.Run k) = over_here c refl
        ended_live (reply.Ended n code) = over_here (with_tasks (ended n code c.tasks) c) refl
        ended_live reply.Fault = over_here c refl
        ended_live reply.NoRoom = over_here c refl

        told_live : (last : Cause) → Keeps OnLive (told c last)
        told_live (exited status) = λ on. absurd on
        told_live (failed f) =
            asks_live (ask.Err (message_of f)) (λ r. in_mode (done 1) c) (λ r fit told faults on. absurd on)
        told_live (task_failed n code) =
            asks_live (ask.Err (message_of (fault.TaskFailed n code))) (λ r. in_mode saving c)
            (λ r fit told faults on. absurd on)

        stopped_live : (last : Cause) (ns : List ℕ) → Keeps OnLive (stopped c last ns)
        stopped_live last [] = told_live last
        stopped_live last (n ∷ ns) = asks_live (ask.Next [] (n ∷ ns)) (task_ended c) (λ r fit told faults. ended_live r)

      pub move_live : ((s : S) → Live s → StaysLive Live (step s)) → (m : Mode) → c.mode ≡ m → OnLive c
          → Keeps OnLive (move_in files image step c m)
      move_live stays at_point is live = point_live (live (subst GoesOnIn (sym is) tt)) (next_start c)
      move_live stays (turn_of k stamps) is live =
          turned_live k stamps (live (subst GoesOnIn (sym is) tt)) stays (slice_get c.threads k) refl
      move_live stays (stopping cause) is live = stopped_live cause is cause (running c.tasks)
      move_live stays saving is live =
          asks_live (ask.Save (checkpoint_of c.path) (image c)) (λ r. in_mode (done 1) c)
          (λ r fit told faults on. absurd on)
      move_live stays faulted is live = λ r fit told on. absurd on
      move_live stays fault_told is live = tt
      move_live stays (done status) is live = tt

      both : (m : Move S) → Keeps IsTurnOfReady m → Keeps OnLive m → Keeps (IsSound Live) m
      both (Goes d) right live = record { turn = right; live = live }
      both (Asks a next) right live = λ r fit told. record { turn = right r fit told; live = live r fit told }
      both (Ends e) right live = tt

      pub move_sound : ((s : S) → Live s → StaysLive Live (step s)) → IsSound Live c
          → Keeps (IsSound Live) (move_in files image step c c.mode)
      move_sound stays sound =
          both (move_in files image step c c.mode) (move_right files image step c c.mode refl sound.turn)
          (move_live stays c.mode refl sound.live)
