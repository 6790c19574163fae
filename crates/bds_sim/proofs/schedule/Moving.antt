-- From related configurations steps lead to ones that do the same next.
use Rattle.std.proofs.Common.{◌≡◌, ℕ, ◌+◌, ◌-◌, Bool, true, false, List, [], ◌∷◌, Option, Some, None, slice_get, refl, sym, ap, ◌∙◌, subst, arith}
use Rattle.std.specs.Prelude.{nat_lt}
use Rattle.bds_value.specs.declared.value.Stamp.{Stamp}
use Rattle.bds_host.specs.declared.asks.Ask.TheVariants as ask
use Rattle.bds_host.specs.declared.asks.Reply.{Reply}
use Rattle.bds_host.specs.declared.asks.Reply.TheVariants as reply
use Rattle.bds_host.specs.declared.faults.Fault.TheVariants as fault
use Rattle.bds_host.specs.Message.{message_of}
use Rattle.bds_tasks.specs.declared.task.Task.{Task}
use Rattle.bds_tasks.specs.declared.task.Waited.{Waited}
use Rattle.bds_tasks.specs.declared.task.Waited.TheVariants.{Not, Well, Failed}
use Rattle.bds_tasks.specs.Tasks.{running, task_at}
use Rattle.bds_tasks.specs.Starts.{startable, started}
use Rattle.bds_tasks.specs.Ends.{ended as tasks_ended}
use Rattle.bds_schedule.specs.Configuration.{Life, Ready, Ended, Thread, Configuration, Mode, Cause, at_point, turn_of, stopping, saving, faulted, fault_told, done, exited, failed, task_failed, in_mode, with_life_from}
use Rattle.bds_schedule.specs.Ids.{Id}
use Rattle.bds_schedule.specs.Moves.{next_start, move, chosen_by, at_rest, chosen, at_point_next}
use Rattle.bds_goal.proofs.GoalLinks.{starts}
use Rattle.bds_schedule.specs.Requests.{ThreadAct, GoesOn, Needs, Stops, Quits, Finishes}
use Rattle.bds_schedule.specs.Stages.{End, Spent, Done, DeviceFault, asking, unless_fault, task_ended, told, stopped, saved, checkpoint_of}
use Rattle.bds_schedule.specs.Steps.{Step, Ends}
use Rattle.bds_schedule.specs.Steps.{Goes as Moves}
use Rattle.bds_schedule.specs.Turns.{taken, ticked, over, turn_at}
use Rattle.bds_schedule.specs.Waiting.{ready, all_ended, wait_state}
use Rattle.bds_sim.specs.schedule.Agree.{IsTick, Walks, Meets, Agree}
use Rattle.bds_sim.specs.schedule.Related.{Plain, plain, Near, SameLife, SameThreads, IsNeeding, AreNeeding, Related, SameAsk, SameStep}
use Rattle.bds_sim.proofs.schedule.Taken.{conf, related, now, moded, asked, behind, taken_same}
use Rattle.bds_sim.proofs.schedule.Threads.{at_life, same_with, IsPair, pair_at, same_ready, same_all_ended, same_wait}
use Rattle.bds_sim.proofs.schedule.Walking.{Silent, stays, walked, taken_at, in_turn}

-- a tick with nothing left ends the run
pub spent_at : {S : Type 0} (files : List (List ℕ)) (image : Configuration S → List ℕ) (step : S → ThreadAct S) (k : ℕ) (c : Configuration S) (o : ThreadAct S) → IsTick o → nat_lt c.used c.budget ≡ false → taken files image step k [] c o ≡ Ends Spent
spent_at files image step k c (GoesOn true s) h e = ap (λ b. ticked b k c s) e
spent_at files image step k c (GoesOn false s) h e = absurd h
spent_at files image step k c (Needs at r f) h e = absurd h
spent_at files image step k c (Stops at f) h e = absurd h
spent_at files image step k c (Quits status) h e = absurd h
spent_at files image step k c (Finishes s) h e = absurd h

module _ {S M : Type 0} (R F : S → M → Type 0) (source : S → ThreadAct S) (machine : M → ThreadAct M) (files : List (List ℕ)) (bytes : List ℕ) (image : Configuration M → List ℕ) where
  abbrev image_s : Configuration S → List ℕ
  image_s c = bytes

  abbrev pub source_next : Configuration S → Step (Configuration S) End
  source_next c = move files (λ saved. bytes) source c

  abbrev pub machine_next : Configuration M → Step (Configuration M) End
  machine_next d = move files image machine d

  abbrev pub Rel : Configuration S → Configuration M → Type 0
  Rel c d = Related R F source machine c d

  abbrev pub Alike : Step (Configuration S) End → Step (Configuration M) End → Type 0
  Alike x y = SameStep R F source machine bytes image x y

  -- both go on without an ask to where they do the same
  pub record Aligned (c : Configuration S) (d : Configuration M) : Type 0 where
    pub c' : Configuration S
    pub d' : Configuration M
    pub of_source : Silent source_next c c'
    pub of_machine : Silent machine_next d d'
    pub alike : Alike (source_next c') (machine_next d')

  at_once : (c : Configuration S) (d : Configuration M) → Alike (source_next c) (machine_next d) → Aligned c d
  at_once c d a = record { c' = c; d' = d; of_source = stays source_next c; of_machine = stays machine_next d; alike = a }

  abbrev in_p : Mode → Plain → Plain
  in_p m p = record { path = p.path; cpus = p.cpus; budget = p.budget; used = p.used; tasks = p.tasks; rules = p.rules; mode = m }

  abbrev tasks_p : List Task → Plain → Plain
  tasks_p tasks p = record { path = p.path; cpus = p.cpus; budget = p.budget; used = p.used; tasks = tasks; rules = p.rules; mode = p.mode }

  module _ (ts : List (Thread S)) (us : List (Thread M)) (are : SameThreads R F source machine ts us) where
    moves_to : (m : Mode) (p : Plain) → Rel (in_mode m (conf p ts)) (in_mode m (conf p us)) → Alike (Moves (in_mode m (conf p ts))) (Moves (in_mode m (conf p us)))
    moves_to m p r = SameStep.go _ _ r

    -- at a point

    ended_same : (p : Plain) (m : Mode) → ((tasks : List Task) → Rel (conf (tasks_p tasks (in_p m p)) ts) (conf (tasks_p tasks (in_p m p)) us)) → (r : Reply) → Rel (task_ended (conf (in_p m p) ts) r) (task_ended (conf (in_p m p) us) r)
    ended_same p m rel (reply.Ended n code) = rel (tasks_ended n code p.tasks)
    ended_same p m rel (reply.Bytes text) = rel p.tasks
    ended_same p m rel reply.Missing = rel p.tasks
    ended_same p m rel (reply.Stamp there size time) = rel p.tasks
    ended_same p m rel reply.Done = rel p.tasks
    ended_same p m rel (reply.SysDone code out) = rel p.tasks
    ended_same p m rel reply.Started = rel p.tasks
    ended_same p m rel (reply.Run k) = rel p.tasks
    ended_same p m rel reply.Fault = rel p.tasks
    ended_same p m rel reply.NoRoom = rel p.tasks

    chosen_by_same : (p : Plain) (r : Reply) → Rel (chosen_by (conf (in_p at_point p) ts) r) (chosen_by (conf (in_p at_point p) us) r)
    chosen_by_same p (reply.Run k) = moded R F source machine (turn_of k []) p ts us tt are
    chosen_by_same p (reply.Ended n code) = related R F source machine (tasks_p (tasks_ended n code p.tasks) (in_p at_point p)) ts us tt are
    chosen_by_same p (reply.Bytes text) = related R F source machine (in_p at_point p) ts us tt are
    chosen_by_same p reply.Missing = related R F source machine (in_p at_point p) ts us tt are
    chosen_by_same p (reply.Stamp there size time) = related R F source machine (in_p at_point p) ts us tt are
    chosen_by_same p reply.Done = related R F source machine (in_p at_point p) ts us tt are
    chosen_by_same p (reply.SysDone code out) = related R F source machine (in_p at_point p) ts us tt are
    chosen_by_same p reply.Started = related R F source machine (in_p at_point p) ts us tt are
    chosen_by_same p reply.Fault = related R F source machine (in_p at_point p) ts us tt are
    chosen_by_same p reply.NoRoom = related R F source machine (in_p at_point p) ts us tt are

    rest_same : (p : Plain) (b : Bool) → Rel (at_rest b (conf p ts)) (at_rest b (conf p us))
    rest_same p true = moded R F source machine (done 0) p ts us tt are
    rest_same p false = moded R F source machine (stopping (failed fault.Deadlock)) p ts us tt are

    next_same : (p : Plain) (ks ns : List ℕ) → Alike (asking (conf (in_p at_point p) ts) (ask.Next ks ns) (chosen_by (conf (in_p at_point p) ts))) (asking (conf (in_p at_point p) us) (ask.Next ks ns) (chosen_by (conf (in_p at_point p) us)))
    next_same p ks ns = asked R F source machine files bytes image (in_p at_point p) ts us (ask.Next ks ns) _ _ tt are (λ r fit no_room fine. chosen_by_same p r)

    chosen_same : (p : Plain) (ks ns : List ℕ) → Alike (chosen (conf (in_p at_point p) ts) ks ns) (chosen (conf (in_p at_point p) us) ks ns)
    chosen_same p [] [] =
        subst (λ b. Alike (Moves (at_rest (all_ended (conf (in_p at_point p) ts)) (conf (in_p at_point p) ts))) (Moves (at_rest b (conf (in_p at_point p) us)))) (same_all_ended R F source machine ts us are)
        (SameStep.go _ _ (rest_same (in_p at_point p) (all_ended (conf (in_p at_point p) ts))))
    chosen_same p (k ∷ []) [] = SameStep.go _ _ (moded R F source machine (turn_of k []) p ts us tt are)
    chosen_same p [] (n ∷ ns) = next_same p [] (n ∷ ns)
    chosen_same p (k ∷ []) (n ∷ ns) = next_same p (k ∷ []) (n ∷ ns)
    chosen_same p (k ∷ k' ∷ ks) [] = next_same p (k ∷ k' ∷ ks) []
    chosen_same p (k ∷ k' ∷ ks) (n ∷ ns) = next_same p (k ∷ k' ∷ ks) (n ∷ ns)

    point_same : (p : Plain) (x : Option (ℕ × Task)) → Alike (at_point_next (conf (in_p at_point p) ts) x) (at_point_next (conf (in_p at_point p) us) x)
    point_same p (Some q) =
        asked R F source machine files bytes image (in_p at_point p) ts us (ask.Start q.0 q.1.attempt q.1.made.command) _ _ tt are
        (λ r fit no_room fine. related R F source machine (tasks_p (started q.0 p.tasks) (in_p at_point p)) ts us tt are)
    point_same p None =
        subst (λ ks. Alike (chosen (conf (in_p at_point p) ts) (ready (conf (in_p at_point p) ts)) (running p.tasks)) (chosen (conf (in_p at_point p) us) ks (running p.tasks)))
        (same_ready R F source machine (conf (in_p at_point p) ts) (conf (in_p at_point p) us) refl are)
        (chosen_same p (ready (conf (in_p at_point p) ts)) (running p.tasks))

    -- stopping

    told_same : (p : Plain) (cause : Cause) → Alike (told (conf p ts) cause) (told (conf p us) cause)
    told_same p (exited status) = SameStep.go _ _ (moded R F source machine (done status) p ts us tt are)
    told_same p (failed f) = asked R F source machine files bytes image p ts us (ask.Err (message_of f)) _ _ tt are (λ r fit no_room fine. moded R F source machine (done 1) p ts us tt are)
    told_same p (task_failed n code) =
        asked R F source machine files bytes image p ts us (ask.Err (message_of (fault.TaskFailed n code))) _ _ tt are (λ r fit no_room fine. moded R F source machine saving p ts us tt are)

    stopped_same : (p : Plain) (cause : Cause) (ns : List ℕ) → Alike (stopped (conf (in_p (stopping cause) p) ts) cause ns) (stopped (conf (in_p (stopping cause) p) us) cause ns)
    stopped_same p cause [] = told_same (in_p (stopping cause) p) cause
    stopped_same p cause (n ∷ ns) =
        asked R F source machine files bytes image (in_p (stopping cause) p) ts us (ask.Next [] (n ∷ ns)) _ _ tt are
        (λ r fit no_room fine. ended_same p (stopping cause) (λ tasks. related R F source machine (tasks_p tasks (in_p (stopping cause) p)) ts us tt are) r)

    saving_same : (p : Plain) → Alike (saved (conf (in_p saving p) ts) bytes) (saved (conf (in_p saving p) us) (image (conf (in_p saving p) us)))
    saving_same p =
        let c : Configuration S = conf (in_p saving p) ts in
        let d : Configuration M = conf (in_p saving p) us in
        SameStep.make _ _ (λ r. unless_fault c r (in_mode (done 1) c)) (λ r. unless_fault d r (in_mode (done 1) d))
        (SameAsk.saves (checkpoint_of p.path) c d (λ r. unless_fault c r (in_mode (done 1) c)) (λ r. unless_fault d r (in_mode (done 1) d)) (related R F source machine (in_p saving p) ts us tt are) (λ cpus budget. refl) (λ cpus budget. refl))
        (behind R F source machine files bytes image c d (ask.Save (checkpoint_of p.path) bytes) (λ r. in_mode (done 1) c) (λ r. in_mode (done 1) d) (moded R F source machine faulted p ts us tt are) (λ r fit no_room fine. moded R F source machine (done 1) p ts us tt are))

    faulted_same : (p : Plain) → Alike (source_next (conf (in_p faulted p) ts)) (machine_next (conf (in_p faulted p) us))
    faulted_same p = SameStep.make _ _ _ _ (SameAsk.plainly (ask.Err (message_of fault.Device)) _ _ tt) (λ r fit no_room. moded R F source machine fault_told p ts us tt are)

    -- the turn of a thread

    needing_same : (p : Plain) (k : ℕ) (stamps : List Stamp) (need : IsNeeding R F source machine (slice_get ts k) (slice_get us k)) (x : Option (Thread S)) (y : Option (Thread M)) → IsNeeding R F source machine x y
        → Alike (turn_at files image_s source k stamps (conf p ts) x) (turn_at files image machine k stamps (conf p us) y)
    needing_same p k stamps need _ _ (IsNeeding.needing q q' s m same) = taken_same R F source machine files bytes image p ts us k stamps are need (source s) (machine m) same

    over_same : (p : Plain) (w : Waited) (c : Configuration S) (d : Configuration M) → Rel c d → Alike (over (conf p ts) w c) (over (conf p us) w d)
    over_same p (Failed n code) c d r = SameStep.go _ _ (moded R F source machine (stopping (task_failed n code)) p ts us tt are)
    over_same p Well c d r = SameStep.go _ _ r
    over_same p Not c d r = SameStep.go _ _ (moded R F source machine at_point p ts us tt are)

    waited_same : (p : Plain) (ids : List Id) (c : Configuration S) (d : Configuration M) → Rel c d → Alike (over (conf p ts) (wait_state (conf p ts) ids) c) (over (conf p us) (wait_state (conf p us) ids) d)
    waited_same p ids c d r =
        subst (λ w. Alike (over (conf p ts) (wait_state (conf p ts) ids) c) (over (conf p us) w d)) (same_wait R F source machine (conf p ts) (conf p us) refl are ids)
        (over_same p (wait_state (conf p ts) ids) c d r)

    module _ (p : Plain) (k : ℕ) where
      abbrev now_s : Configuration S
      now_s = conf (in_turn files image_s source k p.used p) ts

      abbrev now_m : Configuration M
      now_m = conf (in_turn files image machine k p.used p) us

      meets : (parent : ℕ) (s : S) (m : M) → slice_get ts k ≡ Some (record { parent = parent; life = Ready s }) → slice_get us k ≡ Some (record { parent = parent; life = Ready m }) → Meets R F source machine s m (p.budget - p.used)
          → Aligned now_s now_m
      meets parent s m is is' (Meets.leave s' m' t le ws wm same) =
          let vs : List (Thread S) = with_life_from 0 k (Ready s') ts in
          let ws' : List (Thread M) = with_life_from 0 k (Ready m') us in
          let at_s : slice_get vs k ≡ Some (record { parent = parent; life = Ready s' }) = at_life k (Ready s') parent (Ready s) ts is in
          let at_m : slice_get ws' k ≡ Some (record { parent = parent; life = Ready m' }) = at_life k (Ready m') parent (Ready m) us is' in
          let q : Plain = in_turn files image_s source k (p.used + t) p in
          let need : IsNeeding R F source machine (slice_get vs k) (slice_get ws' k) = subst (λ x. IsNeeding R F source machine x (slice_get ws' k)) (sym at_s) (subst (λ y. IsNeeding R F source machine (Some (record { parent = parent; life = Ready s' })) y) (sym at_m) (IsNeeding.needing parent parent s' m' same)) in
          record {
            c' = conf q vs;
            d' = conf q ws';
            of_source = walked files image_s source k p.used parent p ts s t s' le is ws;
            of_machine = walked files image machine k p.used parent p us m t m' le is' wm;
            alike = subst (λ x. Alike x (machine_next (conf q ws'))) (sym (taken_at files image_s source k (p.used + t) parent s' p vs at_s))
                (subst (λ y. Alike (taken files image_s source k [] (conf q vs) (source s')) y) (sym (taken_at files image machine k (p.used + t) parent m' p ws' at_m))
                (taken_same R F source machine files bytes image q vs ws' k [] (same_with R F source machine 0 k (Ready s') (Ready m') ts us (SameLife.ready s' m' (Near.leaves same)) are) need (source s') (machine m') same));
          }
      meets parent s m is is' (Meets.spend s' m' ws wm tick tick') =
          let left : ℕ = p.budget - p.used in
          let vs : List (Thread S) = with_life_from 0 k (Ready s') ts in
          let ws' : List (Thread M) = with_life_from 0 k (Ready m') us in
          let q : Plain = in_turn files image_s source k (p.used + left) p in
          let none : nat_lt (p.used + left) p.budget ≡ false = Rattle.std.proofs.lemmas.Bool.le-ltb (p.used + left) p.budget (omega arith) in
          record {
            c' = conf q vs;
            d' = conf q ws';
            of_source = walked files image_s source k p.used parent p ts s left s' (omega arith) is ws;
            of_machine = walked files image machine k p.used parent p us m left m' (omega arith) is' wm;
            alike = subst (λ x. Alike x (machine_next (conf q ws'))) (sym (taken_at files image_s source k (p.used + left) parent s' p vs (at_life k (Ready s') parent (Ready s) ts is) ∙ spent_at files image_s source k (conf q vs) (source s') tick none))
                (subst (λ y. Alike (Ends Spent) y) (sym (taken_at files image machine k (p.used + left) parent m' p ws' (at_life k (Ready m') parent (Ready m) us is') ∙ spent_at files image machine k (conf q ws') (machine m') tick' none))
                (SameStep.end Spent));
          }

      turned_by : (x : Option (Thread S)) (y : Option (Thread M)) → slice_get ts k ≡ x → slice_get us k ≡ y → Alike (turn_at files image_s source k [] now_s x) (turn_at files image machine k [] now_m y) → Aligned now_s now_m
      turned_by x y e e' a =
          at_once now_s now_m (subst (λ x. Alike (turn_at files image_s source k [] now_s x) (turn_at files image machine k [] now_m (slice_get us k))) (sym e) (subst (λ y. Alike (turn_at files image_s source k [] now_s x) (turn_at files image machine k [] now_m y)) (sym e') a))

      module _ (law : Agree R F source machine) where
        near_meets : (s : S) (m : M) → Near R F source machine s m → (left : ℕ) → Meets R F source machine s m left
        near_meets s m (Near.stands r) left = law s m r left
        near_meets s m (Near.leaves same) left = Meets.leave s m 0 (omega arith) (Walks.here s) (Walks.here m) same

        lives_so : (parent : ℕ) (x : Life S) (y : Life M) → SameLife R F source machine x y → slice_get ts k ≡ Some (record { parent = parent; life = x }) → slice_get us k ≡ Some (record { parent = parent; life = y }) → Aligned now_s now_m
        lives_so parent _ _ (SameLife.ready s m near) e e' = meets parent s m e e' (near_meets s m near (p.budget - p.used))
        lives_so parent _ _ (SameLife.waits ids s m r) e e' =
            turned_by _ _ e e' (waited_same (in_turn files image_s source k p.used p) ids _ _ (now R F source machine k (Ready s) (Ready m) (turn_of k []) (in_turn files image_s source k p.used p) ts us tt (SameLife.ready s m (Near.stands r)) are))
        lives_so parent _ _ (SameLife.closes ids s m h) e e' =
            turned_by _ _ e e' (waited_same (in_turn files image_s source k p.used p) ids _ _ (now R F source machine k Ended Ended at_point (in_turn files image_s source k p.used p) ts us tt SameLife.ended are))
        lives_so parent _ _ SameLife.ended e e' = turned_by _ _ e e' (SameStep.go _ _ (moded R F source machine at_point (in_turn files image_s source k p.used p) ts us tt are))

        of_pair : (x : Option (Thread S)) (y : Option (Thread M)) → slice_get ts k ≡ x → slice_get us k ≡ y → IsPair R F source machine x y → Aligned now_s now_m
        of_pair _ _ e e' IsPair.none = turned_by None None e e' (SameStep.go _ _ (moded R F source machine at_point (in_turn files image_s source k p.used p) ts us tt are))
        of_pair _ _ e e' (IsPair.both parent x y life) = lives_so parent x y life e e'

    module _ (law : Agree R F source machine) where
      by_mode : (p : Plain) (m : Mode) → AreNeeding R F source machine m ts us → Aligned (conf (in_p m p) ts) (conf (in_p m p) us)
      by_mode p at_point need = at_once _ _ (point_same p (next_start (conf p ts)))
      by_mode p (turn_of k []) need = of_pair p k law (slice_get ts k) (slice_get us k) refl refl (pair_at R F source machine ts us k are)
      by_mode p (turn_of k (x ∷ xs)) need = at_once _ _ (needing_same (in_p (turn_of k (x ∷ xs)) p) k (x ∷ xs) need (slice_get ts k) (slice_get us k) need)
      by_mode p (stopping cause) need = at_once _ _ (stopped_same p cause (running p.tasks))
      by_mode p saving need = at_once _ _ (saving_same p)
      by_mode p faulted need = at_once _ _ (faulted_same p)
      by_mode p fault_told need = at_once _ _ (SameStep.end DeviceFault)
      by_mode p (done status) need = at_once _ _ (SameStep.end (Done status))

  module _ (law : Agree R F source machine) where
    -- related configurations come to where they do the same next
    pub aligned : (c : Configuration S) (d : Configuration M) → Rel c d → Aligned c d
    aligned c d r = subst (λ q. Aligned c (conf q d.threads)) r.same (by_mode c.threads d.threads r.threads law (plain c) c.mode r.needing)
