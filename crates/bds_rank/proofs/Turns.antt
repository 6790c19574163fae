-- What a thread does in its turn leaves less of the run.
use Rattle.std.proofs.Common.{◌≡◌, ◌⊎◌, inl, inr, ℕ, zero, suc, ◌+◌, ◌-◌, ◌*◌, ◌<◌, ◌≤◌, Bool, true, false, List, []}
use Rattle.std.proofs.Common.{◌∷◌, ◌++◌, length, Option, Some, None, Ok, Err, ap, refl, arith}
use Rattle.std.specs.Prelude.{slice_get, nat_lt, nat_le, unwrap_or}
use Rattle.std.proofs.lemmas.Bool.{ltb-true, leb-true}
use Rattle.bds_value.specs.declared.TheConstants.{MAX_THREADS, MAX_TASKS, MAX_RETRY, MAX_RULES}
use Rattle.bds_value.specs.declared.value.At.{At}
use Rattle.bds_value.specs.declared.value.Stamp.{Stamp}
use Rattle.bds_value.specs.declared.value.Value.{Value}
use Rattle.bds_value.specs.declared.faults.RunFault.{RunFault}
use Rattle.bds_value.specs.declared.faults.RunFault.TheVariants as run
use Rattle.bds_host.specs.declared.faults.Fault.TheVariants as fault
use Rattle.bds_host.specs.declared.asks.Reply.{Reply}
use Rattle.bds_goal.specs.Needs.{rule_at}
use Rattle.bds_goal.specs.Plan.{plan, unmade}
use Rattle.bds_goal.specs.Reach.{reach, has_cycle}
use Rattle.bds_rules.specs.Makers.{made_already}
use Rattle.bds_rules.specs.declared.rule.Rule.{Rule}
use Rattle.bds_schedule.specs.Configuration.{Life, Ready, Waits, Closes, Thread, Configuration, Cause, exited, failed}
use Rattle.bds_schedule.specs.Configuration.{Mode, at_point, turn_of, stopping, faulted, in_mode, with_threads}
use Rattle.bds_schedule.specs.Configuration.{with_tasks, with_rules, count_tick, becomes, with_life_from}
use Rattle.bds_schedule.specs.Faults.{Outcome}
use Rattle.bds_schedule.specs.Ids.{Id, ids_of}
use Rattle.bds_schedule.specs.Replies.{values_given, answer_to, is_point, stamp_in}
use Rattle.bds_schedule.specs.Requests.{Contacts, Inspects, Compares, MakesTask, Declares, Achieves, Spawns, AwaitsIds}
use Rattle.bds_schedule.specs.Requests.{AwaitsAll, Saves, ThreadAct, GoesOn, Needs, Stops, Quits, Finishes}
use Rattle.bds_schedule.specs.Stages.{fails, unless_fault}
use Rattle.bds_schedule.specs.Turns as turns
use Rattle.bds_rank.proofs.Replies.{behind_reply}
use Rattle.bds_rank.specs.Left.{all_left, left, left_in, life_left, tasks_left, threads_left}
use Rattle.bds_rank.specs.Lessening.{Falls, HasStampMore, Lessens}
use Rattle.bds_rank.proofs.Tasks.{added_left, planned_left}
use Rattle.bds_rank.proofs.Threads.{changed_left, more_left}

less_so : (a a' b b' t t' x x' : ℕ) → a' ≤ a → b' + x ≤ b + x' → x' < x → t' ≤ t
    → a' * 67108865 + b' + t' < a * 67108865 + b + t
less_so a a' b b' t t' x x' ticks threads life tasks = omega arith

less_by_tick : (a a' b b' t x x' : ℕ) → a' + 1 ≤ a → b' + x ≤ b + x' → x' ≤ x + 67108864
    → a' * 67108865 + b' + t < a * 67108865 + b + t
less_by_tick a a' b b' t x x' ticks threads life = omega arith

module _ {S : Type 0} (weight : S → ℕ) where
  still : (ts us : List (Thread S)) (k : ℕ) (t : Thread S) → slice_get ts k ≡ Some t → slice_get (ts ++ us) k ≡ Some t
  still [] us k t there = absurd (cc there)
  still (y ∷ ys) us zero t there = there
  still (y ∷ ys) us (suc k) t there = still ys us k t there

  -- a thread changes, where nothing else has become more
  pub becomes_less : (k : ℕ) (life : Life S) (m : Mode) (c d : Configuration S) (t : Thread S)
      → slice_get d.threads k ≡ Some t → threads_left weight d.threads ≤ threads_left weight c.threads
      → tasks_left d.tasks ≤ tasks_left c.tasks
      → d.budget - d.used ≤ c.budget - c.used → life_left weight life < life_left weight t.life
      → all_left weight (becomes k life m d) < all_left weight c
  becomes_less k life m c d t there threads tasks ticks less =
      let e = changed_left weight k life d.threads t there in
      less_so (c.budget - c.used) (d.budget - d.used) (threads_left weight c.threads)
      (threads_left weight (with_life_from 0 k life d.threads)) (tasks_left c.tasks) (tasks_left d.tasks)
      (life_left weight t.life) (life_left weight life) ticks (omega arith) less tasks

  -- a turn leaves what all may do still, and the turn itself
  module _ (c : Configuration S) (k : ℕ) (stamps : List Stamp) (turn : c.mode ≡ turn_of k stamps) where
    pub in_turn : left weight c ≡ 2 * all_left weight c + 4
    in_turn = ap (λ m. left_in weight m c) turn

    pub goes_on_less : (d : Configuration S) → all_left weight d < all_left weight c → d.mode ≡ turn_of k []
        → left weight d < left weight c
    goes_on_less d less is =
        both_less (left weight d) (left weight c) (all_left weight d) (all_left weight c)
        (ap (λ m. left_in weight m d) is) in_turn less
      where
        both_less : (x y a b : ℕ) → x ≡ 2 * a + 4 → y ≡ 2 * b + 4 → a < b → x < y
        both_less x y a b e f less = omega arith

    pub comes_less : (d : Configuration S) → all_left weight d < all_left weight c → d.mode ≡ at_point
        → left weight d < left weight c
    comes_less d less is =
        both_less (left weight d) (left weight c) (all_left weight d) (all_left weight c)
        (ap (λ m. left_in weight m d) is) in_turn less
      where
        both_less : (x y a b : ℕ) → x ≡ 2 * a + 5 → y ≡ 2 * b + 4 → a < b → x < y
        both_less x y a b e f less = omega arith

    pub stopping_less : (cause : Cause) → left weight (in_mode (stopping cause) c) < left weight c
    stopping_less cause =
        tasks_less (left weight c) ((c.budget - c.used) * 67108865 + threads_left weight c.threads)
        (tasks_left c.tasks) in_turn
      where
        tasks_less : (y a t : ℕ) → y ≡ 2 * (a + t) + 4 → 2 * t + 3 < y
        tasks_less y a t e = omega arith

    pub fault_less : left weight (in_mode faulted c) < left weight c
    fault_less = one_less (left weight c) (all_left weight c) in_turn
      where
        one_less : (y a : ℕ) → y ≡ 2 * a + 4 → 1 < y
        one_less y a e = omega arith

  module _ (files : List (List ℕ)) (image : Configuration S → List ℕ) (k : ℕ) (stamps : List Stamp)
      (c : Configuration S) (turn : c.mode ≡ turn_of k stamps) (t : Thread S)
      (there : slice_get c.threads k ≡ Some t) (s : S) (ready : t.life ≡ Ready s) where
    abbrev Less : Configuration S → Type 0
    Less d = left weight d < left weight c

    abbrev LessOr : Configuration S → Type 0
    LessOr d = Less d ⊎ HasStampMore weight c d

    now : life_left weight t.life ≡ 2 * weight s + 2
    now = ap (λ l. life_left weight l) ready

    stops_less : (cause : Cause) → Less (in_mode (stopping cause) c)
    stops_less cause = stopping_less c k stamps turn cause

    fails_less : (at : At) (f : RunFault) → Less (fails files c at f)
    fails_less at f = stops_less (failed (fault.Run (unwrap_or (slice_get files at.file) c.path) at.line f))

    -- with less ahead in its code, and nothing else more
    ready_less : (m : Mode) (d : Configuration S) → slice_get d.threads k ≡ Some t
        → threads_left weight d.threads ≤ threads_left weight c.threads → tasks_left d.tasks ≤ tasks_left c.tasks
        → d.budget - d.used ≤ c.budget - c.used
        → (s' : S) → weight s' < weight s → all_left weight (becomes k (Ready s') m d) < all_left weight c
    ready_less m d at threads tasks ticks s' less =
        let n = now in becomes_less k (Ready s') m c d t at threads tasks ticks (omega arith)

    on_less : (s' : S) → weight s' < weight s → Less (turns.goes_on k c s')
    on_less s' less =
        goes_on_less c k stamps turn (turns.goes_on k c s')
        (ready_less (turn_of k []) c there (omega arith) (omega arith) (omega arith) s' less) refl

    -- with other threads and tasks, of which no more is left
    point_less : (d : Configuration S) → slice_get d.threads k ≡ Some t
        → threads_left weight d.threads ≤ threads_left weight c.threads → tasks_left d.tasks ≤ tasks_left c.tasks
        → d.budget - d.used ≤ c.budget - c.used
        → (s' : S) → weight s' < weight s → Less (turns.comes k d s')
    point_less d at threads tasks ticks s' less =
        comes_less c k stamps turn (turns.comes k d s') (ready_less at_point d at threads tasks ticks s' less) refl

    waits_less : (ids : List Id) (s' : S) → weight s' < weight s → Less (becomes k (Waits ids s') at_point c)
    waits_less ids s' less =
        let n = now in
        comes_less c k stamps turn (becomes k (Waits ids s') at_point c)
        (becomes_less k (Waits ids s') at_point c c t there (omega arith) (omega arith) (omega arith)
        (omega arith)) refl

    tick_less : (b : Bool) → nat_lt c.used c.budget ≡ b → (s' : S) → weight s' < weight s + 33554432
        → Lessens weight c (turns.ticked b k c s')
    tick_less true is s' less =
        let n = now in
        let room : c.used < c.budget = ltb-true c.used c.budget is in
        let e = changed_left weight k (Ready s') c.threads t there in
        goes_on_less c k stamps turn (turns.goes_on k (count_tick c) s')
        (less_by_tick (c.budget - c.used) (c.budget - (c.used + 1)) (threads_left weight c.threads)
        (threads_left weight (with_life_from 0 k (Ready s') c.threads)) (tasks_left c.tasks)
        (life_left weight t.life) (life_left weight (Ready s')) (omega arith) (omega arith) (omega arith)) refl
    tick_less false is s' less = tt

    -- an ask
    asks_less : (next : Reply → Configuration S) → ((r : Reply) → LessOr (next r)) → (r : Reply)
        → LessOr (unless_fault c r (next r))
    asks_less next less r =
        behind_reply LessOr c (next r) r (λ faults. inl (fault_less c k stamps turn)) (λ faults. less r)

    stamped_less : (file : List ℕ) → Lessens weight c (turns.stamped k stamps c file)
    stamped_less file r fit told =
        asks_less _
        (λ r. inr (record { thread = k; stamps = stamps; stamp = stamp_in r; turn = turn; behind = refl })) r

    with_stamps_less : (o : Option (List ℕ)) (d : Configuration S) → Less d
        → Lessens weight c (turns.with_stamps k stamps c o d)
    with_stamps_less (Some file) d less = stamped_less file
    with_stamps_less None d less = less

    room_less : (b : Bool) (at : At) (f : RunFault) (d : Configuration S) → (b ≡ true → Less d)
        → Lessens weight c (turns.where_room files b c at f d)
    room_less true at f d less = less refl
    room_less false at f d less = fails_less at f

    module _ (next : List Value → S) (falls : (us : List Value) → weight (next us) < weight s) where
      given_less : (point : Bool) (at : At) (o : Outcome (List Value)) → Less (turns.given files point k c at next o)
      given_less true at (Ok vs) = point_less c there (omega arith) (omega arith) (omega arith) (next vs) (falls vs)
      given_less false at (Ok vs) = on_less (next vs) (falls vs)
      given_less point at (Err f) = fails_less at f

      awaited_less : (at : At) (o : Outcome (List Id)) → Lessens weight c (turns.awaited files k c at next o)
      awaited_less at (Ok ids) = waits_less ids (next []) (falls [])
      awaited_less at (Err f) = fails_less at f

      declared_less : (o : Option (List ℕ × ℕ)) (at : At) (rule : Rule)
          → Lessens weight c (turns.declared_if files o k c at rule next)
      declared_less (Some p) at rule = fails_less at (run.TwoRules p.0 p.1)
      declared_less None at rule = room_less (nat_lt (length c.rules) MAX_RULES) at _ _
          (λ room. goes_on_less c k stamps turn (turns.goes_on k (with_rules (c.rules ++ rule ∷ []) c) (next []))
          (ready_less (turn_of k []) (with_rules (c.rules ++ rule ∷ []) c) there (omega arith) (omega arith)
          (omega arith) (next []) (falls [])) refl)

      module _ (few : (n : ℕ) → (rule_at c.rules n).retry ≤ MAX_RETRY) where
        planned_less : (at : At) (rules : List ℕ) → Lessens weight c (turns.planned files k c at rules next)
        planned_less at rules =
            room_less (nat_le (length c.tasks + length rules) MAX_TASKS) at _ _
            (λ room. point_less (with_tasks (turns.tasks_planned k c rules) c) there (omega arith)
            (planned_left (λ r. turns.task_of_rule k (rule_at c.rules r)) few rules c.tasks
            (leb-true (length c.tasks + length rules) MAX_TASKS room)) (omega arith) (next _) (falls _))

        planned_if_less : (o : Option (List ℕ)) (at : At) (targets : List (List ℕ))
            → Lessens weight c (turns.planned_if files o k stamps c at targets next)
        planned_if_less (Some file) at targets = fails_less at (run.NoRule file)
        planned_if_less None at targets = planned_less at (plan c.rules targets stamps c.tasks)

        reached_less : (o : Option (List ℕ)) (at : At) (targets : List (List ℕ))
            → Lessens weight c (turns.reached files o k stamps c at targets next)
        reached_less (Some file) at targets = stamped_less file
        reached_less None at targets = planned_if_less (unmade c.rules targets stamps c.tasks) at targets

        achieved_less : (b : Bool) (at : At) (targets : List (List ℕ))
            → Lessens weight c (turns.achieved files b k stamps c at targets next)
        achieved_less true at targets = fails_less at (run.Cycle [])
        achieved_less false at targets = reached_less (slice_get (reach c.rules targets) (length stamps)) at targets

    pub taken_less : ((n : ℕ) → (rule_at c.rules n).retry ≤ MAX_RETRY) → (step : S → ThreadAct S) (a : ThreadAct S)
        → Falls weight s a → Lessens weight c (turns.taken files image step k stamps c a)
    taken_less few step (GoesOn false s') falls = on_less s' falls
    taken_less few step (GoesOn true s') falls = tick_less (nat_lt c.used c.budget) refl s' falls
    taken_less few step (Needs at (Contacts a) next) falls =
        λ r fit told. asks_less (λ r. turns.given files (is_point a) k c at next (values_given a r))
        (λ r. inl (given_less next falls.1 (is_point a) at (values_given a r))) r
    taken_less few step (Needs at (Inspects question file) next) falls =
        λ r fit told. asks_less (λ r. turns.goes_on k c (next (answer_to question (stamp_in r) ∷ [])))
        (λ r. inl
        (on_less (next (answer_to question (stamp_in r) ∷ []))
        (falls.1 (answer_to question (stamp_in r) ∷ [])))) r
    taken_less few step (Needs at (Compares outs ins) next) falls =
        with_stamps_less (slice_get (outs ++ ins) (length stamps)) _ (on_less _ (falls.1 _))
    taken_less few step (Needs at (MakesTask task) next) falls =
        room_less (nat_lt (length c.tasks) MAX_TASKS) at _ _
        (λ room. point_less (with_tasks _ c) there (omega arith)
        (let e = added_left c.tasks (turns.made_in k task) (ltb-true (length c.tasks) MAX_TASKS room)
        falls.0 in omega arith) (omega arith) (next _) (falls.1 _))
    taken_less few step (Needs at (Declares rule) next) falls =
        declared_less next falls.1 (made_already c.rules rule.outs) at rule
    taken_less few step (Needs at (Achieves targets) next) falls =
        achieved_less next falls.1 few (has_cycle c.rules targets) at targets
    taken_less few step (Needs at (Spawns begins) next) falls =
        let new : Thread S = record { parent = k; life = Ready begins } in
        let w = falls.0 in
        room_less (nat_lt (length c.threads) MAX_THREADS) at _ _
        (λ room. point_less (with_threads (c.threads ++ new ∷ []) c) (still c.threads (new ∷ []) k t there)
        (let e = more_left weight c.threads new (ltb-true (length c.threads) MAX_THREADS room) (omega arith) in
        omega arith) (omega arith) (omega arith) (next _) (falls.1 _))
    taken_less few step (Needs at (AwaitsIds texts) next) falls =
        awaited_less next falls.1 at (ids_of (length c.tasks) (length c.threads) texts)
    taken_less few step (Needs at AwaitsAll next) falls = waits_less _ (next []) (falls.1 [])
    taken_less few step (Needs at (Saves path) next) falls =
        λ r fit told. asks_less (λ r. turns.comes k c (next []))
        (λ r. inl (point_less c there (omega arith) (omega arith) (omega arith) (next []) (falls.1 []))) r
    taken_less few step (Stops at f) falls = fails_less at f
    taken_less few step (Quits status) falls = stops_less (exited status)
    taken_less few step (Finishes s') falls =
        let n = now in
        comes_less c k stamps turn (becomes k (Closes _ s') at_point c)
        (becomes_less k (Closes _ s') at_point c c t there (omega arith) (omega arith) (omega arith)
        (omega arith)) refl
