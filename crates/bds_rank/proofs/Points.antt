-- What happens between the turns leaves less of the run.
use Rattle.std.proofs.Common.{◌≡◌, ◌≢◌, ◌⊎◌, inl, ℕ, ◌+◌, ◌-◌, ◌*◌, ◌<◌, Bool, true, false, List, [], ◌∷◌, Option, Some}
use Rattle.std.proofs.Common.{None, ap, refl, subst, arith}
use Rattle.std.specs.Option.{option_map}
use Rattle.std.proofs.lemmas.Bool.{false≢true}
use Rattle.bds_value.specs.Options.{◌>>=◌}
use Rattle.bds_host.specs.declared.asks.Ask.TheVariants as ask
use Rattle.bds_host.specs.declared.asks.Reply.{Reply}
use Rattle.bds_host.specs.declared.asks.Reply.TheVariants as reply
use Rattle.bds_host.specs.Asks.{has}
use Rattle.bds_tasks.specs.declared.task.Task.{Task}
use Rattle.bds_tasks.specs.Ends.{ended}
use Rattle.bds_tasks.specs.Starts.{started, startable}
use Rattle.bds_tasks.specs.Tasks.{running, task_at}
use Rattle.bds_schedule.specs.Configuration.{Configuration, Cause, exited, failed, task_failed, Mode, at_point, turn_of}
use Rattle.bds_schedule.specs.Configuration.{stopping, saving, faulted, fault_told, done, in_mode, with_tasks}
use Rattle.bds_schedule.specs.Moves.{move_in, at_rest, chosen, chosen_by, at_point_next, next_start}
use Rattle.bds_schedule.specs.Requests.{ThreadAct}
use Rattle.bds_schedule.specs.Stages.{unless_fault, told, stopped, task_ended}
use Rattle.bds_schedule.specs.Steps.{Asks}
use Rattle.bds_schedule.specs.Waiting.{ready, all_ended}
use Rattle.bds_goal.proofs.MakerLaws.{some_is}
use Rattle.bds_rank.proofs.Replies.{behind_reply}
use Rattle.bds_rank.specs.Left.{all_left, left, left_in, tasks_left, threads_left}
use Rattle.bds_rank.specs.Lessening.{HasStampMore, IsNoTurn, Lessens}
use Rattle.bds_rank.proofs.Tasks.{ended_left, started_left}

by_tasks : (x y a t t' : ℕ) → x ≡ 2 * (a + t') + 5 → y ≡ 2 * (a + t) + 5 → t' < t → x < y
by_tasks x y a t t' e f less = omega arith

by_ends : (x y t t' : ℕ) → x ≡ 2 * t' + 3 → y ≡ 2 * t + 3 → t' < t → x < y
by_ends x y t t' e f less = omega arith

next_is : (ts : List Task) (o : Option ℕ) (p : ℕ × Task)
    → (o >>= λ n. option_map (λ t. (n, t)) (task_at ts n)) ≡ Some p → o ≡ Some p.0
next_is ts None p is = absurd (cc is)
next_is ts (Some n) p is = go (task_at ts n) is
  where
    go : (o : Option Task) → option_map (λ t. (n, t)) o ≡ Some p → ◌≡◌ {A = Option ℕ} (Some n) (Some p.0)
    go None is = absurd (cc is)
    go (Some t) is = ap (λ (q : ℕ × Task). Some q.0) (some_is (n, t) p is)

module _ {S : Type 0} (weight : S → ℕ) (files : List (List ℕ)) (image : Configuration S → List ℕ)
    (step : S → ThreadAct S) (c : Configuration S) where
  abbrev Less : Configuration S → Type 0
  Less d = left weight d < left weight c

  abbrev LessOr : Configuration S → Type 0
  LessOr d = Less d ⊎ HasStampMore weight c d

  asks_less : Less (in_mode faulted c) → (next : Reply → Configuration S) → ((r : Reply) → Less (next r))
      → (r : Reply) → LessOr (unless_fault c r (next r))
  asks_less fault next less r = behind_reply LessOr c (next r) r (λ faults. inl fault) (λ faults. inl (less r))

  -- an end, where ends are less
  ends_less : (ks ns : List ℕ) → ns ≡ running c.tasks
      → ((ts : List Task) → tasks_left ts < tasks_left c.tasks → Less (with_tasks ts c)) → (n code : ℕ)
      → has ns n ≡ true → Less (with_tasks (ended n code c.tasks) c)
  ends_less ks ns is less n code h =
      less (ended n code c.tasks) (ended_left n code c.tasks (subst (λ l. has l n ≡ true) is h))

  -- at a point

  module _ (point : c.mode ≡ at_point) where
    here : left weight c ≡ 2 * all_left weight c + 5
    here = ap (λ m. left_in weight m c) point

    tasks_less : (ts : List Task) → tasks_left ts < tasks_left c.tasks → Less (with_tasks ts c)
    tasks_less ts less =
        by_tasks (left weight (with_tasks ts c)) (left weight c)
        ((c.budget - c.used) * 67108865 + threads_left weight c.threads) (tasks_left c.tasks) (tasks_left ts)
        (ap (λ m. left_in weight m (with_tasks ts c)) point) here less

    fault_less : Less (in_mode faulted c)
    fault_less = let h = here in omega arith

    turn_less : (k : ℕ) → Less (in_mode (turn_of k []) c)
    turn_less k = one_less (left weight c) (all_left weight c) here
      where
        one_less : (y a : ℕ) → y ≡ 2 * a + 5 → 2 * a + 4 < y
        one_less y a e = omega arith

    rest_less : (all : Bool) → Less (at_rest all c)
    rest_less true = let h = here in omega arith
    rest_less false =
        ends_so (left weight c) ((c.budget - c.used) * 67108865 + threads_left weight c.threads)
        (tasks_left c.tasks) here
      where
        ends_so : (y a t : ℕ) → y ≡ 2 * (a + t) + 5 → 2 * t + 3 < y
        ends_so y a t e = omega arith

    chosen_less : (ks ns : List ℕ) → ns ≡ running c.tasks
        → Lessens weight c (Asks (ask.Next ks ns) (λ r. unless_fault c r (chosen_by c r)))
    chosen_less ks ns is (reply.Bytes text) fit told = absurd (false≢true fit)
    chosen_less ks ns is reply.Missing fit told = absurd (false≢true fit)
    chosen_less ks ns is (reply.Stamp there size time) fit told = absurd (false≢true fit)
    chosen_less ks ns is reply.Done fit told = absurd (false≢true fit)
    chosen_less ks ns is (reply.SysDone code out) fit told = absurd (false≢true fit)
    chosen_less ks ns is reply.Started fit told = absurd (false≢true fit)
    chosen_less ks ns is (reply.Run k) fit told = inl (turn_less k)
    chosen_less ks ns is (reply.Ended n code) fit told = inl (ends_less ks ns is tasks_less n code fit)
    chosen_less ks ns is reply.Fault fit told = inl fault_less
    chosen_less ks ns is reply.NoRoom fit told = absurd (told refl)

    listed_less : (ks ns : List ℕ) → ns ≡ running c.tasks → Lessens weight c (chosen c ks ns)
    listed_less [] [] is = rest_less (all_ended c)
    listed_less (k ∷ []) [] is = turn_less k
    listed_less (k ∷ l ∷ ks) [] is = chosen_less (k ∷ l ∷ ks) [] is
    listed_less [] (n ∷ ns) is = chosen_less [] (n ∷ ns) is
    listed_less (k ∷ []) (n ∷ ns) is = chosen_less (k ∷ []) (n ∷ ns) is
    listed_less (k ∷ l ∷ ks) (n ∷ ns) is = chosen_less (k ∷ l ∷ ks) (n ∷ ns) is

    point_less : (o : Option (ℕ × Task)) → next_start c ≡ o → Lessens weight c (at_point_next c o)
    point_less None is = listed_less (ready c) (running c.tasks) refl
    point_less (Some p) is = λ r fit told.
        asks_less fault_less (λ r. with_tasks (started p.0 c.tasks) c)
        (λ r. tasks_less (started p.0 c.tasks)
        (started_left c.cpus p.0 c.tasks (next_is c.tasks (startable c.cpus c.tasks) p is))) r

  -- where the run stops

  module _ (cause : Cause) (stops : c.mode ≡ stopping cause) where
    now : left weight c ≡ 2 * tasks_left c.tasks + 3
    now = ap (λ m. left_in weight m c) stops

    tasks_fewer : (ts : List Task) → tasks_left ts < tasks_left c.tasks → Less (with_tasks ts c)
    tasks_fewer ts less =
        by_ends (left weight (with_tasks ts c)) (left weight c) (tasks_left c.tasks) (tasks_left ts)
        (ap (λ m. left_in weight m (with_tasks ts c)) stops) now less

    fault_next : Less (in_mode faulted c)
    fault_next = let h = now in omega arith

    stopped_less : (ns : List ℕ) → ns ≡ running c.tasks
        → Lessens weight c (Asks (ask.Next [] ns) (λ r. unless_fault c r (task_ended c r)))
    stopped_less ns is (reply.Bytes text) fit told = absurd (false≢true fit)
    stopped_less ns is reply.Missing fit told = absurd (false≢true fit)
    stopped_less ns is (reply.Stamp there size time) fit told = absurd (false≢true fit)
    stopped_less ns is reply.Done fit told = absurd (false≢true fit)
    stopped_less ns is (reply.SysDone code out) fit told = absurd (false≢true fit)
    stopped_less ns is reply.Started fit told = absurd (false≢true fit)
    stopped_less ns is (reply.Run k) fit told = absurd (false≢true fit)
    stopped_less ns is (reply.Ended n code) fit told = inl (ends_less [] ns is tasks_fewer n code fit)
    stopped_less ns is reply.Fault fit told = inl fault_next
    stopped_less ns is reply.NoRoom fit told = absurd (told refl)

    done_less : (status : ℕ) → Less (in_mode (done status) c)
    done_less status = let h = now in omega arith

    saving_less : Less (in_mode saving c)
    saving_less = let h = now in omega arith

    told_less : (last : Cause) → Lessens weight c (told c last)
    told_less (exited status) = done_less status
    told_less (failed f) = λ r fit told. asks_less fault_next (λ r. in_mode (done 1) c) (λ r. done_less 1) r
    told_less (task_failed n code) = λ r fit told. asks_less fault_next (λ r. in_mode saving c) (λ r. saving_less) r

    stopping_less : (last : Cause) (ns : List ℕ) → ns ≡ running c.tasks → Lessens weight c (stopped c last ns)
    stopping_less last [] is = told_less last
    stopping_less last (n ∷ ns) is = stopped_less (n ∷ ns) is

  saved_less : (is : c.mode ≡ saving) → (r : Reply) → LessOr (unless_fault c r (in_mode (done 1) c))
  saved_less is r =
      let h : left weight c ≡ 2 = ap (λ m. left_in weight m c) is in
      let fault : Less (in_mode faulted c) = omega arith in
      let done_next : Less (in_mode (done 1) c) = omega arith in
      asks_less fault (λ r. in_mode (done 1) c) (λ r. done_next) r

  told_next : (is : c.mode ≡ faulted) → Less (in_mode fault_told c)
  told_next is = let h : left weight c ≡ 1 = ap (λ m. left_in weight m c) is in omega arith

  pub moved_less : (m : Mode) → c.mode ≡ m → IsNoTurn m → Lessens weight c (move_in files image step c m)
  moved_less at_point is none = point_less is (next_start c) refl
  moved_less (turn_of k stamps) is none = absurd none
  moved_less (stopping cause) is none = stopping_less cause is cause (running c.tasks) refl
  moved_less saving is none = λ r fit told. saved_less is r
  moved_less faulted is none = λ r fit told. inl (told_next is)
  moved_less fault_told is none = tt
  moved_less (done status) is none = tt
