-- What each step does to the tasks.
use Rattle.std.proofs.Common.{◌≡◌, ◌∙◌, ℕ, Bool, true, false, List, [], ◌∷◌, ◌++◌, length, fold, Option, Some, None, Ok, Err, sym, ap, refl, subst, append_assoc, append-nil, ◌⊎◌, inl, inr}
use Rattle.std.specs.Prelude.{slice_get, nat_lt}
use Rattle.std.specs.List.{AllByRecursion}
use Rattle.std.specs.Option.{option_map}
use Rattle.std.proofs.lemmas.Bool.{false≢true}
use Rattle.bds_value.specs.declared.value.At.{At}
use Rattle.bds_value.specs.declared.value.Stamp.{Stamp}
use Rattle.bds_value.specs.declared.value.Value.{Value}
use Rattle.bds_value.specs.declared.faults.RunFault.{RunFault}
use Rattle.bds_value.specs.Options.{◌>>=◌}
use Rattle.bds_host.specs.declared.asks.Ask.{Ask}
use Rattle.bds_host.specs.declared.asks.Ask.TheVariants as ask
use Rattle.bds_host.specs.declared.asks.Reply.{Reply}
use Rattle.bds_host.specs.declared.asks.Reply.TheVariants as reply
use Rattle.bds_host.specs.Asks.{fits, has}
use Rattle.bds_host.specs.Host.{is_fault}
use Rattle.bds_host.specs.declared.faults.Fault.TheVariants as fault
use Rattle.bds_host.specs.Message.{message_of}
use Rattle.bds_tasks.specs.declared.task.Task.{Task}
use Rattle.bds_tasks.specs.declared.task.TaskNew.{TaskNew}
use Rattle.bds_tasks.specs.declared.task.Waited.{Waited}
use Rattle.bds_tasks.specs.declared.task.Waited.TheVariants.{Not, Well, Failed}
use Rattle.bds_tasks.specs.Ends.{ended}
use Rattle.bds_tasks.specs.Starts.{started, startable}
use Rattle.bds_tasks.specs.Tasks.{added, running, task_at, waits, numbers_of, is_needed}
use Rattle.bds_rules.specs.declared.rule.Rule.{Rule}
use Rattle.bds_goal.specs.Needs.{rule_at}
use Rattle.bds_goal.specs.Reach.{reach, has_cycle}
use Rattle.bds_goal.specs.Plan.{plan, unmade}
use Rattle.bds_rules.specs.Makers.{made_already}
use Rattle.bds_schedule.specs.Configuration.{Life, Ready, Waits, Closes, Ended, Thread, Configuration, Cause, exited, failed, task_failed, Mode, at_point, turn_of, stopping, saving, faulted, fault_told, done, in_mode}
use Rattle.bds_schedule.specs.Faults.{Outcome}
use Rattle.bds_schedule.specs.Ids.{Id, ids_of}
use Rattle.bds_schedule.specs.Moves.{move_in, at_rest, chosen, chosen_by, at_point_next, next_start}
use Rattle.bds_schedule.specs.Replies.{values_given, is_point, stamp_in}
use Rattle.bds_schedule.specs.Requests.{Request, Contacts, Inspects, Compares, MakesTask, Declares, Achieves, Spawns, AwaitsIds, AwaitsAll, Saves, ThreadAct, GoesOn, Needs, Stops, Quits, Finishes}
use Rattle.bds_meaning.specs.Run.{Program, Conf, Moves}
use Rattle.bds_schedule.specs.Stages.{End, Move, fails, unless_fault, told, stopped, task_ended}
use Rattle.bds_schedule.specs.Steps.{Step, Goes, Asks, Ends}
use Rattle.bds_meaning.specs.Threads.{thread_step}
use Rattle.bds_schedule.specs.Turns as turns
use Rattle.bds_schedule.specs.Waiting.{ready, all_ended}
use Rattle.bds_meaning_laws.specs.Events.{is_start, is_end}
use Rattle.bds_meaning_laws.proofs.Plain.{is_plain, AsksPlainly, IsPlainThread, plain_thread}
use Rattle.bds_meaning_laws.proofs.Changes.{none_some, some_same}

-- nothing starts any more
abbrev pub IsLast : Mode → Type 0
IsLast saving = Unit {0}
IsLast (done status) = Unit {0}
IsLast mode = ⊥

-- a thread that has its turn has no stamp yet
abbrev pub IsFresh : Mode → Type 0
IsFresh (turn_of k stamps) = stamps ≡ []
IsFresh mode = Unit {0}

-- something may start still, and no stamp is there
abbrev IsOpen : Mode → Type 0
IsOpen (turn_of k stamps) = stamps ≡ []
IsOpen saving = ⊥
IsOpen (done status) = ⊥
IsOpen mode = Unit {0}

open_quiet : (m : Mode) → IsOpen m → IsLast m → ⊥
open_quiet at_point more last = last
open_quiet (turn_of k stamps) more last = last
open_quiet (stopping cause) more last = last
open_quiet saving more last = more
open_quiet faulted more last = last
open_quiet fault_told more last = last
open_quiet (done status) more last = more

open_fresh : (m : Mode) → IsOpen m → IsFresh m
open_fresh at_point more = tt
open_fresh (turn_of k stamps) more = more
open_fresh (stopping cause) more = tt
open_fresh saving more = tt
open_fresh faulted more = tt
open_fresh fault_told more = tt
open_fresh (done status) more = tt

-- the tasks, with more that wait
pub record AreMore (ts us : List Task) : Type 0 where
  pub more : List Task
  pub each : AllByRecursion (λ t. waits t.state ≡ true) more
  pub are : us ≡ ts ++ more

module _ {S : Type 0} where
  abbrev pub IsQuiet : Configuration S → Type 0
  IsQuiet c = IsLast c.mode → running c.tasks ≡ []

  -- a step without an ask
  pub record Grows (c d : Configuration S) : Type 0 where
    pub cpus : d.cpus ≡ c.cpus
    pub tasks : AreMore c.tasks d.tasks
    pub quiet : IsQuiet d
    pub fresh : IsFresh d.mode

  -- the turn has one stamp more
  pub record IsStamped (c d : Configuration S) : Type 0 where
    pub thread : ℕ
    pub stamps : List Stamp
    pub stamp : Stamp
    pub turn : c.mode ≡ turn_of thread stamps
    pub behind : d ≡ in_mode (turn_of thread (stamps ++ stamp ∷ [])) c

  -- the next task is asked to start
  pub record Begins (c : Configuration S) (a : Ask) (r : Reply) (d : Configuration S) : Type 0 where
    pub none_ends : (n : ℕ) → is_end n r ≡ false
    pub number : ℕ
    pub task : Task
    pub asked : a ≡ ask.Start number task.attempt task.made.command
    pub next : startable c.cpus c.tasks ≡ Some number
    pub there : task_at c.tasks number ≡ Some task
    pub behind : ((is_fault r ≡ true) × (d.tasks ≡ c.tasks)) ⊎ ((is_fault r ≡ false) × (d.tasks ≡ started number c.tasks))

  -- a task that runs has ended
  pub record EndsOne (c : Configuration S) (a : Ask) (r : Reply) (d : Configuration S) : Type 0 where
    pub number : ℕ
    pub code : ℕ
    pub waiting : List ℕ
    pub asked : a ≡ ask.Next waiting (running c.tasks)
    pub replied : r ≡ reply.Ended number code
    pub there : has (running c.tasks) number ≡ true
    pub behind : d.tasks ≡ ended number code c.tasks

  -- the tasks stay as they are
  pub record Rests (c : Configuration S) (a : Ask) (r : Reply) (d : Configuration S) : Type 0 where
    pub none_starts : (n : ℕ) → is_start n a ≡ false
    pub none_ends : (n : ℕ) → is_end n r ≡ false
    pub behind : d.tasks ≡ c.tasks

  -- an ask with its reply
  pub record Follows (c : Configuration S) (a : Ask) (r : Reply) (d : Configuration S) : Type 0 where
    pub cpus : d.cpus ≡ c.cpus
    pub effect : Begins c a r d ⊎ (EndsOne c a r d ⊎ Rests c a r d)
    pub quiet : IsQuiet d
    pub fresh : IsFresh d.mode ⊎ IsStamped c d

  abbrev pub Keeps : Configuration S → Move S → Type 0
  Keeps c (Goes d) = Grows c d
  Keeps c (Asks a next) = (r : Reply) → fits a r ≡ true → Follows c a r (next r)
  Keeps c (Ends e) = Unit {0}

-- Asks and replies

no_start : (a : Ask) → is_plain a ≡ true → (n : ℕ) → is_start n a ≡ false
no_start (ask.Read path) is n = refl
no_start (ask.Stamp path) is n = refl
no_start (ask.Write path text) is n = refl
no_start (ask.Remove path) is n = refl
no_start (ask.Out text) is n = refl
no_start (ask.Err text) is n = refl
no_start (ask.Sys command) is n = refl
no_start (ask.Start task attempt command) is n = absurd (false≢true is)
no_start (ask.Next ks ns) is n = refl
no_start (ask.Save path image) is n = refl

no_answer : (a : Ask) → is_plain a ≡ true → (n code : ℕ) → fits a (reply.Ended n code) ≡ true → ⊥
no_answer (ask.Read path) is n code h = false≢true h
no_answer (ask.Stamp path) is n code h = false≢true h
no_answer (ask.Write path text) is n code h = false≢true h
no_answer (ask.Remove path) is n code h = false≢true h
no_answer (ask.Out text) is n code h = false≢true h
no_answer (ask.Err text) is n code h = false≢true h
no_answer (ask.Sys command) is n code h = false≢true h
no_answer (ask.Start task attempt command) is n code h = false≢true is
no_answer (ask.Next ks ns) is n code h = false≢true is
no_answer (ask.Save path image) is n code h = false≢true h

no_end : (a : Ask) → is_plain a ≡ true → (r : Reply) → fits a r ≡ true → (n : ℕ) → is_end n r ≡ false
no_end a is (reply.Bytes text) h n = refl
no_end a is reply.Missing h n = refl
no_end a is (reply.Stamp there size time) h n = refl
no_end a is reply.Done h n = refl
no_end a is (reply.SysDone code out) h n = refl
no_end a is reply.Started h n = refl
no_end a is (reply.Run k) h n = refl
no_end a is (reply.Ended task code) h n = absurd (no_answer a is task code h)
no_end a is reply.Fault h n = refl
no_end a is reply.NoRoom h n = refl

no_end_of_start : (task attempt : ℕ) (command : List ℕ) (r : Reply) → fits (ask.Start task attempt command) r ≡ true → (n : ℕ) → is_end n r ≡ false
no_end_of_start task attempt command (reply.Bytes text) h n = refl
no_end_of_start task attempt command reply.Missing h n = refl
no_end_of_start task attempt command (reply.Stamp there size time) h n = refl
no_end_of_start task attempt command reply.Done h n = refl
no_end_of_start task attempt command (reply.SysDone code out) h n = refl
no_end_of_start task attempt command reply.Started h n = refl
no_end_of_start task attempt command (reply.Run k) h n = refl
no_end_of_start task attempt command (reply.Ended n' code) h n = absurd (false≢true h)
no_end_of_start task attempt command reply.Fault h n = refl
no_end_of_start task attempt command reply.NoRoom h n = refl

-- The task that starts next

next_is : (ts : List Task) (o : Option ℕ) (p : ℕ × Task) → (o >>= λ n. option_map (λ t. (n, t)) (task_at ts n)) ≡ Some p → (o ≡ Some p.0) × (task_at ts p.0 ≡ Some p.1)
next_is ts None p is = absurd (none_some p is)
next_is ts (Some n) p is = go (task_at ts n) refl is
  where
    go : (o : Option Task) → task_at ts n ≡ o → option_map (λ t. (n, t)) o ≡ Some p → (◌≡◌ {A = Option ℕ} (Some n) (Some p.0)) × (task_at ts p.0 ≡ Some p.1)
    go None at is = absurd (none_some p is)
    go (Some t) at is =
        let same : (n, t) ≡ p = some_same (n, t) p is in
        (ap (λ (q : ℕ × Task). Some q.0) same, subst (λ (q : ℕ × Task). task_at ts q.0 ≡ Some q.1) same at)

-- Tasks that are added

added_more : (ts : List Task) (new : TaskNew) → AreMore ts (added ts new)
added_more ts new = record { more = record { made = new; needs = numbers_of (is_needed new) ts; attempt = 0; state = _ } ∷ []; each = (refl, tt); are = refl }

none_more : (ts : List Task) → AreMore ts ts
none_more ts = record { more = []; each = tt; are = sym (append-nil ts) }

planned_more : (make : ℕ → TaskNew) (rules : List ℕ) (ts : List Task) → AreMore ts (fold (λ tasks r. added tasks (make r)) ts rules)
unfolding added_more
planned_more make [] ts = none_more ts
planned_more make (r ∷ rules) ts =
    let one = added_more ts (make r) in
    let rest = planned_more make rules (added ts (make r)) in
    record { more = one.more ++ rest.more; each = joined one.more rest.more one.each rest.each; are = rest.are ∙ append_assoc ts one.more rest.more }
  where
    joined : (xs ys : List Task) → AllByRecursion (λ t. waits t.state ≡ true) xs → AllByRecursion (λ t. waits t.state ≡ true) ys → AllByRecursion (λ t. waits t.state ≡ true) (xs ++ ys)
    joined [] ys are more = more
    joined (x ∷ xs) ys are more = (are.0, joined xs ys are.1 more)

module _ {S : Type 0} where
  -- what holds of the fault that is told and of what else comes next holds behind the reply
  pub behind_reply : (P : Configuration S → Type 0) (c next : Configuration S) (r : Reply) → (is_fault r ≡ true → P (in_mode faulted c)) → (is_fault r ≡ false → P next) → P (unless_fault c r next)
  behind_reply P c next (reply.Bytes text) fault then_is = then_is refl
  behind_reply P c next reply.Missing fault then_is = then_is refl
  behind_reply P c next (reply.Stamp there size time) fault then_is = then_is refl
  behind_reply P c next reply.Done fault then_is = then_is refl
  behind_reply P c next (reply.SysDone code out) fault then_is = then_is refl
  behind_reply P c next reply.Started fault then_is = then_is refl
  behind_reply P c next (reply.Run k) fault then_is = then_is refl
  behind_reply P c next (reply.Ended task code) fault then_is = then_is refl
  behind_reply P c next reply.Fault fault then_is = fault refl
  behind_reply P c next reply.NoRoom fault then_is = then_is refl

  -- the tasks stay, and so do the processors
  record IsLike (c d : Configuration S) : Type 0 where
    cpus : d.cpus ≡ c.cpus
    tasks : d.tasks ≡ c.tasks
    quiet : IsQuiet d
    fresh : IsFresh d.mode

  keeps_ask : (c : Configuration S) (a : Ask) (next : Reply → Configuration S) → is_plain a ≡ true → ((r : Reply) → IsLike c (next r)) → (r : Reply) → fits a r ≡ true → Follows c a r (unless_fault c r (next r))
  keeps_ask c a next plain like r fit =
      behind_reply (Follows c a r) c (next r) r
      (λ faults. record { cpus = refl; effect = inr (inr (record { none_starts = no_start a plain; none_ends = no_end a plain r fit; behind = refl })); quiet = λ last. absurd last; fresh = inl tt })
      (λ faults. let l = like r in record { cpus = l.cpus; effect = inr (inr (record { none_starts = no_start a plain; none_ends = no_end a plain r fit; behind = l.tasks })); quiet = l.quiet; fresh = inl l.fresh })

  like_in : (c : Configuration S) (m : Mode) → IsOpen m → IsLike c (in_mode m c)
  like_in c m more = record { cpus = refl; tasks = refl; quiet = λ last. absurd (open_quiet m more last); fresh = open_fresh m more }

  grows_in : (c d : Configuration S) → IsLike c d → Grows c d
  grows_in c d l = record { cpus = l.cpus; tasks = record { more = []; each = tt; are = l.tasks ∙ sym (append-nil c.tasks) }; quiet = l.quiet; fresh = l.fresh }

  -- the stamp of a file is asked for
  keeps_stamped : (k : ℕ) (stamps : List Stamp) (c : Configuration S) (file : List ℕ) → c.mode ≡ turn_of k stamps → Keeps c (turns.stamped k stamps c file)
  keeps_stamped k stamps c file turn r fit =
      behind_reply (Follows c (ask.Stamp file) r) c _ r
      (λ faults. record { cpus = refl; effect = inr (inr (record { none_starts = λ n. refl; none_ends = no_end (ask.Stamp file) refl r fit; behind = refl })); quiet = λ last. absurd last; fresh = inl tt })
      (λ faults. record {
        cpus = refl;
        effect = inr (inr (record { none_starts = λ n. refl; none_ends = no_end (ask.Stamp file) refl r fit; behind = refl }));
        quiet = λ last. absurd last;
        fresh = inr (record { thread = k; stamps = stamps; stamp = stamp_in r; turn = turn; behind = refl });
      })

  -- the end of a task that runs, or none

  ends_one : (c d : Configuration S) (ks ns : List ℕ) (n code : ℕ) → ns ≡ running c.tasks → fits (ask.Next ks ns) (reply.Ended n code) ≡ true → d.tasks ≡ ended n code c.tasks → d.cpus ≡ c.cpus → IsOpen d.mode → Follows c (ask.Next ks ns) (reply.Ended n code) d
  ends_one c d ks ns n code is fit behind cpus more = record {
    cpus = cpus;
    effect = inr (inl (record { number = n; code = code; waiting = ks; asked = ap (ask.Next ks) is; replied = refl; there = subst (λ l. has l n ≡ true) is fit; behind = behind }));
    quiet = λ last. absurd (open_quiet d.mode more last);
    fresh = inl (open_fresh d.mode more);
  }

  ends_none : (c d : Configuration S) (ks ns : List ℕ) (r : Reply) → ((n : ℕ) → is_end n r ≡ false) → d.tasks ≡ c.tasks → d.cpus ≡ c.cpus → IsOpen d.mode → Follows c (ask.Next ks ns) r d
  ends_none c d ks ns r none behind cpus more = record {
    cpus = cpus;
    effect = inr (inr (record { none_starts = λ n. refl; none_ends = none; behind = behind }));
    quiet = λ last. absurd (open_quiet d.mode more last);
    fresh = inl (open_fresh d.mode more);
  }

  module _ (c : Configuration S) (ks ns : List ℕ) (is : ns ≡ running c.tasks) (more : IsOpen c.mode) where
    keeps_end : Keeps c (Asks (ask.Next ks ns) (λ r. unless_fault c r (task_ended c r)))
    keeps_end (reply.Bytes text) fit = ends_none c c ks ns (reply.Bytes text) (λ n. refl) refl refl more
    keeps_end reply.Missing fit = ends_none c c ks ns reply.Missing (λ n. refl) refl refl more
    keeps_end (reply.Stamp there size time) fit = ends_none c c ks ns (reply.Stamp there size time) (λ n. refl) refl refl more
    keeps_end reply.Done fit = ends_none c c ks ns reply.Done (λ n. refl) refl refl more
    keeps_end (reply.SysDone code out) fit = ends_none c c ks ns (reply.SysDone code out) (λ n. refl) refl refl more
    keeps_end reply.Started fit = ends_none c c ks ns reply.Started (λ n. refl) refl refl more
    keeps_end (reply.Run k) fit = ends_none c c ks ns (reply.Run k) (λ n. refl) refl refl more
    keeps_end (reply.Ended n code) fit = ends_one c (task_ended c (reply.Ended n code)) ks ns n code is fit refl refl more
    keeps_end reply.Fault fit = ends_none c (in_mode faulted c) ks ns reply.Fault (λ n. refl) refl refl tt
    keeps_end reply.NoRoom fit = ends_none c c ks ns reply.NoRoom (λ n. refl) refl refl more

    keeps_chosen : Keeps c (Asks (ask.Next ks ns) (λ r. unless_fault c r (chosen_by c r)))
    keeps_chosen (reply.Bytes text) fit = ends_none c c ks ns (reply.Bytes text) (λ n. refl) refl refl more
    keeps_chosen reply.Missing fit = ends_none c c ks ns reply.Missing (λ n. refl) refl refl more
    keeps_chosen (reply.Stamp there size time) fit = ends_none c c ks ns (reply.Stamp there size time) (λ n. refl) refl refl more
    keeps_chosen reply.Done fit = ends_none c c ks ns reply.Done (λ n. refl) refl refl more
    keeps_chosen (reply.SysDone code out) fit = ends_none c c ks ns (reply.SysDone code out) (λ n. refl) refl refl more
    keeps_chosen reply.Started fit = ends_none c c ks ns reply.Started (λ n. refl) refl refl more
    keeps_chosen (reply.Run k) fit = ends_none c (in_mode (turn_of k []) c) ks ns (reply.Run k) (λ n. refl) refl refl refl
    keeps_chosen (reply.Ended n code) fit = ends_one c (task_ended c (reply.Ended n code)) ks ns n code is fit refl refl more
    keeps_chosen reply.Fault fit = ends_none c (in_mode faulted c) ks ns reply.Fault (λ n. refl) refl refl tt
    keeps_chosen reply.NoRoom fit = ends_none c c ks ns reply.NoRoom (λ n. refl) refl refl more

  -- at a point

  keeps_rest : (ended : Bool) (c : Configuration S) → running c.tasks ≡ [] → Grows c (at_rest ended c)
  keeps_rest true c none = record { cpus = refl; tasks = none_more c.tasks; quiet = λ last. none; fresh = tt }
  keeps_rest false c none = grows_in c _ (like_in c (stopping _) tt)

  keeps_listed : (c : Configuration S) (ks ns : List ℕ) → ns ≡ running c.tasks → IsOpen c.mode → Keeps c (chosen c ks ns)
  keeps_listed c [] [] is more = keeps_rest (all_ended c) c (sym is)
  keeps_listed c (k ∷ []) [] is more = grows_in c _ (like_in c (turn_of k []) refl)
  keeps_listed c (k ∷ l ∷ ks) [] is more = keeps_chosen c (k ∷ l ∷ ks) [] is more
  keeps_listed c [] (n ∷ ns) is more = keeps_chosen c [] (n ∷ ns) is more
  keeps_listed c (k ∷ []) (n ∷ ns) is more = keeps_chosen c (k ∷ []) (n ∷ ns) is more
  keeps_listed c (k ∷ l ∷ ks) (n ∷ ns) is more = keeps_chosen c (k ∷ l ∷ ks) (n ∷ ns) is more

  begins : (c : Configuration S) (n : ℕ) (t : Task) → startable c.cpus c.tasks ≡ Some n → task_at c.tasks n ≡ Some t → IsOpen c.mode → Keeps c (at_point_next c (Some (n, t)))
  begins c n t next there more r fit =
      behind_reply (Follows c (ask.Start n t.attempt t.made.command) r) c _ r
      (λ faults. record { cpus = refl; effect = inl (record { none_ends = no_end_of_start n t.attempt t.made.command r fit; number = n; task = t; asked = refl; next = next; there = there; behind = inl (faults, refl) }); quiet = λ last. absurd last; fresh = inl tt })
      (λ faults. record { cpus = refl; effect = inl (record { none_ends = no_end_of_start n t.attempt t.made.command r fit; number = n; task = t; asked = refl; next = next; there = there; behind = inr (faults, refl) }); quiet = λ last. absurd (open_quiet c.mode more last); fresh = inl (open_fresh c.mode more) })

  keeps_point : (c : Configuration S) (p : Option (ℕ × Task)) → next_start c ≡ p → IsOpen c.mode → Keeps c (at_point_next c p)
  keeps_point c (Some p) is more = let h = next_is c.tasks (startable c.cpus c.tasks) p is in begins c p.0 p.1 h.0 h.1 more
  keeps_point c None is more = keeps_listed c (ready c) (running c.tasks) refl more

  -- the run stops

  keeps_told : (c : Configuration S) (cause : Cause) → running c.tasks ≡ [] → Keeps c (told c cause)
  keeps_told c (exited status) none = record { cpus = refl; tasks = none_more c.tasks; quiet = λ last. none; fresh = tt }
  keeps_told c (failed f) none = keeps_ask c _ _ refl (λ r. record { cpus = refl; tasks = refl; quiet = λ last. none; fresh = tt })
  keeps_told c (task_failed n code) none = keeps_ask c _ _ refl (λ r. record { cpus = refl; tasks = refl; quiet = λ last. none; fresh = tt })

  keeps_stopped : (c : Configuration S) (cause : Cause) (ns : List ℕ) → ns ≡ running c.tasks → IsOpen c.mode → Keeps c (stopped c cause ns)
  keeps_stopped c cause [] is more = keeps_told c cause (sym is)
  keeps_stopped c cause (n ∷ ns) is more = keeps_end c [] (n ∷ ns) is more

  -- the turn of a thread

  keeps_stamps : (k : ℕ) (stamps : List Stamp) (c behind : Configuration S) (file : Option (List ℕ)) → c.mode ≡ turn_of k stamps → Grows c behind → Keeps c (turns.with_stamps k stamps c file behind)
  keeps_stamps k stamps c behind (Some file) turn grows = keeps_stamped k stamps c file turn
  keeps_stamps k stamps c behind None turn grows = grows

  keeps_tick : (room : Bool) (k : ℕ) (c : Configuration S) (s : S) → Keeps c (turns.ticked room k c s)
  keeps_tick true k c s = record { cpus = refl; tasks = none_more c.tasks; quiet = λ last. absurd last; fresh = refl }
  keeps_tick false k c s = tt

  keeps_over : (c behind : Configuration S) (w : Waited) → Grows c behind → Keeps c (turns.over c w behind)
  keeps_over c behind (Failed n code) grows = grows_in c _ (like_in c (stopping (task_failed n code)) tt)
  keeps_over c behind Well grows = grows
  keeps_over c behind Not grows = grows_in c _ (like_in c at_point tt)

  like_by : (point : Bool) (k : ℕ) (c : Configuration S) (s : S) → IsLike c (turns.goes_by point k c s)
  like_by true k c s = record { cpus = refl; tasks = refl; quiet = λ last. absurd last; fresh = tt }
  like_by false k c s = record { cpus = refl; tasks = refl; quiet = λ last. absurd last; fresh = refl }

  -- in an open mode with the same tasks
  open_grows : (c d : Configuration S) → d.cpus ≡ c.cpus → AreMore c.tasks d.tasks → IsOpen d.mode → Grows c d
  open_grows c d cpus tasks more = record { cpus = cpus; tasks = tasks; quiet = λ last. absurd (open_quiet d.mode more last); fresh = open_fresh d.mode more }

  module _ (files : List (List ℕ)) where
    fails_grows : (c : Configuration S) (at : At) (f : RunFault) → Grows c (fails files c at f)
    fails_grows c at f = open_grows c _ refl (none_more c.tasks) tt

    like_given : (point : Bool) (k : ℕ) (c : Configuration S) (at : At) (next : List Value → S) (vs : Outcome (List Value)) → IsLike c (turns.given files point k c at next vs)
    like_given point k c at next (Ok vs) = like_by point k c (next vs)
    like_given point k c at next (Err f) = record { cpus = refl; tasks = refl; quiet = λ last. absurd last; fresh = tt }

    keeps_room : (room : Bool) (c : Configuration S) (at : At) (f : RunFault) (behind : Configuration S) → Grows c behind → Keeps c (turns.where_room files room c at f behind)
    keeps_room true c at f behind grows = grows
    keeps_room false c at f behind grows = fails_grows c at f

    keeps_declared : (made : Option (List ℕ × ℕ)) (k : ℕ) (c : Configuration S) (at : At) (rule : Rule) (next : List Value → S) → Keeps c (turns.declared_if files made k c at rule next)
    keeps_declared (Some p) k c at rule next = fails_grows c at _
    keeps_declared None k c at rule next = keeps_room _ c at _ _ (open_grows c _ refl (none_more c.tasks) refl)

    keeps_plan : (file : Option (List ℕ)) (k : ℕ) (stamps : List Stamp) (c : Configuration S) (at : At) (targets : List (List ℕ)) (next : List Value → S) → Keeps c (turns.planned_if files file k stamps c at targets next)
    keeps_plan (Some file) k stamps c at targets next = fails_grows c at _
    keeps_plan None k stamps c at targets next =
        keeps_room _ c at _ _ (open_grows c _ refl (planned_more (λ r. turns.task_of_rule k (rule_at c.rules r)) (plan c.rules targets stamps c.tasks) c.tasks) tt)

    keeps_reached : (file : Option (List ℕ)) (k : ℕ) (stamps : List Stamp) (c : Configuration S) (at : At) (targets : List (List ℕ)) (next : List Value → S) → c.mode ≡ turn_of k stamps → Keeps c (turns.reached files file k stamps c at targets next)
    keeps_reached (Some file) k stamps c at targets next turn = keeps_stamped k stamps c file turn
    keeps_reached None k stamps c at targets next turn = keeps_plan (unmade c.rules targets stamps c.tasks) k stamps c at targets next

    keeps_goal : (cycle : Bool) (k : ℕ) (stamps : List Stamp) (c : Configuration S) (at : At) (targets : List (List ℕ)) (next : List Value → S) → c.mode ≡ turn_of k stamps → Keeps c (turns.achieved files cycle k stamps c at targets next)
    keeps_goal true k stamps c at targets next turn = fails_grows c at _
    keeps_goal false k stamps c at targets next turn = keeps_reached (slice_get (reach c.rules targets) (length stamps)) k stamps c at targets next turn

    keeps_wait : (k : ℕ) (c : Configuration S) (at : At) (next : List Value → S) (ids : Outcome (List Id)) → Keeps c (turns.awaited files k c at next ids)
    keeps_wait k c at next (Ok ids) = open_grows c _ refl (none_more c.tasks) tt
    keeps_wait k c at next (Err f) = fails_grows c at f

    module _ (image : Configuration S → List ℕ) (step : S → ThreadAct S) (plainly : (s : S) → IsPlainThread (step s)) where
      keeps_request : (k : ℕ) (stamps : List Stamp) (c : Configuration S) (at : At) (request : Request S) (next : List Value → S) → AsksPlainly request → c.mode ≡ turn_of k stamps → Keeps c (turns.requested files image step k stamps c at request next)
      keeps_request k stamps c at (Contacts a) next plain turn = keeps_ask c a _ plain (λ r. like_given (is_point a) k c at next (values_given a r))
      keeps_request k stamps c at (Inspects question file) next plain turn = keeps_ask c _ _ refl (λ r. record { cpus = refl; tasks = refl; quiet = λ last. absurd last; fresh = refl })
      keeps_request k stamps c at (Compares outs ins) next plain turn = keeps_stamps k stamps c _ (slice_get (outs ++ ins) (length stamps)) turn (open_grows c _ refl (none_more c.tasks) refl)
      keeps_request k stamps c at (MakesTask task) next plain turn = keeps_room _ c at _ _ (open_grows c _ refl (added_more c.tasks (turns.made_in k task)) tt)
      keeps_request k stamps c at (Declares rule) next plain turn = keeps_declared (made_already c.rules rule.outs) k c at rule next
      keeps_request k stamps c at (Achieves targets) next plain turn = keeps_goal (has_cycle c.rules targets) k stamps c at targets next turn
      keeps_request k stamps c at (Spawns new) next plain turn = keeps_room _ c at _ _ (open_grows c _ refl (none_more c.tasks) tt)
      keeps_request k stamps c at (AwaitsIds texts) next plain turn = keeps_wait k c at next (ids_of (length c.tasks) (length c.threads) texts)
      keeps_request k stamps c at AwaitsAll next plain turn = open_grows c _ refl (none_more c.tasks) tt
      keeps_request k stamps c at (Saves path) next plain turn = keeps_ask c _ _ refl (λ r. record { cpus = refl; tasks = refl; quiet = λ last. absurd last; fresh = tt })

      keeps_act : (k : ℕ) (stamps : List Stamp) (c : Configuration S) (act : ThreadAct S) → IsPlainThread act → c.mode ≡ turn_of k stamps → Keeps c (turns.taken files image step k stamps c act)
      keeps_act k stamps c (GoesOn true s) plain turn = keeps_tick (nat_lt c.used c.budget) k c s
      keeps_act k stamps c (GoesOn false s) plain turn = open_grows c _ refl (none_more c.tasks) refl
      keeps_act k stamps c (Needs at request next) plain turn = keeps_request k stamps c at request next plain turn
      keeps_act k stamps c (Stops at f) plain turn = fails_grows c at f
      keeps_act k stamps c (Quits status) plain turn = open_grows c _ refl (none_more c.tasks) tt
      keeps_act k stamps c (Finishes s) plain turn = open_grows c _ refl (none_more c.tasks) tt

      keeps_turn : (k : ℕ) (stamps : List Stamp) (c : Configuration S) (life : Life S) → c.mode ≡ turn_of k stamps → Keeps c (turns.turn_in files image step k stamps c life)
      keeps_turn k stamps c (Ready s) turn = keeps_act k stamps c (step s) (plainly s) turn
      keeps_turn k stamps c (Waits ids s) turn = keeps_over c _ _ (open_grows c _ refl (none_more c.tasks) refl)
      keeps_turn k stamps c (Closes ids s) turn = keeps_over c _ _ (open_grows c _ refl (none_more c.tasks) tt)
      keeps_turn k stamps c Ended turn = open_grows c _ refl (none_more c.tasks) tt

      keeps_turn_at : (k : ℕ) (stamps : List Stamp) (c : Configuration S) (t : Option (Thread S)) → c.mode ≡ turn_of k stamps → Keeps c (turns.turn_at files image step k stamps c t)
      keeps_turn_at k stamps c (Some t) turn = keeps_turn k stamps c t.life turn
      keeps_turn_at k stamps c None turn = open_grows c _ refl (none_more c.tasks) tt

      keeps_move : (c : Configuration S) (mode : Mode) → c.mode ≡ mode → IsQuiet c → Keeps c (move_in files image step c mode)
      keeps_move c at_point is quiet = keeps_point c (next_start c) refl (subst IsOpen (sym is) tt)
      keeps_move c (turn_of k stamps) is quiet = keeps_turn_at k stamps c (slice_get c.threads k) is
      keeps_move c (stopping cause) is quiet = keeps_stopped c cause (running c.tasks) refl (subst IsOpen (sym is) tt)
      keeps_move c saving is quiet = keeps_ask c _ _ refl (λ r. record { cpus = refl; tasks = refl; quiet = λ last. quiet (subst IsLast (sym is) tt); fresh = tt })
      keeps_move c faulted is quiet = λ r fit. record { cpus = refl; effect = inr (inr (record { none_starts = λ n. refl; none_ends = λ n. no_end (ask.Err (message_of fault.Device)) refl r fit n; behind = refl })); quiet = λ last. absurd last; fresh = inl tt }
      keeps_move c fault_told is quiet = tt
      keeps_move c (done status) is quiet = tt

pub keeps_source : (program : Program) (c : Conf) (s : Step Conf End) → IsQuiet c → Moves program c s → Keeps c s
keeps_source program c s quiet (bytes, is) = subst (λ (u : Step Conf End). Keeps c u) is (keeps_move program.files (λ saved. bytes) (thread_step program.functions) (plain_thread program.functions) c c.mode refl quiet)
