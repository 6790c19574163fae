-- Each step keeps it that tasks need earlier ones alone.
use Rattle.std.proofs.Common.{◌≡◌, ◌∙◌, ℕ, zero, suc, ◌+◌, ◌-◌, ◌≤◌, Bool, true, false, List, [], ◌∷◌, ◌++◌, map, length, fold, Option, Some, None, Ok, Err, sym, ap, refl, subst, arith, append_assoc, append-nil, if◌then◌else◌}
use Rattle.std.specs.Prelude.{slice_get, slice_set, nat_eq, nat_lt, not, ◌&&◌}
use Rattle.std.proofs.lemmas.List.{map-append, length-map}
use Rattle.std.specs.List.{AllByRecursion}
use Rattle.std.specs.Option.{option_map}
use Rattle.bds_value.specs.declared.value.At.{At}
use Rattle.bds_value.specs.declared.value.Stamp.{Stamp}
use Rattle.bds_value.specs.declared.value.Value.{Value}
use Rattle.bds_value.specs.declared.faults.RunFault.{RunFault}
use Rattle.bds_host.specs.declared.asks.Reply.{Reply}
use Rattle.bds_host.specs.declared.asks.Reply.TheVariants as reply
use Rattle.bds_tasks.specs.declared.task.Task.{Task}
use Rattle.bds_tasks.specs.declared.task.TaskNew.{TaskNew}
use Rattle.bds_tasks.specs.declared.task.TaskState.TheVariants.{Runs}
use Rattle.bds_tasks.specs.declared.task.Waited.{Waited}
use Rattle.bds_tasks.specs.declared.task.Waited.TheVariants.{Not, Well, Failed}
use Rattle.bds_tasks.specs.Ends.{ended, ended_task, is_hit, hit_where, cancelled_behind, cancelled_if}
use Rattle.bds_tasks.specs.Starts.{started}
use Rattle.bds_tasks.specs.Tasks.{added, in_state, is_bad, is_good, is_needed, numbers_from, numbers_of, one_where, passes, put_at, revived_task, running, task_at, with_task}
use Rattle.bds_rules.specs.declared.rule.Rule.{Rule}
use Rattle.bds_goal.specs.Needs.{rule_at}
use Rattle.bds_goal.specs.Reach.{reach, has_cycle}
use Rattle.bds_goal.specs.Plan.{plan, unmade}
use Rattle.bds_rules.specs.Makers.{made_already}
use Rattle.bds_schedule.specs.Configuration.{Life, Ready, Waits, Closes, Ended, Thread, Configuration, Cause, exited, failed, task_failed, Mode, at_point, turn_of, stopping, saving, faulted, fault_told, done}
use Rattle.bds_schedule.specs.Earlier.{needs_of, AreEarlier, NeedEarlier}
use Rattle.bds_schedule.specs.Faults.{Outcome}
use Rattle.bds_schedule.specs.Ids.{Id, ids_of}
use Rattle.bds_schedule.specs.Moves.{move_in, at_rest, chosen, chosen_by, at_point_next, next_start}
use Rattle.bds_schedule.specs.Replies.{values_given, is_point}
use Rattle.bds_schedule.specs.Requests.{Request, Contacts, Inspects, Compares, MakesTask, Declares, Achieves, Spawns, AwaitsIds, AwaitsAll, Saves, ThreadAct, GoesOn, Needs, Stops, Quits, Finishes}
use Rattle.bds_schedule.specs.Stages.{Move, unless_fault, told, stopped, task_ended}
use Rattle.bds_schedule.specs.Steps.{Goes, Asks, Ends}
use Rattle.bds_schedule.specs.Turns as turns
use Rattle.bds_schedule.specs.Waiting.{ready}

-- Tasks

all_within : (n most : ℕ) (test : Task → Bool) (ts : List Task) → 1 ≤ n → n + length ts ≤ most + 1 → AllByRecursion (λ m. (1 ≤ m) × (m ≤ most)) (numbers_from n test ts)
all_within n most test [] o l = tt
all_within n most test (t ∷ ts) o l = go (all_within (n + 1) most test ts (omega arith) (omega arith)) (test t)
  where
    go : AllByRecursion (λ m. (1 ≤ m) × (m ≤ most)) (numbers_from (n + 1) test ts) → (b : Bool) → AllByRecursion (λ m. (1 ≤ m) × (m ≤ most)) (one_where b n ++ numbers_from (n + 1) test ts)
    go rest true = ((o, omega arith), rest)
    go rest false = rest

earlier_with : (i : ℕ) (xs : List (List ℕ)) (ns : List ℕ) → AreEarlier i xs → AllByRecursion (λ n. (1 ≤ n) × (n ≤ i + length xs)) ns → AreEarlier i (xs ++ ns ∷ [])
earlier_with i [] ns are all = (subst (λ m. AllByRecursion (λ n. (1 ≤ n) × (n ≤ m)) ns) (omega arith) all, tt)
earlier_with i (x ∷ xs) ns are all =
    (are.0, earlier_with (i + 1) xs ns are.1 (subst (λ m. AllByRecursion (λ n. (1 ≤ n) × (n ≤ m)) ns) (omega arith) all))

added_earlier : (ts : List Task) (new : TaskNew) → NeedEarlier ts → NeedEarlier (added ts new)
added_earlier ts new are =
    subst (λ l. AreEarlier 0 l) (sym (map-append (λ (t : Task). t.needs) ts _))
    (earlier_with 0 (needs_of ts) (numbers_of (is_needed new) ts) are
    (all_within 1 (0 + length (needs_of ts)) (is_needed new) ts (omega arith)
    (let e : length (needs_of ts) ≡ length ts = length-map ts (λ (t : Task). t.needs) in omega arith)))

same_put : (ts : List Task) (i : ℕ) (t t' : Task) → slice_get ts i ≡ Some t → t'.needs ≡ t.needs → needs_of (slice_set ts i t') ≡ needs_of ts
same_put [] i t t' at same = refl
same_put (x ∷ ts) zero t t' at same = ap (λ ns. ns ∷ needs_of ts) (same ∙ ap (λ (o : Option Task). needs_at o) (sym at))
  where
    needs_at : Option Task → List ℕ
    needs_at None = []
    needs_at (Some u) = u.needs
same_put (x ∷ ts) (suc i) t t' at same = ap (λ ns. x.needs ∷ ns) (same_put ts i t t' at same)

same_with : (change : Task → Task) → ((t : Task) → (change t).needs ≡ t.needs) → (n : ℕ) (ts : List Task) → needs_of (with_task change n ts) ≡ needs_of ts
same_with change same n ts = go (task_at ts n) refl
  where
    go : (o : Option Task) → task_at ts n ≡ o → needs_of (put_at (n - 1) (option_map change o) ts) ≡ needs_of ts
    go None is = refl
    go (Some t) is = same_put ts (n - 1) t (change t) is (same t)

-- of two tasks with these needs, either has them
same_if : (b : Bool) (t u : Task) (ns : List ℕ) → t.needs ≡ ns → u.needs ≡ ns → (if b then t else u).needs ≡ ns
same_if true t u ns is is' = is
same_if false t u ns is is' = is'

same_ended_task : (code : ℕ) (t : Task) → (ended_task code t).needs ≡ t.needs
same_ended_task code t = same_if (not (nat_eq code 0) && nat_lt t.attempt t.made.retry) _ _ t.needs refl refl

pub same_revived : (ts : List Task) → needs_of (map revived_task ts) ≡ needs_of ts
same_revived [] = refl
same_revived (t ∷ ts) = ap (λ ns. ns ∷ needs_of (map revived_task ts)) (same_if (is_good t) _ _ t.needs refl refl) ∙ ap (λ l. t.needs ∷ l) (same_revived ts)

same_hit : (hit : Bool) (n : ℕ) (t : Task) → (hit_where hit n t).needs ≡ t.needs
same_hit true n t = refl
same_hit false n t = refl

same_cancelled : (n : ℕ) (before ts : List Task) → needs_of (cancelled_behind n before ts) ≡ needs_of before ++ needs_of ts
same_cancelled n before [] = sym (append-nil (needs_of before))
same_cancelled n before (t ∷ ts) =
    let u : Task = hit_where (is_hit n before t) n t in
    same_cancelled n (before ++ u ∷ []) ts
    ∙ ap (λ l. l ++ needs_of ts) (map-append (λ (t : Task). t.needs) before (u ∷ []))
    ∙ append_assoc (needs_of before) (u.needs ∷ []) (needs_of ts)
    ∙ ap (λ ns. needs_of before ++ (ns ∷ needs_of ts)) (same_hit (is_hit n before t) n t)

same_cancelled_if : (bad : Bool) (n : ℕ) (ts : List Task) → needs_of (cancelled_if bad n ts) ≡ needs_of ts
same_cancelled_if true n ts = same_cancelled n [] ts
same_cancelled_if false n ts = refl

same_end : (n code : ℕ) (ts : List Task) → needs_of (ended n code ts) ≡ needs_of ts
same_end n code ts =
    same_cancelled_if (passes is_bad (with_task (ended_task code) n ts) n) n (with_task (ended_task code) n ts) ∙ same_with (ended_task code) (same_ended_task code) n ts

pub earlier_as : (ts us : List Task) → needs_of us ≡ needs_of ts → NeedEarlier ts → NeedEarlier us
earlier_as ts us same are = subst (λ l. AreEarlier 0 l) (sym same) are

end_earlier : (n code : ℕ) (ts : List Task) → NeedEarlier ts → NeedEarlier (ended n code ts)
end_earlier n code ts are = earlier_as ts (ended n code ts) (same_end n code ts) are

start_earlier : (n : ℕ) (ts : List Task) → NeedEarlier ts → NeedEarlier (started n ts)
start_earlier n ts are = earlier_as ts (started n ts) (same_with (in_state Runs) (λ t. refl) n ts) are

planned_earlier : (make : ℕ → TaskNew) (rules : List ℕ) (ts : List Task) → NeedEarlier ts → NeedEarlier (fold (λ tasks r. added tasks (make r)) ts rules)
planned_earlier make [] ts are = are
planned_earlier make (r ∷ rules) ts are = planned_earlier make rules (added ts (make r)) (added_earlier ts (make r) are)

-- Steps

module _ {S : Type 0} where
  abbrev pub Keeps : Move S → Type 0
  Keeps (Goes d) = NeedEarlier d.tasks
  Keeps (Asks ask next) = (r : Reply) → NeedEarlier (next r).tasks
  Keeps (Ends e) = Unit {0}

  keeps_reply : (c next : Configuration S) (r : Reply) → NeedEarlier c.tasks → NeedEarlier next.tasks → NeedEarlier (unless_fault c r next).tasks
  keeps_reply c next (reply.Bytes text) are then_are = then_are
  keeps_reply c next reply.Missing are then_are = then_are
  keeps_reply c next (reply.Stamp there size time) are then_are = then_are
  keeps_reply c next reply.Done are then_are = then_are
  keeps_reply c next (reply.SysDone code out) are then_are = then_are
  keeps_reply c next reply.Started are then_are = then_are
  keeps_reply c next (reply.Run k) are then_are = then_are
  keeps_reply c next (reply.Ended task code) are then_are = then_are
  keeps_reply c next reply.Fault are then_are = are
  keeps_reply c next reply.NoRoom are then_are = then_are

  keeps_ask : (c : Configuration S) (next : Reply → Configuration S) → NeedEarlier c.tasks → ((r : Reply) → NeedEarlier (next r).tasks) → (r : Reply) → NeedEarlier (unless_fault c r (next r)).tasks
  keeps_ask c next are each r = keeps_reply c (next r) r are (each r)

  keeps_end : (c : Configuration S) (r : Reply) → NeedEarlier c.tasks → NeedEarlier (task_ended c r).tasks
  keeps_end c (reply.Bytes text) are = are
  keeps_end c reply.Missing are = are
  keeps_end c (reply.Stamp there size time) are = are
  keeps_end c reply.Done are = are
  keeps_end c (reply.SysDone code out) are = are
  keeps_end c reply.Started are = are
  keeps_end c (reply.Run k) are = are
  keeps_end c (reply.Ended task code) are = end_earlier task code c.tasks are
  keeps_end c reply.Fault are = are
  keeps_end c reply.NoRoom are = are

  keeps_chosen : (c : Configuration S) (r : Reply) → NeedEarlier c.tasks → NeedEarlier (chosen_by c r).tasks
  keeps_chosen c (reply.Bytes text) are = are
  keeps_chosen c reply.Missing are = are
  keeps_chosen c (reply.Stamp there size time) are = are
  keeps_chosen c reply.Done are = are
  keeps_chosen c (reply.SysDone code out) are = are
  keeps_chosen c reply.Started are = are
  keeps_chosen c (reply.Run k) are = are
  keeps_chosen c (reply.Ended task code) are = end_earlier task code c.tasks are
  keeps_chosen c reply.Fault are = are
  keeps_chosen c reply.NoRoom are = are

  keeps_stamps : (k : ℕ) (stamps : List Stamp) (c behind : Configuration S) (file : Option (List ℕ)) → NeedEarlier c.tasks → NeedEarlier behind.tasks → Keeps (turns.with_stamps k stamps c file behind)
  keeps_stamps k stamps c behind (Some file) are then_are = keeps_ask c _ are (λ r. are)
  keeps_stamps k stamps c behind None are then_are = then_are

  keeps_tick : (room : Bool) (k : ℕ) (c : Configuration S) (s : S) → NeedEarlier c.tasks → Keeps (turns.ticked room k c s)
  keeps_tick true k c s are = are
  keeps_tick false k c s are = tt

  keeps_over : (c behind : Configuration S) (w : Waited) → NeedEarlier c.tasks → NeedEarlier behind.tasks → Keeps (turns.over c w behind)
  keeps_over c behind (Failed n code) are then_are = are
  keeps_over c behind Well are then_are = then_are
  keeps_over c behind Not are then_are = are

  keeps_by : (point : Bool) (k : ℕ) (c : Configuration S) (s : S) → NeedEarlier c.tasks → NeedEarlier (turns.goes_by point k c s).tasks
  keeps_by true k c s are = are
  keeps_by false k c s are = are

  keeps_rest : (ended : Bool) (c : Configuration S) → NeedEarlier c.tasks → NeedEarlier (at_rest ended c).tasks
  keeps_rest true c are = are
  keeps_rest false c are = are

  keeps_listed : (c : Configuration S) (ks ns : List ℕ) → NeedEarlier c.tasks → Keeps (chosen c ks ns)
  keeps_listed c [] [] are = keeps_rest _ c are
  keeps_listed c (k ∷ []) [] are = are
  keeps_listed c (k ∷ l ∷ ks) [] are = keeps_ask c _ are (λ r. keeps_chosen c r are)
  keeps_listed c [] (n ∷ ns) are = keeps_ask c _ are (λ r. keeps_chosen c r are)
  keeps_listed c (k ∷ []) (n ∷ ns) are = keeps_ask c _ are (λ r. keeps_chosen c r are)
  keeps_listed c (k ∷ l ∷ ks) (n ∷ ns) are = keeps_ask c _ are (λ r. keeps_chosen c r are)

  keeps_point : (c : Configuration S) (p : Option (ℕ × Task)) → NeedEarlier c.tasks → Keeps (at_point_next c p)
  keeps_point c (Some p) are = keeps_ask c _ are (λ r. start_earlier p.0 c.tasks are)
  keeps_point c None are = keeps_listed c (ready c) (running c.tasks) are

  keeps_told : (c : Configuration S) (cause : Cause) → NeedEarlier c.tasks → Keeps (told c cause)
  keeps_told c (exited status) are = are
  keeps_told c (failed f) are = keeps_ask c _ are (λ r. are)
  keeps_told c (task_failed n code) are = keeps_ask c _ are (λ r. are)

  keeps_stopped : (c : Configuration S) (cause : Cause) (ns : List ℕ) → NeedEarlier c.tasks → Keeps (stopped c cause ns)
  keeps_stopped c cause [] are = keeps_told c cause are
  keeps_stopped c cause (n ∷ ns) are = keeps_ask c _ are (λ r. keeps_end c r are)

  module _ (files : List (List ℕ)) where
    keeps_given : (point : Bool) (k : ℕ) (c : Configuration S) (at : At) (next : List Value → S) (vs : Outcome (List Value)) → NeedEarlier c.tasks → NeedEarlier (turns.given files point k c at next vs).tasks
    keeps_given point k c at next (Ok vs) are = keeps_by point k c (next vs) are
    keeps_given point k c at next (Err f) are = are

    keeps_room : (room : Bool) (c : Configuration S) (at : At) (f : RunFault) (behind : Configuration S) → NeedEarlier c.tasks → NeedEarlier behind.tasks → Keeps (turns.where_room files room c at f behind)
    keeps_room true c at f behind are then_are = then_are
    keeps_room false c at f behind are then_are = are

    keeps_declared : (made : Option (List ℕ × ℕ)) (k : ℕ) (c : Configuration S) (at : At) (rule : Rule) (next : List Value → S) → NeedEarlier c.tasks → Keeps (turns.declared_if files made k c at rule next)
    keeps_declared (Some p) k c at rule next are = are
    keeps_declared None k c at rule next are = keeps_room _ c at _ _ are are

    keeps_plan : (file : Option (List ℕ)) (k : ℕ) (stamps : List Stamp) (c : Configuration S) (at : At) (targets : List (List ℕ)) (next : List Value → S) → NeedEarlier c.tasks → Keeps (turns.planned_if files file k stamps c at targets next)
    keeps_plan (Some file) k stamps c at targets next are = are
    keeps_plan None k stamps c at targets next are =
        keeps_room _ c at _ _ are (planned_earlier (λ r. turns.task_of_rule k (rule_at c.rules r)) (plan c.rules targets stamps c.tasks) c.tasks are)

    keeps_reached : (file : Option (List ℕ)) (k : ℕ) (stamps : List Stamp) (c : Configuration S) (at : At) (targets : List (List ℕ)) (next : List Value → S) → NeedEarlier c.tasks → Keeps (turns.reached files file k stamps c at targets next)
    keeps_reached (Some file) k stamps c at targets next are = keeps_ask c _ are (λ r. are)
    keeps_reached None k stamps c at targets next are = keeps_plan (unmade c.rules targets stamps c.tasks) k stamps c at targets next are

    keeps_goal : (cycle : Bool) (k : ℕ) (stamps : List Stamp) (c : Configuration S) (at : At) (targets : List (List ℕ)) (next : List Value → S) → NeedEarlier c.tasks → Keeps (turns.achieved files cycle k stamps c at targets next)
    keeps_goal true k stamps c at targets next are = are
    keeps_goal false k stamps c at targets next are = keeps_reached (slice_get (reach c.rules targets) (length stamps)) k stamps c at targets next are

    keeps_wait : (k : ℕ) (c : Configuration S) (at : At) (next : List Value → S) (ids : Outcome (List Id)) → NeedEarlier c.tasks → Keeps (turns.awaited files k c at next ids)
    keeps_wait k c at next (Ok ids) are = are
    keeps_wait k c at next (Err f) are = are

    module _ (image : Configuration S → List ℕ) (step : S → ThreadAct S) where
      keeps_request : (k : ℕ) (stamps : List Stamp) (c : Configuration S) (at : At) (request : Request S) (next : List Value → S) → NeedEarlier c.tasks → Keeps (turns.requested files image step k stamps c at request next)
      keeps_request k stamps c at (Contacts ask) next are = keeps_ask c _ are (λ r. keeps_given (is_point ask) k c at next (values_given ask r) are)
      keeps_request k stamps c at (Inspects question file) next are = keeps_ask c _ are (λ r. are)
      keeps_request k stamps c at (Compares outs ins) next are = keeps_stamps k stamps c _ (slice_get (outs ++ ins) (length stamps)) are are
      keeps_request k stamps c at (MakesTask task) next are = keeps_room _ c at _ _ are (added_earlier c.tasks (turns.made_in k task) are)
      keeps_request k stamps c at (Declares rule) next are = keeps_declared (made_already c.rules rule.outs) k c at rule next are
      keeps_request k stamps c at (Achieves targets) next are = keeps_goal (has_cycle c.rules targets) k stamps c at targets next are
      keeps_request k stamps c at (Spawns begins) next are = keeps_room _ c at _ _ are are
      keeps_request k stamps c at (AwaitsIds texts) next are = keeps_wait k c at next (ids_of (length c.tasks) (length c.threads) texts) are
      keeps_request k stamps c at AwaitsAll next are = are
      keeps_request k stamps c at (Saves path) next are = keeps_ask c _ are (λ r. are)

      keeps_act : (k : ℕ) (stamps : List Stamp) (c : Configuration S) (act : ThreadAct S) → NeedEarlier c.tasks → Keeps (turns.taken files image step k stamps c act)
      keeps_act k stamps c (GoesOn true s) are = keeps_tick (nat_lt c.used c.budget) k c s are
      keeps_act k stamps c (GoesOn false s) are = are
      keeps_act k stamps c (Needs at request next) are = keeps_request k stamps c at request next are
      keeps_act k stamps c (Stops at f) are = are
      keeps_act k stamps c (Quits status) are = are
      keeps_act k stamps c (Finishes s) are = are

      keeps_turn : (k : ℕ) (stamps : List Stamp) (c : Configuration S) (life : Life S) → NeedEarlier c.tasks → Keeps (turns.turn_in files image step k stamps c life)
      keeps_turn k stamps c (Ready s) are = keeps_act k stamps c (step s) are
      keeps_turn k stamps c (Waits ids s) are = keeps_over c _ _ are are
      keeps_turn k stamps c (Closes ids s) are = keeps_over c _ _ are are
      keeps_turn k stamps c Ended are = are

      keeps_turn_at : (k : ℕ) (stamps : List Stamp) (c : Configuration S) (t : Option (Thread S)) → NeedEarlier c.tasks → Keeps (turns.turn_at files image step k stamps c t)
      keeps_turn_at k stamps c (Some t) are = keeps_turn k stamps c t.life are
      keeps_turn_at k stamps c None are = are

      pub keeps_move : (c : Configuration S) (mode : Mode) → NeedEarlier c.tasks → Keeps (move_in files image step c mode)
      keeps_move c at_point are = keeps_point c (next_start c) are
      keeps_move c (turn_of k stamps) are = keeps_turn_at k stamps c (slice_get c.threads k) are
      keeps_move c (stopping cause) are = keeps_stopped c cause (running c.tasks) are
      keeps_move c saving are = keeps_ask c _ are (λ r. are)
      keeps_move c faulted are = λ r. are
      keeps_move c fault_told are = tt
      keeps_move c (done status) are = tt
