-- A fault of the device is told, and is the last reply but one; no other end comes behind a fault.
use Rattle.std.proofs.Common.{◌≡◌, ℕ, ◌+◌, Bool, true, false, List, [], ◌∷◌, ◌++◌, Option, Some, None, Ok, Err, refl, sym, ap, ◌∙◌, subst, append_assoc, append-nil}
use Rattle.std.specs.Prelude.{◌≢◌, nat_lt, nat_le, slice_get, ⊤, length}
use Rattle.bds_value.specs.declared.value.At.{At}
use Rattle.bds_value.specs.declared.value.Stamp.{Stamp}
use Rattle.bds_value.specs.declared.value.Value.{Value}
use Rattle.bds_value.specs.declared.faults.RunFault.{RunFault}
use Rattle.bds_host.specs.declared.asks.Ask.{Ask}
use Rattle.bds_host.specs.declared.asks.Ask.TheVariants as ask
use Rattle.bds_host.specs.declared.asks.Reply.{Reply}
use Rattle.bds_host.specs.declared.asks.Reply.TheVariants as reply
use Rattle.bds_host.specs.declared.faults.Fault.TheVariants as fault
use Rattle.bds_host.specs.Host.{Log, faults, is_fault}
use Rattle.bds_host.specs.Message.{message_of}
use Rattle.bds_host.proofs.Growing.{faults-append}
use Rattle.bds_tasks.specs.declared.task.Task.{Task}
use Rattle.bds_tasks.specs.declared.task.Waited.{Waited}
use Rattle.bds_tasks.specs.declared.task.Waited.TheVariants.{Not, Well, Failed}
use Rattle.bds_tasks.specs.Starts.{started}
use Rattle.bds_tasks.specs.Tasks.{running}
use Rattle.bds_rules.specs.declared.rule.Rule.{Rule}
use Rattle.bds_rules.specs.Makers.{made_already}
use Rattle.bds_goal.specs.Reach.{reach, has_cycle}
use Rattle.bds_goal.specs.Plan.{unmade, plan}
use Rattle.bds_value.specs.declared.TheConstants.{MAX_TASKS, MAX_RULES, MAX_THREADS}
use Rattle.bds_schedule.specs.Configuration.{Life, Ready, Waits, Closes, Ended, Thread, Configuration, Mode, Cause, at_point, turn_of, stopping, saving, faulted, fault_told, done, exited, failed, task_failed, in_mode, with_tasks}
use Rattle.bds_schedule.specs.Faults.{Outcome}
use Rattle.bds_schedule.specs.Ids.{Id, ids_of}
use Rattle.bds_schedule.specs.Moves.{move, move_in, next_start, chosen_by, at_rest, chosen, at_point_next}
use Rattle.bds_schedule.specs.Replies.{answer_to, is_point, stamp_in, values_given}
use Rattle.bds_schedule.specs.Requests.{Request, Contacts, Inspects, Compares, MakesTask, Declares, Achieves, Spawns, AwaitsIds, AwaitsAll, Saves, ThreadAct, GoesOn, Needs, Stops, Quits, Finishes}
use Rattle.bds_schedule.specs.Stages.{End, DeviceFault, Move, asking, checkpoint_of, unless_fault, task_ended, told, stopped}
use Rattle.bds_schedule.specs.Steps.{Step, Goes, Asks, Ends, Leads}
use Rattle.bds_schedule.specs.Turns.{comes, goes_by, goes_on, path_in, given, with_stamps, where_room, declared_if, planned_if, reached, achieved, awaited, requested, taken, over, ticked, turn_in, turn_at}
use Rattle.bds_schedule.specs.Waiting.{ready, all_ended, wait_state}
use Rattle.bds_engine_parts.specs.Run.{FaultIsTold}

abbrev pub IsFine : Mode → Type 0
IsFine faulted = ⊥
IsFine fault_told = ⊥
IsFine _ = ⊤

-- a fault is told next, and without one the run goes on as it was
abbrev pub IsSafe : {S : Type 0} → Move S → Type 0
IsSafe (Goes c) = IsFine c.mode
IsSafe (Asks a next) = ((next reply.Fault).mode ≡ faulted) × ((r : Reply) → is_fault r ≡ false → IsFine (next r).mode)
IsSafe (Ends e) = e ≢ DeviceFault

module _ {S : Type 0} where
  asked : (c : Configuration S) (a : Ask) (next : Reply → Configuration S) → ((r : Reply) → IsFine (next r).mode) → IsSafe (asking c a next)
  asked c a next h = (refl, plain)
    where
      plain : (r : Reply) → is_fault r ≡ false → IsFine (unless_fault c r (next r)).mode
      plain (reply.Bytes text) e = h (reply.Bytes text)
      plain reply.Missing e = h reply.Missing
      plain (reply.Stamp there size time) e = h (reply.Stamp there size time)
      plain reply.Done e = h reply.Done
      plain (reply.SysDone code out) e = h (reply.SysDone code out)
      plain reply.Started e = h reply.Started
      plain (reply.Run k) e = h (reply.Run k)
      plain (reply.Ended n code) e = h (reply.Ended n code)
      plain reply.Fault e = absurd (cc e)
      plain reply.NoRoom e = h reply.NoRoom

  ended_fine : (c : Configuration S) → IsFine c.mode → (r : Reply) → IsFine (task_ended c r).mode
  ended_fine c h (reply.Ended n code) = h
  ended_fine c h (reply.Bytes text) = h
  ended_fine c h reply.Missing = h
  ended_fine c h (reply.Stamp there size time) = h
  ended_fine c h reply.Done = h
  ended_fine c h (reply.SysDone code out) = h
  ended_fine c h reply.Started = h
  ended_fine c h (reply.Run k) = h
  ended_fine c h reply.Fault = h
  ended_fine c h reply.NoRoom = h

  chosen_fine : (c : Configuration S) → IsFine c.mode → (r : Reply) → IsFine (chosen_by c r).mode
  chosen_fine c h (reply.Run k) = tt
  chosen_fine c h (reply.Ended n code) = h
  chosen_fine c h (reply.Bytes text) = h
  chosen_fine c h reply.Missing = h
  chosen_fine c h (reply.Stamp there size time) = h
  chosen_fine c h reply.Done = h
  chosen_fine c h (reply.SysDone code out) = h
  chosen_fine c h reply.Started = h
  chosen_fine c h reply.Fault = h
  chosen_fine c h reply.NoRoom = h

  at_rest_fine : (b : Bool) (c : Configuration S) → IsFine (at_rest b c).mode
  at_rest_fine true c = tt
  at_rest_fine false c = tt

  chosen_safe : (c : Configuration S) → IsFine c.mode → (ks ns : List ℕ) → IsSafe (chosen c ks ns)
  chosen_safe c h [] [] = at_rest_fine (all_ended c) c
  chosen_safe c h (k ∷ []) [] = tt
  chosen_safe c h [] (n ∷ ns) = asked c (ask.Next [] (n ∷ ns)) (chosen_by c) (chosen_fine c h)
  chosen_safe c h (k ∷ []) (n ∷ ns) = asked c (ask.Next (k ∷ []) (n ∷ ns)) (chosen_by c) (chosen_fine c h)
  chosen_safe c h (k ∷ k' ∷ ks) [] = asked c (ask.Next (k ∷ k' ∷ ks) []) (chosen_by c) (chosen_fine c h)
  chosen_safe c h (k ∷ k' ∷ ks) (n ∷ ns) = asked c (ask.Next (k ∷ k' ∷ ks) (n ∷ ns)) (chosen_by c) (chosen_fine c h)

  point_safe : (c : Configuration S) → IsFine c.mode → (o : Option (ℕ × Task)) → IsSafe (at_point_next c o)
  point_safe c h (Some p) = asked c (ask.Start p.0 p.1.attempt p.1.made.command) (λ r. with_tasks (started p.0 c.tasks) c) (λ r. h)
  point_safe c h None = chosen_safe c h (ready c) (running c.tasks)

  told_safe : (c : Configuration S) (cause : Cause) → IsSafe (told c cause)
  told_safe c (exited status) = tt
  told_safe c (failed f) = asked c (ask.Err (message_of f)) (λ r. in_mode (done 1) c) (λ r. tt)
  told_safe c (task_failed n code) = asked c (ask.Err (message_of (fault.TaskFailed n code))) (λ r. in_mode saving c) (λ r. tt)

  stopped_safe : (c : Configuration S) → IsFine c.mode → (cause : Cause) (ns : List ℕ) → IsSafe (stopped c cause ns)
  stopped_safe c h cause [] = told_safe c cause
  stopped_safe c h cause (n ∷ ns) = asked c (ask.Next [] (n ∷ ns)) (task_ended c) (ended_fine c h)

  stamps_safe : (k : ℕ) (stamps : List Stamp) (c : Configuration S) (o : Option (List ℕ)) (behind : Configuration S) → IsFine behind.mode → IsSafe (with_stamps k stamps c o behind)
  stamps_safe k stamps c (Some file) behind h = asked c (ask.Stamp file) (λ r. in_mode (turn_of k (stamps ++ stamp_in r ∷ [])) c) (λ r. tt)
  stamps_safe k stamps c None behind h = h

  over_safe : (c : Configuration S) (w : Waited) (behind : Configuration S) → IsFine behind.mode → IsSafe (over c w behind)
  over_safe c (Failed n code) behind h = tt
  over_safe c Well behind h = h
  over_safe c Not behind h = tt

  tick_safe : (b : Bool) (k : ℕ) (c : Configuration S) (s : S) → IsSafe (ticked b k c s)
  tick_safe true k c s = tt
  tick_safe false k c s = λ e. cc e

  by_fine : (b : Bool) (k : ℕ) (c : Configuration S) (s : S) → IsFine (goes_by b k c s).mode
  by_fine true k c s = tt
  by_fine false k c s = tt

  module _ (files : List (List ℕ)) where
    given_fine : (b : Bool) (k : ℕ) (c : Configuration S) (at : At) (next : List Value → S) (o : Outcome (List Value)) → IsFine (given files b k c at next o).mode
    given_fine b k c at next (Ok vs) = by_fine b k c (next vs)
    given_fine b k c at next (Err f) = tt

    room_safe : (b : Bool) (c : Configuration S) (at : At) (f : RunFault) (behind : Configuration S) → IsFine behind.mode → IsSafe (where_room files b c at f behind)
    room_safe true c at f behind h = h
    room_safe false c at f behind h = tt

    declared_safe : (o : Option (List ℕ × ℕ)) (k : ℕ) (c : Configuration S) (at : At) (rule : Rule) (next : List Value → S) → IsSafe (declared_if files o k c at rule next)
    declared_safe (Some p) k c at rule next = tt
    declared_safe None k c at rule next = room_safe (nat_lt (length c.rules) MAX_RULES) c at _ _ tt

    planned_safe : (o : Option (List ℕ)) (k : ℕ) (stamps : List Stamp) (c : Configuration S) (at : At) (targets : List (List ℕ)) (next : List Value → S) → IsSafe (planned_if files o k stamps c at targets next)
    planned_safe (Some file) k stamps c at targets next = tt
    planned_safe None k stamps c at targets next = room_safe (nat_le (length c.tasks + length (plan c.rules targets stamps c.tasks)) MAX_TASKS) c at _ _ tt

    reached_safe : (o : Option (List ℕ)) (k : ℕ) (stamps : List Stamp) (c : Configuration S) (at : At) (targets : List (List ℕ)) (next : List Value → S) → IsSafe (reached files o k stamps c at targets next)
    reached_safe (Some file) k stamps c at targets next = asked c (ask.Stamp file) (λ r. in_mode (turn_of k (stamps ++ stamp_in r ∷ [])) c) (λ r. tt)
    reached_safe None k stamps c at targets next = planned_safe (unmade c.rules targets stamps c.tasks) k stamps c at targets next

    achieved_safe : (b : Bool) (k : ℕ) (stamps : List Stamp) (c : Configuration S) (at : At) (targets : List (List ℕ)) (next : List Value → S) → IsSafe (achieved files b k stamps c at targets next)
    achieved_safe true k stamps c at targets next = tt
    achieved_safe false k stamps c at targets next = reached_safe (slice_get (reach c.rules targets) (length stamps)) k stamps c at targets next

    awaited_safe : (k : ℕ) (c : Configuration S) (at : At) (next : List Value → S) (o : Outcome (List Id)) → IsSafe (awaited files k c at next o)
    awaited_safe k c at next (Ok ids) = tt
    awaited_safe k c at next (Err f) = tt

    module _ (image : Configuration S → List ℕ) (step : S → ThreadAct S) where
      requested_safe : (k : ℕ) (stamps : List Stamp) (c : Configuration S) (at : At) (r : Request S) (next : List Value → S) → IsSafe (requested files image step k stamps c at r next)
      requested_safe k stamps c at (Contacts a) next = asked c a (λ r. given files (is_point a) k c at next (values_given a r)) (λ r. given_fine (is_point a) k c at next (values_given a r))
      requested_safe k stamps c at (Inspects q file) next = asked c (ask.Stamp file) (λ r. goes_on k c (next (answer_to q (stamp_in r) ∷ []))) (λ r. tt)
      requested_safe k stamps c at (Compares outs ins) next = stamps_safe k stamps c (slice_get (outs ++ ins) (length stamps)) _ tt
      requested_safe k stamps c at (MakesTask task) next = room_safe (nat_lt (length c.tasks) MAX_TASKS) c at _ _ tt
      requested_safe k stamps c at (Declares rule) next = declared_safe (made_already c.rules rule.outs) k c at rule next
      requested_safe k stamps c at (Achieves targets) next = achieved_safe (has_cycle c.rules targets) k stamps c at targets next
      requested_safe k stamps c at (Spawns begins) next = room_safe (nat_lt (length c.threads) MAX_THREADS) c at _ _ tt
      requested_safe k stamps c at (AwaitsIds texts) next = awaited_safe k c at next (ids_of (length c.tasks) (length c.threads) texts)
      requested_safe k stamps c at AwaitsAll next = tt
      requested_safe k stamps c at (Saves path) next = asked c (ask.Save (path_in c path) (image (comes k c (next [])))) (λ r. comes k c (next [])) (λ r. tt)

      taken_safe : (k : ℕ) (stamps : List Stamp) (c : Configuration S) (o : ThreadAct S) → IsSafe (taken files image step k stamps c o)
      taken_safe k stamps c (GoesOn false s) = tt
      taken_safe k stamps c (GoesOn true s) = tick_safe (nat_lt c.used c.budget) k c s
      taken_safe k stamps c (Needs at r next) = requested_safe k stamps c at r next
      taken_safe k stamps c (Stops at f) = tt
      taken_safe k stamps c (Quits status) = tt
      taken_safe k stamps c (Finishes s) = tt

      turn_safe : (k : ℕ) (stamps : List Stamp) (c : Configuration S) (o : Option (Thread S)) → IsSafe (turn_at files image step k stamps c o)
      turn_safe k stamps c None = tt
      turn_safe k stamps c (Some t) = life t.life
        where
          life : (l : Life S) → IsSafe (turn_in files image step k stamps c l)
          life (Ready s) = taken_safe k stamps c (step s)
          life (Waits ids s) = over_safe c (wait_state c ids) _ tt
          life (Closes ids s) = over_safe c (wait_state c ids) _ tt
          life Ended = tt

      safe_in : (c : Configuration S) (m : Mode) → IsFine c.mode → IsFine m → IsSafe (move_in files image step c m)
      safe_in c at_point h f = point_safe c h (next_start c)
      safe_in c (turn_of k stamps) h f = turn_safe k stamps c (slice_get c.threads k)
      safe_in c (stopping cause) h f = stopped_safe c h cause (running c.tasks)
      safe_in c saving h f = asked c (ask.Save (checkpoint_of c.path) (image c)) (λ r. in_mode (done 1) c) (λ r. tt)
      safe_in c faulted h f = absurd f
      safe_in c fault_told h f = absurd f
      safe_in c (done status) h f = λ e. cc e

      pub safe : (c : Configuration S) → IsFine c.mode → IsSafe (move files image step c)
      safe c h = safe_in c c.mode h h

-- The log

pub record IsClean (before after : Log) : Type 0 where
  pub pairs : Log
  pub grown : after ≡ before ++ pairs
  pub clean : faults pairs ≡ 0

pub record IsFaulted (before after : Log) : Type 0 where
  pub pairs : Log
  pub ask : Ask
  pub grown : after ≡ before ++ (pairs ++ (ask, reply.Fault) ∷ [])
  pub clean : faults pairs ≡ 0

-- how the log has grown where the run is in this mode
abbrev pub Trail : Mode → Log → Log → Type 0
Trail faulted before after = IsFaulted before after
Trail fault_told before after = FaultIsTold before after
Trail _ before after = IsClean before after

pub data View (m : Mode) : Type 0 where
  fine : IsFine m → View m
  at_fault : m ≡ faulted → View m
  at_told : m ≡ fault_told → View m

pub view : (m : Mode) → View m
view at_point = View.fine tt
view (turn_of k stamps) = View.fine tt
view (stopping cause) = View.fine tt
view saving = View.fine tt
view faulted = View.at_fault refl
view fault_told = View.at_told refl
view (done status) = View.fine tt

pub clean_at : (m : Mode) (b a : Log) → IsFine m → IsClean b a → Trail m b a
clean_at at_point b a f h = h
clean_at (turn_of k stamps) b a f h = h
clean_at (stopping cause) b a f h = h
clean_at saving b a f h = h
clean_at faulted b a f h = absurd f
clean_at fault_told b a f h = absurd f
clean_at (done status) b a f h = h

pub at_clean : (m : Mode) (b a : Log) → IsFine m → Trail m b a → IsClean b a
at_clean at_point b a f h = h
at_clean (turn_of k stamps) b a f h = h
at_clean (stopping cause) b a f h = h
at_clean saving b a f h = h
at_clean faulted b a f h = absurd f
at_clean fault_told b a f h = absurd f
at_clean (done status) b a f h = h

unfaulted : (a : Ask) (r : Reply) → is_fault r ≡ false → 0 + faults ((a, r) ∷ []) ≡ 0
unfaulted a (reply.Bytes text) e = refl
unfaulted a reply.Missing e = refl
unfaulted a (reply.Stamp there size time) e = refl
unfaulted a reply.Done e = refl
unfaulted a (reply.SysDone code out) e = refl
unfaulted a reply.Started e = refl
unfaulted a (reply.Run k) e = refl
unfaulted a (reply.Ended n code) e = refl
unfaulted a reply.Fault e = absurd (cc e)
unfaulted a reply.NoRoom e = refl

pub grown_by : (b log after : Log) (a : Ask) (r : Reply) → IsClean b log → after ≡ log ++ (a, r) ∷ [] → is_fault r ≡ false → IsClean b after
grown_by b log after a r h g e = record {
  pairs = h.pairs ++ (a, r) ∷ [];
  grown = g ∙ ap (λ x. x ++ (a, r) ∷ []) h.grown ∙ append_assoc b h.pairs ((a, r) ∷ []);
  clean = faults-append h.pairs ((a, r) ∷ []) ∙ ap (λ n. n + faults ((a, r) ∷ [])) h.clean ∙ unfaulted a r e;
}

pub faulted_by : (b log after : Log) (a : Ask) → IsClean b log → after ≡ log ++ (a, reply.Fault) ∷ [] → IsFaulted b after
faulted_by b log after a h g = record {
  pairs = h.pairs;
  ask = a;
  grown = g ∙ ap (λ x. x ++ (a, reply.Fault) ∷ []) h.grown ∙ append_assoc b h.pairs ((a, reply.Fault) ∷ []);
  clean = h.clean;
}

pub told_by : (b log after : Log) (r : Reply) → IsFaulted b log → after ≡ log ++ (ask.Err (message_of fault.Device), r) ∷ [] → r ≢ reply.NoRoom → FaultIsTold b after
told_by b log after r h g room =
    let last : Log = (ask.Err (message_of fault.Device), r) ∷ [] in
    record {
      pairs = h.pairs;
      ask = h.ask;
      reply = r;
      grown = g ∙ ap (λ x. x ++ last) h.grown ∙ append_assoc b (h.pairs ++ (h.ask, reply.Fault) ∷ []) last ∙ ap (λ x. b ++ x) (append_assoc h.pairs ((h.ask, reply.Fault) ∷ []) last);
      clean = h.clean;
      room = room;
    }

pub is_the_fault : (r : Reply) → is_fault r ≡ true → r ≡ reply.Fault
is_the_fault (reply.Bytes text) e = absurd (cc e)
is_the_fault reply.Missing e = absurd (cc e)
is_the_fault (reply.Stamp there size time) e = absurd (cc e)
is_the_fault reply.Done e = absurd (cc e)
is_the_fault (reply.SysDone code out) e = absurd (cc e)
is_the_fault reply.Started e = absurd (cc e)
is_the_fault (reply.Run k) e = absurd (cc e)
is_the_fault (reply.Ended n code) e = absurd (cc e)
is_the_fault reply.Fault e = refl
is_the_fault reply.NoRoom e = absurd (cc e)

module _ {S : Type 0} (files : List (List ℕ)) (image : Configuration S → List ℕ) (step : S → ThreadAct S) where
  abbrev next : Configuration S → Step (Configuration S) End
  next c = move files image step c

  -- where a fault is told next, and where it has been told
  pub next_faulted : (c : Configuration S) → c.mode ≡ faulted → next c ≡ move_in files image step c faulted
  next_faulted c e = ap (move_in files image step c) e

  pub next_told : (c : Configuration S) → c.mode ≡ fault_told → next c ≡ Ends DeviceFault
  next_told c e = ap (move_in files image step c) e

  pub goes_clean : (s t : Configuration S) (b log : Log) → View s.mode → Trail s.mode b log → next s ≡ Goes t → Trail t.mode b log
  goes_clean s t b log (View.fine f) h m = clean_at t.mode b log (subst (λ x. IsSafe x) m (safe files image step s f)) (at_clean s.mode b log f h)
  goes_clean s t b log (View.at_fault e) h m = absurd (let q = next_faulted s e in cc (q, m))
  goes_clean s t b log (View.at_told e) h m = absurd (let q = next_told s e in cc (q, m))

  pub asks_clean : (s : Configuration S) (b log after : Log) (a : Ask) (go : Reply → Configuration S) (r : Reply) → View s.mode → Trail s.mode b log → next s ≡ Asks a go → after ≡ log ++ (a, r) ∷ [] → r ≢ reply.NoRoom → Trail (go r).mode b after
  asks_clean s b log after a go r (View.fine f) h m g room = by (is_fault r) refl
    where
      by : (x : Bool) → is_fault r ≡ x → Trail (go r).mode b after
      by false e =
          let q : IsSafe (Asks a go) = subst (λ x. IsSafe x) m (safe files image step s f) in
          clean_at (go r).mode b after (q.1 r e) (grown_by b log after a r (at_clean s.mode b log f h) g e)
      by true e =
          let q : IsSafe (Asks a go) = subst (λ x. IsSafe x) m (safe files image step s f) in
          let is : r ≡ reply.Fault = is_the_fault r e in
          subst (λ z. Trail (go z).mode b after) (sym is) (subst (λ z. Trail z b after) (sym q.0) (faulted_by b log after a (at_clean s.mode b log f h) (subst (λ z. after ≡ log ++ (a, z) ∷ []) is g)))
  asks_clean s b log after a go r (View.at_fault e) h m g room =
      let q : move_in files image step s faulted ≡ Asks a go = sym (next_faulted s e) ∙ m in
      let same_ask : ask.Err (message_of fault.Device) ≡ a = ap (λ x. ask_in x a) q in
      let same_go : in_mode fault_told s ≡ go r = ap (λ x. behind_in x r s) q in
      subst (λ z. Trail z b after) (ap (λ (x : Configuration S). x.mode) same_go) (told_by b log after r (subst (λ z. Trail z b log) e h) (subst (λ z. after ≡ log ++ (z, r) ∷ []) (sym same_ask) g) room)
    where
      ask_in : Step (Configuration S) End → Ask → Ask
      ask_in (Asks a' f) other = a'
      ask_in _ other = other

      behind_in : Step (Configuration S) End → Reply → Configuration S → Configuration S
      behind_in (Asks a' f) r' other = f r'
      behind_in _ r' other = other
  asks_clean s b log after a go r (View.at_told e) h m g room = absurd (let q = next_told s e in cc (q, m))

  trail : (from : Configuration S) → IsFine from.mode → (b : Log) (c : Configuration S) (log : Log) → Leads (λ s x. next s ≡ x) from b c log → Trail c.mode b log
  trail from f b c log Leads.here = clean_at from.mode b b f (record { pairs = []; grown = sym (append-nil b); clean = refl })
  trail from f b c log (Leads.goes s _ _ l m) = goes_clean s c b log (view s.mode) (trail from f b s log l) m
  trail from f b c log (Leads.asks s log' _ a go r l m answered) = asks_clean s b log' log a go r (view s.mode) (trail from f b s log' l) m answered.grown answered.told

  pub device_told : (from : Configuration S) → IsFine from.mode → (b : Log) (c : Configuration S) (log : Log) → Leads (λ s x. next s ≡ x) from b c log → next c ≡ Ends DeviceFault → FaultIsTold b log
  device_told from f b c log l m = by (view c.mode)
    where
      by : View c.mode → FaultIsTold b log
      by (View.fine g) = absurd (let q : DeviceFault ≢ DeviceFault = subst (λ x. IsSafe x) m (safe files image step c g) in q refl)
      by (View.at_fault e) = absurd (let q = next_faulted c e in cc (q, m))
      by (View.at_told e) = subst (λ z. Trail z b log) e (trail from f b c log l)

  pub others_clean : (from : Configuration S) → IsFine from.mode → (b : Log) (c : Configuration S) (log : Log) (e : End) → Leads (λ s x. next s ≡ x) from b c log → next c ≡ Ends e → e ≢ DeviceFault → IsClean b log
  others_clean from f b c log e l m other = by (view c.mode)
    where
      by : View c.mode → IsClean b log
      by (View.fine g) = at_clean c.mode b log g (trail from f b c log l)
      by (View.at_fault is) = absurd (let q = next_faulted c is in cc (q, m))
      by (View.at_told is) = absurd (other (let q = next_told c is in cc (q, m)))
