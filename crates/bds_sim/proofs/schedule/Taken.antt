-- What becomes of related configurations by a step with which their threads leave their turns alike.
use Rattle.std.proofs.Common.{◌≡◌, ℕ, ◌+◌, ◌≤◌, Bool, true, false, List, [], ◌∷◌, ◌++◌, length, Option, Some, None, Ok, Err, slice_get, refl, subst, arith}
use Rattle.std.specs.Prelude.{◌≢◌, nat_eq, nat_lt, nat_le, cond, ⊤}
use Rattle.bds_value.specs.declared.TheConstants.{MAX_TEXT}
use Rattle.bds_value.specs.declared.value.At.{At}
use Rattle.bds_value.specs.declared.value.Stamp.{Stamp}
use Rattle.bds_value.specs.declared.value.Value.{Value}
use Rattle.bds_value.specs.declared.value.Value.TheVariants as value
use Rattle.bds_host.specs.declared.asks.Ask.{Ask}
use Rattle.bds_host.specs.declared.asks.Ask.TheVariants as ask
use Rattle.bds_host.specs.declared.asks.Reply.{Reply}
use Rattle.bds_host.specs.declared.asks.Reply.TheVariants as reply
use Rattle.bds_value.specs.declared.faults.RunFault.{RunFault}
use Rattle.bds_value.specs.declared.faults.RunFault.TheVariants as run
use Rattle.bds_host.specs.Asks.{fits}
use Rattle.bds_host.specs.Host.{is_fault}
use Rattle.bds_tasks.specs.declared.task.TaskNew.{TaskNew}
use Rattle.bds_tasks.specs.Tasks.{added}
use Rattle.bds_rules.specs.declared.rule.Rule.{Rule}
use Rattle.bds_rules.specs.Makers.{made_already}
use Rattle.bds_goal.specs.Reach.{reach, has_cycle}
use Rattle.bds_goal.specs.Plan.{unmade, plan}
use Rattle.bds_schedule.specs.Configuration.{Life, Ready, Waits, Closes, Thread, Configuration, Mode, at_point, turn_of, stopping, faulted, exited, in_mode, with_threads, becomes, with_life_from}
use Rattle.bds_schedule.specs.Faults.{Outcome as Found}
use Rattle.bds_schedule.specs.Ids.{Id, ids_of, task_id, thread_id}
use Rattle.bds_schedule.specs.Replies.{values_given, stamp_in, answer_to, is_point}
use Rattle.bds_schedule.specs.Requests.{Request, Contacts, MakesTask, Declares, Achieves, Spawns, ThreadAct}
use Rattle.bds_schedule.specs.Stages.{End, asking, unless_fault, fails}
use Rattle.bds_schedule.specs.Steps.{Step}
use Rattle.bds_schedule.specs.Turns.{goes_on, comes, goes_by, given, stamped, with_stamps, is_old, contacted, where_room, task_made, declared_if, planned, planned_if, reached, achieved, spawned, awaited, path_in, saved_as, requested, taken, made_in, tasks_planned, ids_from}
use Rattle.bds_value.specs.declared.TheConstants.{MAX_TASKS, MAX_RULES, MAX_THREADS}
use Rattle.bds_schedule.specs.Values.{of_texts}
use Rattle.bds_schedule.specs.Waiting.{made_by}
use Rattle.bds_sim.specs.schedule.Agree.{IsPlain, IsText, IsGiven, SameRequest, SameBehind, Same}
use Rattle.bds_sim.specs.schedule.Related.{Plain, Near, SameLife, SameThreads, IsNeeding, AreNeeding, Related, SameAsk, SameStep}
use Rattle.bds_sim.proofs.schedule.Threads.{same_with, same_more, same_length, same_made}

abbrev pub conf : {S : Type 0} → Plain → List (Thread S) → Configuration S
conf p ts = record { path = p.path; cpus = p.cpus; budget = p.budget; used = p.used; threads = ts; tasks = p.tasks; rules = p.rules; mode = p.mode }

-- what a reply gives

abbrev pub Gives : (S : Type 0) → Ask → Found (List Value) → Type 0
Gives S a (Ok vs) = IsGiven {S = S} (Contacts a) vs
Gives S a (Err f) = ⊤

abbrev GivesText : Found (List Value) → Type 0
GivesText (Ok vs) = IsText vs
GivesText (Err f) = ⊤

gives_text : (text : List ℕ) (b : Bool) (f : RunFault) → nat_lt MAX_TEXT (length text) ≡ b → GivesText (cond b (Err f) (Ok (value.Text text ∷ [])))
gives_text text true f e = tt
gives_text text false f e = (text, Rattle.std.proofs.lemmas.Bool.ltb-false MAX_TEXT (length text) e, refl)

gives_command : (b : Bool) (f : RunFault) (x : Found (List Value)) → GivesText x → GivesText (cond b x (Err f))
gives_command true f x h = h
gives_command false f x h = tt

reading : (S : Type 0) (path : List ℕ) (x : Found (List Value)) → GivesText x → Gives S (ask.Read path) x
reading S path (Ok vs) h = h
reading S path (Err f) h = tt

running : (S : Type 0) (command : List ℕ) (x : Found (List Value)) → GivesText x → Gives S (ask.Sys command) x
running S command (Ok vs) h = h
running S command (Err f) h = tt

pub values_given_so : (S : Type 0) (a : Ask) (r : Reply) → fits a r ≡ true → r ≢ reply.NoRoom → is_fault r ≡ false → Gives S a (values_given a r)
values_given_so S (ask.Read path) (reply.Bytes text) h n f = reading S path _ (gives_text text (nat_lt MAX_TEXT (length text)) _ refl)
values_given_so S (ask.Read path) reply.Missing h n f = tt
values_given_so S (ask.Sys command) (reply.SysDone code out) h n f = running S command _ (gives_command (nat_eq code 0) _ _ (gives_text out (nat_lt MAX_TEXT (length out)) _ refl))
values_given_so S (ask.Read path) (reply.Stamp there size time) h n f = absurd (cc h)
values_given_so S (ask.Read path) reply.Done h n f = absurd (cc h)
values_given_so S (ask.Read path) (reply.SysDone code out) h n f = absurd (cc h)
values_given_so S (ask.Read path) reply.Started h n f = absurd (cc h)
values_given_so S (ask.Read path) (reply.Run k) h n f = absurd (cc h)
values_given_so S (ask.Read path) (reply.Ended task code) h n f = absurd (cc h)
values_given_so S (ask.Read path) reply.Fault h n f = absurd (cc f)
values_given_so S (ask.Read path) reply.NoRoom h n f = absurd (n refl)
values_given_so S (ask.Sys command) (reply.Bytes text) h n f = absurd (cc h)
values_given_so S (ask.Sys command) reply.Missing h n f = absurd (cc h)
values_given_so S (ask.Sys command) (reply.Stamp there size time) h n f = absurd (cc h)
values_given_so S (ask.Sys command) reply.Done h n f = absurd (cc h)
values_given_so S (ask.Sys command) reply.Started h n f = absurd (cc h)
values_given_so S (ask.Sys command) (reply.Run k) h n f = absurd (cc h)
values_given_so S (ask.Sys command) (reply.Ended task code) h n f = absurd (cc h)
values_given_so S (ask.Sys command) reply.Fault h n f = absurd (cc f)
values_given_so S (ask.Sys command) reply.NoRoom h n f = absurd (n refl)
values_given_so S (ask.Stamp path) r h n f = refl
values_given_so S (ask.Write path text) r h n f = refl
values_given_so S (ask.Remove path) r h n f = refl
values_given_so S (ask.Out text) r h n f = refl
values_given_so S (ask.Err text) r h n f = refl
values_given_so S (ask.Start task attempt command) r h n f = refl
values_given_so S (ask.Next ks ns) r h n f = refl
values_given_so S (ask.Save path image) r h n f = refl

module _ {S M : Type 0} (R F : S → M → Type 0) (source : S → ThreadAct S) (machine : M → ThreadAct M) where
  abbrev pub Rel : Configuration S → Configuration M → Type 0
  Rel c d = Related R F source machine c d

  abbrev pub Are : List (Thread S) → List (Thread M) → Type 0
  Are ts us = SameThreads R F source machine ts us

  -- a mode in which no thread has got stamps
  abbrev IsBare : Mode → Type 0
  IsBare (turn_of k (x ∷ xs)) = ⊥
  IsBare _ = ⊤

  bare : (m : Mode) → IsBare m → (ts : List (Thread S)) (us : List (Thread M)) → AreNeeding R F source machine m ts us
  bare at_point h ts us = tt
  bare (turn_of k []) h ts us = tt
  bare (turn_of k (x ∷ xs)) h ts us = absurd h
  bare (stopping cause) h ts us = tt
  bare Mode.saving h ts us = tt
  bare faulted h ts us = tt
  bare Mode.fault_told h ts us = tt
  bare (Mode.done status) h ts us = tt

  pub related : (p : Plain) (ts : List (Thread S)) (us : List (Thread M)) → IsBare p.mode → Are ts us → Rel (conf p ts) (conf p us)
  related p ts us h a = record { same = refl; threads = a; needing = bare p.mode h ts us }

  with_needs : (k : ℕ) (xs : List Stamp) (ts : List (Thread S)) (us : List (Thread M)) → IsNeeding R F source machine (slice_get ts k) (slice_get us k) → AreNeeding R F source machine (turn_of k xs) ts us
  with_needs k [] ts us h = tt
  with_needs k (x ∷ xs) ts us h = h

  -- thread k lives so now
  pub now : (k : ℕ) (x : Life S) (y : Life M) (m : Mode) (p : Plain) (ts : List (Thread S)) (us : List (Thread M)) → IsBare m → SameLife R F source machine x y → Are ts us → Rel (becomes k x m (conf p ts)) (becomes k y m (conf p us))
  now k x y m p ts us bare_mode h a =
      related (record { path = p.path; cpus = p.cpus; budget = p.budget; used = p.used; tasks = p.tasks; rules = p.rules; mode = m }) (with_life_from 0 k x ts) (with_life_from 0 k y us) bare_mode (same_with R F source machine 0 k x y ts us h a)

  pub moded : (m : Mode) (p : Plain) (ts : List (Thread S)) (us : List (Thread M)) → IsBare m → Are ts us → Rel (in_mode m (conf p ts)) (in_mode m (conf p us))
  moded m p ts us h a = related (record { path = p.path; cpus = p.cpus; budget = p.budget; used = p.used; tasks = p.tasks; rules = p.rules; mode = m }) ts us h a

  module _ (files : List (List ℕ)) (bytes : List ℕ) (image : Configuration M → List ℕ) where
    abbrev pub Alike : Step (Configuration S) End → Step (Configuration M) End → Type 0
    Alike x y = SameStep R F source machine bytes image x y

    pub behind : (c : Configuration S) (d : Configuration M) (a : Ask) (f : Reply → Configuration S) (g : Reply → Configuration M) → Rel (in_mode faulted c) (in_mode faulted d)
        → ((r : Reply) → fits a r ≡ true → r ≢ reply.NoRoom → is_fault r ≡ false → Rel (f r) (g r))
        → (r : Reply) → fits a r ≡ true → r ≢ reply.NoRoom → Rel (unless_fault c r (f r)) (unless_fault d r (g r))
    behind c d a f g broken h reply.Fault fit n = broken
    behind c d a f g broken h (reply.Bytes text) fit n = h (reply.Bytes text) fit n refl
    behind c d a f g broken h reply.Missing fit n = h reply.Missing fit n refl
    behind c d a f g broken h (reply.Stamp there size time) fit n = h (reply.Stamp there size time) fit n refl
    behind c d a f g broken h reply.Done fit n = h reply.Done fit n refl
    behind c d a f g broken h (reply.SysDone code out) fit n = h (reply.SysDone code out) fit n refl
    behind c d a f g broken h reply.Started fit n = h reply.Started fit n refl
    behind c d a f g broken h (reply.Run k) fit n = h (reply.Run k) fit n refl
    behind c d a f g broken h (reply.Ended task code) fit n = h (reply.Ended task code) fit n refl
    behind c d a f g broken h reply.NoRoom fit n = absurd (n refl)

    -- an ask of both
    pub asked : (p : Plain) (ts : List (Thread S)) (us : List (Thread M)) (a : Ask) (f : Reply → Configuration S) (g : Reply → Configuration M) → IsPlain a → Are ts us
        → ((r : Reply) → fits a r ≡ true → r ≢ reply.NoRoom → is_fault r ≡ false → Rel (f r) (g r))
        → Alike (asking (conf p ts) a f) (asking (conf p us) a g)
    asked p ts us a f g plainly same h =
        SameStep.make a a (λ r. unless_fault (conf p ts) r (f r)) (λ r. unless_fault (conf p us) r (g r)) (SameAsk.plainly a _ _ plainly) (behind (conf p ts) (conf p us) a f g (moded faulted p ts us tt same) h)

    failing : (p : Plain) (ts : List (Thread S)) (us : List (Thread M)) (at : At) (f : RunFault) → Are ts us → Rel (fails files (conf p ts) at f) (fails files (conf p us) at f)
    failing p ts us at f a = moded _ p ts us tt a

    module _ (p : Plain) (ts : List (Thread S)) (us : List (Thread M)) (k : ℕ) (stamps : List Stamp) (are : Are ts us) (need : IsNeeding R F source machine (slice_get ts k) (slice_get us k)) where
      abbrev c : Configuration S
      c = conf p ts

      abbrev d : Configuration M
      d = conf p us

      abbrev image_s : Configuration S → List ℕ
      image_s c = bytes

      on_with : (s : S) (m : M) → R s m → Rel (goes_on k c s) (goes_on k d m)
      on_with s m r = now k (Ready s) (Ready m) (turn_of k []) p ts us tt (SameLife.ready s m (Near.stands r)) are

      point_with : (s : S) (m : M) → R s m → Rel (comes k c s) (comes k d m)
      point_with s m r = now k (Ready s) (Ready m) at_point p ts us tt (SameLife.ready s m (Near.stands r)) are

      by : (b : Bool) (s : S) (m : M) → R s m → Rel (goes_by b k c s) (goes_by b k d m)
      by true s m r = point_with s m r
      by false s m r = on_with s m r

      given_same : (b : Bool) (at : At) (a : Ask) (f : List Value → S) (g : List Value → M) → SameBehind R F (Contacts a) f g → (x : Found (List Value)) → Gives S a x
          → Rel (given files b k c at f x) (given files b k d at g x)
      given_same b at a f g h (Ok vs) q = by b (f vs) (g vs) (h vs q)
      given_same b at a f g h (Err e) q = failing p ts us at e are

      stamped_same : (file : List ℕ) → Alike (stamped k stamps c file) (stamped k stamps d file)
      stamped_same file =
          asked p ts us (ask.Stamp file) _ _ tt are (λ r fit n f. record { same = refl; threads = are; needing = with_needs k (stamps ++ stamp_in r ∷ []) ts us need })

      stamps_same : (x : Option (List ℕ)) (c' : Configuration S) (d' : Configuration M) → Rel c' d' → Alike (with_stamps k stamps c x c') (with_stamps k stamps d x d')
      stamps_same (Some file) c' d' r = stamped_same file
      stamps_same None c' d' r = SameStep.go c' d' r

      room_same : (b : Bool) (at : At) (f : RunFault) (c' : Configuration S) (d' : Configuration M) → (b ≡ true → Rel c' d') → Alike (where_room files b c at f c') (where_room files b d at f d')
      room_same true at f c' d' r = SameStep.go c' d' (r refl)
      room_same false at f c' d' r = SameStep.go _ _ (failing p ts us at f are)

      contacted_same : (a : Ask) (at : At) (f : List Value → S) (g : List Value → M) → IsPlain a → SameBehind R F (Contacts a) f g → Alike (contacted files k c at a f) (contacted files k d at a g)
      contacted_same a at f g plainly h =
          asked p ts us a _ _ plainly are (λ r fit n fault. given_same (is_point a) at a f g h (values_given a r) (values_given_so S a r fit n fault))

      abbrev task_made_p : TaskNew → Plain
      task_made_p task = record { path = p.path; cpus = p.cpus; budget = p.budget; used = p.used; tasks = added p.tasks (made_in k task); rules = p.rules; mode = p.mode }

      task_same : (task : TaskNew) (at : At) (f : List Value → S) (g : List Value → M) → SameBehind R F (MakesTask task) f g → Alike (task_made files k c at task f) (task_made files k d at task g)
      task_same task at f g h =
          let v : Value = value.Text (task_id (length p.tasks + 1)) in
          room_same (nat_lt (length p.tasks) MAX_TASKS) at run.TooManyTasks _ _ (λ room. now k (Ready (f (v ∷ []))) (Ready (g (v ∷ []))) at_point (task_made_p task) ts us tt (SameLife.ready _ _ (Near.stands (h (v ∷ []) (length p.tasks + 1, omega (arith, Rattle.std.proofs.lemmas.Bool.ltb-true (length p.tasks) MAX_TASKS room), refl)))) are)

      abbrev declared_p : Rule → Plain
      declared_p rule = record { path = p.path; cpus = p.cpus; budget = p.budget; used = p.used; tasks = p.tasks; rules = p.rules ++ rule ∷ []; mode = p.mode }

      declared_same : (x : Option (List ℕ × ℕ)) (rule : Rule) (at : At) (f : List Value → S) (g : List Value → M) → SameBehind R F (Declares rule) f g → Alike (declared_if files x k c at rule f) (declared_if files x k d at rule g)
      declared_same (Some q) rule at f g h = SameStep.go _ _ (failing p ts us at (run.TwoRules q.0 q.1) are)
      declared_same None rule at f g h =
          room_same (nat_lt (length p.rules) MAX_RULES) at run.TooManyRules _ _ (λ room. now k (Ready (f [])) (Ready (g [])) (turn_of k []) (declared_p rule) ts us tt (SameLife.ready _ _ (Near.stands (h [] refl))) are)

      abbrev planned_p : List ℕ → Plain
      planned_p rules = record { path = p.path; cpus = p.cpus; budget = p.budget; used = p.used; tasks = tasks_planned k c rules; rules = p.rules; mode = p.mode }

      planned_same : (targets : List (List ℕ)) (rules : List ℕ) (at : At) (f : List Value → S) (g : List Value → M) → SameBehind R F (Achieves targets) f g → Alike (planned files k c at rules f) (planned files k d at rules g)
      planned_same targets rules at f g h =
          let v : Value = of_texts (ids_from (length p.tasks + 1) rules) in
          room_same (nat_le (length p.tasks + length rules) MAX_TASKS) at run.TooManyTasks _ _ (λ room. now k (Ready (f (v ∷ []))) (Ready (g (v ∷ []))) at_point (planned_p rules) ts us tt (SameLife.ready _ _ (Near.stands (h (v ∷ []) (length p.tasks + 1, (rules, fit room, refl))))) are)
        where
          fit : nat_le (length p.tasks + length rules) MAX_TASKS ≡ true → length p.tasks + 1 + length rules ≤ MAX_TASKS + 1
          fit room = omega (arith, Rattle.std.proofs.lemmas.Bool.leb-true (length p.tasks + length rules) MAX_TASKS room)

      planned_if_same : (x : Option (List ℕ)) (targets : List (List ℕ)) (at : At) (f : List Value → S) (g : List Value → M) → SameBehind R F (Achieves targets) f g
          → Alike (planned_if files x k stamps c at targets f) (planned_if files x k stamps d at targets g)
      planned_if_same (Some file) targets at f g h = SameStep.go _ _ (failing p ts us at (run.NoRule file) are)
      planned_if_same None targets at f g h = planned_same targets (plan p.rules targets stamps p.tasks) at f g h

      reached_same : (x : Option (List ℕ)) (targets : List (List ℕ)) (at : At) (f : List Value → S) (g : List Value → M) → SameBehind R F (Achieves targets) f g
          → Alike (reached files x k stamps c at targets f) (reached files x k stamps d at targets g)
      reached_same (Some file) targets at f g h = stamped_same file
      reached_same None targets at f g h = planned_if_same (unmade p.rules targets stamps p.tasks) targets at f g h

      achieved_same : (b : Bool) (targets : List (List ℕ)) (at : At) (f : List Value → S) (g : List Value → M) → SameBehind R F (Achieves targets) f g
          → Alike (achieved files b k stamps c at targets f) (achieved files b k stamps d at targets g)
      achieved_same true targets at f g h = SameStep.go _ _ (failing p ts us at (run.Cycle []) are)
      achieved_same false targets at f g h = reached_same (slice_get (reach p.rules targets) (length stamps)) targets at f g h

      spawned_same : (s : S) (m : M) (at : At) (f : List Value → S) (g : List Value → M) → R s m → SameBehind R F (Spawns s) f g → Alike (spawned files k c at s f) (spawned files k d at m g)
      spawned_same s m at f g r h =
          let v : Value = value.Text (thread_id (length ts)) in
          subst (λ n. Alike (spawned files k c at s f) (where_room files (nat_lt n MAX_THREADS) d at run.TooManyThreads (comes k (with_threads (us ++ record { parent = k; life = Ready m } ∷ []) d) (g (value.Text (thread_id n) ∷ [])))))
          (same_length R F source machine ts us are)
          (room_same (nat_lt (length ts) MAX_THREADS) at run.TooManyThreads _ _
          (λ room. now k (Ready (f (v ∷ []))) (Ready (g (v ∷ []))) at_point p (ts ++ record { parent = k; life = Ready s } ∷ []) (us ++ record { parent = k; life = Ready m } ∷ []) tt (SameLife.ready _ _ (Near.stands (h (v ∷ []) (length ts, Rattle.std.proofs.lemmas.Bool.ltb-true (length ts) MAX_THREADS room, refl))))
          (same_more R F source machine k (Ready s) (Ready m) ts us (SameLife.ready s m (Near.stands r)) are)))

      awaited_same : (x : Found (List Id)) (at : At) (f : List Value → S) (g : List Value → M) → ((us : List Value) → us ≡ [] → R (f us) (g us)) → Alike (awaited files k c at f x) (awaited files k d at g x)
      awaited_same (Ok ids) at f g h = SameStep.go _ _ (now k (Waits ids (f [])) (Waits ids (g [])) at_point p ts us tt (SameLife.waits ids _ _ (h [] refl)) are)
      awaited_same (Err e) at f g h = SameStep.go _ _ (failing p ts us at e are)

      all_awaited : (f : List Value → S) (g : List Value → M) → ((us : List Value) → us ≡ [] → R (f us) (g us)) → Rel (becomes k (Waits (made_by c k) (f [])) at_point c) (becomes k (Waits (made_by d k) (g [])) at_point d)
      all_awaited f g h =
          subst (λ ids. Rel (becomes k (Waits (made_by c k) (f [])) at_point c) (becomes k (Waits ids (g [])) at_point d)) (same_made R F source machine c d refl are k)
          (now k (Waits (made_by c k) (f [])) (Waits (made_by c k) (g [])) at_point p ts us tt (SameLife.waits _ _ _ (h [] refl)) are)

      finished : (s : S) (m : M) → F s m → Rel (becomes k (Closes (made_by c k) s) at_point c) (becomes k (Closes (made_by d k) m) at_point d)
      finished s m h =
          subst (λ ids. Rel (becomes k (Closes (made_by c k) s) at_point c) (becomes k (Closes ids m) at_point d)) (same_made R F source machine c d refl are k)
          (now k (Closes (made_by c k) s) (Closes (made_by c k) m) at_point p ts us tt (SameLife.closes _ s m h) are)

      -- a state that is saved, and goes on behind the reply
      saved_same : (path : List ℕ) (c' : Configuration S) (d' : Configuration M) → Rel c' d' → Alike (saved_as files image_s source k c path c') (saved_as files image machine k d path d')
      saved_same path c' d' r =
          SameStep.make _ _ (λ x. unless_fault c x c') (λ x. unless_fault d x d')
          (SameAsk.saves path c' d' (λ x. unless_fault c x c') (λ x. unless_fault d x d') r (λ cpus budget. refl) (λ cpus budget. refl))
          (behind c d (ask.Save path bytes) (λ x. c') (λ x. d') (moded faulted p ts us tt are) (λ x fit n f. r))

      path_same : (x : Option (List ℕ)) → path_in c x ≡ path_in d x
      path_same (Some path) = refl
      path_same None = refl

      requested_same : (r : Request S) (r' : Request M) (at : At) (f : List Value → S) (g : List Value → M) → SameRequest R F r r' → SameBehind R F r f g → Alike (requested files image_s source k stamps c at r f) (requested files image machine k stamps d at r' g)
      requested_same _ _ at f g (SameRequest.contacts a plainly) h = contacted_same a at f g plainly h
      requested_same _ _ at f g (SameRequest.inspects q path) h =
          asked p ts us (ask.Stamp path) _ _ tt are (λ r fit n fault. on_with _ _ (h (answer_to q (stamp_in r) ∷ []) (stamp_in r, refl)))
      requested_same _ _ at f g (SameRequest.compares outs ins) h =
          let v : Value = value.Bool (is_old c outs ins stamps) in
          stamps_same (slice_get (outs ++ ins) (length stamps)) _ _ (on_with (f (v ∷ [])) (g (v ∷ [])) (h (v ∷ []) (is_old c outs ins stamps, refl)))
      requested_same _ _ at f g (SameRequest.makes_task task) h = task_same task at f g h
      requested_same _ _ at f g (SameRequest.declares rule) h = declared_same (made_already p.rules rule.outs) rule at f g h
      requested_same _ _ at f g (SameRequest.achieves targets) h = achieved_same (has_cycle p.rules targets) targets at f g h
      requested_same _ _ at f g (SameRequest.spawns s m r) h = spawned_same s m at f g r h
      requested_same _ _ at f g (SameRequest.awaits_ids texts) h =
          subst (λ n. Alike (awaited files k c at f (ids_of (length p.tasks) (length ts) texts)) (awaited files k d at g (ids_of (length p.tasks) n texts))) (same_length R F source machine ts us are)
          (awaited_same (ids_of (length p.tasks) (length ts) texts) at f g h)
      requested_same _ _ at f g SameRequest.awaits_all h = SameStep.go _ _ (all_awaited f g h)
      requested_same _ _ at f g (SameRequest.saves path) h =
          subst (λ x. Alike (saved_as files image_s source k c (path_in c path) (comes k c (f []))) (saved_as files image machine k d x (comes k d (g [])))) (path_same path)
          (saved_same (path_in c path) _ _ (point_with (f []) (g []) (h [] refl)))

      -- steps that leave the turn alike lead to related configurations
      pub taken_same : (x : ThreadAct S) (y : ThreadAct M) → Same R F x y → Alike (taken files image_s source k stamps c x) (taken files image machine k stamps d y)
      taken_same _ _ (Same.needs at r r' f g same h) = requested_same r r' at f g same h
      taken_same _ _ (Same.fails at fault) = SameStep.go _ _ (failing p ts us at fault are)
      taken_same _ _ (Same.exits status) = SameStep.go _ _ (moded (stopping (exited status)) p ts us tt are)
      taken_same _ _ (Same.finishes s m h) = SameStep.go _ _ (finished s m h)
