-- What keeps a state valid.
use Rattle.std.proofs.Common.{◌≡◌, ◌≢◌, ◌+◌, ◌<◌, ◌≤◌, ℕ, List, [], ◌∷◌, ◌++◌, length, map, slice_get, true, Some, None}
use Rattle.std.proofs.Common.{arith, refl, sym, subst}
use Rattle.std.proofs.lemmas.List.{length-set, length_push}
use Rattle.std.proofs.lemmas.List.Elements.{All-nil}
use Rattle.std.specs.List.{All, slice_set}
use Rattle.bds_value.specs.declared.TheConstants.{MAX_COUNT, MAX_RULES, MAX_TASKS, MAX_THREADS}
use Rattle.bds_value.specs.declared.ids.Id.{Id}
use Rattle.bds_value.specs.declared.ids.Id.TheVariants as id
use Rattle.bds_value.specs.declared.ids.Status.{Status}
use Rattle.bds_value.specs.declared.ids.Status.TheVariants.{Ready, Waiting, Ended}
use Rattle.bds_code.specs.declared.unit.Unit.{Unit as CodeUnit}
use Rattle.bds_code_frames.specs.declared.thread.Thread.{Thread}
use Rattle.bds_code_frames.specs.Counts.{IsCounted}
use Rattle.bds_rules.specs.declared.rule.Rule.{Rule}
use Rattle.bds_rules.specs.Makers.{made_already}
use Rattle.bds_rules.specs.Own as rules
use Rattle.bds_rules.proofs.OwnLaws.{declares_own}
use Rattle.bds_state_threads.specs.Fields.{IsFieldStatus}
use Rattle.bds_tasks.specs.declared.task.Task.{Task}
use Rattle.bds_tasks.specs.declared.task.TaskNew.{TaskNew}
use Rattle.bds_tasks.specs.Ends.{ended}
use Rattle.bds_tasks.specs.Sound.{AreTasks, IsLegal}
use Rattle.bds_tasks.specs.Starts.{started}
use Rattle.bds_tasks.specs.Tasks.{added, passes, revived_task, runs, waits}
use Rattle.bds_tasks.proofs.SoundLaws.{adds_sound, ends_sound, revives_sound, starts_sound}
use Rattle.bds_verify.specs.Threads.{IsThread}
use Rattle.bds_state.specs.Keeping.{KeepsThread, StaysValid}
use Rattle.bds_state.specs.Parts.{Parts, with_rules, with_tasks, with_threads}
use Rattle.bds_state.specs.Valid.{AreThere, HasParent, IsCountedThread, IsMade, IsThere, IsThreadOf, IsValid}
use Rattle.bds_state.proofs.Makers.{length_same, made_same, kept_added, kept_ended, kept_revived, kept_started}
use Rattle.bds_state.proofs.Places.{all_push, all_set, all_weaker, live_parts}

-- what is there stays there where there are more tasks and threads
module _ (a b a' b' : ℕ) (p : a ≤ a') (q : b ≤ b') where
  there_more : (i : Id) → IsThere a b i → IsThere a' b' i
  there_more (id.Task n) h = let l : n ≤ a = h.1 in (h.0, omega (arith, l, p))
  there_more (id.Thread n) h = let l : n < b = h in omega (arith, l, q)

  pub are_there_more : (s : Status) → AreThere a b s → AreThere a' b' s
  are_there_more Ready h = tt
  are_there_more (Waiting ids) h = all_weaker (IsThere a b) (IsThere a' b') there_more ids h
  are_there_more Ended h = tt

  pub thread_more : (u : CodeUnit) (n : ℕ) (t : Thread) → IsThreadOf a b u n t → IsThreadOf a' b' u n t
  thread_more u n t h =
      record { parent = h.parent; ids = are_there_more t.status h.ids; counted = h.counted; valid = h.valid }

module _ (s : Parts) (v : IsValid s) where
  -- Threads

  -- thread n is another one
  pub thread_replaced : (n : ℕ) (t : Thread) → IsThreadOf (length s.tasks) (length s.threads) s.unit n t
      → IsValid (with_threads (slice_set s.threads n t) s)
  thread_replaced n t h =
      let same : length (slice_set s.threads n t) ≡ length s.threads = length-set s.threads n t in
      let main : 1 ≤ length s.threads = v.threads.main in
      let few : length s.threads ≤ MAX_THREADS = v.threads.count in
      record {
        unit = v.unit;
        threads = record {
          main = omega (arith, same, main);
          count = omega (arith, same, few);
          each = λ m x e. subst (λ k. IsThreadOf (length s.tasks) k s.unit m x) (sym same)
              (all_set (λ k y. IsThreadOf (length s.tasks) (length s.threads) s.unit k y) s.threads n t v.threads.each
              (λ l. h) m x e);
        };
        tasks = v.tasks;
        makers = subst (λ k. All (IsMade k) s.tasks) (sym same) v.makers;
        rules = v.rules;
        path = v.path;
      }

  module _ (n : ℕ) (t : Thread) (there : slice_get s.threads n ≡ Some t) where
    -- it ran: it has another life with the same maker and the same status
    pub thread_ran : (t' : Thread) → t'.parent ≡ t.parent → t'.status ≡ t.status → All IsCounted t'.frames
        → IsThread s.unit t' → IsValid (with_threads (slice_set s.threads n t') s)
    thread_ran t' same_parent same_status counted valid =
        let h = v.threads.each n t there in
        thread_replaced n t' (record {
          parent = subst (HasParent n) (sym same_parent) h.parent;
          ids = subst (AreThere (length s.tasks) (length s.threads)) (sym same_status) h.ids;
          counted = record { ids = subst IsFieldStatus (sym same_status) h.counted.ids; frames = counted };
          valid = valid;
        })

    -- it waits for tasks and threads that are there
    pub thread_waits : (ids : List Id) → t.status ≢ Ended → length ids ≤ MAX_COUNT
        → All (IsThere (length s.tasks) (length s.threads)) ids
        → IsValid (with_threads (slice_set s.threads n (record {
          parent = t.parent;
          status = Waiting ids;
          globals = t.globals;
          frames = t.frames;
        })) s)
    thread_waits ids live few all_there =
        let h = v.threads.each n t there in
        thread_replaced n (record {
          parent = t.parent;
          status = Waiting ids;
          globals = t.globals;
          frames = t.frames;
        }) (record {
          parent = h.parent;
          ids = all_there;
          counted = record { ids = few; frames = h.counted.frames };
          valid = live_parts s.unit t.status t.globals t.frames live h.valid;
        })

    -- it goes on
    pub thread_goes_on : t.status ≢ Ended → t.frames ≢ []
        → IsValid (with_threads (slice_set s.threads n (record {
          parent = t.parent;
          status = Ready;
          globals = t.globals;
          frames = t.frames;
        })) s)
    thread_goes_on live some =
        let h = v.threads.each n t there in
        thread_replaced n (record {
          parent = t.parent;
          status = Ready;
          globals = t.globals;
          frames = t.frames;
        }) (record {
          parent = h.parent;
          ids = tt;
          counted = record { ids = tt; frames = h.counted.frames };
          valid = (live_parts s.unit t.status t.globals t.frames live h.valid, some);
        })

    -- it has ended
    pub thread_ends : IsValid (with_threads (slice_set s.threads n (record {
      parent = t.parent;
      status = Ended;
      globals = [];
      frames = [];
    })) s)
    thread_ends =
        let h = v.threads.each n t there in
        thread_replaced n (record { parent = t.parent; status = Ended; globals = []; frames = [] })
        (record {
          parent = h.parent;
          ids = tt;
          counted = record { ids = tt; frames = All-nil IsCounted };
          valid = (refl, refl);
        })

  -- one more thread, which one that is there made
  pub thread_added : (t : Thread) → length s.threads < MAX_THREADS → t.parent < length s.threads
      → AreThere (length s.tasks) (length s.threads) t.status → IsCountedThread t → IsThread s.unit t
      → IsValid (with_threads (s.threads ++ t ∷ []) s)
  thread_added t room maker ids counted valid =
      let long : length (s.threads ++ t ∷ []) ≡ length s.threads + 1 = length_push s.threads t in
      let main : 1 ≤ length s.threads = v.threads.main in
      let more : length s.threads ≤ length (s.threads ++ t ∷ []) = omega (arith, long) in
      record {
        unit = v.unit;
        threads = record {
          main = omega (arith, more, main);
          count = omega (arith, long, room);
          each = λ m x e. thread_more (length s.tasks) (length s.threads) (length s.tasks) (length (s.threads
              ++ t ∷ [])) (omega arith) more s.unit m x
              (all_push (λ k y. IsThreadOf (length s.tasks) (length s.threads) s.unit k y) s.threads t v.threads.each
              (record {
                parent = record { main = λ none. absurd (omega (arith, none, main)); later = λ l. maker };
                ids = ids;
                counted = counted;
                valid = valid;
              }) m x e);
        };
        tasks = v.tasks;
        makers = all_weaker (IsMade (length s.threads)) (IsMade (length (s.threads
            ++ t ∷ []))) (λ x l. let h : x.made.maker < length s.threads = l in omega (arith, h, more)) s.tasks
            v.makers;
        rules = v.rules;
        path = v.path;
      }

  -- Tasks

  -- other tasks that threads which are there made, and no fewer
  pub tasks_changed : (ts : List Task) → AreTasks ts → All (IsMade (length s.threads)) ts → length s.tasks ≤ length ts
      → IsValid (with_tasks ts s)
  tasks_changed ts sound made more = record {
    unit = v.unit;
    threads = record {
      main = v.threads.main;
      count = v.threads.count;
      each = λ n t e. thread_more (length s.tasks) (length s.threads) (length ts) (length s.threads) more (omega arith)
          s.unit n t (v.threads.each n t e);
    };
    tasks = sound;
    makers = made;
    rules = v.rules;
    path = v.path;
  }

  same_makers : (ts : List Task) → AreTasks ts
      → map (λ (t : Task). t.made.maker) ts ≡ map (λ (t : Task). t.made.maker) s.tasks → IsValid (with_tasks ts s)
  same_makers ts sound same =
      let long : length ts ≡ length s.tasks = length_same s.tasks ts same in
      tasks_changed ts sound (made_same (length s.threads) s.tasks ts same v.makers) (omega (arith, long))

  pub task_added : (new : TaskNew) → length s.tasks < MAX_TASKS → IsLegal new → new.maker < length s.threads
      → IsValid (with_tasks (added s.tasks new) s)
  task_added new room legal maker =
      let more = kept_added (length s.threads) s.tasks new v.makers maker in
      tasks_changed (added s.tasks new) (adds_sound new s.tasks v.tasks room legal) more.0 more.1

  pub task_started : (n : ℕ) → passes (λ t. waits t.state) s.tasks n ≡ true → IsValid (with_tasks (started n s.tasks) s)
  task_started n w = same_makers (started n s.tasks) (starts_sound n s.tasks v.tasks w) (kept_started n s.tasks)

  pub task_ended : (n code : ℕ) → 1 ≤ n → passes (λ t. runs t.state) s.tasks n ≡ true
      → IsValid (with_tasks (ended n code s.tasks) s)
  task_ended n code o w =
      same_makers (ended n code s.tasks) (ends_sound n code s.tasks o v.tasks w) (kept_ended n code s.tasks)

  pub tasks_revived : IsValid (with_tasks (map revived_task s.tasks) s)
  tasks_revived = same_makers (map revived_task s.tasks) (revives_sound s.tasks v.tasks) (kept_revived s.tasks)

  -- Rules

  pub rule_declared : (r : Rule) → length s.rules < MAX_RULES → made_already s.rules r.outs ≡ None → rules.IsLegal r
      → IsValid (with_rules (s.rules ++ r ∷ []) s)
  rule_declared r room none legal = record {
    unit = v.unit;
    threads = v.threads;
    tasks = v.tasks;
    makers = v.makers;
    rules = declares_own s.rules r v.rules room none legal;
    path = v.path;
  }

  keeps_thread : (n : ℕ) (t : Thread) → slice_get s.threads n ≡ Some t → KeepsThread s n t
  keeps_thread n t there = record {
    ran = thread_ran n t there;
    waits = thread_waits n t there;
    goes_on = thread_goes_on n t there;
    ends = thread_ends n t there;
  }

  pub stays_valid : StaysValid s
  stays_valid = record {
    replaced = thread_replaced;
    changed = keeps_thread;
    thread_added = thread_added;
    tasks_changed = tasks_changed;
    task_added = task_added;
    task_started = task_started;
    task_ended = task_ended;
    tasks_revived = tasks_revived;
    rule_declared = rule_declared;
  }
