-- Where requests lead that change the tables: tasks, rules, plans and threads.
use Rattle.std.proofs.Common.{◌≡◌, ℕ, ◌+◌, ◌<◌, Bool, true, false, List, [], ◌∷◌, ◌++◌, length, Some, None, Result, slice_get, refl, sym, ap, ◌∙◌, subst, arith}
use Rattle.std.specs.Prelude.{nat_le, nat_lt}
use Rattle.std.proofs.lemmas.Bool.{le-ltb, lt-ltb}
use Rattle.bds_value.specs.declared.TheConstants.{MAX_RULES, MAX_TASKS}
use Rattle.bds_value.specs.declared.value.Stamp.{Stamp}
use Rattle.bds_value.specs.declared.value.Value.{Value}
use Rattle.bds_value.specs.declared.value.Value.TheVariants as value
use Rattle.bds_value.specs.declared.faults.RunFault.{RunFault}
use Rattle.bds_value.specs.declared.faults.RunFault.TheVariants as run
use Rattle.bds_host.specs.Host.{Log}
use Rattle.bds_code_frames.specs.declared.thread.Thread.{Thread}
use Rattle.bds_code_frames.specs.Stack.{stack}
use Rattle.bds_machine.specs.declared.point.Point.{Point}
use Rattle.bds_machine.specs.declared.point.Point.TheVariants as point
use Rattle.bds_rules.specs.declared.rule.Rule.{Rule}
use Rattle.bds_rules.specs.Makers.{made_already}
use Rattle.bds_tasks.specs.declared.task.Task.{Task}
use Rattle.bds_tasks.specs.declared.task.TaskNew.{TaskNew}
use Rattle.bds_tasks.specs.Tasks.{added}
use Rattle.bds_goal.specs.Plan.{plan, unmade}
use Rattle.bds_goal.specs.Reach.{has_cycle, reach}
use Rattle.bds_schedule.specs.Configuration.{Ready, at_point, becomes, turn_of}
use Rattle.bds_schedule.specs.Configuration as meaning
use Rattle.bds_schedule.specs.Ids.{task_id}
use Rattle.bds_schedule.specs.Requests.{Achieves, Declares, MakesTask, Needs}
use Rattle.bds_schedule.specs.Stages.{End}
use Rattle.bds_schedule.specs.Stages as stages
use Rattle.bds_schedule.specs.Turns as turns
use Rattle.bds_schedule.specs.Turns.{comes, goes_on, ids_from, made_in, tasks_planned, where_room}
use Rattle.bds_schedule.specs.Values.{of_texts}
use Rattle.bds_sim.specs.Threads as sim
use Rattle.bds_sim.specs.MachineRun.{State}
use Rattle.bds_sim.specs.Row.{left, row_step}
use Rattle.bds_state.specs.Parts.{Parts, with_rules, with_tasks}
use Rattle.bds_engine_stages.specs.declared.stage.Stage.{Stage}
use Rattle.bds_engine_stages.specs.declared.stage.Stage.TheVariants as stage
use Rattle.bds_engine_stages.specs.declared.stop.Halt.{Halt}
use Rattle.bds_engine_stages.specs.Held.{FromRow, GoesBack, HasPlace, IsOut, before_row}
use Rattle.bds_engine_stages.specs.Steps.{CallLeadsTo}
use Rattle.bds_engine_stages.proofs.Rows.{row_next}
use Rattle.bds_engine.specs.Given.{Breaks, FromStamps, MakesPlan, at_of, with_planned}
use Rattle.bds_engine.proofs.Outcomes.{comes_back, go, goes_to, next, stops_so}

module _ (s : Parts) (k : ℕ) (t : Thread) where
  -- the thread has its place beside other tasks and rules
  pub place_tasks : HasPlace s k t → (ts : List Task) → HasPlace (with_tasks ts s) k t
  place_tasks p ts = record { old = p.old; there = p.there; parent = p.parent }

  pub place_rules : HasPlace s k t → (rs : List Rule) → HasPlace (with_rules rs s) k t
  place_rules p rs = record { old = p.old; there = p.there; parent = p.parent }

  -- a step at the row, told of what it is and where it leads
  module _ (p : Point) (out : IsOut s k p t) (cpus budget used : ℕ) (m : sim.Parts) (stamps : List Stamp) where
    abbrev here : State
    here = before_row s cpus budget used k m stamps

    abbrev gone : List Value → sim.Parts
    gone us = go s k t out.place out.ready us

    where_room_not : (b : Bool) (f : RunFault) (d : State) (log : Log) (s' : Parts) (r : Result Stage Halt) → next s cpus budget used here ≡ where_room s.unit.files b here (at_of s.unit t) f d → b ≡ false → Breaks s t f s' r → CallLeadsTo s cpus budget here log log s' used r
    where_room_not b f d log s' r e is h =
        goes_to s cpus budget used here (stages.fails s.unit.files here (at_of s.unit t) f) log s' r
        (e ∙ ap (λ x. where_room s.unit.files x here (at_of s.unit t) f d) is) (stops_so s k t out.place out.ready cpus budget used m stamps (at_of s.unit t) f s' r h.0 h.1)

    -- with other tasks the thread goes on with a value, at a point
    tasks_there : (b : Bool) (f : RunFault) (ts : List Task) (v : Value) (log : Log) (s' : Parts) (r : Result Stage Halt)
        → next s cpus budget used here ≡ where_room s.unit.files b here (at_of s.unit t) f (comes k (meaning.with_tasks ts here) (gone (v ∷ []))) → b ≡ true
        → GoesBack k (Some v) t (with_tasks ts s) s' stage.Point r → CallLeadsTo s cpus budget here log log s' used r
    tasks_there b f ts v log s' r e is h =
        goes_to s cpus budget used here (comes k (meaning.with_tasks ts here) (gone (v ∷ []))) log s' r
        (e ∙ ap (λ x. where_room s.unit.files x here (at_of s.unit t) f (comes k (meaning.with_tasks ts here) (gone (v ∷ [])))) is)
        (comes_back (with_tasks ts s) k t (place_tasks out.place ts) out.ready cpus budget used m stamps (Some v) stage.Point s' r tt h)

    -- with other rules it goes on in its turn
    rules_there : (b : Bool) (f : RunFault) (rs : List Rule) (log : Log) (s' : Parts) (r : Result Stage Halt)
        → next s cpus budget used here ≡ where_room s.unit.files b here (at_of s.unit t) f (goes_on k (meaning.with_rules rs here) (gone [])) → b ≡ true
        → GoesBack k None t (with_rules rs s) s' (stage.Turn k) r → CallLeadsTo s cpus budget here log log s' used r
    rules_there b f rs log s' r e is h =
        goes_to s cpus budget used here (goes_on k (meaning.with_rules rs here) (gone [])) log s' r
        (e ∙ ap (λ x. where_room s.unit.files x here (at_of s.unit t) f (goes_on k (meaning.with_rules rs here) (gone []))) is)
        (comes_back (with_rules rs s) k t (place_rules out.place rs) out.ready cpus budget used m stamps None (stage.Turn k) s' r tt h)

  -- Tasks

  module _ (task : TaskNew) (out : IsOut s k (point.Task task) t) where
    task_next : (cpus budget used : ℕ) (m : sim.Parts) → row_step s.unit m ≡ left s.unit (point.Task task) t.globals (stack t.frames)
        → next s cpus budget used (before_row s cpus budget used k m [])
        ≡ where_room s.unit.files (nat_lt (length s.tasks) MAX_TASKS) (before_row s cpus budget used k m []) (at_of s.unit t) run.TooManyTasks
        (comes k (meaning.with_tasks (added s.tasks (made_in k task)) (before_row s cpus budget used k m [])) (go s k t out.place out.ready (value.Text (task_id (length s.tasks + 1)) ∷ [])))
    task_next cpus budget used m row = row_next s cpus budget used k out.place.old out.place.there m [] (Needs (at_of s.unit t) (MakesTask task) (go s k t out.place out.ready)) row

    pub makes_task : (id : List ℕ) → id ≡ task_id (length s.tasks + 1) → length s.tasks < MAX_TASKS → (s' : Parts) (r : Result Stage Halt) → GoesBack k (Some (value.Text id)) t (with_tasks (added s.tasks (made_in k task)) s) s' stage.Point r
        → (log : Log) → FromRow s k t (point.Task task) log log s' r
    makes_task id is room s' r h log = λ cpus budget used m row.
        tasks_there (point.Task task) out cpus budget used m [] (nat_lt (length s.tasks) MAX_TASKS) run.TooManyTasks (added s.tasks (made_in k task)) (value.Text (task_id (length s.tasks + 1))) log s' r
        (task_next cpus budget used m row) (lt-ltb (length s.tasks) MAX_TASKS room)
        (subst (λ x. GoesBack k (Some (value.Text x)) t (with_tasks (added s.tasks (made_in k task)) s) s' stage.Point r) is h)

    pub many_tasks : length s.tasks ≡ MAX_TASKS → (s' : Parts) (r : Result Stage Halt) → Breaks s t run.TooManyTasks s' r → (log : Log) → FromRow s k t (point.Task task) log log s' r
    many_tasks full s' r h log = λ cpus budget used m row.
        where_room_not (point.Task task) out cpus budget used m [] (nat_lt (length s.tasks) MAX_TASKS) run.TooManyTasks _ log s' r (task_next cpus budget used m row) (le-ltb (length s.tasks) MAX_TASKS (omega (arith, full))) h

  -- Rules

  module _ (rule : Rule) (out : IsOut s k (point.Declare rule) t) where
    rule_next : (cpus budget used : ℕ) (m : sim.Parts) → row_step s.unit m ≡ left s.unit (point.Declare rule) t.globals (stack t.frames)
        → next s cpus budget used (before_row s cpus budget used k m []) ≡ turns.declared_if s.unit.files (made_already s.rules rule.outs) k (before_row s cpus budget used k m []) (at_of s.unit t) rule (go s k t out.place out.ready)
    rule_next cpus budget used m row = row_next s cpus budget used k out.place.old out.place.there m [] (Needs (at_of s.unit t) (Declares rule) (go s k t out.place out.ready)) row

    none_next : made_already s.rules rule.outs ≡ None → (cpus budget used : ℕ) (m : sim.Parts) → row_step s.unit m ≡ left s.unit (point.Declare rule) t.globals (stack t.frames)
        → next s cpus budget used (before_row s cpus budget used k m [])
        ≡ where_room s.unit.files (nat_lt (length s.rules) MAX_RULES) (before_row s cpus budget used k m []) (at_of s.unit t) run.TooManyRules
        (goes_on k (meaning.with_rules (s.rules ++ rule ∷ []) (before_row s cpus budget used k m [])) (go s k t out.place out.ready []))
    none_next none cpus budget used m row =
        rule_next cpus budget used m row ∙ ap (λ o. turns.declared_if s.unit.files o k (before_row s cpus budget used k m []) (at_of s.unit t) rule (go s k t out.place out.ready)) none

    pub declares : made_already s.rules rule.outs ≡ None → length s.rules < MAX_RULES → (s' : Parts) (r : Result Stage Halt) → GoesBack k None t (with_rules (s.rules ++ rule ∷ []) s) s' (stage.Turn k) r → (log : Log) → FromRow s k t (point.Declare rule) log log s' r
    declares none room s' r h log = λ cpus budget used m row.
        rules_there (point.Declare rule) out cpus budget used m [] (nat_lt (length s.rules) MAX_RULES) run.TooManyRules (s.rules ++ rule ∷ []) log s' r (none_next none cpus budget used m row) (lt-ltb (length s.rules) MAX_RULES room) h

    pub many_rules : made_already s.rules rule.outs ≡ None → length s.rules ≡ MAX_RULES → (s' : Parts) (r : Result Stage Halt) → Breaks s t run.TooManyRules s' r → (log : Log) → FromRow s k t (point.Declare rule) log log s' r
    many_rules none full s' r h log = λ cpus budget used m row.
        where_room_not (point.Declare rule) out cpus budget used m [] (nat_lt (length s.rules) MAX_RULES) run.TooManyRules _ log s' r (none_next none cpus budget used m row) (le-ltb (length s.rules) MAX_RULES (omega (arith, full))) h

    pub two_rules : (file : List ℕ) (n : ℕ) → made_already s.rules rule.outs ≡ Some (file, n) → (s' : Parts) (r : Result Stage Halt) → Breaks s t (run.TwoRules file n) s' r → (log : Log) → FromRow s k t (point.Declare rule) log log s' r
    two_rules file n two s' r h log = λ cpus budget used m row.
        goes_to s cpus budget used (before_row s cpus budget used k m []) (stages.fails s.unit.files (before_row s cpus budget used k m []) (at_of s.unit t) (run.TwoRules file n)) log s' r
        (rule_next cpus budget used m row ∙ ap (λ o. turns.declared_if s.unit.files o k (before_row s cpus budget used k m []) (at_of s.unit t) rule (go s k t out.place out.ready)) two)
        (stops_so s k t out.place out.ready cpus budget used m [] (at_of s.unit t) (run.TwoRules file n) s' r h.0 h.1)

  -- Goals

  module _ (targets : List (List ℕ)) (out : IsOut s k (point.Goal targets) t) where
    achieves_next : (cpus budget used : ℕ) (m : sim.Parts) (stamps : List Stamp) → row_step s.unit m ≡ left s.unit (point.Goal targets) t.globals (stack t.frames)
        → next s cpus budget used (before_row s cpus budget used k m stamps) ≡ turns.achieved s.unit.files (has_cycle s.rules targets) k stamps (before_row s cpus budget used k m stamps) (at_of s.unit t) targets (go s k t out.place out.ready)
    achieves_next cpus budget used m stamps row = row_next s cpus budget used k out.place.old out.place.there m stamps (Needs (at_of s.unit t) (Achieves targets) (go s k t out.place out.ready)) row

    pub cycles : has_cycle s.rules targets ≡ true → (s' : Parts) (r : Result Stage Halt) → Breaks s t (run.Cycle []) s' r → (log : Log) → FromRow s k t (point.Goal targets) log log s' r
    cycles e s' r h log = λ cpus budget used m row.
        goes_to s cpus budget used (before_row s cpus budget used k m []) (stages.fails s.unit.files (before_row s cpus budget used k m []) (at_of s.unit t) (run.Cycle [])) log s' r
        (achieves_next cpus budget used m [] row ∙ ap (λ b. turns.achieved s.unit.files b k [] (before_row s cpus budget used k m []) (at_of s.unit t) targets (go s k t out.place out.ready)) e)
        (stops_so s k t out.place out.ready cpus budget used m [] (at_of s.unit t) (run.Cycle []) s' r h.0 h.1)

    module _ (none : has_cycle s.rules targets ≡ false) where
      pub reached_next : (cpus budget used : ℕ) (m : sim.Parts) (stamps : List Stamp) → row_step s.unit m ≡ left s.unit (point.Goal targets) t.globals (stack t.frames)
          → next s cpus budget used (before_row s cpus budget used k m stamps)
          ≡ turns.reached s.unit.files (slice_get (reach s.rules targets) (length stamps)) k stamps (before_row s cpus budget used k m stamps) (at_of s.unit t) targets (go s k t out.place out.ready)
      reached_next cpus budget used m stamps row =
          achieves_next cpus budget used m stamps row ∙ ap (λ b. turns.achieved s.unit.files b k stamps (before_row s cpus budget used k m stamps) (at_of s.unit t) targets (go s k t out.place out.ready)) none

      module _ (stamps : List Stamp) (all : slice_get (reach s.rules targets) (length stamps) ≡ None) where
        plans_next : (cpus budget used : ℕ) (m : sim.Parts) → row_step s.unit m ≡ left s.unit (point.Goal targets) t.globals (stack t.frames)
            → next s cpus budget used (before_row s cpus budget used k m stamps)
            ≡ turns.planned_if s.unit.files (unmade s.rules targets stamps s.tasks) k stamps (before_row s cpus budget used k m stamps) (at_of s.unit t) targets (go s k t out.place out.ready)
        plans_next cpus budget used m row =
            reached_next cpus budget used m stamps row ∙ ap (λ o. turns.reached s.unit.files o k stamps (before_row s cpus budget used k m stamps) (at_of s.unit t) targets (go s k t out.place out.ready)) all

        pub unmakes : (file : List ℕ) → unmade s.rules targets stamps s.tasks ≡ Some file → (s' : Parts) (r : Result Stage Halt) → Breaks s t (run.NoRule file) s' r → FromStamps s k t (point.Goal targets) stamps s' r
        unmakes file e s' r h = λ log cpus budget used m row.
            goes_to s cpus budget used (before_row s cpus budget used k m stamps) (stages.fails s.unit.files (before_row s cpus budget used k m stamps) (at_of s.unit t) (run.NoRule file)) log s' r
            (plans_next cpus budget used m row ∙ ap (λ o. turns.planned_if s.unit.files o k stamps (before_row s cpus budget used k m stamps) (at_of s.unit t) targets (go s k t out.place out.ready)) e)
            (stops_so s k t out.place out.ready cpus budget used m stamps (at_of s.unit t) (run.NoRule file) s' r h.0 h.1)

        planned_next : unmade s.rules targets stamps s.tasks ≡ None → (ns : List ℕ) → ns ≡ plan s.rules targets stamps s.tasks → (cpus budget used : ℕ) (m : sim.Parts) → row_step s.unit m ≡ left s.unit (point.Goal targets) t.globals (stack t.frames)
            → next s cpus budget used (before_row s cpus budget used k m stamps)
            ≡ where_room s.unit.files (nat_le (length s.tasks + length ns) MAX_TASKS) (before_row s cpus budget used k m stamps) (at_of s.unit t) run.TooManyTasks
            (comes k (meaning.with_tasks (with_planned k s.rules s.tasks ns) (before_row s cpus budget used k m stamps)) (go s k t out.place out.ready (of_texts (ids_from (length s.tasks + 1) ns) ∷ [])))
        planned_next made ns is cpus budget used m row =
            plans_next cpus budget used m row
            ∙ ap (λ o. turns.planned_if s.unit.files o k stamps (before_row s cpus budget used k m stamps) (at_of s.unit t) targets (go s k t out.place out.ready)) made
            ∙ ap (λ xs. turns.planned s.unit.files k (before_row s cpus budget used k m stamps) (at_of s.unit t) xs (go s k t out.place out.ready)) (sym is)

        by_room : (ns : List ℕ) → unmade s.rules targets stamps s.tasks ≡ None → ns ≡ plan s.rules targets stamps s.tasks → (s' : Parts) (r : Result Stage Halt) → (b : Bool) → nat_le (length s.tasks + length ns) MAX_TASKS ≡ b → MakesPlan s k t ns s' r b
            → FromStamps s k t (point.Goal targets) stamps s' r
        by_room ns made is s' r true e h = λ log cpus budget used m row.
            tasks_there (point.Goal targets) out cpus budget used m stamps (nat_le (length s.tasks + length ns) MAX_TASKS) run.TooManyTasks (with_planned k s.rules s.tasks ns) (of_texts (ids_from (length s.tasks + 1) ns)) log s' r
            (planned_next made ns is cpus budget used m row) e h
        by_room ns made is s' r false e h = λ log cpus budget used m row.
            where_room_not (point.Goal targets) out cpus budget used m stamps (nat_le (length s.tasks + length ns) MAX_TASKS) run.TooManyTasks _ log s' r (planned_next made ns is cpus budget used m row) e h

        pub plans : (ns : List ℕ) → unmade s.rules targets stamps s.tasks ≡ None → ns ≡ plan s.rules targets stamps s.tasks → (s' : Parts) (r : Result Stage Halt) → MakesPlan s k t ns s' r (nat_le (length s.tasks + length ns) MAX_TASKS)
            → FromStamps s k t (point.Goal targets) stamps s' r
        plans ns made is s' r h = by_room ns made is s' r (nat_le (length s.tasks + length ns) MAX_TASKS) refl h
