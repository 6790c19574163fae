-- What a thread needs the stamps of files for: what is out of date, and goals.
use Rattle.std.proofs.Common.{◌≡◌, ℕ, zero, suc, ◌<◌, ◌≤◌, Bool, true, false, List, [], ◌∷◌, ◌++◌, length, take, drop, Option, Some, None, Result, Ok, Err, slice_get, refl, sym, ap, ◌∙◌, subst, arith, length-append}
use Rattle.std.specs.Prelude.{unwrap_or, option_map}
use Rattle.std.specs.List.{All, AllByRecursion, list_any}
use Rattle.std.proofs.Math.Seq.{drop-append_seam, take-append_seam}
use Rattle.std.proofs.lemmas.Bool.{false≢true}
use Rattle.std.proofs.lemmas.List.{append-nil}
use Rattle.std.proofs.lemmas.List.Elements.{All-from_recursion}
use Rattle.std.proofs.lemmas.Option.{slice_get_past, slice_get_within}
use Rattle.bds_value.specs.declared.value.Stamp.{Stamp}
use Rattle.bds_value.specs.declared.value.Value.TheVariants as value
use Rattle.bds_host.specs.Host.{Log}
use Rattle.bds_code_frames.specs.declared.thread.Thread.{Thread}
use Rattle.bds_code_frames.specs.Stack.{stack}
use Rattle.bds_machine.specs.declared.point.Point.TheVariants as point
use Rattle.bds_rules.specs.declared.rule.Rule.{Rule}
use Rattle.bds_rules.specs.Makers.{is_among}
use Rattle.bds_rules.specs.OutOfDate.{out_of_date}
use Rattle.bds_tasks.specs.declared.task.Task.{Task}
use Rattle.bds_tasks.specs.Tasks.{pending_makes}
use Rattle.bds_goal.specs.Chains.{Follow}
use Rattle.bds_goal.specs.Goals.{IsPlanned, Makes, Needs, PlansBy}
use Rattle.bds_goal.specs.Reach.{has_cycle, reach}
use Rattle.bds_schedule.specs.Configuration.{Ready, turn_of, becomes}
use Rattle.bds_schedule.specs.Requests.{Compares}
use Rattle.bds_schedule.specs.Requests.{Needs as NeedsOf}
use Rattle.bds_schedule.specs.Steps.{Goes, Leads}
use Rattle.bds_schedule.specs.Turns as turns
use Rattle.bds_sim.specs.Threads as sim
use Rattle.bds_sim.specs.MachineRun.{State}
use Rattle.bds_sim.specs.Row.{left, row_step}
use Rattle.bds_state.specs.Parts.{Parts}
use Rattle.bds_engine_stages.specs.declared.stage.Stage.{Stage}
use Rattle.bds_engine_stages.specs.declared.stage.Stage.TheVariants as stage
use Rattle.bds_engine_stages.specs.declared.stop.Halt.{Halt}
use Rattle.bds_engine_stages.specs.declared.stop.Halt.TheVariants as halt
use Rattle.bds_engine_stages.specs.Held.{FromRow, GoesBack, IsOut, before_row}
use Rattle.bds_engine_stages.proofs.Joining.{reaches_on}
use Rattle.bds_engine_stages.proofs.Rows.{row_next}
use Rattle.bds_engine.specs.Given.{FromStamps, at_of}
use Rattle.bds_engine.specs.Stamping.{StampFails, StampHalts, Stamped}
use Rattle.bds_engine.proofs.GoalsAgree.{is_reach}
use Rattle.bds_engine.proofs.Making.{reached_next}
use Rattle.bds_engine.proofs.Outcomes.{Moves, comes_back, go, goes_to, next}
use Rattle.bds_engine.proofs.StampLaws.{AsksNext, same_count, stamp_fails, stamp_halts, stamps_lead}

module _ (s : Parts) (k : ℕ) (t : Thread) where
  -- Two lists of files

  module _ (outs ins : List (List ℕ)) (out : IsOut s k (point.Old outs ins) t) where
    module _ (cpus budget used : ℕ) (m : sim.Parts) (row : row_step s.unit m ≡ left s.unit (point.Old outs ins) t.globals (stack t.frames)) where
      abbrev d : List Stamp → State
      d stamps = before_row s cpus budget used k m stamps

      old_next : (stamps : List Stamp) → next s cpus budget used (d stamps) ≡ turns.compared k stamps (d stamps) outs ins (go s k t out.place out.ready)
      old_next stamps = row_next s cpus budget used k out.place.old out.place.there m stamps (NeedsOf (at_of s.unit t) (Compares outs ins) (go s k t out.place out.ready)) row

      abbrev behind_all : List Stamp → State
      behind_all stamps = becomes k (Ready (go s k t out.place out.ready (value.Bool (turns.is_old (d stamps) outs ins stamps) ∷ []))) (turn_of k []) (d stamps)

      old_asks : AsksNext s cpus budget used d (outs ++ ins)
      old_asks stamps file e = old_next stamps ∙ ap (λ o. turns.with_stamps k stamps (d stamps) o (behind_all stamps)) e

      old_left : (before between : Log) (known : List Stamp) → Stamped before outs known between → Leads (Moves s cpus budget used) (d []) before (d known) between
      old_left before between known st = stamps_lead s cpus budget used d (outs ++ ins) old_asks (d []) [] [] refl before between before outs ins known refl Leads.here st

      old_both : (before between after : Log) (known more : List Stamp) → Stamped before outs known between → Stamped between ins more after → Leads (Moves s cpus budget used) (d []) before (d (known ++ more)) after
      old_both before between after known more st st' =
          stamps_lead s cpus budget used d (outs ++ ins) old_asks (d []) outs known (same_count before between outs known st) between after before ins [] more (ap (λ xs. outs ++ xs) (sym (append-nil ins))) (old_left before between known st) st'

      old_there : (known more : List Stamp) → length known ≡ length outs → length more ≡ length ins → next s cpus budget used (d (known ++ more)) ≡ Goes (behind_all (known ++ more))
      old_there known more e f =
          old_next (known ++ more)
          ∙ ap (λ o. turns.with_stamps k (known ++ more) (d (known ++ more)) o (behind_all (known ++ more)))
          (slice_get_past (outs ++ ins) (length (known ++ more)) (omega (arith, e, f, length-append known more, length-append outs ins)))

      old_is : (known more : List Stamp) → length known ≡ length outs → turns.is_old (d (known ++ more)) outs ins (known ++ more) ≡ out_of_date known more (list_any (pending_makes s.tasks) (outs ++ ins))
      old_is known more e =
          ap (λ n. out_of_date (take n (known ++ more)) (drop n (known ++ more)) (list_any (pending_makes s.tasks) (outs ++ ins))) (sym e)
          ∙ ap (λ xs. out_of_date xs (drop (length known) (known ++ more)) (list_any (pending_makes s.tasks) (outs ++ ins))) (take-append_seam known more)
          ∙ ap (λ xs. out_of_date known xs (list_any (pending_makes s.tasks) (outs ++ ins))) (drop-append_seam known more)

    pub left_halts : (before after : Log) (s' : Parts) → StampHalts outs before after → FromRow s k t (point.Old outs ins) before after s' (Err halt.NoMemory)
    left_halts before after s' x = λ cpus budget used m row.
        stamp_halts s cpus budget used (d cpus budget used m row) (outs ++ ins) (old_asks cpus budget used m row) (d cpus budget used m row []) [] [] refl before after before outs ins s' (λ stamps. tt) refl Leads.here x

    pub left_fails : (before after : Log) (s' : Parts) → s' ≡ s → StampFails outs before after → FromRow s k t (point.Old outs ins) before after s' (Ok stage.Faulted)
    left_fails before after s' same x = λ cpus budget used m row.
        stamp_fails s cpus budget used (d cpus budget used m row) (outs ++ ins) (old_asks cpus budget used m row) (d cpus budget used m row []) [] [] refl before after before outs ins s' (ap (λ (z : Parts). z.unit) same) refl Leads.here x

    module _ (before between after : Log) (known : List Stamp) (st : Stamped before outs known between) where
      pub right_halts : (s' : Parts) → StampHalts ins between after → FromRow s k t (point.Old outs ins) before after s' (Err halt.NoMemory)
      right_halts s' x = λ cpus budget used m row.
          stamp_halts s cpus budget used (d cpus budget used m row) (outs ++ ins) (old_asks cpus budget used m row) (d cpus budget used m row []) outs known (same_count before between outs known st) between after before ins [] s' (λ stamps. tt)
          (ap (λ xs. outs ++ xs) (sym (append-nil ins))) (old_left cpus budget used m row before between known st) x

      pub right_fails : (s' : Parts) → s' ≡ s → StampFails ins between after → FromRow s k t (point.Old outs ins) before after s' (Ok stage.Faulted)
      right_fails s' same x = λ cpus budget used m row.
          stamp_fails s cpus budget used (d cpus budget used m row) (outs ++ ins) (old_asks cpus budget used m row) (d cpus budget used m row []) outs known (same_count before between outs known st) between after before ins [] s' (ap (λ (z : Parts). z.unit) same)
          (ap (λ xs. outs ++ xs) (sym (append-nil ins))) (old_left cpus budget used m row before between known st) x

      pub compares : (more : List Stamp) → Stamped between ins more after → (b : Bool) → b ≡ out_of_date known more (list_any (pending_makes s.tasks) (outs ++ ins)) → (s' : Parts) (r : Result Stage Halt) → GoesBack k (Some (value.Bool b)) t s s' (stage.Turn k) r
          → FromRow s k t (point.Old outs ins) before after s' r
      compares more st' b is s' r h = λ cpus budget used m row.
          let e : length known ≡ length outs = same_count before between outs known st in
          let f : length more ≡ length ins = same_count between after ins more st' in
          let is' : b ≡ turns.is_old (d cpus budget used m row (known ++ more)) outs ins (known ++ more) = is ∙ sym (old_is cpus budget used m row known more e) in
          reaches_on s cpus budget (d cpus budget used m row []) (d cpus budget used m row (known ++ more)) before after after s' used r (old_both cpus budget used m row before between after known more st st')
          (goes_to s cpus budget used (d cpus budget used m row (known ++ more)) (behind_all cpus budget used m row (known ++ more)) after s' r (old_there cpus budget used m row known more e f)
          (comes_back s k t out.place out.ready cpus budget used m (known ++ more) (Some (value.Bool (turns.is_old (d cpus budget used m row (known ++ more)) outs ins (known ++ more)))) (stage.Turn k) s' r tt
          (subst (λ x. GoesBack k (Some (value.Bool x)) t s s' (stage.Turn k) r) is' h)))

  -- Goals

  module _ (targets : List (List ℕ)) (out : IsOut s k (point.Goal targets) t) (none : has_cycle s.rules targets ≡ false) (files : List (List ℕ)) (are : files ≡ reach s.rules targets) where
    goal_asks : (cpus budget used : ℕ) (m : sim.Parts) → row_step s.unit m ≡ left s.unit (point.Goal targets) t.globals (stack t.frames) → AsksNext s cpus budget used (λ stamps. before_row s cpus budget used k m stamps) files
    goal_asks cpus budget used m row stamps file e =
        reached_next s k t targets out none cpus budget used m stamps row
        ∙ ap (λ o. turns.reached s.unit.files o k stamps (before_row s cpus budget used k m stamps) (at_of s.unit t) targets (go s k t out.place out.ready)) (ap (λ xs. slice_get xs (length stamps)) (sym are) ∙ e)

    pub goal_halts : (before after : Log) (s' : Parts) → StampHalts files before after → FromRow s k t (point.Goal targets) before after s' (Err halt.NoMemory)
    goal_halts before after s' x = λ cpus budget used m row.
        stamp_halts s cpus budget used (λ stamps. before_row s cpus budget used k m stamps) files (goal_asks cpus budget used m row) (before_row s cpus budget used k m []) [] [] refl before after before files [] s' (λ stamps. tt) (sym (append-nil files)) Leads.here x

    pub goal_fails : (before after : Log) (s' : Parts) → s' ≡ s → StampFails files before after → FromRow s k t (point.Goal targets) before after s' (Ok stage.Faulted)
    goal_fails before after s' same x = λ cpus budget used m row.
        stamp_fails s cpus budget used (λ stamps. before_row s cpus budget used k m stamps) files (goal_asks cpus budget used m row) (before_row s cpus budget used k m []) [] [] refl before after before files [] s' (ap (λ (z : Parts). z.unit) same) (sym (append-nil files)) Leads.here x

    pub goal_goes_on : (before after : Log) (stamps : List Stamp) → Stamped before files stamps after → (s' : Parts) (r : Result Stage Halt) → FromStamps s k t (point.Goal targets) stamps s' r → FromRow s k t (point.Goal targets) before after s' r
    goal_goes_on before after stamps st s' r h = λ cpus budget used m row.
        reaches_on s cpus budget (before_row s cpus budget used k m []) (before_row s cpus budget used k m stamps) before after after s' used r
        (stamps_lead s cpus budget used (λ xs. before_row s cpus budget used k m xs) files (goal_asks cpus budget used m row) (before_row s cpus budget used k m []) [] [] refl before after before files [] stamps (sym (append-nil files)) Leads.here st)
        (h after cpus budget used m row)

-- Numbers of a plan

made_low : (rules : List Rule) (n : ℕ) (file : List ℕ) → Makes rules n file → (1 ≤ n) × (n ≤ length rules)
made_low rules zero file h = absurd (false≢true h)
made_low rules (suc i) file h = by (slice_get rules i) refl h
  where
    by : (o : Option Rule) → slice_get rules i ≡ o → is_among (unwrap_or (option_map (λ (r : Rule). r.outs) o) []) file ≡ true → (1 ≤ suc i) × (suc i ≤ length rules)
    by None e h = absurd (false≢true h)
    by (Some r) e h = let low : i < length rules = slice_get_within rules i r e in (omega arith, omega (arith, low))

plan_low : (rules : List Rule) (targets : List (List ℕ)) (stamp : List ℕ → Stamp) (tasks : List Task) (placed ns : List ℕ) → Follow (Needs rules) (IsPlanned rules targets stamp tasks) placed ns → AllByRecursion (λ n. (1 ≤ n) × (n ≤ length rules)) ns
plan_low rules targets stamp tasks placed [] f = tt
plan_low rules targets stamp tasks placed (n ∷ ns) f =
    let reached = f.0.todo.due.reached in
    (made_low rules n reached.file reached.makes, plan_low rules targets stamp tasks (placed ++ n ∷ []) ns f.2)

pub plan_there : (rules : List Rule) (targets : List (List ℕ)) (stamps : List Stamp) (tasks : List Task) (ns : List ℕ) → has_cycle rules targets ≡ false → PlansBy rules targets stamps tasks (Ok ns) → All (λ n. (1 ≤ n) × (n ≤ length rules)) ns
plan_there rules targets stamps tasks ns none p =
    All-from_recursion (λ n. (1 ≤ n) × (n ≤ length rules)) ns
    (plan_low rules targets _ tasks [] ns (p (reach rules targets) (is_reach rules targets none)).0.follow)
