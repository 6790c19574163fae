-- Steps at a point: a task starts, or it is chosen what goes on.
use Rattle.std.proofs.Common.{◌≡◌, ℕ, ◌≤◌, ◌<◌, Bool, true, false, List, [], ◌∷◌, length, Some, None, slice_index_or, refl, sym, ap, ◌∙◌, subst, arith}
use Rattle.std.specs.Prelude.{option_map}
use Rattle.bds_value.specs.Options.{◌>>=◌}
use Rattle.bds_host.specs.declared.asks.Ask.{Ask}
use Rattle.bds_host.specs.declared.asks.Ask.TheVariants.{Start, Next}
use Rattle.bds_host.specs.declared.asks.Reply.{Reply}
use Rattle.bds_host.specs.declared.asks.Reply.TheVariants as reply
use Rattle.bds_host.specs.declared.faults.Fault.TheVariants as fault
use Rattle.bds_host.specs.Host.{Log, Answered, FoundNoRoom}
use Rattle.bds_tasks.specs.declared.task.Task.{Task}
use Rattle.bds_tasks.specs.Ends.{ended}
use Rattle.bds_tasks.specs.Starts.{startable, started}
use Rattle.bds_tasks.specs.Tasks.{running, task_at}
use Rattle.bds_schedule.specs.Configuration.{at_point, turn_of, stopping, faulted, done, failed, in_mode, with_tasks as meaning_tasks}
use Rattle.bds_schedule.specs.Moves.{move, at_point_next, at_rest, chosen, chosen_by}
use Rattle.bds_schedule.specs.Stages.{End}
use Rattle.bds_schedule.specs.Stages as stages
use Rattle.bds_schedule.specs.Steps.{Step, Goes, Halts, Leads}
use Rattle.bds_rank.specs.Machine.{LeadsOn}
use Rattle.bds_sim.specs.MachineRun.{State}
use Rattle.bds_sim.specs.Row.{row_step}
use Rattle.bds_state.specs.Parts.{Parts, with_tasks}
use Rattle.bds_state.specs.Ready.{ready}
use Rattle.bds_state.specs.Valid.{IsValid}
use Rattle.bds_engine_parts.specs.Image.{image}
use Rattle.bds_engine_parts.specs.Look.{all_ended}
use Rattle.bds_engine_parts.specs.Saving.{Moves, RunHalts}
use Rattle.bds_engine_parts.specs.Seen.{seen}
use Rattle.bds_engine_parts.proofs.Looking.{looks_same}
use Rattle.bds_engine_stages.specs.declared.stage.Stage.{Stage}
use Rattle.bds_engine_stages.specs.declared.stage.Stage.TheVariants as stage
use Rattle.bds_engine_stages.specs.declared.stage.Cause.TheVariants as cause
use Rattle.bds_engine_stages.specs.Steps.{AreMany, IsAt, Leads_to, rest_of}
use Rattle.bds_engine_stages.proofs.Joining.{no_room}

-- lists of no number, and of one

pub none_of : (xs ys : List ℕ) → length xs ≤ 0 → xs ≡ ys → [] ≡ ys
none_of [] ys l e = e
none_of (x ∷ xs) ys l e = absurd (omega (arith, l))

pub one_of : (xs ys : List ℕ) → 1 ≤ length xs → length xs < 2 → xs ≡ ys → slice_index_or xs 0 0 ∷ [] ≡ ys
one_of [] ys some l e = absurd (omega (arith, some))
one_of (x ∷ []) ys some l e = e
one_of (x ∷ y ∷ xs) ys some l e = absurd (omega (arith, l))

-- the place at a point
pub point_is : (s : Parts) (cpus budget used : ℕ) (d : State) → IsAt s cpus budget used stage.Point d → seen s cpus budget used at_point ≡ d
point_is s cpus budget used _ (IsAt.whole _) = refl
point_is s cpus budget used d (IsAt.over _ _ o e) = absurd o

module _ (s : Parts) (cpus budget used : ℕ) where
  abbrev next : State → Step State End
  next d = move s.unit.files (image s.unit) (row_step s.unit) d

  -- at a point
  abbrev here : State
  here = seen s cpus budget used at_point

  -- a fault is told next, whatever state there is
  pub faults : (d : State) (s' : Parts) (used' : ℕ) (before after : Log) (a : Ask) (go : Reply → State) → s'.unit ≡ s.unit → Moves s.unit d (stages.asking d a go) → Answered before after a reply.Fault → Leads_to s cpus budget d before after s' used' stage.Faulted
  faults d s' used' before after a go same m answered = record {
    unit = same;
    d' = in_mode faulted d;
    is = IsAt.over stage.Faulted (in_mode faulted d) tt refl;
    leads = LeadsOn.asks d before after a (λ r. stages.unless_fault d r (go r)) reply.Fault Leads.here m answered;
  }

  -- Starting

  starts_next : (n : ℕ) (t : Task) → startable cpus s.tasks ≡ Some n → task_at s.tasks n ≡ Some t → next here ≡ stages.asking here (Start n t.attempt t.made.command) (λ r. meaning_tasks (started n s.tasks) here)
  starts_next n t e f =
      ap (λ o. at_point_next here (o >>= λ m. option_map (λ x. (m, x)) (task_at s.tasks m))) e
      ∙ ap (λ o. at_point_next here (option_map (λ x. (n, x)) o)) f

  pub starts : (n : ℕ) (t : Task) → startable cpus s.tasks ≡ Some n → task_at s.tasks n ≡ Some t → (before after : Log) → Answered before after (Start n t.attempt t.made.command) reply.Started
      → Leads_to s cpus budget here before after (with_tasks (started n s.tasks) s) used stage.Point
  starts n t e f before after answered = record {
    unit = refl;
    d' = seen (with_tasks (started n s.tasks) s) cpus budget used at_point;
    is = IsAt.whole stage.Point;
    leads = LeadsOn.asks here before after (Start n t.attempt t.made.command) (λ r. stages.unless_fault here r (meaning_tasks (started n s.tasks) here)) reply.Started Leads.here (starts_next n t e f, tt) answered;
  }

  pub start_faults : (n : ℕ) (t : Task) (s' : Parts) → s'.unit ≡ s.unit → startable cpus s.tasks ≡ Some n → task_at s.tasks n ≡ Some t → (before after : Log) → Answered before after (Start n t.attempt t.made.command) reply.Fault
      → Leads_to s cpus budget here before after s' used stage.Faulted
  start_faults n t s' same e f before after answered = faults here s' used before after (Start n t.attempt t.made.command) (λ r. meaning_tasks (started n s.tasks) here) same (starts_next n t e f, tt) answered

  pub halts : (before : Log) → RunHalts s.unit here before before
  halts before = Halts.halts_at here tt Leads.here

  pub start_halts : (n : ℕ) (t : Task) → startable cpus s.tasks ≡ Some n → task_at s.tasks n ≡ Some t → (before after : Log) → FoundNoRoom before after (Start n t.attempt t.made.command) → RunHalts s.unit here before after
  start_halts n t e f before after h = no_room s cpus budget here tt before after (Start n t.attempt t.made.command) _ (starts_next n t e f, tt) h

  -- Choosing

  module _ (valid : IsValid s) (none : startable cpus s.tasks ≡ None) where
    chooses_next : (ks ns : List ℕ) → ks ≡ ready s.threads s.tasks → ns ≡ running s.tasks → next here ≡ chosen here ks ns
    chooses_next ks ns e f =
        ap (λ o. at_point_next here (o >>= λ m. option_map (λ x. (m, x)) (task_at s.tasks m))) none
        ∙ ap (λ xs. chosen here xs (running s.tasks)) ((looks_same s cpus budget used at_point valid).ready_is ∙ sym e)
        ∙ ap (λ xs. chosen here ks xs) (sym f)

    one_step : (d' : State) (g : Stage) (before : Log) → next here ≡ Goes d' → IsAt s cpus budget used g d' → Leads_to s cpus budget here before before s used g
    one_step d' g before m is = record { unit = refl; d' = d'; is = is; leads = LeadsOn.goes here d' before Leads.here (m, tt) }

    pub rests_done : (before : Log) → [] ≡ ready s.threads s.tasks → [] ≡ running s.tasks → all_ended s.threads ≡ true → Leads_to s cpus budget here before before s used (stage.Done 0)
    rests_done before e f all =
        one_step (in_mode (done 0) here) (stage.Done 0) before
        (chooses_next [] [] e f ∙ ap (λ b. Goes (at_rest b here)) ((looks_same s cpus budget used at_point valid).ended_is ∙ all))
        (IsAt.whole (stage.Done 0))

    pub rests_dead : (before : Log) → [] ≡ ready s.threads s.tasks → [] ≡ running s.tasks → all_ended s.threads ≡ false → Leads_to s cpus budget here before before s used (stage.Stopping (cause.Failed fault.Deadlock))
    rests_dead before e f all =
        one_step (in_mode (stopping (failed fault.Deadlock)) here) (stage.Stopping (cause.Failed fault.Deadlock)) before
        (chooses_next [] [] e f ∙ ap (λ b. Goes (at_rest b here)) ((looks_same s cpus budget used at_point valid).ended_is ∙ all))
        (IsAt.whole (stage.Stopping (cause.Failed fault.Deadlock)))

    pub goes_alone : (before : Log) (k : ℕ) → k ∷ [] ≡ ready s.threads s.tasks → [] ≡ running s.tasks → Leads_to s cpus budget here before before s used (stage.Turn k)
    goes_alone before k e f = one_step (in_mode (turn_of k []) here) (stage.Turn k) before (chooses_next (k ∷ []) [] e f) (IsAt.whole (stage.Turn k))

    -- more than one thread is ready, or a task runs
    abbrev pub IsChoice : List ℕ → List ℕ → Type 0
    IsChoice ks ns = chosen here ks ns ≡ stages.asking here (Next ks ns) (chosen_by here)

    pub many : (k k' : ℕ) (ks : List ℕ) → IsChoice (k ∷ k' ∷ ks) []
    many k k' ks = refl

    pub busy : (ks : List ℕ) (n : ℕ) (ns : List ℕ) → IsChoice ks (n ∷ ns)
    busy [] n ns = refl
    busy (k ∷ []) n ns = refl
    busy (k ∷ k' ∷ ks) n ns = refl

    pub choice_of : (ks ns : List ℕ) → AreMany ks ns → IsChoice ks ns
    choice_of [] [] h = absurd h
    choice_of (k ∷ []) [] h = absurd h
    choice_of (k ∷ k' ∷ ks) [] h = many k k' ks
    choice_of ks (n ∷ ns) h = busy ks n ns

    pub rests : (before : Log) → [] ≡ ready s.threads s.tasks → [] ≡ running s.tasks → (g : Stage) → g ≡ rest_of (all_ended s.threads) → Leads_to s cpus budget here before before s used g
    rests before e f g is = subst (λ x. Leads_to s cpus budget here before before s used x) (sym is) (by (all_ended s.threads) refl)
      where
        by : (b : Bool) → all_ended s.threads ≡ b → Leads_to s cpus budget here before before s used (rest_of b)
        by true all = rests_done before e f all
        by false all = rests_dead before e f all

    module _ (ks ns : List ℕ) (e : ks ≡ ready s.threads s.tasks) (f : ns ≡ running s.tasks) (choice : IsChoice ks ns) where
      asks_next : next here ≡ stages.asking here (Next ks ns) (chosen_by here)
      asks_next = chooses_next ks ns e f ∙ choice

      pub turns : (before after : Log) (k : ℕ) → Answered before after (Next ks ns) (reply.Run k) → Leads_to s cpus budget here before after s used (stage.Turn k)
      turns before after k answered = record {
        unit = refl;
        d' = seen s cpus budget used (turn_of k []);
        is = IsAt.whole (stage.Turn k);
        leads = LeadsOn.asks here before after (Next ks ns) (λ r. stages.unless_fault here r (chosen_by here r)) (reply.Run k) Leads.here (asks_next, tt) answered;
      }

      pub task_ends : (before after : Log) (n code : ℕ) → Answered before after (Next ks ns) (reply.Ended n code) → Leads_to s cpus budget here before after (with_tasks (ended n code s.tasks) s) used stage.Point
      task_ends before after n code answered = record {
        unit = refl;
        d' = seen (with_tasks (ended n code s.tasks) s) cpus budget used at_point;
        is = IsAt.whole stage.Point;
        leads = LeadsOn.asks here before after (Next ks ns) (λ r. stages.unless_fault here r (chosen_by here r)) (reply.Ended n code) Leads.here (asks_next, tt) answered;
      }

      pub next_faults : (s' : Parts) → s'.unit ≡ s.unit → (before after : Log) → Answered before after (Next ks ns) reply.Fault → Leads_to s cpus budget here before after s' used stage.Faulted
      next_faults s' same before after answered = faults here s' used before after (Next ks ns) (chosen_by here) same (asks_next, tt) answered

      pub next_halts : (before after : Log) → FoundNoRoom before after (Next ks ns) → RunHalts s.unit here before after
      next_halts before after h = no_room s cpus budget here tt before after (Next ks ns) (λ r. stages.unless_fault here r (chosen_by here r)) (asks_next, tt) h
