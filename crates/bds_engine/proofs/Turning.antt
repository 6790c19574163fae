-- The turn of a thread: what it begins with, and what becomes of a run to a point.
use Rattle.std.proofs.Common.{◌≡◌, ◌≢◌, ℕ, zero, suc, ◌+◌, ◌-◌, ◌≤◌, ◌<◌, List, [], ◌∷◌, length, map, Option, Some, None, Result, Ok, Err, slice_get, slice_set, refl, sym, ap, ◌∙◌, subst, arith}
use Rattle.std.proofs.lemmas.Option.{slice_get_within}
use Rattle.bds_value.specs.declared.ids.Id.{Id}
use Rattle.bds_value.specs.declared.ids.Status.{Status}
use Rattle.bds_value.specs.declared.ids.Status.TheVariants as status
use Rattle.bds_value.specs.declared.value.Value.{Value}
use Rattle.bds_host.specs.Host.{Log}
use Rattle.bds_code.specs.declared.unit.Unit.{Unit as CodeUnit}
use Rattle.bds_code_frames.specs.declared.frame.Frame.{Frame}
use Rattle.bds_code_frames.specs.declared.thread.Thread.{Thread}
use Rattle.bds_code_frames.specs.Stack.{Stack, stack}
use Rattle.bds_machine.proofs.Threads.{ready_live}
use Rattle.bds_machine.specs.declared.point.Point.{Point}
use Rattle.bds_machine.specs.declared.point.Point.TheVariants as point
use Rattle.bds_machine.specs.Calls.{Step as Row, Leaves, Ends as RowEnds}
use Rattle.bds_machine.specs.Running.{ComesTo, left_at, rows}
use Rattle.bds_tasks.specs.declared.task.Waited.{Waited}
use Rattle.bds_tasks.specs.declared.task.Waited.TheVariants.{Not, Well, Failed}
use Rattle.bds_schedule.specs.Configuration.{Life, Ready, Ended, Mode, at_point, turn_of, stopping, in_mode, with_life_from, becomes}
use Rattle.bds_schedule.specs.Configuration as meaning
use Rattle.bds_schedule.specs.Moves.{move}
use Rattle.bds_schedule.specs.Requests.{ThreadAct}
use Rattle.bds_schedule.specs.Stages.{End, Spent as BudgetSpent}
use Rattle.bds_schedule.specs.Steps.{Step, Goes, Ends, Halts, Leads}
use Rattle.bds_schedule.specs.Turns.{goes_on, over, turn_at, turn_in}
use Rattle.bds_sim.proofs.schedule.Threads.{twice}
use Rattle.bds_sim.specs.Threads.{Live}
use Rattle.bds_sim.specs.Threads as sim
use Rattle.bds_rank.specs.Machine.{LeadsOn}
use Rattle.bds_sim.specs.MachineRun.{State}
use Rattle.bds_sim.specs.MachineRun as machine
use Rattle.bds_sim.specs.Row.{ended as ended_so, left as left_so, row_step}
use Rattle.bds_sim.specs.Turns.{HasLeft, IsWaiting, reached}
use Rattle.bds_state.specs.Keeping.{at_end, going_on, with_thread}
use Rattle.bds_state.specs.Parts.{Parts}
use Rattle.bds_state.specs.Valid.{IsValid}
use Rattle.bds_engine_parts.specs.Image.{image}
use Rattle.bds_engine_parts.specs.Look.{waited}
use Rattle.bds_engine_parts.specs.Saving.{Moves}
use Rattle.bds_engine_parts.specs.Seen.{code_seen, id_seen, life_seen, seen, thread_seen, waiting_seen}
use Rattle.bds_engine_parts.proofs.Looking.{looks_same}
use Rattle.bds_engine_stages.specs.declared.stage.Cause.TheVariants as cause
use Rattle.bds_engine_stages.specs.declared.stage.Stage.{Stage}
use Rattle.bds_engine_stages.specs.declared.stage.Stage.TheVariants as stage
use Rattle.bds_engine_stages.specs.declared.stop.Halt.{Halt}
use Rattle.bds_engine_stages.specs.declared.stop.Halt.TheVariants as halt
use Rattle.bds_engine_stages.specs.Held.{FromPoint, HasPlace, IsTaken, IsWaiting as HasWait, IsWoken, act_at, before_row, stage_woken, woken}
use Rattle.bds_engine_stages.specs.Steps.{CallLeadsTo, IsAt, IsLeftOver, Leads_to, StepsWithin, with_threads}
use Rattle.bds_engine_stages.proofs.Ending.{same_unit}
use Rattle.bds_engine_stages.proofs.Joining.{reaches_on}
use Rattle.bds_engine_stages.proofs.Rows.{map_at, set_seen}
use Rattle.bds_verify.specs.Threads.{IsThread}
use Rattle.bds_engine.specs.Turn.{HasEnded, IsReady, WaitsFor}
use Rattle.bds_engine.proofs.Calling.{IsRow, IsRun, runs_to}

none_at : (i : ℕ) (ts : List Thread) → slice_get ts i ≡ None → slice_get (map thread_seen ts) i ≡ None
none_at i [] is = refl
none_at zero (x ∷ xs) is = absurd (cc is)
none_at (suc i) (x ∷ xs) is = none_at i xs is

set_at : (ts : List Thread) (i : ℕ) (t old : Thread) → slice_get ts i ≡ Some old → slice_get (slice_set ts i t) i ≡ Some t
set_at [] i t old is = absurd (cc is)
set_at (x ∷ xs) zero t old is = refl
set_at (x ∷ xs) (suc i) t old is = set_at xs i t old is

-- a thread that was taken where one is ready

pub takes_ready : (s s' : Parts) (k : ℕ) (t : Thread) → IsReady s k → IsTaken k s s' t → t.status ≡ status.Ready
takes_ready s s' k t h taken = subst (λ (x : Thread). x.status ≡ status.Ready) (let q : h.thread ≡ t = cc (h.there, taken.there) in q) h.ready

pub takes_valid : (s s' : Parts) (k : ℕ) (t : Thread) → IsValid s → IsTaken k s s' t → IsThread s'.unit t
takes_valid s s' k t valid taken = subst (λ (p : Parts). IsThread p.unit t) (sym taken.parts) (valid.threads.each k t taken.there).valid

-- a thread that waits hasn't ended
pub waits_there : (s : Parts) (k : ℕ) (w : Waited) → WaitsFor s k w → HasWait s k
waits_there s k w h = record { thread = h.thread; there = h.there; live = λ e. absurd (cc (h.waiting, e)) }

-- the place of a thread that was taken and has run
pub place_of_taken : (s s' : Parts) (k : ℕ) (t to : Thread) → IsTaken k s s' t → to.parent ≡ t.parent → HasPlace s' k to
place_of_taken s s' k t to h e = record {
  old = at_end t;
  there = ap (λ (z : Parts). slice_get z.threads k) h.parts ∙ set_at s.threads k (at_end t) t h.there;
  parent = e;
}

-- a call that was made with what is left of the budget, and used none of it
pub within : (s : Parts) (cpus budget used : ℕ) (d : State) (before after : Log) (s' : Parts) (left : ℕ) (r : Result Stage Halt) → used ≤ budget → left ≡ budget - used → CallLeadsTo s cpus budget d before after s' used r → StepsWithin s cpus budget d before after s' left r
within s cpus budget used d before after s' left r room e h = record { used = used; room = room; left_is = left_over r left used e; reaches = h }
  where
    left_over : (r : Result Stage Halt) (left now : ℕ) → left ≡ budget - now → IsLeftOver r left budget now
    left_over (Ok g) left now e = e
    left_over (Err e) left now q = tt

-- the place at which a turn stands
pub turn_is : (s : Parts) (cpus budget used k : ℕ) (d : State) → IsAt s cpus budget used (stage.Turn k) d → seen s cpus budget used (turn_of k []) ≡ d
turn_is s cpus budget used k _ (IsAt.whole _) = refl
turn_is s cpus budget used k d (IsAt.over _ _ o e) = absurd o

-- what a last row does, by the point to which it came
module _ (u : CodeUnit) where
  leaves_row : (d : State) (m : sim.Parts) (p : Point) (g : List Value) (st : Stack) (left : ℕ) → IsWaiting p → IsRow u d m (Leaves p g st left) → (left ≡ d.budget - d.used) × (row_step u m ≡ left_so u p g st)
  leaves_row d m p g st left w (IsRow.leaves _ _ _ _ w' e row) = (e, row)
  leaves_row d m _ g st _ w (IsRow.spent _ _ e gone) = absurd w

  ends_row : (d : State) (m : sim.Parts) (p : Point) (left : ℕ) → IsRow u d m (RowEnds p left) → (left ≡ d.budget - d.used) × (row_step u m ≡ ended_so p)
  ends_row d m p left (IsRow.ends _ _ e row) = (e, row)

  spent_row : (d : State) (m : sim.Parts) (g : List Value) (st : Stack) (left : ℕ) → IsRow u d m (Leaves point.Spent g st left) → machine.Moves u u.files (image u) d (Ends BudgetSpent)
  spent_row d m g st left (IsRow.leaves _ _ _ _ w e row) = absurd w
  spent_row d m g st _ (IsRow.spent _ _ e gone) = gone

module _ (s : Parts) (cpus budget used k : ℕ) where
  abbrev here : State
  here = seen s cpus budget used (turn_of k [])

  abbrev next : State → Step State End
  next d = move s.unit.files (image s.unit) (row_step s.unit) d

  turns_as : (t : Thread) → slice_get s.threads k ≡ Some t → next here ≡ turn_in s.unit.files (image s.unit) (row_step s.unit) k [] here (life_seen t.status t)
  turns_as t there = ap (turn_at s.unit.files (image s.unit) (row_step s.unit) k [] here) (map_at k s.threads t there)

  to_point : (log : Log) → next here ≡ Goes (in_mode at_point here) → Leads_to s cpus budget here log log s used stage.Point
  to_point log e = record { unit = refl; d' = seen s cpus budget used at_point; is = IsAt.whole stage.Point; leads = LeadsOn.goes here (in_mode at_point here) log Leads.here (e, tt) }

  -- a thread that has ended, or none
  pub none_turns : (log : Log) → HasEnded s k → Leads_to s cpus budget here log log s used stage.Point
  none_turns log h = by (slice_get s.threads k) refl
    where
      by : (o : Option Thread) → slice_get s.threads k ≡ o → Leads_to s cpus budget here log log s used stage.Point
      by None e = to_point log (ap (turn_at s.unit.files (image s.unit) (row_step s.unit) k [] here) (none_at k s.threads e))
      by (Some t) e = to_point log (turns_as t e ∙ ap (λ (st : Status). turn_in s.unit.files (image s.unit) (row_step s.unit) k [] here (life_seen st t)) (h t e))

  -- Waits

  abbrev behind : List Frame → sim.Parts → State
  behind [] m = becomes k Ended at_point here
  behind (f ∷ fs) m = goes_on k here m

  waits_on : IsValid s → (frames : List Frame) (ids : List Id) (m : sim.Parts) → turn_in s.unit.files (image s.unit) (row_step s.unit) k [] here (waiting_seen frames (map id_seen ids) m) ≡ over here (waited s.threads s.tasks ids) (behind frames m)
  waits_on valid [] ids m = ap (λ w. over here w (becomes k Ended at_point here)) ((looks_same s cpus budget used (turn_of k []) valid).wait_is ids)
  waits_on valid (f ∷ fs) ids m = ap (λ w. over here w (goes_on k here m)) ((looks_same s cpus budget used (turn_of k []) valid).wait_is ids)

  waits_next : IsValid s → (w : Waited) (h : WaitsFor s k w) → next here ≡ over here w (behind h.thread.frames (code_seen h.thread))
  waits_next valid w h =
      turns_as h.thread h.there
      ∙ ap (λ (st : Status). turn_in s.unit.files (image s.unit) (row_step s.unit) k [] here (life_seen st h.thread)) h.waiting
      ∙ waits_on valid h.thread.frames h.ids (code_seen h.thread)
      ∙ ap (λ v. over here v (behind h.thread.frames (code_seen h.thread))) (sym h.come)

  pub waits_still : IsValid s → WaitsFor s k Not → (log : Log) → Leads_to s cpus budget here log log s used stage.Point
  waits_still valid h log = to_point log (waits_next valid Not h)

  pub wait_fails : IsValid s → (n code : ℕ) → WaitsFor s k (Failed n code) → (log : Log) → Leads_to s cpus budget here log log s used (stage.Stopping (cause.TaskFailed n code))
  wait_fails valid n code h log = record {
    unit = refl;
    d' = seen s cpus budget used (stopping (meaning.task_failed n code));
    is = IsAt.whole (stage.Stopping (cause.TaskFailed n code));
    leads = LeadsOn.goes here (in_mode (stopping (meaning.task_failed n code)) here) log Leads.here (waits_next valid (Failed n code) h, tt);
  }

  same_thread : (t t' : Thread) → slice_get s.threads k ≡ Some t → slice_get s.threads k ≡ Some t' → t ≡ t'
  same_thread t t' e e' = cc (e, e')

  wakes_as : (t : Thread) → slice_get s.threads k ≡ Some t → (frames : List Frame) → (log : Log) → next here ≡ Goes (behind frames (code_seen t)) → Leads_to s cpus budget here log log (with_thread k (woken frames t) s) used (stage_woken k frames)
  wakes_as t there [] log e = record {
    unit = refl;
    d' = seen (with_thread k (at_end t) s) cpus budget used at_point;
    is = IsAt.whole stage.Point;
    leads = subst (λ z. LeadsOn (Moves s.unit) here log z log) (ap (λ ts. with_threads ts (seen s cpus budget used at_point)) (sym (set_seen k s.threads (at_end t) t there refl)))
        (LeadsOn.goes here (becomes k Ended at_point here) log Leads.here (e, tt));
  }
  wakes_as t there (f ∷ fs) log e = record {
    unit = refl;
    d' = seen (with_thread k (going_on t) s) cpus budget used (turn_of k []);
    is = IsAt.whole (stage.Turn k);
    leads = subst (λ z. LeadsOn (Moves s.unit) here log z log) (ap (λ ts. with_threads ts (seen s cpus budget used (turn_of k []))) (sym (set_seen k s.threads (going_on t) t there refl)))
        (LeadsOn.goes here (goes_on k here (code_seen t)) log Leads.here (e, tt));
  }

  pub wait_ends : IsValid s → WaitsFor s k Well → (s' : Parts) (g : Stage) → IsWoken k s s' g → (log : Log) → Leads_to s cpus budget here log log s' used g
  wait_ends valid h s' g w log =
      let same : h.thread ≡ w.thread = same_thread h.thread w.thread h.there w.there in
      let e : next here ≡ Goes (behind w.thread.frames (code_seen w.thread)) = waits_next valid Well h ∙ ap (λ (t : Thread). Goes (behind t.frames (code_seen t))) same in
      subst (λ z. Leads_to s cpus budget here log log z used g) (sym w.parts)
      (subst (λ z. Leads_to s cpus budget here log log (with_thread k (woken w.thread.frames w.thread) s) used z) (sym w.stage_is) (wakes_as w.thread w.there w.thread.frames log e))

  -- Runs

  -- no memory before anything is asked
  pub halts_within : used ≤ budget → (s' : Parts) (left : ℕ) (log : Log) → StepsWithin s cpus budget here log log s' left (Err halt.NoMemory)
  halts_within room s' left log = record { used = used; room = room; left_is = tt; reaches = Halts.halts_at here tt Leads.here }

  left_over : (r : Result Stage Halt) (left now : ℕ) → left ≡ budget - now → IsLeftOver r left budget now
  left_over (Ok g) left now e = e
  left_over (Err e) left now q = tt

  live_at : IsValid s → (t : Thread) → slice_get s.threads k ≡ Some t → t.status ≡ status.Ready → Live s.unit (code_seen t)
  live_at valid t there ready = let h = ready_live s.unit t ready (valid.threads.each k t there).valid in record { valid = h.0; some = h.1 }

  module _ (s1 : Parts) (t to : Thread) (taken : IsTaken k s s1 t) (before after : Log) (s2 : Parts) (left : ℕ) (r : Result Stage Halt) (room : used ≤ budget) where
    abbrev G : List Value
    G = to.globals

    abbrev St : Stack
    St = stack to.frames

    before_is : (now : ℕ) (m : sim.Parts) → before_row s1 cpus budget now k m [] ≡ reached s.unit s.unit.files (image s.unit) k here now m
    before_is now m =
        ap (λ (z : Parts). before_row z cpus budget now k m []) taken.parts
        ∙ ap (λ ts. with_threads ts (seen s cpus budget now (turn_of k []))) (ap (with_life_from 0 k (Ready m)) (set_seen k s.threads (at_end t) t taken.there refl) ∙ twice 0 k Ended (Ready m) (map thread_seen s.threads))

    -- rows up to a point at which there is something to do
    leaves_to : (p : Point) (x : Row) (run : IsRun s.unit k here x) → left ≡ budget - run.used → row_step s.unit run.thread ≡ act_at s.unit p G St
        → ((cpus budget used : ℕ) (m : sim.Parts) → row_step s1.unit m ≡ act_at s1.unit p G St → CallLeadsTo s1 cpus budget (before_row s1 cpus budget used k m []) before after s2 used r)
        → StepsWithin s cpus budget here before after s2 left r
    leaves_to p x run e row from =
        let unit : s1.unit ≡ s.unit = ap (λ (z : Parts). z.unit) taken.parts in
        let d : State = reached s.unit s.unit.files (image s.unit) k here run.used run.thread in
        let there : CallLeadsTo s1 cpus budget d before after s2 run.used r =
        subst (λ z. CallLeadsTo s1 cpus budget z before after s2 run.used r) (before_is run.used run.thread)
        (from cpus budget run.used run.thread (subst (λ (u : CodeUnit). row_step u run.thread ≡ act_at u p G St) (sym unit) row)) in
        record {
          used = run.used;
          room = run.room room;
          left_is = left_over r left run.used e;
          reaches = reaches_on s cpus budget here d before before after s2 run.used r (run.leads before) (same_unit s1 s unit cpus budget d before after s2 run.used r there);
        }

    -- the budget is spent
    spends : (x : Row) (run : IsRun s.unit k here x) → machine.Moves s.unit s.unit.files (image s.unit) (reached s.unit s.unit.files (image s.unit) k here run.used run.thread) (Ends BudgetSpent)
        → (r ≡ Err halt.Spent) × (after ≡ before) → StepsWithin s cpus budget here before after s2 left r
    spends x run gone e =
        let d : State = reached s.unit s.unit.files (image s.unit) k here run.used run.thread in
        subst (λ z. StepsWithin s cpus budget here before after s2 left z) (sym e.0)
        (subst (λ z. StepsWithin s cpus budget here before z s2 left (Err halt.Spent)) (sym e.1)
        (record { used = run.used; room = run.room room; left_is = tt; reaches = (d, run.leads before, gone) }))

    abbrev IsRunTo : Point → Type 0
    IsRunTo p = IsRun s.unit k here (left_at p G St left)

    waits_at : (p : Point) → IsWaiting p → (run : IsRun s.unit k here (Leaves p G St left)) → left_so s.unit p G St ≡ act_at s.unit p G St
        → ((cpus budget used : ℕ) (m : sim.Parts) → row_step s1.unit m ≡ act_at s1.unit p G St → CallLeadsTo s1 cpus budget (before_row s1 cpus budget used k m []) before after s2 used r)
        → StepsWithin s cpus budget here before after s2 left r
    waits_at p w run same from =
        let h = leaves_row s.unit (reached s.unit s.unit.files (image s.unit) k here run.used run.thread) run.thread p G St left w run.row in
        leaves_to p (Leaves p G St left) run h.0 (h.1 ∙ same) from

    ends_at : (p : Point) → (run : IsRun s.unit k here (RowEnds p left)) → ended_so p ≡ act_at s.unit p G St
        → ((cpus budget used : ℕ) (m : sim.Parts) → row_step s1.unit m ≡ act_at s1.unit p G St → CallLeadsTo s1 cpus budget (before_row s1 cpus budget used k m []) before after s2 used r)
        → StepsWithin s cpus budget here before after s2 left r
    ends_at p run same from =
        let h = ends_row s.unit (reached s.unit s.unit.files (image s.unit) k here run.used run.thread) run.thread p left run.row in
        leaves_to p (RowEnds p left) run h.0 (h.1 ∙ same) from

    joined : (p : Point) → IsRunTo p → FromPoint s1 k to p before after s2 r → StepsWithin s cpus budget here before after s2 left r
    joined (point.Asks a) run from = waits_at (point.Asks a) tt run refl from
    joined (point.Old outs ins) run from = waits_at (point.Old outs ins) tt run refl from
    joined (point.Task task) run from = waits_at (point.Task task) tt run refl from
    joined (point.Declare rule) run from = waits_at (point.Declare rule) tt run refl from
    joined (point.Goal targets) run from = waits_at (point.Goal targets) tt run refl from
    joined (point.Spawn f args) run from = waits_at (point.Spawn f args) tt run refl from
    joined (point.Wait ids) run from = waits_at (point.Wait ids) tt run refl from
    joined point.WaitAll run from = waits_at point.WaitAll tt run refl from
    joined (point.Save path) run from = waits_at (point.Save path) tt run refl from
    joined (point.Exit code) run from = ends_at (point.Exit code) run refl from
    joined (point.Stop f at) run from = ends_at (point.Stop f at) run refl from
    joined point.Finished run from = waits_at point.Finished tt run refl from
    joined point.Spent run from = spends (Leaves point.Spent G St left) run (spent_row s.unit (reached s.unit s.unit.files (image s.unit) k here run.used run.thread) run.thread G St left run.row) from

    has_left : (p : Point) → HasLeft (left_at p G St left)
    has_left (point.Asks a) = tt
    has_left (point.Old outs ins) = tt
    has_left (point.Task task) = tt
    has_left (point.Declare rule) = tt
    has_left (point.Goal targets) = tt
    has_left (point.Spawn f args) = tt
    has_left (point.Wait ids) = tt
    has_left point.WaitAll = tt
    has_left (point.Save path) = tt
    has_left (point.Exit code) = tt
    has_left (point.Stop f at) = tt
    has_left point.Finished = tt
    has_left point.Spent = tt

    -- a ready thread that was taken ran to a point, and what is to be done there was done
    pub runs_within : IsValid s → t.status ≡ status.Ready → (was : ℕ) → was ≡ budget - used → (p : Point) → ComesTo s.unit t was p to left → FromPoint s1 k to p before after s2 r → StepsWithin s cpus budget here before after s2 left r
    runs_within valid ready was e p come from =
        joined p
        (runs_to s.unit valid.unit k t.parent here (code_seen t) refl
        (map_at k s.threads t taken.there ∙ ap (λ (st : Status). Some (record { parent = t.parent; life = life_seen st t })) ready)
        (live_at valid t taken.there ready) come.count (left_at p G St left) (has_left p)
        (ap (rows s.unit come.count t.globals (stack t.frames)) (sym e) ∙ come.run))
        from
