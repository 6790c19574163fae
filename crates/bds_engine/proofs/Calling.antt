-- A call that runs a thread to a point: the steps up to its last row, and what the thread does there.
use Rattle.std.proofs.Common.{◌≡◌, ◌≢◌, ℕ, zero, suc, ◌+◌, ◌-◌, ◌≤◌, false, List, [], ◌∷◌, Some, slice_get, refl, sym, ap, ◌∙◌, subst, arith}
use Rattle.std.specs.Prelude.{nat_lt}
use Rattle.bds_value.specs.declared.value.Value.{Value}
use Rattle.bds_host.specs.Host.{Log}
use Rattle.bds_code.specs.declared.unit.Unit.{Unit as CodeUnit}
use Rattle.bds_code_frames.specs.Stack.{Stack}
use Rattle.bds_machine.specs.declared.point.Point.{Point}
use Rattle.bds_machine.specs.declared.point.Point.TheVariants as point
use Rattle.bds_machine.specs.Calls.{Step, Leaves, Ends}
use Rattle.bds_machine.specs.Running.{rows}
use Rattle.bds_verify.specs.Verified.{VerifiedUnit}
use Rattle.bds_schedule.specs.Configuration.{Ready, Thread, Configuration, turn_of, with_life_from}
use Rattle.bds_schedule.specs.Requests.{ThreadAct}
use Rattle.bds_schedule.specs.Stages.{End, Spent}
use Rattle.bds_schedule.specs.Steps.{Leads}
use Rattle.bds_schedule.specs.Steps.{Step as Next, Goes as Onward, Asks as AsksNext, Ends as Over}
use Rattle.bds_schedule.specs.Turns.{taken}
use Rattle.bds_sim.specs.Threads.{Live}
use Rattle.bds_sim.specs.Threads.{Parts}
use Rattle.bds_sim.specs.schedule.Related.{Plain, plain}
use Rattle.bds_sim.specs.schedule.Runs.{upto, onward}
use Rattle.bds_sim.proofs.schedule.Taken.{conf}
use Rattle.bds_sim.proofs.schedule.Threads.{at_life}
use Rattle.bds_sim.proofs.schedule.Walking.{Silent, moves, in_turn, walked, taken_at}
use Rattle.bds_sim.proofs.schedule.Moving.{spent_at}
use Rattle.bds_sim.proofs.Valid.{Keeps}
use Rattle.bds_sim.proofs.Lasting.{keeps}
use Rattle.bds_sim.proofs.Uniform.{IsLast, Run, run}
use Rattle.bds_sim.specs.MachineRun.{State}
use Rattle.bds_sim.specs.MachineRun as machine
use Rattle.bds_sim.specs.Row.{left as left_so, ended, outcome_of, row_step}
use Rattle.bds_sim.specs.Turns.{HasLeft, IsWaiting, reached}
use Rattle.bds_engine_parts.specs.Image.{image}
use Rattle.bds_engine_parts.specs.Saving.{Moves}

module _ (u : CodeUnit) where
  abbrev next : State → Next State End
  next d = moves u.files (image u) (row_step u) d

  -- what the thread does with its last row
  pub data IsRow (d : State) (m : Parts) : Step → Type 0 where
    leaves : (p : Point) (g : List Value) (s : Stack) (left : ℕ) → IsWaiting p → left ≡ d.budget - d.used → row_step u m ≡ left_so u p g s → IsRow d m (Leaves p g s left)
    ends : (p : Point) (left : ℕ) → left ≡ d.budget - d.used → row_step u m ≡ ended p → IsRow d m (Ends p left)
    spent : (g : List Value) (s : Stack) → d.budget - d.used ≡ 0 → machine.Moves u u.files (image u) d (Over Spent) → IsRow d m (Leaves point.Spent g s 0)

  pub record IsRun (k : ℕ) (d : State) (x : Step) : Type 0 where
    pub thread : Parts
    pub used : ℕ
    pub room : d.used ≤ d.budget → used ≤ d.budget
    pub leads : (log : Log) → Leads (Moves u) d log (reached u u.files (image u) k d used thread) log
    pub row : IsRow (reached u u.files (image u) k d used thread) thread x

  silent_leads : (n : ℕ) (c d : State) → upto next n c ≡ Onward d → (from : State) (before log : Log) → Leads (Moves u) from before c log → Leads (Moves u) from before d log
  silent_leads zero c d e from before log l = subst (λ z. Leads (Moves u) from before z log) (let q : c ≡ d = cc e in q) l
  silent_leads (suc n) c d e from before log l = go (λ c' is q. silent_leads n c' d q from before log (Leads.goes c c' log l (is, tt))) (next c) refl e
    where
      go : ((c' : State) → next c ≡ Onward c' → upto next n c' ≡ Onward d → Leads (Moves u) from before d log) → (s : Next State End) → next c ≡ s → onward (upto next n) s ≡ Onward d → Leads (Moves u) from before d log
      go rec (Onward c') is q = rec c' is q
      go rec (AsksNext a f) is q = absurd (cc q)
      go rec (Over v) is q = absurd (cc q)

  module _ (kept : Keeps u) (k parent used : ℕ) (p : Plain) (ts : List (Thread Parts)) (m : Parts) (is : slice_get ts k ≡ Some (record { parent = parent; life = Ready m })) where
    abbrev from_here : State
    from_here = conf (in_turn u.files (image u) (row_step u) k used p) ts

    abbrev to_there : ℕ → Parts → State
    to_there t to = conf (in_turn u.files (image u) (row_step u) k (used + t) p) (with_life_from 0 k (Ready to) ts)

    at_last : (to : Parts) (t : ℕ) (x : Step) → t ≤ p.budget - used → IsLast u to t (p.budget - used) x → IsRow (to_there t to) to x
    at_last to t _ le (IsLast.leaves q g s left w e row) = IsRow.leaves q g s left w (omega (arith, e)) (ap (outcome_of u) row)
    at_last to t _ le (IsLast.ends q left e row) = IsRow.ends q left (omega (arith, e)) (ap (outcome_of u) row)
    at_last to t _ le (IsLast.spent e tick) =
        let us : List (Thread Parts) = with_life_from 0 k (Ready to) ts in
        let none : nat_lt (used + t) p.budget ≡ false = Rattle.std.proofs.lemmas.Bool.le-ltb (used + t) p.budget (omega (arith, e)) in
        IsRow.spent to.globals to.calls (omega (arith, e)) (taken_at u.files (image u) (row_step u) k (used + t) parent to p us (at_life k (Ready to) parent (Ready m) ts is) ∙ spent_at u.files (image u) (row_step u) k (to_there t to) (row_step u to) tick none)

    within : (to : Parts) (t b : ℕ) (x : Step) → IsLast u to t b x → t ≤ b
    within to t b _ (IsLast.leaves q g s left w e row) = omega (arith, e)
    within to t b _ (IsLast.ends q left e row) = omega (arith, e)
    within to t b _ (IsLast.spent e tick) = omega (arith, e)

    runs_on : (live : Live u m) (n : ℕ) (x : Step) → HasLeft x → rows u n m.globals m.calls (p.budget - used) ≡ Some x → IsRun k from_here x
    runs_on live n x h e =
        let r : Run u m (p.budget - used) x = run u kept n m.globals m.calls (p.budget - used) x live h e in
        let le : r.count ≤ p.budget - used = within r.to r.count (p.budget - used) x r.last in
        let s : Silent next from_here (to_there r.count r.to) = walked u.files (image u) (row_step u) k used parent p ts m r.count r.to le is r.walks in
        record {
          thread = r.to;
          used = used + r.count;
          room = λ fits. omega (arith, fits, le);
          leads = λ log. silent_leads (s.count + 0) from_here (to_there r.count r.to) (s.same 0) from_here log log Leads.here;
          row = at_last r.to r.count x le r.last;
        }

  pub runs_to : VerifiedUnit u → (k parent : ℕ) → (d : State) → (m : Parts) → d.mode ≡ turn_of k [] → slice_get d.threads k ≡ Some (record { parent = parent; life = Ready m }) → Live u m
      → (n : ℕ) → (x : Step) → HasLeft x → rows u n m.globals m.calls (d.budget - d.used) ≡ Some x → IsRun k d x
  runs_to verified k parent d m mode is live n x h e =
      let q : conf (in_turn u.files (image u) (row_step u) k d.used (plain d)) d.threads ≡ d = ap (λ z. record { path = d.path; cpus = d.cpus; budget = d.budget; used = d.used; threads = d.threads; tasks = d.tasks; rules = d.rules; mode = z }) (sym mode) in
      subst (λ z. IsRun k z x) q (runs_on (keeps u verified) k parent d.used (plain d) d.threads m is live n x h e)
