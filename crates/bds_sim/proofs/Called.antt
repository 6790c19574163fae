-- What one call runs are steps of the run.
use Rattle.std.proofs.Common.{◌≡◌, ℕ, zero, suc, ◌+◌, ◌-◌, ◌≤◌, false, List, [], Some, slice_get, refl, sym, ap, ◌∙◌, subst, arith}
use Rattle.std.specs.Prelude.{nat_lt}
use Rattle.bds_host.specs.Host.{Log}
use Rattle.bds_code.specs.declared.unit.Unit.{Unit as CodeUnit}
use Rattle.bds_machine.specs.Calls.{Step}
use Rattle.bds_machine.specs.Running.{rows}
use Rattle.bds_schedule.specs.Configuration.{Ready, Thread, with_life_from}
use Rattle.bds_schedule.specs.Stages.{End}
use Rattle.bds_schedule.specs.Steps.{Leads, Asks}
use Rattle.bds_schedule.specs.Steps.{Step as Next, Goes as Onward, Ends as Over}
use Rattle.bds_schedule.specs.Turns.{taken}
use Rattle.bds_sim.specs.Threads.{Live}
use Rattle.bds_sim.specs.Threads.{Parts}
use Rattle.bds_sim.specs.schedule.Related.{Plain, plain}
use Rattle.bds_sim.specs.schedule.Runs.{upto, onward}
use Rattle.bds_sim.proofs.schedule.Taken.{conf}
use Rattle.bds_sim.proofs.schedule.Threads.{at_life}
use Rattle.bds_sim.proofs.schedule.Walking.{Silent, moves, in_turn, walked, taken_at}
use Rattle.bds_sim.proofs.schedule.Moving.{spent_at}
use Rattle.bds_sim.proofs.Valid.{Keeps}
use Rattle.bds_sim.proofs.Lasting.{keeps}
use Rattle.bds_sim.specs.MachineRun.{State, Moves}
use Rattle.bds_sim.specs.Row.{outcome_of, row_step}
use Rattle.bds_sim.specs.Turns.{HasLeft, IsNext, IsCalled, CallsAreRuns}
use Rattle.bds_sim.proofs.Uniform.{IsLast, Run, run}

module _ (u : CodeUnit) (files : List (List ℕ)) (image : State → List ℕ) where
  abbrev next : State → Next State End
  next d = moves files image (row_step u) d

  silent_leads : (n : ℕ) (c d : State) → upto next n c ≡ Onward d → (from : State) (before log : Log) → Leads (Moves u files image) from before c log → Leads (Moves u files image) from before d log
  silent_leads zero c d e from before log l = subst (λ z. Leads (Moves u files image) from before z log) (let q : c ≡ d = cc e in q) l
  silent_leads (suc n) c d e from before log l = go (λ c' is q. silent_leads n c' d q from before log (Leads.goes c c' log l is)) (next c) refl e
    where
      go : ((c' : State) → next c ≡ Onward c' → upto next n c' ≡ Onward d → Leads (Moves u files image) from before d log) → (s : Next State End) → next c ≡ s → onward (upto next n) s ≡ Onward d → Leads (Moves u files image) from before d log
      go rec (Onward c') is q = rec c' is q
      go rec (Asks a f) is q = absurd (cc q)
      go rec (Over v) is q = absurd (cc q)

  module _ (kept : Keeps u) (k parent used : ℕ) (p : Plain) (ts : List (Thread Parts)) (m : Parts) (is : slice_get ts k ≡ Some (record { parent = parent; life = Ready m })) where
    abbrev from_here : State
    from_here = conf (in_turn files image (row_step u) k used p) ts

    at_last : (to : Parts) (t : ℕ) (x : Step) → t ≤ p.budget - used → IsLast u to t (p.budget - used) x → IsNext u files image k (conf (in_turn files image (row_step u) k (used + t) p) (with_life_from 0 k (Ready to) ts)) x
    at_last to t _ le (IsLast.leaves q g s left w e row) =
        let us : List (Thread Parts) = with_life_from 0 k (Ready to) ts in
        IsNext.leaves q g s left w (omega (arith, e)) (taken_at files image (row_step u) k (used + t) parent to p us (at_life k (Ready to) parent (Ready m) ts is) ∙ ap (λ o. taken files image (row_step u) k [] (conf (in_turn files image (row_step u) k (used + t) p) us) (outcome_of u o)) row)
    at_last to t _ le (IsLast.ends q left e row) =
        let us : List (Thread Parts) = with_life_from 0 k (Ready to) ts in
        IsNext.ends q left (taken_at files image (row_step u) k (used + t) parent to p us (at_life k (Ready to) parent (Ready m) ts is) ∙ ap (λ o. taken files image (row_step u) k [] (conf (in_turn files image (row_step u) k (used + t) p) us) (outcome_of u o)) row)
    at_last to t _ le (IsLast.spent e tick) =
        let us : List (Thread Parts) = with_life_from 0 k (Ready to) ts in
        let none : nat_lt (used + t) p.budget ≡ false = Rattle.std.proofs.lemmas.Bool.le-ltb (used + t) p.budget (omega (arith, e)) in
        IsNext.spent to.globals to.calls (taken_at files image (row_step u) k (used + t) parent to p us (at_life k (Ready to) parent (Ready m) ts is) ∙ spent_at files image (row_step u) k (conf (in_turn files image (row_step u) k (used + t) p) us) (row_step u to) tick none)

    within : (to : Parts) (t b : ℕ) (x : Step) → IsLast u to t b x → t ≤ b
    within to t b _ (IsLast.leaves q g s left w e row) = omega (arith, e)
    within to t b _ (IsLast.ends q left e row) = omega (arith, e)
    within to t b _ (IsLast.spent e tick) = omega (arith, e)

    called : (live : Live u m) (n : ℕ) (x : Step) → HasLeft x → rows u n m.globals m.calls (p.budget - used) ≡ Some x → IsCalled u files image k from_here x
    called live n x h e =
        let r : Run u m (p.budget - used) x = run u kept n m.globals m.calls (p.budget - used) x live h e in
        let le : r.count ≤ p.budget - used = within r.to r.count (p.budget - used) x r.last in
        let s : Silent next from_here (conf (in_turn files image (row_step u) k (used + r.count) p) (with_life_from 0 k (Ready r.to) ts)) = walked files image (row_step u) k used parent p ts m r.count r.to le is r.walks in
        record {
          thread = r.to;
          used = used + r.count;
          room = λ fits. omega (arith, fits, le);
          leads = silent_leads (s.count + 0) from_here (conf (in_turn files image (row_step u) k (used + r.count) p) (with_life_from 0 k (Ready r.to) ts)) (s.same 0);
          does = at_last r.to r.count x le r.last;
        }

  pub calls_are_runs : CallsAreRuns u files image
  calls_are_runs verified k parent d m mode is live n x h e =
      let q : conf (in_turn files image (row_step u) k d.used (plain d)) d.threads ≡ d = ap (λ z. record { path = d.path; cpus = d.cpus; budget = d.budget; used = d.used; threads = d.threads; tasks = d.tasks; rules = d.rules; mode = z }) (sym mode) in
      subst (λ z. IsCalled u files image k z x) q (called (keeps u verified) k parent d.used (plain d) d.threads m is live n x h e)
