-- Runs of the machine are runs of the program.
use Rattle.std.proofs.Common.{◌≡◌, ℕ, List, [], ◌∷◌, ◌++◌, map, refl, sym, ap, ◌∙◌, subst, append_assoc, append-nil}
use Rattle.bds_host.specs.declared.asks.Ask.{Ask}
use Rattle.bds_host.specs.declared.asks.Reply.{Reply}
use Rattle.bds_host.specs.Host.{Log}
use Rattle.bds_code.specs.declared.unit.Unit.{Unit as CodeUnit}
use Rattle.bds_meaning.specs.History.{History, Lives, pair}
use Rattle.bds_meaning.specs.Run.{Program, Conf, Moves}
use Rattle.bds_meaning.specs.Run as source
use Rattle.bds_schedule.specs.Steps.{Leads, Halts}
use Rattle.bds_meaning.specs.Threads.{thread_step}
use Rattle.bds_sim.specs.Threads.{Live}
use Rattle.bds_sim_terms.specs.steps.Stands.{Source, Codes}
use Rattle.bds_sim_terms.proofs.steps.Leads.{Moves as KeepsMoving}
use Rattle.bds_sim.specs.schedule.Agree.{Agree}
use Rattle.bds_sim.specs.schedule.Law.{Law as RunsAlike}
use Rattle.bds_sim.proofs.schedule.Keeping.{laws}
use Rattle.bds_sim_terms.specs.Law.{program_with, StandsFor, Agreement, OpeningStands}
use Rattle.bds_sim.specs.schedule.Related.{Near, SameLife}
use Rattle.bds_sim.specs.MachineRun.{State}
use Rattle.bds_sim.specs.MachineRun as machine
use Rattle.bds_sim.specs.Row.{row_step}
use Rattle.bds_sim_terms.specs.Stand.{Stand, Finished}
use Rattle.bds_sim.proofs.Valid.{Keeps, StaysLive}
use Rattle.bds_sim.proofs.Lasting.{keeps, stays_live}
use Rattle.bds_verify.specs.Verified.{VerifiedUnit}
use Rattle.bds_sim_terms.proofs.Agreeing.{agree}

module _ (program : Program) (opening : Conf) where
  abbrev events : Log → History
  events log = map (λ p. pair p.0 p.1) log

  more_events : (log : Log) (a : Ask) (r : Reply) → events (log ++ (a, r) ∷ []) ≡ events log ++ pair a r ∷ []
  more_events [] a r = refl
  more_events (p ∷ log) a r = ap (λ es. pair p.0 p.1 ∷ es) (more_events log a r)

  -- a history goes on by a run
  lives_on : (h : History) (c : Conf) → Lives program opening h c → (c' : Conf) (pairs : Log) → Leads (Moves program) c [] c' pairs → Lives program opening (h ++ events pairs) c'
  lives_on h c l _ _ Leads.here = subst (λ es. Lives program opening es c) (sym (append-nil h)) l
  lives_on h c l _ _ (Leads.goes s t log leads is) = Lives.goes (h ++ events log) s t (lives_on h c l s log leads) is
  lives_on h c l _ _ (Leads.asks s log after a next r leads is answered) =
      subst (λ es. Lives program opening es (next r)) (append_assoc h (events log) (pair a r ∷ []) ∙ ap (λ es. h ++ es) (sym (more_events log a r) ∙ ap events (sym answered.grown)))
      (Lives.asks (h ++ events log) s a next r (lives_on h c l s log leads) is (record { grown = refl; fitting = answered.fitting; told = answered.told }))

module _ (o : Source) (u : CodeUnit) (files : List (List ℕ)) (image : State → List ℕ) (codes : Codes o u) (verified : VerifiedUnit u) where
  moving : KeepsMoving u (Live u)
  moving = let k : Keeps u = keeps u verified in record { moves = k.moves; stays = k.stays; short = k.short }

  threads_agree : Agree (Stand o u (Live u)) (Finished o u (Live u)) (thread_step o.program) (row_step u)
  threads_agree = agree o u (Live u) moving codes (stays_live u verified)

  pub agreement : (c : Conf) (d : State) → StandsFor o u files image c d → Agreement o u files image c d
  agreement c d r =
      let law : RunsAlike (Stand o u (Live u)) (Finished o u (Live u)) (thread_step o.program) (row_step u) files image c d = laws (Stand o u (Live u)) (Finished o u (Live u)) (thread_step o.program) (row_step u) files image threads_agree c d r in
      record {
        runs = λ before after end w. law.only.ends before after w.0 end w.1 w.2;
        halts = λ before after w. halt law before after w;
        lives = λ opening h pairs d' l leads. let w = law.only.goes [] pairs d' leads in (w.0, lives_on (program_with files o) opening h c l w.0 pairs w.1);
        alike = law;
      }
    where
      halt : RunsAlike (Stand o u (Live u)) (Finished o u (Live u)) (thread_step o.program) (row_step u) files image c d → (before after : Log) → machine.RunHalts u files image d before after → source.RunHalts (program_with files o) c before after
      halt law before after (Halts.halts_at d' way leads) = let w = law.only.goes before after d' leads in Halts.halts_at w.0 (w.2 way) w.1
      halt law before after (Halts.halts_asking d' log a g leads is e) = let w = law.only.asks before log d' a g leads is in Halts.halts_asking w.0 log a w.1.0 w.1.1 (w.1.2.bytes, w.1.2.asks) e

pub opening_stands : (o : Source) (u : CodeUnit) (files : List (List ℕ)) (image : State → List ℕ) → OpeningStands o u files image
opening_stands o u files image path cpus budget c m r = record { same = refl; threads = (refl, SameLife.ready c m (Near.stands r), tt); needing = tt }
