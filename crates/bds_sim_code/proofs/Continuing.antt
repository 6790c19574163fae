-- What a run saves are checkpoints of the program's history, and a history goes on from them.
use Rattle.std.proofs.Common.{◌≡◌, ℕ, List, [], ◌∷◌, ◌++◌, Result, Ok, Err, inl, inr, refl, sym, ap, ◌∙◌, subst}
use Rattle.std.proofs.Common.{append_assoc, append-nil}
use Rattle.std.proofs.lemmas.List.{append_cancel_left}
use Rattle.bds_host.specs.declared.asks.Ask.{Ask}
use Rattle.bds_host.specs.declared.asks.Ask.TheVariants.{Save}
use Rattle.bds_host.specs.declared.asks.Reply.{Reply}
use Rattle.bds_host.specs.declared.asks.Reply.TheVariants as reply
use Rattle.bds_host.specs.Host.{Log}
use Rattle.bds_code.specs.declared.unit.Unit.{Unit as CodeUnit}
use Rattle.bds_ckpt.specs.Loading.{Loadable}
use Rattle.bds_meaning.specs.History.{History, Lives, pair, restart}
use Rattle.bds_schedule.specs.Revive.{revived}
use Rattle.bds_meaning.specs.Run.{Program, Conf, Moves}
use Rattle.bds_schedule.specs.Stages.{End, Done, Spent, DeviceFault}
use Rattle.bds_schedule.specs.Steps.{Leads, Halts}
use Rattle.bds_sim_terms.specs.Law.{program_with, Agrees, Agreement, StandsFor}
use Rattle.bds_sim_terms.specs.steps.Stands.{Source, Codes}
use Rattle.bds_sim.specs.schedule.Related.{Plain}
use Rattle.bds_sim.specs.MachineRun.{State}
use Rattle.bds_state.specs.Parts.{Parts}
use Rattle.bds_verify.specs.Verified.{VerifiedUnit}
use Rattle.bds_engine_parts.specs.Image.{image}
use Rattle.bds_engine_parts.specs.Run.{Runs}
use Rattle.bds_engine_parts.specs.Saving.{RunEnds, RunHalts, SavesState, seen_in}
use Rattle.bds_engine_parts.specs.Saving as whole
use Rattle.bds_engine_parts.specs.Seen as seen
use Rattle.bds_sim_code.specs.Checkpoints.{CheckpointsGoOn, HasEnded, HasHalted, HistoriesGoOn, IsCheckpoint, RunsGoOn}
use Rattle.bds_sim_code.specs.Checkpoints.{RunsOn, SavesCheckpoints, events}
use Rattle.bds_engine_parts.specs.Seen.{revived_state}
use Rattle.bds_engine_parts.specs.declared.stop.RunStop.{RunStop}
use Rattle.bds_engine_parts.specs.declared.stop.RunStop.TheVariants as stop
use Rattle.bds_engine_parts.proofs.WholeRuns.{WasAsked, asked, asked_last, ends_plainly, halts_plainly, leads_plainly}

module _ (program : Program) (opening : Conf) where
  more_events : (log : Log) (a : Ask) (r : Reply) → events (log ++ (a, r) ∷ []) ≡ events log ++ pair a r ∷ []
  more_events [] a r = refl
  more_events (p ∷ log) a r = ap (λ es. pair p.0 p.1 ∷ es) (more_events log a r)

  -- a history goes on by steps, with what they added to the log
  pub lives_by : (h : History) (c : Conf) → Lives program opening h c → (before : Log) (c' : Conf) (after : Log)
      → Leads (Moves program) c before c' after
      → (pairs : Log) × (after ≡ before ++ pairs) × Lives program opening (h ++ events pairs) c'
  lives_by h c l before c' after Leads.here =
      ([], sym (append-nil before), subst (λ es. Lives program opening es c) (sym (append-nil h)) l)
  lives_by h c l before c' after (Leads.goes s _ _ leads is) =
      let r = lives_by h c l before s after leads in (r.0, r.1, Lives.goes (h ++ events r.0) s c' r.2 is)
  lives_by h c l before c' after (Leads.asks s log _ a next x leads is answered) =
      let r = lives_by h c l before s log leads in (
        r.0 ++ (a, x) ∷ [],
        answered.grown ∙ ap (λ z. z ++ (a, x) ∷ []) r.1 ∙ append_assoc before r.0 ((a, x) ∷ []),
        subst (λ es. Lives program opening es (next x)) (append_assoc h (events r.0) (pair a x ∷ [])
            ∙ ap (λ es. h ++ es) (sym (more_events r.0 a x)))
            (Lives.asks (h
            ++ events r.0) s a next x r.2 is (record {
              grown = refl;
              fitting = answered.fitting;
              told = answered.told;
            })),
      )

  -- with the pairs given
  pub lives_at : (h : History) (c : Conf) → Lives program opening h c → (before pairs : Log) (c' : Conf)
      → Leads (Moves program) c before c' (before ++ pairs) → Lives program opening (h ++ events pairs) c'
  lives_at h c l before pairs c' leads =
      let r = lives_by h c l before c' (before
      ++ pairs) leads in subst (λ ps. Lives program opening (h
      ++ events ps) c') (sym (append_cancel_left before pairs r.0 r.1)) r.2

module _ (o : Source) (u : CodeUnit) (opening : Conf) where
  abbrev program : Program
  program = program_with u.files o

  abbrev Stands : Conf → State → Type 0
  Stands c d = StandsFor o u u.files (image u) c d

  abbrev Agreed : Conf → State → Type 0
  Agreed c d = Agreement o u u.files (image u) c d

  module _ (h : History) (c : Conf) (lives : Lives program opening h c) (d : State) (law : Agreed c d) (before : Log)
    where
      -- an end, and want of memory
      ended : (after : Log) (e : End) → RunEnds u d before after e → HasEnded program opening h before after e
      ended after e come =
          let w = law.runs before after e (ends_plainly u d before after e come) in
          let r = lives_by program opening h c lives before w.0 after w.1 in
          record { pairs = r.0; grown = r.1; at = w.0; lives = r.2; ends = w.2 }

      halted : (after : Log) → RunHalts u d before after → HasHalted program opening h before after
      halted after halts = by (law.halts before after (halts_plainly u d before after halts))
        where
          by : Rattle.bds_meaning.specs.Run.RunHalts program c before after → HasHalted program opening h before after
          by (Halts.halts_at c' way leads) = let r = lives_by program opening h c lives before c' after leads in record
              { pairs = r.0; at = c'; lives = r.2; grown = inl (r.1, way) }
          by (Halts.halts_asking c' log a next leads is e) =
              let r = lives_by program opening h c lives before c' log leads in
              record {
                pairs = r.0;
                at = c';
                lives = r.2;
                grown = inr (
                  a,
                  (
                    next,
                    e ∙ ap (λ z. z ++ (a, reply.NoRoom) ∷ []) r.1
                        ∙ append_assoc before r.0 ((a, reply.NoRoom) ∷ []),
                    is,
                  ),
                );
              }

      -- a save to which the run has come
      checkpoint_at : (earlier : Log) (path bytes : List ℕ)
          → WasAsked (whole.Moves u) d before earlier (Save path bytes)
          → IsCheckpoint o u opening (h ++ events earlier) path bytes
      checkpoint_at earlier path bytes a =
          let w = law.alike.only.asks before (before
          ++ earlier) a.at (Save path bytes) a.next (leads_plainly u d before a.at (before
          ++ earlier) a.leads) a.asks.0 in
          let f = w.1.0 in
          let kept : SavesState u bytes (a.next reply.Done) = a.asks.1 in
          let s : Parts = kept.state in
          let related : Stands (f reply.Done) (a.next reply.Done) =
          w.1.2.related reply.Done refl (λ e. absurd (cc e)) in
          let as_source : seen_in (a.next reply.Done) s ≡ seen_in (f reply.Done) s =
          ap (λ (p : Plain). seen.seen s p.cpus p.budget p.used p.mode) (sym related.same) in
          record {
            at = w.0;
            next = f;
            lives = lives_at program opening h c lives before earlier w.0 w.1.1;
            asks = (w.1.2.bytes, w.1.2.asks);
            state = s;
            unit = kept.unit;
            loads = kept.loads;
            stands = subst (λ z. Stands (f reply.Done) z) (kept.is ∙ as_source) related;
          }

      saves_at : (after : Log) (d' : State) → Leads (whole.Moves u) d before d' after
          → SavesCheckpoints o u opening h before after
      saves_at after d' l earlier rest path bytes answer is =
          checkpoint_at earlier path bytes (asked (whole.Moves u) d before d' after (earlier
          ++ (Save path bytes, answer) ∷ rest) l is earlier rest (Save path bytes) answer refl)

      saves_halting : (after : Log) → RunHalts u d before after → SavesCheckpoints o u opening h before after
      saves_halting after (Halts.halts_at d' way l) = saves_at after d' l
      saves_halting after (Halts.halts_asking d' log a next l m e) = λ earlier rest path bytes answer is.
          checkpoint_at earlier path bytes (asked_last (whole.Moves u) d before d' log after a next l m e earlier rest
          (Save path bytes) answer is)

  -- the run of a state
  module _ (h : History) (c : Conf) (lives : Lives program opening h c) (s : Parts) (cpus budget : ℕ)
      (before after : Log) where
    runs_of : s.unit ≡ u → (law : Agreed c (seen.opening s cpus budget)) → (r : Result ℕ RunStop)
        → Runs s cpus budget before after r → RunsOn o u opening h before after r
    runs_of same law (Ok status) run =
        let run' : RunEnds u (seen.opening s cpus budget) before after (Done status) =
        subst (λ x. RunEnds x (seen.opening s cpus budget) before after (Done status)) same run in
        record {
          has_run = ended h c lives (seen.opening s cpus budget) law before after (Done status) run';
          saves = saves_at h c lives (seen.opening s cpus budget) law before after run'.0 run'.1;
        }
    runs_of same law (Err stop.Device) run =
        let run' : RunEnds u (seen.opening s cpus budget) before after DeviceFault =
        subst (λ x. RunEnds x (seen.opening s cpus budget) before after DeviceFault) same run in
        record {
          has_run = ended h c lives (seen.opening s cpus budget) law before after DeviceFault run';
          saves = saves_at h c lives (seen.opening s cpus budget) law before after run'.0 run'.1;
        }
    runs_of same law (Err stop.Ticks) run =
        let run' : RunEnds u (seen.opening s cpus budget) before after Spent =
        subst (λ x. RunEnds x (seen.opening s cpus budget) before after Spent) same run in
        record {
          has_run = ended h c lives (seen.opening s cpus budget) law before after Spent run';
          saves = saves_at h c lives (seen.opening s cpus budget) law before after run'.0 run'.1;
        }
    runs_of same law (Err stop.NoMemory) run =
        let run' : RunHalts u (seen.opening s cpus budget) before after =
        subst (λ x. RunHalts x (seen.opening s cpus budget) before after) same run in
        record {
          has_run = halted h c lives (seen.opening s cpus budget) law before after run';
          saves = saves_halting h c lives (seen.opening s cpus budget) law before after run';
        }

  module _ (agrees : Agrees o u u.files (image u)) (codes : Codes o u) where
    runs_go_on : VerifiedUnit u → RunsGoOn o u opening
    runs_go_on verified h c lives s cpus budget same stands before after r run = runs_of h c lives s cpus budget before
        after same (agrees codes verified c (seen.opening s cpus budget) stands) r run

    checkpoints_go_on : ((bytes : List ℕ) (a b : Parts) → Loadable bytes a → Loadable bytes b → a ≡ b)
        → CheckpointsGoOn o u opening
    checkpoints_go_on one h path bytes k s loads cpus budget before after r run =
        let same : k.state ≡ s = one bytes k.state s k.loads loads in
        let verified : VerifiedUnit u = subst VerifiedUnit k.unit k.loads.valid.unit in
        let stands : Stands (revived (k.next reply.Done) cpus budget)
        (seen.opening (revived_state k.state) cpus budget) =
        (agrees codes verified (k.next reply.Done) (seen_in (k.next reply.Done) k.state) k.stands).alike.revives cpus
        budget in
        record {
          runs_on = runs_go_on verified (h
              ++ pair (Save path bytes) reply.Done ∷ restart cpus budget ∷ []) (revived (k.next reply.Done) cpus budget)
              (Lives.restarts h k.at path bytes k.next cpus budget k.lives k.asks) (revived_state s) cpus budget
              (ap (λ (p : Parts). p.unit) (sym same) ∙ k.unit)
              (subst (λ (p : Parts). Stands (revived (k.next reply.Done) cpus budget)
              (seen.opening (revived_state p) cpus budget)) same stands) before after r run;
        }

  pub histories_go_on : Agrees o u u.files (image u)
      → ((bytes : List ℕ) (a b : Parts) → Loadable bytes a → Loadable bytes b → a ≡ b) → HistoriesGoOn o u opening
  histories_go_on agrees one codes = (λ verified. runs_go_on agrees codes verified, checkpoints_go_on agrees codes one)
