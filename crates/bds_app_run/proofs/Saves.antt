-- What the run of a script saves are checkpoints of the script's history.
use Rattle.std.proofs.Common.{ℕ, ◌≡◌, ◌∙◌, List, [], ◌∷◌, ◌++◌, Result, Ok, Err, sym, ap, subst, append_assoc}
use Rattle.std.proofs.lemmas.List.{append_cancel_left}
use Rattle.bds_host.specs.declared.asks.Ask.TheVariants.{Read, Save}
use Rattle.bds_host.specs.declared.asks.Reply.TheVariants as reply
use Rattle.bds_host.specs.declared.faults.Fault.{Fault as AFault}
use Rattle.bds_host.specs.Host.{Log}
use Rattle.bds_tree.specs.StmtTree.{ScriptTree}
use Rattle.bds_tree.specs.StmtView.{script_of}
use Rattle.bds_code.specs.declared.unit.Unit.{Unit as CodeUnit}
use Rattle.bds_check.specs.declared.checking.TypedScript.{TypedScript}
use Rattle.bds_check_typing.specs.Typed.{IsTypedWith}
use Rattle.bds_app_run.specs.Begun.{Begun}
use Rattle.bds_front.specs.Loading.{Loads, Reads, Stops}
use Rattle.bds_front.specs.declared.front_fault.FrontFault.{FrontFault}
use Rattle.bds_check_typing.specs.GivenValues.{set_by}
use Rattle.bds_gen_unit.specs.Generated.{unit_for}
use Rattle.bds_meaning.specs.Begin.{Stage, Reading, Steps, IsOnWay, opens, opens_if}
use Rattle.bds_meaning.specs.Files.{Files}
use Rattle.bds_meaning.specs.Refusals.{Accepted}
use Rattle.bds_schedule.specs.Steps.{Goes, Leads, Halts}
use Rattle.bds_sim_code.specs.CheckpointLaw.{ScriptHistoriesGoOn}
use Rattle.bds_state.specs.Changes.{IsOpening}
use Rattle.bds_state.specs.Parts.{Parts}
use Rattle.bds_engine_parts.proofs.WholeRuns.{added}
use Rattle.bds_app_run.specs.Saves.{Quiet, RunSaves, SavesCheckpoints, SavesIfFits, SavesIfRun}
use Rattle.bds_app_run.specs.Job.{JobSteps, accepted_with, if_fits, job_of, run_opens, set_by_words, size_with}
use Rattle.bds_app_run.specs.declared.call.Call.{Call}
use Rattle.bds_app_run.specs.Ways.{Reaches, RunsSo, at_end}
use Rattle.bds_app_run.specs.declared.ending.Ending.{Ending}
use Rattle.bds_app_run.specs.declared.stop.Stop.{Stop}
use Rattle.bds_app_run.specs.declared.stop.Stop.TheVariants as stop
use Rattle.bds_app_run.proofs.Beginning.{accepted_is}
use Rattle.bds_app_run.proofs.Quiet.{before_plain, behind_plain, none_saved, nothing_added, quiet_more}

-- Reads save nothing

module _ (path : List ℕ) (files : Files) (before : Log) where
  quiet_reads : (all : Files) (after : Log) → Reads path files before all after → Quiet before after
  quiet_reads _ _ Reads.nothing = nothing_added before
  quiet_reads _ after (Reads.one_more all log _ next text there is short answered) = quiet_more before log after (Read next) (reply.Bytes text) (quiet_reads all log there) tt answered.grown

  quiet_stops : (after : Log) (f : FrontFault) → Stops path files before after f → Quiet before after
  quiet_stops after _ (Stops.missing all log next there is short answered) = quiet_more before log after (Read next) reply.Missing (quiet_reads all log there) tt answered.grown
  quiet_stops after _ (Stops.device all log next there is short answered) = quiet_more before log after (Read next) reply.Fault (quiet_reads all log there) tt answered.grown
  quiet_stops after _ (Stops.long_path all next there is long) = quiet_reads all after there
  quiet_stops after _ (Stops.long_text all p text there flaw) = quiet_reads _ after there
  quiet_stops after _ (Stops.unlexed all p text f there flaw other) = quiet_reads _ after there
  quiet_stops after _ (Stops.unspelled all p text line there flaw) = quiet_reads _ after there
  quiet_stops after _ (Stops.no_memory all there) = quiet_reads all after there
  quiet_stops after _ (Stops.no_room all log next there is short e) = quiet_more before log after (Read next) reply.NoRoom (quiet_reads all log there) tt e

pub quiet_load : (path : List ℕ) (before after : Log) (r : Result TypedScript FrontFault) → Loads path before after r → Quiet before after
quiet_load path before after _ (Loads.loaded files program t made fine same settings args) = quiet_reads path [] before files after made.read
quiet_load path before after _ (Loads.stopped f stops) = quiet_stops path [] before after f stops
quiet_load path before after _ (Loads.broken files program beyond b p made first there) = quiet_reads path [] before files after made.read
quiet_load path before after _ (Loads.too_deep files program p beyond made fine) = quiet_reads path [] before files after made.read

-- what was added on the way
pub reaches_grows : (c : Call) (from : Stage) (before after : Log) (r : Result Ending Stop) → Reaches c from before after at_end r → (pairs : Log) × (after ≡ before ++ pairs)
reaches_grows c from before after (Ok end) l = added (JobSteps c) from before (at_end end) after l
reaches_grows c from before after (Err stop.Fault) l = added (JobSteps c) from before Rattle.bds_meaning.specs.Begin.Faulting after l
reaches_grows c from before after (Err stop.NoMemory) (Halts.halts_at s way l) = added (JobSteps c) from before s after l
reaches_grows c from before after (Err stop.NoMemory) (Halts.halts_asking s log a next l m e) =
    let w = added (JobSteps c) from before s log l in
    (w.0 ++ (a, reply.NoRoom) ∷ [], e ∙ ap (λ x. x ++ (a, reply.NoRoom) ∷ []) w.1 ∙ append_assoc before w.0 ((a, reply.NoRoom) ∷ []))

-- The run of a script's unit

module _ (c : Call) (t : TypedScript) (before after : Log) where
  pub begun_saves : ScriptHistoriesGoOn → IsTypedWith (script_of t.script) (set_by t.settings) t.args → (u : CodeUnit) → u ≡ unit_for t → (path : List ℕ) → path ≡ c.path → (p : Parts) → IsOpening u path p → (r : Result Ending Stop)
      → RunsSo c.cpus c.ticks p before after r → RunSaves c (accepted_with t) before after
  begun_saves law typed u is path there p begun r h =
      let begun' : IsOpening (unit_for t) c.path p = subst (λ (u : CodeUnit). IsOpening u c.path p) is (subst (λ (x : List ℕ). IsOpening u x p) there begun) in
      let on = (law (set_by t.settings) t.args (script_of t.script) typed c.path c.cpus c.ticks).begun p begun' h.0 before after h.1.0 h.1.1.0 in
      λ earlier rest file bytes reply e. (typed, on.saves earlier rest file bytes reply e)

module _ (c : Call) (before after : Log) where
  pub quiet_run : (r : Accepted) → Quiet before after → RunSaves c r before after
  quiet_run r q earlier rest file bytes reply e = absurd (none_saved before after q earlier rest file bytes reply e)

  pub quiet_if_fits : (r : Accepted) → Quiet before after → SavesIfFits c r before after
  quiet_if_fits r q earlier rest file bytes reply e = absurd (none_saved before after q earlier rest file bytes reply e)

  pub quiet_if_run : (s : ScriptTree) → Quiet before after → SavesIfRun c s before after
  quiet_if_run s q earlier rest file bytes reply e = absurd (none_saved before after q earlier rest file bytes reply e)

  pub saves_if_fits : (r : Accepted) → if_fits c r.script r.preset ≡ Ok r → RunSaves c r before after → SavesIfFits c r before after
  saves_if_fits r fits h earlier rest file bytes reply e = (fits, h earlier rest file bytes reply e)

  pub saves_if_run : (s : ScriptTree) (r : Accepted) → run_opens c s ≡ if_fits c r.script r.preset → SavesIfFits c r before after → SavesIfRun c s before after
  saves_if_run s r opens h earlier rest file bytes reply e = let w = h earlier rest file bytes reply e in (r, (opens ∙ w.0, w.1))

-- The script of a call

module _ (c : Call) (before after : Log) where
  pub quiet_call : Quiet before after → SavesCheckpoints c before after
  quiet_call q earlier rest file bytes reply e = absurd (none_saved before after q earlier rest file bytes reply e)

module _ (c : Call) (before between after : Log) where
  opens_there : (t : TypedScript) (r : Accepted) → Begun (job_of c) (set_by_words c) size_with before between (Ok t) → run_opens c (script_of t.script) ≡ Ok r → Leads (JobSteps c) (Reading []) before (opens (job_of c) r) between
  opens_there t r (Begun.read files program _ leads step is) fits =
      let e = accepted_is c before between after program (script_of t.script) is ∙ fits in
      let P : Result Accepted AFault → Type 0 = λ x. Steps (job_of c) (set_by_words c) size_with (Reading files) (Goes (opens_if (job_of c) x)) in
      Leads.goes (Reading files) (opens (job_of c) r) between leads (subst P e step)

  pub loaded_saves : (t : TypedScript) (r : Result Ending Stop) → Loads c.path before between (Ok t) → Begun (job_of c) (set_by_words c) size_with before between (Ok t)
      → Reaches c (opens_if (job_of c) (run_opens c (script_of t.script))) between after at_end r → SavesIfRun c (script_of t.script) between after → SavesCheckpoints c before after
  loaded_saves t r loads begun reaches saves earlier rest file bytes reply e =
      let q = quiet_load c.path before between (Ok t) loads in
      let w = reaches_grows c (opens_if (job_of c) (run_opens c (script_of t.script))) between after r reaches in
      let all : after ≡ before ++ (q.pairs ++ w.0) = w.1 ∙ ap (λ x. x ++ w.0) q.grown ∙ append_assoc before q.pairs w.0 in
      let split = behind_plain q.pairs w.0 earlier rest file bytes reply q.plain (append_cancel_left before (q.pairs ++ w.0) (earlier ++ (Save file bytes, reply) ∷ rest) (sym all ∙ e)) in
      let h = saves split.0 rest file bytes reply (w.1 ∙ ap (λ x. between ++ x) split.2) in
      record {
        accepted = h.0;
        reads = q.pairs;
        opens = subst (λ x. Leads (JobSteps c) (Reading []) before (opens (job_of c) h.0) x) q.grown (opens_there t h.0 begun h.1.0);
        pairs = split.0;
        split = split.1;
        checkpoint = h.1.1;
      }

  -- nothing is saved behind
  pub saves_on : (r : Result Ending Stop) (from : Stage) → Reaches c from before between at_end r → SavesCheckpoints c before between → Quiet between after → SavesCheckpoints c before after
  saves_on r from reaches saves q earlier rest file bytes reply e =
      let w = reaches_grows c from before between r reaches in
      let all : after ≡ before ++ (w.0 ++ q.pairs) = q.grown ∙ ap (λ x. x ++ q.pairs) w.1 ∙ append_assoc before w.0 q.pairs in
      let split = before_plain w.0 q.pairs earlier rest file bytes reply q.plain (append_cancel_left before (w.0 ++ q.pairs) (earlier ++ (Save file bytes, reply) ∷ rest) (sym all ∙ e)) in
      saves earlier split.0 file bytes reply (w.1 ∙ ap (λ x. before ++ x) split.1)
