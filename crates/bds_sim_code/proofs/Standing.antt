-- The thread with which a run begins, as a configuration has it.
use Rattle.std.proofs.Common.{ℕ, ◌≡◌, ◌≢◌, ◌∙◌, List, [], ◌∷◌, map, subst, sym, ap, refl}
use Rattle.bds_value.specs.Value.{default_of}
use Rattle.bds_code.specs.declared.unit.Unit.{Unit as CodeUnit}
use Rattle.bds_code_frames.specs.declared.thread.Thread.{Thread}
use Rattle.bds_code_frames.specs.Stack.{stack, call_at}
use Rattle.bds_tree.specs.StmtTree.{ScriptTree}
use Rattle.bds_check_size.specs.ScriptSize.{Settings}
use Rattle.bds_verify.specs.Threads.{AreLive, IsThread, HasParts}
use Rattle.bds_gen_stmt.specs.UnitCode.{unit_of}
use Rattle.bds_schedule.specs.Configuration.{Ready, at_point}
use Rattle.bds_schedule.specs.Configuration as meaning
use Rattle.bds_meaning.specs.Opening as source
use Rattle.bds_sim.specs.Threads.{Live}
use Rattle.bds_sim_terms.specs.steps.Stands.{Source}
use Rattle.bds_sim.specs.Threads.{Parts as ThreadParts}
use Rattle.bds_sim_terms.specs.Law.{OpeningStands, StandsFor, alone}
use Rattle.bds_sim.specs.MachineRun.{State}
use Rattle.bds_sim_terms.specs.Stand.{Stand}
use Rattle.bds_sim_code.specs.Law.{MainThreadsStand}
use Rattle.bds_sim_code.specs.ScriptHere.{ScriptHere, source_of}
use Rattle.bds_state.specs.Changes.{IsOpening}
use Rattle.bds_state.specs.Parts.{Parts}
use Rattle.bds_state.specs.Valid.{IsValid}
use Rattle.bds_state_threads.specs.Made.{IsBegun}
use Rattle.bds_engine_parts.specs.Image.{image}
use Rattle.bds_engine_parts.specs.Seen.{code_seen, life_seen, thread_seen, opening}
use Rattle.bds_sim_code.specs.OpeningLaw.{BegunStateStands}

-- a thread that begins is seen as its globals and its one call
seen_begun : (u : CodeUnit) (t : Thread) (begun : IsBegun u 0 0 [] (map default_of u.globals) t)
    → thread_seen t ≡ record { parent = 0; life = Ready (record { globals = map default_of u.globals; calls = call_at 0 (map default_of begun.f.locals) ∷ [] }) }
seen_begun u t begun =
    let ready = ap (λ st. life_seen st t) begun.status in
    let code : code_seen t ≡ record { globals = map default_of u.globals; calls = call_at 0 (map default_of begun.f.locals) ∷ [] } = cc (begun.globals, begun.frames) in
    let life = ready ∙ ap (λ m. Ready m) code in
    cc (begun.parent, life)

live_begun : (u : CodeUnit) (t : Thread) (begun : IsBegun u 0 0 [] (map default_of u.globals) t) → IsThread u t → AreLive u (map default_of u.globals) (call_at 0 (map default_of begun.f.locals) ∷ [])
live_begun u t begun is =
    let ready : AreLive u t.globals (stack t.frames) × (t.frames ≢ []) = subst (λ st. HasParts u st t.globals t.frames) begun.status is in
    subst (λ g. AreLive u g (call_at 0 (map default_of begun.f.locals) ∷ [])) begun.globals (subst (λ s. AreLive u t.globals s) begun.frames ready.0)

module _ (main : MainThreadsStand) (opens : (o : Source) → (u : CodeUnit) → (files : List (List ℕ)) → (im : State → List ℕ) → OpeningStands o u files im) (ss : Settings) (args : List (List ℕ)) (s : ScriptTree) (here : ScriptHere ss args s) where
  pub begun_stands : BegunStateStands ss args s
  begun_stands path cpus budget p begins valid =
      let u : CodeUnit = unit_of ss args s in
      let q : Parts = record { unit = u; threads = begins.main ∷ []; tasks = []; rules = []; path = path } in
      let m : ThreadParts = record { globals = map default_of u.globals; calls = call_at 0 (map default_of begins.begun.f.locals) ∷ [] } in
      let fine : IsValid q = subst (λ x. IsValid x) begins.parts valid in
      let is : IsThread u begins.main = (fine.threads.each 0 begins.main refl).valid in
      let for = main ss args s here begins.begun.f begins.begun.there in
      let stand : Stand (source_of s u) u (Live u) (source.source_code ss args s) m = record {
        globals_are = for.globals_are;
        calls = for.calls;
        live = record { valid = live_begun u begins.main begins.begun is; some = λ e. absurd (cc e) };
      } in
      let stands = opens (source_of s u) u s.files (image u) path cpus budget (source.source_code ss args s) m stand in
      let seen : opening q cpus budget ≡ alone path cpus budget m
      = ap (λ (t : meaning.Thread ThreadParts). record { path = path; cpus = cpus; budget = budget; used = 0; threads = t ∷ []; tasks = []; rules = []; mode = at_point }) (seen_begun u begins.main begins.begun) in
      let P : State → Type 0 = λ d. StandsFor (source_of s u) u s.files (image u) (source.opening path cpus budget ss args s) d in
      subst P (sym (ap (λ x. opening x cpus budget) begins.parts ∙ seen)) stands
