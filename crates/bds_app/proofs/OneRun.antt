-- Calls that follow each other make one run.
use Rattle.std.proofs.Common.{◌≡◌, ◌∙◌, ℕ, List, [], ◌∷◌, ◌++◌, Result, sym, ap, subst, append_assoc, append-nil}
use Rattle.bds_host.specs.declared.asks.Ask.TheVariants.{Save}
use Rattle.bds_host.specs.declared.asks.Reply.TheVariants.{Done}
use Rattle.bds_host.specs.Host.{Log}
use Rattle.bds_meaning.specs.History.{History, pair, restart}
use Rattle.bds_sim_code.specs.Checkpoints.{events}
use Rattle.bds_engine_parts.specs.declared.stop.RunStop.{RunStop}
use Rattle.bds_meaning_laws.specs.Histories.{ScriptsOpenSo}
use Rattle.bds_meaning_laws.specs.Jobs.{HistoriesKeepTheLaws}
use Rattle.bds_sim_code.specs.CheckpointLaw.{IsCheckpoint, RunsOn}
use Rattle.bds_app.specs.Histories.{HasGoneOn}
use Rattle.bds_app.specs.OneRun.{Stop, WasResumed, Calls, StopsMakeOneRun, until, through}
use Rattle.bds_app_run.specs.Commands.{run_outcome}
use Rattle.bds_app_run.specs.Saves.{IsSaved}
use Rattle.bds_app_run.specs.declared.call.Call.{Call}
use Rattle.bds_app_run.specs.declared.outcome.Outcome.{Outcome}

-- Histories

-- a save and the restart from it
abbrev stopped : Stop → History
stopped s = pair (Save s.file s.bytes) Done ∷ restart s.cpus s.budget ∷ []

through_more : (stops : List Stop) (s : Stop) → through (stops ++ s ∷ []) ≡ through stops ++ until s.earlier s
through_more [] s = append-nil (until s.earlier s)
through_more (t ∷ stops) s =
    ap (λ h. until t.earlier t ++ h) (through_more stops s)
    ∙ sym (append_assoc (until t.earlier t) (through stops) (until s.earlier s))

-- one stop more
one_more : (first : History) (stops : List Stop) (s : Stop)
    → ((first ++ through stops) ++ events s.earlier) ++ stopped s ≡ first ++ through (stops ++ s ∷ [])
one_more first stops s =
    append_assoc (first ++ through stops) (events s.earlier) (stopped s)
    ∙ append_assoc first (through stops) (until s.earlier s) ∙ ap (λ h. first ++ h) (sym (through_more stops s))

-- Calls

module _ (c : Call) (start : Log) (first : Stop) (saved : IsSaved c start first.earlier first.file first.bytes) where
  abbrev Goes : List Stop → Log → Log → Result ℕ RunStop → Type 0
  Goes stops log after end =
      RunsOn saved.accepted.preset.settings saved.accepted.preset.args saved.accepted.script c.path c.cpus c.ticks
      (until saved.pairs first ++ through stops) log after end

  -- what goes on from a checkpoint that a call has resumed
  resumed : (s : Stop) (h : History)
      → IsCheckpoint saved.accepted.preset.settings saved.accepted.preset.args saved.accepted.script c.path c.cpus
      c.ticks h s.file s.bytes
      → (log after : Log) (answer : Outcome) → WasResumed s log after answer
      → HasGoneOn saved.accepted.preset.settings saved.accepted.preset.args saved.accepted.script c.path c.cpus
      c.ticks h s.file s.bytes s.cpus s.budget log after answer
  resumed s h k log after answer w =
      w.goes_on s.cpus s.budget w.from w.asks s.bytes log w.rest w.read w.grown saved.accepted.preset.settings
      saved.accepted.preset.args saved.accepted.script saved.checkpoint.0 c.path c.cpus c.ticks h s.file k

  went : (s : Stop) (h g : History) → h ++ stopped s ≡ g → (log after : Log) (answer : Outcome)
      → HasGoneOn saved.accepted.preset.settings saved.accepted.preset.args saved.accepted.script c.path c.cpus
      c.ticks h s.file s.bytes s.cpus s.budget log after answer
      → (end : Result ℕ RunStop)
      × ((answer ≡ run_outcome end) × RunsOn saved.accepted.preset.settings saved.accepted.preset.args
      saved.accepted.script c.path c.cpus c.ticks g log after end)
  went s h g same log after answer w = (
    w.end,
    (
      w.is,
      subst
          (λ x. RunsOn saved.accepted.preset.settings saved.accepted.preset.args saved.accepted.script
          c.path c.cpus c.ticks x log after w.end) same w.continues.runs_on,
    ),
  )

abbrev SoFar : (c : Call) (start : Log) (first : Stop) → List Stop → Log → Log → Outcome → Type 0
SoFar c start first stops log after answer =
    (saved : IsSaved c start first.earlier first.file first.bytes)
    × ((end : Result ℕ RunStop) × ((answer ≡ run_outcome end) × Goes c start first saved stops log after end))

so_far : (c : Call) (start : Log) (first : Stop) (stops : List Stop) (log after : Log) (answer : Outcome)
    → Calls c start first stops log after answer → SoFar c start first stops log after answer
so_far c start first _ log after answer (Calls.once _ _ _ run w) =
    let saved = run.saved c run.asks first.earlier run.has.behind first.file first.bytes run.has.reply run.has.is in (
      saved,
      went c start first saved first (events saved.pairs) (until saved.pairs first ++ [])
          (sym (append-nil (until saved.pairs first))) log after answer
          (resumed c start first saved first (events saved.pairs) saved.checkpoint.1 log after answer w),
    )
so_far c start first _ log' after' answer' (Calls.again stops log after answer calls s has _ _ _ w) =
    let before = so_far c start first stops log after answer calls in
    let saved = before.0 in
    let h : History = (until saved.pairs first ++ through stops) ++ events s.earlier in (
      saved,
      went c start first saved s h (until saved.pairs first ++ through (stops ++ s ∷ []))
          (one_more (until saved.pairs first) stops s) log' after' answer'
          (resumed c start first saved s h (before.1.1.1.saves s.earlier has.behind s.file s.bytes has.reply has.is)
          log' after' answer' w),
    )

pub stops_make_one_run : ScriptsOpenSo → HistoriesKeepTheLaws → StopsMakeOneRun
stops_make_one_run opened keep c start first stops before after answer calls =
    let w = so_far c start first stops before after answer calls in
    let saved = w.0 in
    record {
      accepted = saved.accepted;
      reads = saved.reads;
      opens = saved.opens;
      typed = saved.checkpoint.0;
      pairs = saved.pairs;
      split = saved.split;
      end = w.1.0;
      is = w.1.1.0;
      runs_on = w.1.1.1;
      keeps =
          λ behind at lives. keep _ _ at ((until saved.pairs first ++ through stops) ++ events behind)
          (opened c.path c.cpus c.ticks saved.accepted.preset.settings saved.accepted.preset.args
          saved.accepted.script) lives;
    }
