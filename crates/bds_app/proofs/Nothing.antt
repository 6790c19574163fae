-- A call that did nothing for want of memory.
use Rattle.std.proofs.Common.{◌≡◌, ◌≤◌, ◌<◌, ◌⊎◌, true, false, leb, ℕ, List, length, inl, inr, [], Option, Some, None}
use Rattle.std.proofs.Common.{refl, sym, append-nil}
use Rattle.std.proofs.lemmas.Bool.Decides.{leb_tells}
use Rattle.std.proofs.lemmas.List.Elements.{All-nil}
use Rattle.bds_value.specs.declared.TheConstants.{MAX_TEXT}
use Rattle.bds_host.specs.Host.{Log}
use Rattle.bds_front.specs.Loading.{Loads, Reads, Stops}
use Rattle.bds_front.specs.declared.front_fault.FrontFault.TheVariants as front
use Rattle.bds_meaning.specs.Begin.{Reading}
use Rattle.bds_schedule.specs.Steps.{Leads, Halts}
use Rattle.bds_app_words.specs.declared.command.Command.{Command}
use Rattle.bds_app_words.specs.declared.command.Command.TheVariants.{Run, Resume, Check, Info, Make, Format, Replay}
use Rattle.bds_app_words.specs.declared.command.Command.TheVariants.{Dry, Test}
use Rattle.bds_app_words.specs.declared.command.Over.TheVariants.{Plain, Log as Logged, Farm}
use Rattle.bds_app_fmt.specs.Formatting.{FormatsFile, FormatsScript}
use Rattle.bds_app_farm.specs.Farmed.{FarmsJob, IsFarmed}
use Rattle.bds_app_run.specs.Jobs.{DoesJob, call_of as call_of_job}
use Rattle.bds_app_log.specs.Logged.{LogsJob}
use Rattle.bds_app_log.specs.Replays.{ReplaysLog}
use Rattle.bds_app_run.specs.Commands.{ChecksScript, OpensFile, RunsScript}
use Rattle.bds_app_run.specs.Telling.{Says}
use Rattle.bds_app_run.specs.declared.call.Call.{Call}
use Rattle.bds_app_run.specs.declared.outcome.Outcome.TheVariants.{NoMemory}
use Rattle.bds_app_run.proofs.Quiet.{nothing_added}
use Rattle.bds_app_run.proofs.Saves.{quiet_call}
use Rattle.bds_app_trials.specs.DryRuns.{DriesScript}
use Rattle.bds_app_trials.specs.Testing.{TestsScript}
use Rattle.bds_dry.specs.Dry.{IsDryPair, IsImage, IsPassedPair}
use Rattle.bds_farm.specs.Farm.{FarmRun, empty}
use Rattle.bds_replay.specs.declared.log.Job.{Job}
use Rattle.bds_app.specs.Answers.{DoesCommand, MakesRun, call_of, job_of_resume, job_of_run}

nothing_formatted : (path : List ℕ) (log : Log) → FormatsScript path log log NoMemory
nothing_formatted path log = by (leb_tells (length path) MAX_TEXT)
  where
    by : ((leb (length path) MAX_TEXT ≡ true) × (length path ≤ MAX_TEXT))
        ⊎ ((leb (length path) MAX_TEXT ≡ false) × (MAX_TEXT < length path)) → FormatsScript path log log NoMemory
    by (inl short) = FormatsScript.of_file short.1 (FormatsFile.no_room (inl refl))
    by (inr long) = FormatsScript.long_path long.1 (Says.no_memory (inl refl))

-- a job that did nothing over a farm
nothing_farmed : (j : Job) (submit poll : List ℕ) (log : Log) → DoesJob j [] [] NoMemory
    → FarmsJob j submit poll log log NoMemory
nothing_farmed j submit poll log does = record {
  log = [];
  does = does;
  saves = λ is. quiet_call (call_of_job j) [] [] (nothing_added []);
  farmed = IsFarmed.whole [] empty FarmRun.begins refl (sym (append-nil log));
}

-- a script that was run nowhere
nothing_dried : (c : Call) (log : Log) → DriesScript c log log NoMemory
nothing_dried c log = record {
  own = [];
  runs = RunsScript.no_memory (Halts.halts_at (Reading []) tt Leads.here);
  dry = record {
    pairs = [];
    grown = sym (append-nil log);
    passed = All-nil IsPassedPair;
    image = IsImage.all refl (All-nil IsDryPair);
  };
}

pub nothing_done : (asked : Option Command) (log : Log) → DoesCommand asked log log NoMemory
nothing_done None log = Says.no_memory (inl refl)
nothing_done (Some (Run cpus ticks path ws Plain)) log =
    RunsScript.no_memory (Halts.halts_at (Reading []) tt Leads.here)
nothing_done (Some (Run cpus ticks path ws (Logged to))) log =
    LogsJob.unlogged NoMemory (RunsScript.no_memory (Halts.halts_at (Reading []) tt Leads.here)) refl
nothing_done (Some (Run cpus ticks path ws (Farm submit poll))) log =
    nothing_farmed (job_of_run cpus ticks path ws) submit poll log
    (RunsScript.no_memory (Halts.halts_at (Reading []) tt Leads.here))
nothing_done (Some (Resume cpus ticks path (Farm submit poll))) log =
    nothing_farmed (job_of_resume cpus ticks path) submit poll log (OpensFile.unloaded (inl (inl refl)))
nothing_done (Some (Resume cpus ticks path Plain)) log = OpensFile.unloaded (inl (inl refl))
nothing_done (Some (Resume cpus ticks path (Logged to))) log =
    LogsJob.unlogged NoMemory (OpensFile.unloaded (inl (inl refl))) refl
nothing_done (Some (Check path)) log =
    ChecksScript.no_memory front.NoMemory (Loads.stopped front.NoMemory (Stops.no_memory [] Reads.nothing))
nothing_done (Some (Info path)) log = OpensFile.unloaded (inl (inl refl))
nothing_done (Some (Make n)) log = MakesRun.no_memory refl
nothing_done (Some (Format path)) log = nothing_formatted path log
nothing_done (Some (Replay path)) log = ReplaysLog.no_room (inl refl)
nothing_done (Some (Dry cpus ticks path ws)) log = nothing_dried (call_of cpus ticks path ws) log
nothing_done (Some (Test cpus ticks path)) log =
    TestsScript.unloaded front.NoMemory (Loads.stopped front.NoMemory (Stops.no_memory [] Reads.nothing))
