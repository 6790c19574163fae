-- What is saved stands for the program's run, and the run of what is loaded goes on from there.
use Rattle.std.specs.Prelude.{◌≡◌, ◌⊎◌, ℕ, List, [], ◌∷◌, ◌++◌, map, Result, Ok, Err}
use Rattle.bds_host.specs.declared.asks.Ask.{Ask}
use Rattle.bds_host.specs.declared.asks.Ask.TheVariants.{Save}
use Rattle.bds_host.specs.declared.asks.Reply.{Reply}
use Rattle.bds_host.specs.declared.asks.Reply.TheVariants as reply
use Rattle.bds_host.specs.Host.{Log}
use Rattle.bds_code.specs.declared.unit.Unit.{Unit as CodeUnit}
use Rattle.bds_ckpt.specs.Loading.{Loadable}
use Rattle.bds_verify.specs.Verified.{VerifiedUnit}
use Rattle.bds_schedule.specs.Configuration.{IsOnWay}
use Rattle.bds_meaning.specs.History.{History, Lives, pair, restart}
use Rattle.bds_meaning.specs.Run.{Program, Conf, Moves}
use Rattle.bds_schedule.specs.Stages.{End, Done, Spent, DeviceFault}
use Rattle.bds_schedule.specs.Steps.{Asks, Ends}
use Rattle.bds_sim_terms.specs.Law.{program_with, StandsFor}
use Rattle.bds_sim_terms.specs.steps.Stands.{Source, Codes}
use Rattle.bds_state.specs.Parts.{Parts}
use Rattle.bds_engine_parts.specs.Image.{image}
use Rattle.bds_engine_parts.specs.Run.{Runs}
use Rattle.bds_engine_parts.specs.Saving.{seen_in}
use Rattle.bds_engine_parts.specs.Seen as seen
use Rattle.bds_engine_parts.specs.declared.stop.RunStop.{RunStop}
use Rattle.bds_engine_parts.specs.declared.stop.RunStop.TheVariants.{Device, Ticks, NoMemory}
use Rattle.bds_engine_parts.specs.Seen.{revived_state}

-- asks with their replies, as events
abbrev pub events : Log → History
events log = map (λ p. pair p.0 p.1) log

module _ (program : Program) (opening : Conf) where
  -- a history has gone on by what was added to the log, and ends so where it lives then
  pub record HasEnded (h : History) (before after : Log) (end : End) : Type 0 where
    pub pairs : Log
    pub grown : after ≡ before ++ pairs
    pub at : Conf
    pub lives : Lives program opening (h ++ events pairs) at
    pub ends : Moves program at (Ends end)

  -- it has gone on as far as there was memory, the next ask included where that was replied
  pub record HasHalted (h : History) (before after : Log) : Type 0 where
    pub pairs : Log
    pub at : Conf
    pub lives : Lives program opening (h ++ events pairs) at
    pub grown : ((after ≡ before ++ pairs) × IsOnWay at.mode)
        ⊎ ((ask : Ask)
        × ((next : Reply → Conf) × (after ≡ before ++ (pairs ++ (ask, reply.NoRoom) ∷ []))
        × Moves program at (Asks ask next)))

  abbrev pub HasRun : History → Log → Log → Result ℕ RunStop → Type 0
  HasRun h before after (Ok status) = HasEnded h before after (Done status)
  HasRun h before after (Err Device) = HasEnded h before after DeviceFault
  HasRun h before after (Err Ticks) = HasEnded h before after Spent
  HasRun h before after (Err NoMemory) = HasHalted h before after

module _ (o : Source) (u : CodeUnit) (opening : Conf) where
  -- a history lives where a save of these bytes is next. They are those of a state of the unit, and it stands for the
  -- configuration behind the save
  pub record IsCheckpoint (h : History) (path bytes : List ℕ) : Type 0 where
    pub at : Conf
    pub next : Reply → Conf
    pub lives : Lives (program_with u.files o) opening h at
    pub asks : Moves (program_with u.files o) at (Asks (Save path bytes) next)
    pub state : Parts
    pub unit : state.unit ≡ u
    pub loads : Loadable bytes state
    pub stands : StandsFor o u u.files (image u) (next reply.Done) (seen_in (next reply.Done) state)

  -- each save among what was added to the log is a checkpoint of the history up to it
  abbrev pub SavesCheckpoints : History → Log → Log → Type 0
  SavesCheckpoints h before after = (earlier rest : Log) (path bytes : List ℕ) (answer : Reply)
      → after ≡ before ++ (earlier ++ (Save path bytes, answer) ∷ rest) → IsCheckpoint (h ++ events earlier) path bytes

  -- a run is that of the program whose history is h
  pub record RunsOn (h : History) (before after : Log) (result : Result ℕ RunStop) : Type 0 where
    pub has_run : HasRun (program_with u.files o) opening h before after result
    pub saves : SavesCheckpoints h before after

  -- the run of what is loaded from a checkpoint: the history goes on behind the save by a restart
  pub record ContinuesFrom (h : History) (path bytes : List ℕ) (cpus budget : ℕ) (before after : Log)
      (result : Result ℕ RunStop) : Type 0 where
    pub runs_on : RunsOn (h ++ pair (Save path bytes) reply.Done ∷ restart cpus budget ∷ []) before after result

  -- the run of a state that stands for the configuration in which a history lives
  abbrev pub RunsGoOn : Type 0
  RunsGoOn = (h : History) (c : Conf) → Lives (program_with u.files o) opening h c → (s : Parts) (cpus budget : ℕ)
      → s.unit ≡ u → StandsFor o u u.files (image u) c (seen.opening s cpus budget)
      → (before after : Log) (result : Result ℕ RunStop) → Runs s cpus budget before after result
      → RunsOn h before after result

  -- the run of what is loaded from a checkpoint
  abbrev pub CheckpointsGoOn : Type 0
  CheckpointsGoOn = (h : History) (path bytes : List ℕ) → IsCheckpoint h path bytes → (s : Parts) → Loadable bytes s
      → (cpus budget : ℕ) (before after : Log) (result : Result ℕ RunStop)
      → Runs (revived_state s) cpus budget before after result
      → ContinuesFrom h path bytes cpus budget before after result

  -- where the unit has the code of the program
  abbrev pub HistoriesGoOn : Type 0
  HistoriesGoOn = Codes o u → (VerifiedUnit u → RunsGoOn) × CheckpointsGoOn
