-- The run of a job is a history of its program, and the laws of histories hold of it.
use Rattle.std.specs.Prelude.{◌≡◌, ◌++◌, ℕ, [], map, Result}
use Rattle.bds_host.specs.declared.faults.Fault.{Fault}
use Rattle.bds_host.specs.Host.{Log}
use Rattle.bds_tree.specs.StmtTree.{ScriptTree}
use Rattle.bds_meaning.specs.Begin.{Job, Reading, Running, Steps, Begins, opens, reads_of}
use Rattle.bds_meaning.specs.Files.{Files}
use Rattle.bds_meaning.specs.History.{History, Lives, pair}
use Rattle.bds_meaning.specs.Refusals.{Accepted, Preset}
use Rattle.bds_meaning.specs.Run.{Program, Conf}
use Rattle.bds_schedule.specs.Steps.{Leads}
use Rattle.bds_meaning_laws.specs.Goals.{GoalsAreKept}
use Rattle.bds_meaning_laws.specs.Histories.{GoodEndsAreLast, IsOpening, IsTold, NoneRunsAtEnd, StartsBehindNeeds, TasksHaveRoom}

-- a history, which leads from one configuration to another, keeps each of the laws
pub record KeepsLaws (program : Program) (first c : Conf) (h : History) : Type 0 where
  pub needs : StartsBehindNeeds c.tasks h
  pub ends : GoodEndsAreLast c.tasks h
  pub room : TasksHaveRoom c
  pub rest : NoneRunsAtEnd c
  pub told : IsTold first h c
  pub goals : GoalsAreKept program c h

-- from an opening on, each history does, through whatever restarts
abbrev pub HistoriesKeepTheLaws : Type 0
HistoriesKeepTheLaws = (program : Program) (first c : Conf) (h : History) → IsOpening first → Lives program first h c → KeepsLaws program first c h

module _ (job : Job) (words : ScriptTree → Result Preset Fault) (size : ScriptTree → Preset → ℕ) where
  -- the log has grown by the reads of the script's files, behind which its run opens, and then by a history of its program, which leads to c
  pub record IsHistory (program : Program) (before after : Log) (c : Conf) : Type 0 where
    pub files : Files
    pub run : Accepted
    pub first : Conf
    pub opening : opens job run ≡ Running program first
    pub begins : Begins job words size (reads_of files) (Running program first)
    pub pairs : Log
    pub grown : after ≡ before ++ (reads_of files ++ pairs)
    pub history : History
    pub events : history ≡ map (λ p. pair p.0 p.1) pairs
    pub lives : Lives program first history c

  pub record IsLawful (program : Program) (before after : Log) (c : Conf) : Type 0 where
    pub is : IsHistory program before after c
    pub keeps : KeepsLaws program is.first c is.history

-- wherever the run of a job is
abbrev pub InEachJob : (Job → (ScriptTree → Result Preset Fault) → (ScriptTree → Preset → ℕ) → Program → Log → Log → Conf → Type 0) → Type 0
InEachJob Law =
    (job : Job) (words : ScriptTree → Result Preset Fault) (size : ScriptTree → Preset → ℕ) (program : Program) (before after : Log) (c : Conf)
    → Leads (Steps job words size) (Reading []) before (Running program c) after → Law job words size program before after c

abbrev pub JobsAreHistories : Type 0
JobsAreHistories = InEachJob IsHistory

abbrev pub JobsKeepTheLaws : Type 0
JobsKeepTheLaws = InEachJob IsLawful
