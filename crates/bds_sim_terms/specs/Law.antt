-- The law of a run: what the machine does, the program does, and the other way round.
use Rattle.std.specs.Prelude.{◌≡◌, ℕ, List, [], ◌∷◌, ◌++◌, map}
use Rattle.bds_host.specs.Host.{Log}
use Rattle.bds_code.specs.declared.unit.Unit.{Unit as CodeUnit}
use Rattle.bds_verify.specs.Verified.{VerifiedUnit}
use Rattle.bds_meaning.specs.Acts.{Code}
use Rattle.bds_schedule.specs.Configuration.{Configuration, Ready, at_point}
use Rattle.bds_meaning.specs.History.{History, Lives, pair}
use Rattle.bds_meaning.specs.Run.{Program, Conf}
use Rattle.bds_meaning.specs.Run as source
use Rattle.bds_schedule.specs.Stages.{End}
use Rattle.bds_schedule.specs.Steps.{Leads}
use Rattle.bds_meaning.specs.Threads.{thread_step}
use Rattle.bds_sim.specs.Threads.{Live}
use Rattle.bds_sim_terms.specs.steps.Stands.{Source, Codes}
use Rattle.bds_sim.specs.Threads.{Parts}
use Rattle.bds_sim.specs.schedule.Law.{Law as RunsAlike}
use Rattle.bds_sim.specs.schedule.Related.{Related}
use Rattle.bds_sim.specs.MachineRun.{State}
use Rattle.bds_sim.specs.MachineRun as machine
use Rattle.bds_sim.specs.Row.{row_step}
use Rattle.bds_sim_terms.specs.Stand.{Stand, Finished}

abbrev pub program_with : List (List ℕ) → Source → Program
program_with files o = record { files = files; functions = o.program }

-- a configuration of one thread, at a point
abbrev pub alone : {S : Type 0} → List ℕ → ℕ → ℕ → S → Configuration S
alone path cpus budget s = record { path = path; cpus = cpus; budget = budget; used = 0; threads = record { parent = 0; life = Ready s } ∷ []; tasks = []; rules = []; mode = at_point }

module _ (o : Source) (u : CodeUnit) (files : List (List ℕ)) (image : State → List ℕ) where
  -- a state of the machine stands for a configuration of the source
  abbrev pub StandsFor : Conf → State → Type 0
  StandsFor c d = Related (Stand o u (Live u)) (Finished o u (Live u)) (thread_step o.program) (row_step u) c d

  pub record Agreement (c : Conf) (d : State) : Type 0 where
    -- the machine's run is a run of the program, whatever comes of it
    pub runs : (before after : Log) (end : End) → machine.ComesTo u files image d before after end → source.ComesTo (program_with files o) c before after end
    pub halts : (before after : Log) → machine.RunHalts u files image d before after → source.RunHalts (program_with files o) c before after
    -- and so a history that goes on
    pub lives : (opening : Conf) (h : History) (pairs : Log) (d' : State) → Lives (program_with files o) opening h c → Leads (machine.Moves u files image) d [] d' pairs
        → (c' : Conf) × Lives (program_with files o) opening (h ++ map (λ p. pair p.0 p.1) pairs) c'
    -- asks one by one, images, the other direction, and restarts
    pub alike : RunsAlike (Stand o u (Live u)) (Finished o u (Live u)) (thread_step o.program) (row_step u) files image c d

  abbrev pub Agrees : Type 0
  Agrees = Codes o u → VerifiedUnit u → (c : Conf) → (d : State) → StandsFor c d → Agreement c d

  -- the opening state stands for the opening configuration, where its thread stands for the program
  abbrev pub OpeningStands : Type 0
  OpeningStands = (path : List ℕ) → (cpus budget : ℕ) → (c : Code) → (m : Parts) → Stand o u (Live u) c m → StandsFor (alone path cpus budget c) (alone path cpus budget m)
