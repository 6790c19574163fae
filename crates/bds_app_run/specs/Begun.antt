-- Loading is the reading part of a job.
use Rattle.std.specs.Prelude.{◌≡◌, ℕ, [], Option, Some, None, Result, Ok, Err}
use Rattle.bds_host.specs.Host.{Log}
use Rattle.bds_host.specs.declared.faults.Fault.{Fault}
use Rattle.bds_host.specs.declared.faults.Fault.TheVariants as fault
use Rattle.bds_tree.specs.StmtTree.{ScriptTree}
use Rattle.bds_tree.specs.StmtView.{script_of}
use Rattle.bds_parse_expr.specs.declared.fault.ParseFault.TheVariants as parse
use Rattle.bds_check_rules.specs.declared.rules.CheckFault.TheVariants as check
use Rattle.bds_check.specs.declared.checking.TypedScript.{TypedScript}
use Rattle.bds_meaning.specs.Begin.{Job, Reading, Refusing, Faulting, IsOnWay, Steps, opens_if}
use Rattle.bds_meaning.specs.Files.{Files}
use Rattle.bds_meaning.specs.Refusals.{lexer_fault, name_of, checked, Preset, accepted}
use Rattle.bds_schedule.specs.Steps.{Goes, Leads, Halts}
use Rattle.bds_front.specs.Loading.{Loads}
use Rattle.bds_front.specs.declared.front_fault.FrontFault.{FrontFault}
use Rattle.bds_front.specs.declared.front_fault.FrontFault.TheVariants as front

-- how it is told that a script isn't loaded; a fault of the device and want of memory are no refusals
abbrev pub told : FrontFault → Option Fault
told (front.Missing p) = Some (fault.Missing p)
told (front.TooLong p) = Some (fault.TooLong p)
told (front.Lex p f) = lexer_fault p f
told (front.Parse p (parse.Syntax line)) = Some (fault.Syntax p line)
told (front.Parse p parse.NoMemory) = None
told (front.Check p (check.Broken rule at)) = Some (fault.Broken p at.line (name_of rule))
told (front.Check p check.NoMemory) = None
told (front.IncludeTooDeep p) = Some (fault.IncludeTooDeep p)
told front.Device = None
told front.NoMemory = None

-- a job, what the words of its call set, and how many instructions its code has
module _ (job : Job) (words : ScriptTree → Result Preset Fault) (size : ScriptTree → Preset → ℕ) where
  -- how far the job is where its script is loaded, or isn't
  pub data Begun (before after : Log) : Result TypedScript FrontFault → Type 0 where
    -- all files are read, and the program of them is accepted
    read : (files : Files) (program : ScriptTree) (t : TypedScript)
        → Leads (Steps job words size) (Reading []) before (Reading files) after →
        Steps job words size (Reading files) (Goes (opens_if job (accepted job.path words size program [])))
        → checked program [] ≡ Ok (script_of t.script) → Begun before after (Ok t)
    refused : (f : FrontFault) (g : Fault) → told f ≡ Some g
        → Leads (Steps job words size) (Reading []) before (Refusing g) after → Begun before after (Err f)
    faulted : Leads (Steps job words size) (Reading []) before Faulting after → Begun before after (Err front.Device)
    halted : Halts (Steps job words size) IsOnWay (Reading []) before after → Begun before after (Err front.NoMemory)

-- a script is loaded as each job of its path reads it
abbrev pub LoadsAsJobsRead : Type 0
LoadsAsJobsRead = (job : Job) (words : ScriptTree → Result Preset Fault) (size : ScriptTree → Preset → ℕ)
    (before after : Log) (result : Result TypedScript FrontFault) → Loads job.path before after result
    → Begun job words size before after result
