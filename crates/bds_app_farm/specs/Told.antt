-- What is known of a job over a farm by the logs of the farm and of the host around which it stands.
use Rattle.std.specs.Prelude.{◌≡◌, ◌≢◌, ◌∷◌, ◌++◌, ℕ, Bool, true, false, List, []}
use Rattle.bds_host.specs.declared.asks.Ask.TheVariants.{Next, Err as Tells}
use Rattle.bds_host.specs.declared.asks.Reply.{Reply}
use Rattle.bds_host.specs.declared.asks.Reply.TheVariants.{Ended, NoRoom}
use Rattle.bds_host.specs.declared.faults.Fault.TheVariants as fault
use Rattle.bds_host.specs.Host.{Log}
use Rattle.bds_host.specs.Message.{message_of}
use Rattle.bds_farm.specs.Farm.{FarmRun, Queue, Turn}
use Rattle.bds_farm.specs.Farming.{insides_of, pairs_of}
use Rattle.bds_farm.specs.Ends.{IsLearnt, Turns}
use Rattle.bds_replay.specs.declared.log.Job.{Job}
use Rattle.bds_app_run.specs.declared.outcome.Outcome.{Outcome}
use Rattle.bds_app_run.specs.Jobs.{call_of}
use Rattle.bds_app_run.specs.Complete.{FileIsDetermined, ScriptIsDetermined}
use Rattle.bds_app_farm.specs.Farmed.{FarmsJob, IsFarmed}

-- The answer

abbrev pub IsDeterminedAs : Bool → Job → Log → Log → Outcome → Type 0
IsDeterminedAs true j before after answer = FileIsDetermined j.cpus j.ticks j.path before after answer
IsDeterminedAs false j before after answer = ScriptIsDetermined (call_of j) before after answer

-- what the log of a job says of its answer
abbrev pub JobIsDetermined : Job → Log → Log → Outcome → Type 0
JobIsDetermined j before after answer = IsDeterminedAs j.resume j before after answer

-- the log of the farm says this of the answer
abbrev pub IsDetermined : Job → List ℕ → List ℕ → Log → Log → Outcome → Type 0
IsDetermined job submit poll before after answer =
    (h : FarmsJob job submit poll before after answer) → JobIsDetermined job [] h.log answer

-- Ends

-- an end that the farm gave behind these asks: in the farm's run, with what each of its turns asked inside, the line of
-- this end was printed by the command that polls, behind the last submission of the task and no later than in the turn
-- that gives it, and no other end of that submission was given before
pub record EndIsTold (submit poll ready running : List ℕ) (task code : ℕ) (earlier before after : Log) : Type 0 where
  pub turns : Turns submit poll
  pub turn : Turn submit poll
  pub later : Turns submit poll
  pub known : Queue
  pub run : FarmRun submit poll (turns ++ turn ∷ later) known
  pub are : earlier ≡ pairs_of submit poll turns
  pub ask : turn.ask ≡ Next ready running
  pub reply : turn.reply ≡ Ended task code
  pub learnt : IsLearnt submit poll task code turns turn.inside
  -- what was asked inside for a last ask that found no memory, or nothing
  pub more : Log
  pub inside : after ≡ before ++ (insides_of submit poll (turns ++ turn ∷ later) ++ more)

abbrev pub EndsAreTold : List ℕ → List ℕ → Log → Log → Type 0
EndsAreTold submit poll before after =
    (log earlier rest : Log) (ready running : List ℕ) (task code : ℕ) → IsFarmed submit poll before after log
    → log ≡ earlier ++ (Next ready running, Ended task code) ∷ rest
    → EndIsTold submit poll ready running task code earlier before after

-- Faults

-- that of a device is the last thing that the host is told
pub record DeviceIsTold (before after : Log) : Type 0 where
  pub pairs : Log
  pub reply : Reply
  pub is : after ≡ before ++ (pairs ++ (Tells (message_of fault.Device), reply) ∷ [])
  pub room : reply ≢ NoRoom
