-- What is printed at an end, and what is answered behind it.
use Rattle.std.specs.Prelude.{◌≡◌, ◌≢◌, ℕ, List, Some, Result, Ok, Err, ⊤}
use Rattle.bds_value.specs.declared.listed.NoMemory.{NoMemory as MemoryFault}
use Rattle.bds_check_words.specs.declared.faults.WordsFault.{WordsFault}
use Rattle.bds_check_words.specs.declared.faults.WordsFault.TheVariants as words
use Rattle.bds_host.specs.declared.asks.Ask.TheVariants.{Out, Err as Tells}
use Rattle.bds_host.specs.declared.asks.Reply.{Reply}
use Rattle.bds_host.specs.declared.asks.Reply.TheVariants.{Done, Fault as Faulted}
use Rattle.bds_host.specs.declared.faults.Fault.{Fault}
use Rattle.bds_host.specs.declared.faults.Fault.TheVariants as fault
use Rattle.bds_host.specs.Host.{Log, Answered, FoundNoRoom}
use Rattle.bds_host.specs.Message.{message_of}
use Rattle.bds_app_run.specs.Begun.{told}
use Rattle.bds_front.specs.declared.front_fault.FrontFault.{FrontFault}
use Rattle.bds_front.specs.declared.front_fault.FrontFault.TheVariants as front
use Rattle.bds_app_run.specs.Job.{told_at}
use Rattle.bds_app_run.specs.declared.outcome.Outcome.{Outcome}
use Rattle.bds_app_run.specs.declared.outcome.Outcome.TheVariants.{Ended, Device, NoMemory}
use Rattle.bds_app_run.specs.declared.stop.Stop.{Stop}
use Rattle.bds_app_run.specs.declared.stop.Stop.TheVariants as stop

-- a fault of the device is told, whatever is replied, or there is no memory for that
pub data TellsDevice (before after : Log) : Outcome → Type 0 where
  told_so : (reply : Reply) → Answered before after (Tells (message_of fault.Device)) reply → TellsDevice before after Device
  untold : FoundNoRoom before after (Tells (message_of fault.Device)) → TellsDevice before after NoMemory

-- Says text refusal before after answer: this text is printed for errors, and then this is the answer to a refusal
pub data Says (text : List ℕ) (refusal : Outcome) (before after : Log) : Outcome → Type 0 where
  said : Answered before after (Tells text) Done → Says text refusal before after refusal
  faulted : (log : Log) (answer : Outcome) → Answered before log (Tells text) Faulted → TellsDevice log after answer → Says text refusal before after answer
  no_memory : FoundNoRoom before after (Tells text) → Says text refusal before after NoMemory

-- a fault is told by its message
abbrev pub TellsFault : Fault → Outcome → Log → Log → Outcome → Type 0
TellsFault f refusal before after answer = Says (message_of f) refusal before after answer

-- this text is printed, and that is all
pub data Prints (text : List ℕ) (before after : Log) : Outcome → Type 0 where
  printed : Answered before after (Out text) Done → Prints text before after (Ended 0)
  faulted : (log : Log) (answer : Outcome) → Answered before log (Out text) Faulted → TellsDevice log after answer → Prints text before after answer
  no_memory : FoundNoRoom before after (Out text) → Prints text before after NoMemory

-- how it is told why a script isn't loaded; a fault of the device and want of memory are told in no such way
abbrev pub IsToldAs : FrontFault → Result Fault Stop → Type 0
IsToldAs f (Ok g) = told f ≡ Some g
IsToldAs f (Err stop.Fault) = f ≡ front.Device
IsToldAs f (Err stop.NoMemory) = ⊤

-- For private contracts alone: how it is told that a word isn't taken
abbrev pub IsWordsTold : List ℕ → WordsFault → Result Fault MemoryFault → Type 0
IsWordsTold path e (Ok f) = (f ≡ told_at path e) × (e ≢ words.NoMemory)
IsWordsTold path e (Err _) = ⊤
