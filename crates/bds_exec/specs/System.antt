-- What the device asks of the system, and which reply each answer gives.
use Rattle.std.specs.Prelude.{ℕ, ℤ, ◌≡◌, List, ◌++◌, Result, Ok, Err, Option, Some, codes, string_bytes}
use Rattle.std.specs.IoError.{error_kind}
use Rattle.std.specs.declared.io.Error.{Error}
use Rattle.bds_host.specs.declared.asks.Ask.{Ask}
use Rattle.bds_host.specs.declared.asks.Ask.TheVariants.{Read, Stamp, Write, Remove, Out, Err as ErrAsk, Sys, Start, Next, Save}
use Rattle.bds_host.specs.declared.asks.Reply.{Reply}
use Rattle.bds_exec.specs.declared.targets.Target.{Target}
use Rattle.bds_exec.specs.declared.targets.Target.TheVariants.{File, Other}
use Rattle.bds_exec.specs.Replies.{failure, done, removed, bytes_read, started, ran, IsStamped, IsNextEnd}

-- what carries out an ask: a call of the standard library, or some of them
pub data Call : Type 0 where
  ReadFile : List ℕ → Call
  StampFile : List ℕ → Call
  WriteFile : List ℕ → List ℕ → Call
  LookAt : List ℕ → Call
  StoreFile : List ℕ → List ℕ → Option ℕ → Call
  MoveFile : List ℕ → List ℕ → Call
  RemoveFile : List ℕ → Call
  Print : List ℕ → Call
  PrintError : List ℕ → Call
  RunCommand : List ℕ → Call
  StartTask : ℕ → ℕ → List ℕ → Call
  ReadLine : Call

-- what a call may answer: a file's bytes, or none where it takes too many turns; a file's size, seconds and nanoseconds; where a save goes; a command's code and output, or none as before; a line of the shell, or none where it tells no more
abbrev pub AnswerTo : Call → Type 0
AnswerTo (ReadFile _) = Result (Option (List ℕ)) Error
AnswerTo (StampFile _) = Result (ℕ × ℤ × ℤ) Error
AnswerTo (WriteFile _ _) = Result Unit Error
AnswerTo (LookAt _) = Result Target Error
AnswerTo (StoreFile _ _ _) = Result Unit Error
AnswerTo (MoveFile _ _) = Result Unit Error
AnswerTo (RemoveFile _) = Result Unit Error
AnswerTo (Print _) = Result Unit Error
AnswerTo (PrintError _) = Result Unit Error
AnswerTo (RunCommand _) = Result (Option (Option ℤ × List ℕ)) Error
AnswerTo (StartTask _ _ _) = Result Unit Error
AnswerTo ReadLine = Result (Option (List ℕ)) Error

-- the path at which a save is written before it takes its place
abbrev pub path_beside : List ℕ → List ℕ
path_beside path = path ++ codes ".new"

-- some bytes were stored at a path
abbrev pub IsStored : ((call : Call) → AnswerTo call → Type 0) → List ℕ → Type 0
IsStored answers path = (bytes : List ℕ) × (mode : Option ℕ) × (well : Unit) × answers (StoreFile path bytes mode) (Ok well)

-- the call for an ask; a save makes others behind it
abbrev pub call_of : Ask → Call
call_of (Read path) = ReadFile path
call_of (Stamp path) = StampFile path
call_of (Write path text) = WriteFile path text
call_of (Remove path) = RemoveFile path
call_of (Out text) = Print text
call_of (ErrAsk text) = PrintError text
call_of (Sys command) = RunCommand command
call_of (Start task attempt command) = StartTask task attempt command
call_of (Next _ _) = ReadLine
call_of (Save path _) = LookAt path

-- the reply where an image was stored beside a path, or wasn't: only what was stored is moved to the path
abbrev pub IsMoved : ((call : Call) → AnswerTo call → Type 0) → List ℕ → Result Unit Error → Reply → Type 0
IsMoved answers place (Ok _) reply = (moved : Result Unit Error) × answers (MoveFile (path_beside place) place) moved × (done moved ≡ Some reply)
IsMoved _ _ (Err e) reply = failure (error_kind e) ≡ Some reply

-- the reply to a save that goes to a file at a path, which has a mode if it is there: the image is stored beside it with that mode
abbrev pub IsPlaced : ((call : Call) → AnswerTo call → Type 0) → List ℕ → List ℕ → Option ℕ → Reply → Type 0
IsPlaced answers place image mode reply = (stored : Result Unit Error) × answers (StoreFile (path_beside place) image mode) stored × IsMoved answers place stored reply

-- the reply to a save by where it goes: what is no file is written as it stands
abbrev pub IsSaved : ((call : Call) → AnswerTo call → Type 0) → List ℕ → List ℕ → Result Target Error → Reply → Type 0
IsSaved answers _ image (Ok (File place mode)) reply = IsPlaced answers (string_bytes place) image mode reply
IsSaved answers path image (Ok Other) reply = (written : Result Unit Error) × answers (WriteFile path image) written × (done written ≡ Some reply)
IsSaved _ _ _ (Err e) reply = failure (error_kind e) ≡ Some reply

-- the reply that an answer gives
abbrev pub IsReply : ((call : Call) → AnswerTo call → Type 0) → (ask : Ask) → AnswerTo (call_of ask) → Reply → Type 0
IsReply _ (Read _) answer reply = bytes_read answer ≡ Some reply
IsReply _ (Stamp _) answer reply = IsStamped answer reply
IsReply _ (Write _ _) answer reply = done answer ≡ Some reply
IsReply _ (Remove _) answer reply = removed answer ≡ Some reply
IsReply _ (Out _) answer reply = done answer ≡ Some reply
IsReply _ (ErrAsk _) answer reply = done answer ≡ Some reply
IsReply _ (Sys _) answer reply = ran answer ≡ Some reply
IsReply _ (Start _ _ _) answer reply = started answer ≡ Some reply
IsReply _ (Next _ running) answer reply = IsNextEnd running answer reply
IsReply answers (Save path image) answer reply = IsSaved answers path image answer reply

-- the system may give the call for an ask an answer that gives this reply
abbrev pub Replies : ((call : Call) → AnswerTo call → Type 0) → Ask → Reply → Type 0
Replies answers ask reply = (answer : AnswerTo (call_of ask)) × answers (call_of ask) answer × IsReply answers ask answer reply
