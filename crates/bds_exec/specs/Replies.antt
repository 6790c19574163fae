-- Which reply each answer of the system gives.
use Rattle.std.specs.Prelude.{ℕ, ℤ, ◌≡◌, ◌≢◌, ◌<◌, ◌^◌, ◌*ℤ◌, ◌+ℤ◌, pos, negsuc, nat_lt, if◌then◌else◌, true, false, FitsSigned, List, ◌∷◌, ◌++◌, Result, Ok, Err, Option, Some, None}
use Rattle.std.specs.Fmt.{decimal}
use Rattle.std.specs.Int.{w64}
use Rattle.std.specs.IoError.{error_kind}
use Rattle.std.specs.declared.io.Error.{Error}
use Rattle.std.specs.declared.io.ErrorKind.{ErrorKind}
use Rattle.std.specs.declared.io.ErrorKind.TheVariants.{OutOfMemory, NotFound}
use Rattle.bds_host.specs.Asks.{has}
use Rattle.bds_host.specs.declared.asks.Reply.{Reply}
use Rattle.bds_host.specs.declared.asks.Reply.TheVariants.{Bytes, Missing, Done, Stamp, SysDone, Started, Ended, Fault}

-- a call gives this reply, and finds no memory exactly where there is none to give
abbrev pub GivesReply : {E : Type 0} → Option Reply → Result Reply E → Type 0
GivesReply reply (Ok given) = reply ≡ Some given
GivesReply reply (Err _) = reply ≡ None

-- a call of the system that failed: a fault, but for want of memory
abbrev pub failure : ErrorKind → Option Reply
failure OutOfMemory = None
failure _ = Some Fault

-- the same where what isn't found has a reply of its own
abbrev pub failure_or : Reply → ErrorKind → Option Reply
failure_or missing NotFound = Some missing
failure_or _ kind = failure kind

-- something was written or printed
abbrev pub done : Result Unit Error → Option Reply
done (Ok _) = Some Done
done (Err e) = failure (error_kind e)

-- a file was removed
abbrev pub removed : Result Unit Error → Option Reply
removed (Ok _) = Some Done
removed (Err e) = failure_or Missing (error_kind e)

-- a file was read: its bytes, or none where it takes too many turns
abbrev pub bytes_read : Result (Option (List ℕ)) Error → Option Reply
bytes_read (Ok (Some bytes)) = Some (Bytes bytes)
bytes_read (Ok None) = Some Fault
bytes_read (Err e) = failure_or Missing (error_kind e)

-- a time in nanoseconds
abbrev pub time_at : ℤ → ℤ → ℤ
time_at seconds nanoseconds = seconds *ℤ pos 1000000000 +ℤ nanoseconds

-- the stamp of a file of a size and a time; a time that 64 bits don't hold is a fault
abbrev pub IsStampAt : ℕ → ℤ → Reply → Type 0
IsStampAt size time (Stamp there told_size told_time) = (there ≡ true) × (told_size ≡ size) × (told_time ≡ time)
IsStampAt size time Fault = FitsSigned w64 time → ⊥
IsStampAt size time _ = ⊥

-- what isn't found
abbrev pub nothing : Reply
nothing = Stamp false 0 (pos 0)

-- a file's size, seconds and nanoseconds were asked
abbrev pub IsStamped : Result (ℕ × ℤ × ℤ) Error → Reply → Type 0
IsStamped (Ok found) reply = IsStampAt found.0 (time_at found.1 found.2) reply
IsStamped (Err e) reply = failure_or nothing (error_kind e) ≡ Some reply

-- the code of a command that ended; one that the system doesn't give counts as 255
abbrev pub code_of : Option ℤ → ℕ
code_of (Some (pos n)) = if nat_lt n 256 then n else 255
code_of (Some (negsuc _)) = 255
code_of None = 255

-- a command was run to its end: its code and its output, or none where that takes too many turns
abbrev pub ran : Result (Option (Option ℤ × List ℕ)) Error → Option Reply
ran (Ok (Some (code, out))) = Some (SysDone (code_of code) out)
ran (Ok None) = Some Fault
ran (Err e) = failure (error_kind e)

-- a task was started
abbrev pub started : Result Unit Error → Option Reply
started (Ok _) = Some Started
started (Err e) = failure (error_kind e)

-- the line that tells the end of a task with a code: both in decimal digits, with a blank between
abbrev pub line_of : ℕ → ℕ → List ℕ
line_of task code = decimal task ++ 32 ∷ decimal code

-- a line isn't the end of a task
abbrev pub IsNoLine : List ℕ → Type 0
IsNoLine line = (task code : ℕ) → task < 2 ^ 32 → code < 2 ^ 8 → line ≢ line_of task code

-- a line tells the end of a running task, or is a fault
abbrev pub IsEnd : List ℕ → List ℕ → Reply → Type 0
IsEnd running line (Ended task code) = (has running task ≡ true) × (line ≡ line_of task code)
IsEnd running line Fault = (task code : ℕ) → task < 2 ^ 32 → code < 2 ^ 8 → has running task ≡ true → line ≢ line_of task code
IsEnd running line _ = ⊥

-- the reply to a wait for an end: the next line of the shell was read, or none where it tells no more
abbrev pub IsNextEnd : List ℕ → Result (Option (List ℕ)) Error → Reply → Type 0
IsNextEnd running (Ok (Some line)) reply = IsEnd running line reply
IsNextEnd running (Ok None) reply = reply ≡ Fault
IsNextEnd running (Err e) reply = failure (error_kind e) ≡ Some reply
