-- The messages for people.
use Rattle.std.specs.Prelude.{ℕ, List, ◌++◌, codes, decimal}
use Rattle.std.specs.Fmt.{signed_decimal}
use Rattle.bds_value.specs.declared.faults.RunFault.{RunFault}
use Rattle.bds_value.specs.declared.faults.RunFault.TheVariants as run
use Rattle.bds_host.specs.declared.faults.Fault.{Fault}
use Rattle.bds_host.specs.declared.faults.Fault.TheVariants as fault

-- behind a path
abbrev pub at_path : List ℕ → List ℕ → List ℕ
at_path path text = path ++ codes ": " ++ text

-- behind a path and a line
abbrev pub at_line : List ℕ → ℕ → List ℕ → List ℕ
at_line path line text = path ++ codes ":" ++ decimal line ++ codes ": " ++ text

abbrev pub with_code : ℕ → List ℕ
with_code code = codes " failed with code " ++ decimal code

abbrev pub run_text : RunFault → List ℕ
run_text run.ZeroDivisor = codes "zero divisor"
run_text (run.NoIndex index count) = codes "no index " ++ signed_decimal index ++ codes " in " ++ decimal count
run_text (run.NoKey key) = codes "no key " ++ key
run_text (run.TooLong n) = codes "too long: " ++ decimal n
run_text (run.NotANumber text) = codes "not a number: " ++ text
run_text run.CallsTooDeep = codes "calls too deep"
run_text run.TooManyThreads = codes "too many threads"
run_text run.TooManyTasks = codes "too many tasks"
run_text run.TooManyRules = codes "too many rules"
run_text (run.NoFile path) = codes "no file " ++ path
run_text (run.SysFailed code) = codes "sys" ++ with_code code
run_text (run.NoId text) = codes "no id " ++ text
run_text (run.BadOption n) = codes "bad option " ++ signed_decimal n
run_text (run.TwoRules file n) = codes "rule " ++ decimal n ++ codes " makes " ++ file
run_text (run.Cycle rules) = codes "cycle of rules"
run_text (run.NoRule file) = codes "no rule makes " ++ file
run_text (run.Error text) = codes "error: " ++ text

abbrev pub fault_text : Fault → List ℕ
fault_text fault.Words = codes "words not understood"
fault_text fault.Device = codes "device fault"
fault_text (fault.Missing path) = at_path path (codes "missing")
fault_text (fault.TooLong path) = at_path path (codes "too long")
fault_text (fault.IncludeTooDeep path) = at_path path (codes "includes too deep")
fault_text (fault.TooBig path) = at_path path (codes "unit too large")
fault_text (fault.OpenText path line) = at_line path line (codes "open text")
fault_text (fault.OpenComment path line) = at_line path line (codes "open comment")
fault_text (fault.BadByte path line byte) = at_line path line (codes "bad byte " ++ decimal byte)
fault_text (fault.BigNumber path line) = at_line path line (codes "big number")
fault_text (fault.BadEscape path line byte) = at_line path line (codes "bad escape " ++ decimal byte)
fault_text (fault.Syntax path line) = at_line path line (codes "syntax")
fault_text (fault.Broken path line rule) = at_line path line rule
fault_text (fault.NoVariable path name) = at_path path (codes "no variable " ++ name)
fault_text (fault.BadValue path name) = at_path path (codes "bad value for " ++ name)
fault_text (fault.NotLoadable path) = at_path path (codes "not loadable")
fault_text (fault.TaskFailed task code) = codes "task." ++ decimal task ++ with_code code
fault_text fault.Deadlock = codes "deadlock"
fault_text (fault.Run path line fault) = at_line path line (run_text fault)

-- the message of a fault
abbrev pub message_of : Fault → List ℕ
message_of f = codes "bds: " ++ fault_text f ++ codes "\n"
