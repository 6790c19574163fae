-- For private contracts alone: what a function returned whose faults have no lines yet, by what a definition gives.
use Rattle.std.specs.Prelude.{◌≡◌, Result, Ok, Err}
use Rattle.bds_tree.specs.declared.lexing.Flaw.{Flaw}
use Rattle.bds_tree.specs.declared.lexing.Flaw.TheVariants as flaw

abbrev pub FailsWith : {Y : Type 0} → Flaw → Result Y Flaw → Type 0
FailsWith flaw.NoMemory read = Unit {0}
FailsWith flaw.OpenText read = read ≡ Err flaw.OpenText
FailsWith flaw.OpenComment read = read ≡ Err flaw.OpenComment
FailsWith (flaw.BadByte b) read = read ≡ Err (flaw.BadByte b)
FailsWith flaw.BigNumber read = read ≡ Err flaw.BigNumber
FailsWith (flaw.BadEscape b) read = read ≡ Err (flaw.BadEscape b)

abbrev pub Gives : {X Y : Type 0} → (X → Y) → Result X Flaw → Result Y Flaw → Type 0
Gives view (Ok x) read = read ≡ Ok (view x)
Gives view (Err e) read = FailsWith e read
