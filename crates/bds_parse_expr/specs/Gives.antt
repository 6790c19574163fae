-- For contracts within the parser alone: what a function of the parser returns, by what reading gives.
use Rattle.std.specs.Prelude.{◌≡◌, Option, Some, None, Result, Ok, Err, ⊤}
use Rattle.bds_parse_expr.specs.declared.fault.ParseFault.{ParseFault}
use Rattle.bds_parse_expr.specs.declared.fault.ParseFault.TheVariants as fault

abbrev pub FailsWith : {Y : Type 0} → ParseFault → Option Y → Type 0
FailsWith (fault.Syntax l) read = read ≡ None
FailsWith fault.NoMemory read = ⊤

-- the value, as it is seen, is what reading gives; a fault of syntax comes where it gives none
abbrev pub Gives : {X Y : Type 0} → (X → Y) → Result X ParseFault → Option Y → Type 0
Gives view (Ok x) read = read ≡ Some (view x)
Gives view (Err e) read = FailsWith e read
