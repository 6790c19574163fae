-- For private contracts alone: what is put behind a text, up to a limit.
use Rattle.std.specs.Prelude.{◌≡◌, ◌++◌, ◌<◌, ℕ, List, length, Result, Ok, Err, ⊤}
use Rattle.bds_fmt.specs.declared.fault.FormatFault.{FormatFault}
use Rattle.bds_fmt.specs.declared.fault.FormatFault.TheVariants.{TooLong, NoMemory}

-- more was put behind what was there, or it would be too long
abbrev pub Puts : {A : Type 0} → ℕ → List ℕ → List ℕ → List ℕ → Result A FormatFault → Type 0
Puts most old more new (Ok _) = new ≡ old ++ more
Puts most old more new (Err TooLong) = most < length (old ++ more)
Puts most old more new (Err NoMemory) = ⊤
