-- For private contracts alone: what is found, without where it lies in memory.
use Rattle.std.specs.Prelude.{ℕ, List, Option, Some, None}
use denote.Ref.{Bor}

abbrev pub option_now : Option (Bor (List ℕ)) → Option (List ℕ)
option_now None = None
option_now (Some s) = Some s.now
