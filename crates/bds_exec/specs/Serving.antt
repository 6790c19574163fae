-- What is asked of the reply to an ask, but for the choice of a thread.
use Rattle.std.specs.Prelude.{ℕ, ◌≡◌, ◌≢◌, true, Result, IfOk}
use Rattle.bds_host.specs.declared.asks.Ask.{Ask}
use Rattle.bds_host.specs.declared.asks.Reply.{Reply}
use Rattle.bds_host.specs.declared.asks.Reply.TheVariants.{NoRoom, Run}
use Rattle.bds_host.specs.Asks.{fits}

-- the reply fits, is there, and lets no thread go on
abbrev pub IsServedBy : Ask → Reply → Type 0
IsServedBy ask reply = (fits ask reply ≡ true) × (reply ≢ NoRoom) × ((k : ℕ) → reply ≢ Run k)

-- the same of a result, where it is one
abbrev pub Serves : {E : Type 0} → Ask → Result Reply E → Type 0
Serves ask result = IfOk result (IsServedBy ask)
