-- What an ask does to the list of asks and replies.
use Rattle.std.specs.Prelude.{ℕ, List, [], ◌∷◌, ◌++◌, ◌≡◌, ◌≢◌, ◌⊎◌, Bool, true, false, count_by}
use Rattle.bds_host.specs.declared.asks.Ask.{Ask}
use Rattle.bds_host.specs.declared.asks.Reply.{Reply}
use Rattle.bds_host.specs.declared.asks.Reply.TheVariants.{Fault, NoRoom}
use Rattle.bds_host.specs.Asks.{fits}

abbrev pub Log : Type 0
Log = List (Ask × Reply)

-- the log has grown by exactly this ask and this reply, which fits it
pub record Answered (before after : Log) (ask : Ask) (reply : Reply) : Type 0 where
  pub grown : after ≡ before ++ (ask, reply) ∷ []
  pub fitting : fits ask reply ≡ true
  pub told : reply ≢ NoRoom

-- want of memory leaves the log, or adds this ask with NoRoom
abbrev pub FoundNoRoom : Log → Log → Ask → Type 0
FoundNoRoom before after ask = (after ≡ before) ⊎ (after ≡ before ++ (ask, NoRoom) ∷ [])

abbrev pub is_fault : Reply → Bool
is_fault Fault = true
is_fault _ = false

-- the number of faults
abbrev pub faults : Log → ℕ
faults log = count_by (λ p. is_fault p.1) log
