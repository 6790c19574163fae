-- Runs as a computation: what a run asks where these are the replies.
use Rattle.std.specs.Prelude.{◌≡◌, ◌≢◌, true, ⊤, ℕ, zero, suc, List, [], ◌∷◌}
use Rattle.bds_host.specs.declared.asks.Ask.{Ask}
use Rattle.bds_host.specs.declared.asks.Ask.TheVariants.{Save}
use Rattle.bds_host.specs.declared.asks.Reply.{Reply}
use Rattle.bds_host.specs.declared.asks.Reply.TheVariants.{Done, NoRoom}
use Rattle.bds_host.specs.Asks.{fits}
use Rattle.bds_schedule.specs.Configuration.{Configuration}
use Rattle.bds_schedule.specs.Stages.{End}
use Rattle.bds_schedule.specs.Steps.{Step, Goes, Asks, Ends}

-- how far it came: to an end, to an ask without a reply, or not so far in so many steps
pub data Verdict : Type 0 where
  Comes : End → Verdict
  Unanswered : Verdict
  Unfinished : Verdict

-- what was asked, and how far it came
pub record Played : Type 0 where
  pub asks : List Ask
  pub verdict : Verdict

abbrev pub asked : Ask → Played → Played
asked ask p = record { asks = ask ∷ p.asks; verdict = p.verdict }

-- for threads of any kind, and what a configuration does next
module _ {S : Type 0} (next_step : Configuration S → Step (Configuration S) End) where
  abbrev pub played : (Configuration S → List Reply → Played) → Step (Configuration S) End → List Reply → Played
  played on (Goes c) replies = on c replies
  played on (Asks ask next) [] = record { asks = ask ∷ []; verdict = Unanswered }
  played on (Asks ask next) (r ∷ rs) = asked ask (on (next r) rs)
  played on (Ends e) replies = record { asks = []; verdict = Comes e }

  -- what is asked in at most so many steps
  abbrev pub play : ℕ → Configuration S → List Reply → Played
  play zero c replies = record { asks = []; verdict = Unfinished }
  play (suc n) c replies = played (play n) (next_step c) replies

  abbrev pub saved_or : Ask → Configuration S → Configuration S → Configuration S
  saved_or (Save path image) saved other = saved
  saved_or ask saved other = other

  abbrev pub behind_save : (Configuration S → List Reply → Configuration S) → Configuration S → Step (Configuration S) End → List Reply → Configuration S
  behind_save on c (Goes d) replies = on d replies
  behind_save on c (Asks ask next) [] = saved_or ask (next Done) c
  behind_save on c (Asks ask next) (r ∷ rs) = saved_or ask (next Done) (on (next r) rs)
  behind_save on c (Ends e) replies = c

  -- the configuration behind the first save, if one comes in so many steps
  abbrev pub saved_in : ℕ → Configuration S → List Reply → Configuration S
  saved_in zero c replies = c
  saved_in (suc n) c replies = behind_save (saved_in n) c (next_step c) replies

-- the replies fit the asks, one by one
abbrev pub AreFitting : List Ask → List Reply → Type 0
AreFitting [] replies = ⊤
AreFitting (a ∷ others) [] = ⊥
AreFitting (a ∷ others) (r ∷ rs) = (fits a r ≡ true) × (r ≢ NoRoom) × AreFitting others rs
