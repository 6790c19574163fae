-- Asks and steps that differ at most in the bytes of a saved state.
use Rattle.std.specs.Prelude.{◌≡◌, List, [], ◌∷◌, map, ⊤}
use Rattle.bds_host.specs.declared.asks.Ask.{Ask}
use Rattle.bds_host.specs.declared.asks.Ask.TheVariants.{Save}
use Rattle.bds_host.specs.declared.asks.Reply.{Reply}
use Rattle.bds_host.specs.Host.{Log}
use Rattle.bds_schedule.specs.Steps.{Step, Goes, Asks, Ends}

-- the same ask, where the bytes of a saved state are of no matter
abbrev pub IsSameAsk : Ask → Ask → Type 0
IsSameAsk (Save path image) (Save path' image') = path ≡ path'
IsSameAsk ask ask' = ask ≡ ask'

abbrev pub AreSameAsks : List Ask → List Ask → Type 0
AreSameAsks [] [] = ⊤
AreSameAsks (a ∷ others) (b ∷ others') = IsSameAsk a b × AreSameAsks others others'
AreSameAsks _ _ = ⊥

abbrev pub IsSameStep : {S E : Type 0} → Step S E → Step S E → Type 0
IsSameStep (Goes s) (Goes t) = s ≡ t
IsSameStep (Asks a next) (Asks b next') = IsSameAsk a b × ((reply : Reply) → next reply ≡ next' reply)
IsSameStep (Ends e) (Ends f) = e ≡ f
IsSameStep _ _ = ⊥

abbrev pub asks_of : Log → List Ask
asks_of pairs = map (λ p. p.0) pairs

abbrev pub replies_of : Log → List Reply
replies_of pairs = map (λ p. p.1) pairs
