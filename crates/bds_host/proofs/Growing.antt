-- Lists of asks and replies that grow.
use Rattle.std.proofs.Common.{◌≡◌, ◌+◌, List, [], ◌∷◌, ◌++◌, append_assoc, refl, cond}
use Rattle.std.proofs.lemmas.List.Sums.{sum_by-append}
use Rattle.bds_host.specs.declared.asks.Ask.{Ask}
use Rattle.bds_host.specs.declared.asks.Reply.{Reply}
use Rattle.bds_host.specs.declared.asks.Reply.TheVariants.{Fault}
use Rattle.bds_host.specs.Host.{Log, faults, is_fault}

-- the faults of both parts
pub faults-append : (before more : Log) → faults (before ++ more) ≡ faults before + faults more
faults-append before more = sum_by-append (λ (p : Ask × Reply). cond (is_fault p.1) 1 0) before more

-- two pairs, one after the other
pub grew_twice : {X : Type 0} (before middle after : List X) (p q : X) → middle ≡ before ++ p ∷ [] → after ≡ middle ++ q ∷ [] → after ≡ before ++ p ∷ q ∷ []
grew_twice before middle after p q first second = rw (second, first, append_assoc) refl

-- two growths, one after the other
pub grew_more : {X : Type 0} (before middle after more last : List X) → middle ≡ before ++ more → after ≡ middle ++ last → after ≡ before ++ (more ++ last)
grew_more before middle after more last first second = rw (second, first, append_assoc) refl

-- one more fault
pub faults-fault : (before after : Log) (ask : Ask) → after ≡ before ++ (ask, Fault) ∷ [] → faults after ≡ faults before + 1
faults-fault before after ask grown = rw (grown, faults-append) refl

pub ruleset growing = (faults-append, grew_twice)
