use Rattle.std.proofs.Common.{◌≡◌, ◌∷◌, take, true, fold, min}
use Rattle.bds_host.specs.Asks.{has}
use Rattle.bds_host.proofs.automatic.least_with.Given as goal

abbrev pub invariant-loop-number : goal.invariant-loop-number
invariant-loop-number l = record {
  least : l.least ≡ fold min l.fn.first (take l.number-index l.others);
  within : has (l.fn.first ∷ l.others) l.least ≡ true;
}
