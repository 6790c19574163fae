-- The last Run of a log that grows.
use Rattle.std.proofs.Common.{◌≡◌, ◌≢◌, ℕ, Option, None, [], ◌∷◌, ◌++◌, refl}
use Rattle.std.proofs.lemmas.List.Sums.{fold-append}
use Rattle.bds_host.specs.declared.asks.Ask.{Ask}
use Rattle.bds_host.specs.declared.asks.Reply.{Reply}
use Rattle.bds_host.specs.declared.asks.Reply.TheVariants.{Run}
use Rattle.bds_host.specs.Host.{Log}
use Rattle.bds_exec.specs.Turns.{run_or, last_run}

-- one more pair
pub last_run-append : (log : Log) (ask : Ask) (reply : Reply) → last_run (log ++ (ask, reply) ∷ []) ≡ run_or (last_run log) reply
last_run-append log ask reply = fold-append (λ last (p : Ask × Reply). run_or last p.1) None log ((ask, reply) ∷ [])

-- another reply than Run
pub run_or-stays : (last : Option ℕ) (reply : Reply) → ((k : ℕ) → reply ≢ Run k) → run_or last reply ≡ last
run_or-stays last (Run k) other = absurd (other k refl)
run_or-stays last _ other = refl

pub ruleset last_runs = (last_run-append, run_or-stays)
