-- What is asked while a script is loaded: reads, of which a fault is the last.
use Rattle.std.proofs.Common.{◌≡◌, ◌∙◌, ℕ, ◌+◌, List, [], ◌∷◌, ◌++◌, Some, None, Result, Err, arith, refl, ap, sym}
use Rattle.std.proofs.Common.{append_assoc, append-nil}
use Rattle.std.proofs.lemmas.List.Elements.{All-cons, All-nil, All-push}
use Rattle.bds_host.specs.declared.asks.Ask.{Ask}
use Rattle.bds_host.specs.declared.asks.Ask.TheVariants.{Read}
use Rattle.bds_host.specs.declared.asks.Reply.{Reply}
use Rattle.bds_host.specs.declared.asks.Reply.TheVariants as reply
use Rattle.bds_host.specs.declared.faults.Fault.{Fault as AFault}
use Rattle.bds_host.specs.Host.{Log, faults}
use Rattle.bds_host.proofs.Growing.{faults-append}
use Rattle.bds_check.specs.declared.checking.TypedScript.{TypedScript}
use Rattle.bds_dry.specs.Dry.{IsPassed, IsPassedPair}
use Rattle.bds_app_run.specs.Begun.{told}
use Rattle.bds_front.specs.Loading.{Loads, Reads, Stops}
use Rattle.bds_front.specs.declared.front_fault.FrontFault.{FrontFault}
use Rattle.bds_front.specs.declared.front_fault.FrontFault.TheVariants as front
use Rattle.bds_meaning.specs.Files.{Files}
use Rattle.bds_app_trials.specs.DryRuns.{HasPassed}

pub nothing_passed : (log : Log) → HasPassed log log
nothing_passed log = record { pairs = []; grown = sym (append-nil log); passed = All-nil IsPassedPair }

pub one_passed : (before after : Log) (a : Ask) (r : Reply) → IsPassed a → after ≡ before ++ (a, r) ∷ []
    → HasPassed before after
one_passed before after a r passed grown =
    record {
      pairs = (a, r) ∷ [];
      grown = grown;
      passed = All-cons IsPassedPair (a, r) [] passed (All-nil IsPassedPair);
    }

read_passed : (before log after : Log) (p : List ℕ) (r : Reply) → HasPassed before log
    → after ≡ log ++ (Read p, r) ∷ [] → HasPassed before after
read_passed before log after p r h grown = record {
  pairs = h.pairs ++ (Read p, r) ∷ [];
  grown = grown ∙ ap (λ l. l ++ (Read p, r) ∷ []) h.grown ∙ append_assoc before h.pairs ((Read p, r) ∷ []);
  passed = All-push IsPassedPair h.pairs (Read p, r) h.passed tt;
}

-- one more reply that is no fault
calm_more : (before log after : Log) (a : Ask) (r : Reply) → faults ((a, r) ∷ []) ≡ 0 → faults log ≡ faults before
    → after ≡ log ++ (a, r) ∷ [] → faults after ≡ faults before
calm_more before log after a r none calm grown = ap faults grown ∙ faults-append log ((a, r) ∷ [])
    ∙ same (faults log) (faults before) (faults ((a, r) ∷ [])) none calm
  where
    same : (x y z : ℕ) → z ≡ 0 → x ≡ y → x + z ≡ y
    same x y z none is = omega (arith, none, is)

module _ (path : List ℕ) (before : Log) where
  reads_passed : (all : Files) (after : Log) → Reads path [] before all after → HasPassed before after
  reads_passed _ _ Reads.nothing = nothing_passed before
  reads_passed _ after (Reads.one_more all log _ next text there is short answered) =
      read_passed before log after next _ (reads_passed all log there) answered.grown

  reads_calm : (all : Files) (after : Log) → Reads path [] before all after → faults after ≡ faults before
  reads_calm _ _ Reads.nothing = refl
  reads_calm _ after (Reads.one_more all log _ next text there is short answered) =
      calm_more before log after (Read next) _ refl (reads_calm all log there) answered.grown

  pub loads_passed : (after : Log) (r : Result TypedScript FrontFault) → Loads path before after r
      → HasPassed before after
  loads_passed after _ (Loads.loaded files program t made fine same settings args) = reads_passed files after made.read
  loads_passed after _ (Loads.stopped _ (Stops.missing all log next reads is short a)) =
      read_passed before log after next _ (reads_passed all log reads) a.grown
  loads_passed after _ (Loads.stopped _ (Stops.device all log next reads is short a)) =
      read_passed before log after next _ (reads_passed all log reads) a.grown
  loads_passed after _ (Loads.stopped _ (Stops.long_path all next reads is long)) = reads_passed all after reads
  loads_passed after _ (Loads.stopped _ (Stops.long_text all p text reads flaw)) = reads_passed _ after reads
  loads_passed after _ (Loads.stopped _ (Stops.unlexed all p text f reads flaw lacked)) = reads_passed _ after reads
  loads_passed after _ (Loads.stopped _ (Stops.unspelled all p text line reads flaw)) = reads_passed _ after reads
  loads_passed after _ (Loads.stopped _ (Stops.no_memory all reads)) = reads_passed all after reads
  loads_passed after _ (Loads.stopped _ (Stops.no_room all log next reads is short e)) =
      read_passed before log after next _ (reads_passed all log reads) e
  loads_passed after _ (Loads.broken files program beyond b p made first at) = reads_passed files after made.read
  loads_passed after _ (Loads.too_deep files program p beyond made fine) = reads_passed files after made.read

  -- where it is loaded, or that is told, no reply was a fault
  pub loads_calm : (after : Log) (r : Result TypedScript FrontFault) → Loads path before after r
      → (r ≡ Err front.Device → ⊥)
      → (r ≡ Err front.NoMemory → ⊥) → faults after ≡ faults before
  loads_calm after _ (Loads.loaded files program t made fine same settings args) other there =
      reads_calm files after made.read
  loads_calm after _ (Loads.stopped _ (Stops.missing all log next reads is short a)) other there =
      calm_more before log after (Read next) reply.Missing refl (reads_calm all log reads) a.grown
  loads_calm after _ (Loads.stopped _ (Stops.device all log next reads is short a)) other there = absurd (other refl)
  loads_calm after _ (Loads.stopped _ (Stops.long_path all next reads is long)) other there = reads_calm all after reads
  loads_calm after _ (Loads.stopped _ (Stops.long_text all p text reads flaw)) other there = reads_calm _ after reads
  loads_calm after _ (Loads.stopped _ (Stops.unlexed all p text f reads flaw lacked)) other there =
      reads_calm _ after reads
  loads_calm after _ (Loads.stopped _ (Stops.unspelled all p text line reads flaw)) other there =
      reads_calm _ after reads
  loads_calm after _ (Loads.stopped _ (Stops.no_memory all reads)) other there = absurd (there refl)
  loads_calm after _ (Loads.stopped _ (Stops.no_room all log next reads is short e)) other there = absurd (there refl)
  loads_calm after _ (Loads.broken files program beyond b p made first at) other there =
      reads_calm files after made.read
  loads_calm after _ (Loads.too_deep files program p beyond made fine) other there = reads_calm files after made.read

  -- a read that is answered by a fault is the last one
  pub loads_risen : (after : Log) (r : Result TypedScript FrontFault) → r ≡ Err front.Device → Loads path before after r
      → faults after ≡ faults before + 1
  loads_risen after _ e (Loads.loaded files program t made fine same settings args) = absurd (cc e)
  loads_risen after _ e (Loads.stopped _ (Stops.missing all log next reads is short a)) = absurd (cc e)
  loads_risen after _ e (Loads.stopped _ (Stops.device all log next reads is short a)) =
      ap faults a.grown ∙ faults-append log ((Read next, reply.Fault) ∷ []) ∙ ap (λ n. n + 1) (reads_calm all log reads)
  loads_risen after _ e (Loads.stopped _ (Stops.long_path all next reads is long)) = absurd (cc e)
  loads_risen after _ e (Loads.stopped _ (Stops.long_text all p text reads flaw)) = absurd (cc e)
  loads_risen after _ e (Loads.stopped _ (Stops.unlexed all p text f reads flaw lacked)) = absurd (cc e)
  loads_risen after _ e (Loads.stopped _ (Stops.unspelled all p text line reads flaw)) = absurd (cc e)
  loads_risen after _ e (Loads.stopped _ (Stops.no_memory all reads)) = absurd (cc e)
  loads_risen after _ e (Loads.stopped _ (Stops.no_room all log next reads is short lacked)) = absurd (cc e)
  loads_risen after _ e (Loads.broken files program beyond b p made first at) = absurd (cc e)
  loads_risen after _ e (Loads.too_deep files program p beyond made fine) = absurd (cc e)

-- what is told isn't this
pub told_other : (f : FrontFault) (g : AFault) → told f ≡ Some g → (h : FrontFault) → told h ≡ None → f ≡ h → ⊥
told_other f g is h none e = let no : Some g ≡ None = sym is ∙ ap told e ∙ none in cc no
