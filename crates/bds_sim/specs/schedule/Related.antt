-- When configurations of two kinds are related.
use Rattle.std.specs.Prelude.{◌≡◌, ◌≢◌, ℕ, true, List, [], ◌∷◌, Option, Some, slice_get, ⊤}
use Rattle.bds_host.specs.declared.asks.Ask.{Ask}
use Rattle.bds_host.specs.declared.asks.Ask.TheVariants as ask
use Rattle.bds_host.specs.declared.asks.Reply.{Reply}
use Rattle.bds_host.specs.declared.asks.Reply.TheVariants.{NoRoom, Done as Saved}
use Rattle.bds_host.specs.Asks.{fits}
use Rattle.bds_tasks.specs.declared.task.Task.{Task}
use Rattle.bds_rules.specs.declared.rule.Rule.{Rule}
use Rattle.bds_schedule.specs.Configuration.{Life, Ready, Waits, Closes, Ended, Thread, Mode, turn_of, Configuration}
use Rattle.bds_schedule.specs.Ids.{Id}
use Rattle.bds_schedule.specs.Requests.{ThreadAct}
use Rattle.bds_schedule.specs.Revive.{revived}
use Rattle.bds_schedule.specs.Stages.{End}
use Rattle.bds_schedule.specs.Steps.{Step, Goes, Asks, Ends}
use Rattle.bds_sim.specs.schedule.Agree.{IsPlain, Same}

-- all of a configuration but its threads
pub record Plain : Type 0 where
  pub path : List ℕ
  pub cpus : ℕ
  pub budget : ℕ
  pub used : ℕ
  pub tasks : List Task
  pub rules : List Rule
  pub mode : Mode

abbrev pub plain : {S : Type 0} → Configuration S → Plain
plain c = record { path = c.path; cpus = c.cpus; budget = c.budget; used = c.used; tasks = c.tasks; rules = c.rules; mode = c.mode }

module _ {S M : Type 0} (R F : S → M → Type 0) (source : S → ThreadAct S) (machine : M → ThreadAct M) where
  -- threads that go on are related, or both are where they leave their turn
  pub data Near (s : S) (m : M) : Type 0 where
    stands : R s m → Near s m
    leaves : Same R F (source s) (machine m) → Near s m

  pub data SameLife : Life S → Life M → Type 0 where
    ready : (s : S) (m : M) → Near s m → SameLife (Ready s) (Ready m)
    waits : (ids : List Id) (s : S) (m : M) → R s m → SameLife (Waits ids s) (Waits ids m)
    closes : (ids : List Id) (s : S) (m : M) → F s m → SameLife (Closes ids s) (Closes ids m)
    ended : SameLife Ended Ended

  -- as many threads, each with the same parent and the same life
  abbrev pub SameThreads : List (Thread S) → List (Thread M) → Type 0
  SameThreads [] [] = ⊤
  SameThreads (t ∷ ts) (u ∷ us) = (t.parent ≡ u.parent) × SameLife t.life u.life × SameThreads ts us
  SameThreads _ _ = ⊥

  -- a thread whose present step has got stamps is where it leaves its turn
  pub data IsNeeding : Option (Thread S) → Option (Thread M) → Type 0 where
    needing : (p p' : ℕ) (s : S) (m : M) → Same R F (source s) (machine m) → IsNeeding (Some (record { parent = p; life = Ready s })) (Some (record { parent = p'; life = Ready m }))

  abbrev pub AreNeeding : Mode → List (Thread S) → List (Thread M) → Type 0
  AreNeeding (turn_of k (x ∷ xs)) ts us = IsNeeding (slice_get ts k) (slice_get us k)
  AreNeeding _ ts us = ⊤

  -- all is equal but the threads, and these are related
  pub record Related (c : Configuration S) (d : Configuration M) : Type 0 where
    pub same : plain c ≡ plain d
    pub threads : SameThreads c.threads d.threads
    pub needing : AreNeeding c.mode c.threads d.threads

  module _ (bytes : List ℕ) (image : Configuration M → List ℕ) where
    -- asks that differ at most in the image of a save. That of the machine is the spelling of a configuration that is related to one of the source, and
    -- behind the reply both have what their saved ones have, but for what a restart changes
    pub data SameAsk : Ask → Ask → (Reply → Configuration S) → (Reply → Configuration M) → Type 0 where
      plainly : (a : Ask) (f : Reply → Configuration S) (g : Reply → Configuration M) → IsPlain a → SameAsk a a f g
      saves : (path : List ℕ) (c : Configuration S) (d : Configuration M) (f : Reply → Configuration S) (g : Reply → Configuration M) → Related c d
          → ((cpus budget : ℕ) → revived (f Saved) cpus budget ≡ revived c cpus budget) → ((cpus budget : ℕ) → revived (g Saved) cpus budget ≡ revived d cpus budget)
          → SameAsk (ask.Save path bytes) (ask.Save path (image d)) f g

    -- what related configurations do next: they go on related, make the same ask and are related behind each reply, or end alike
    pub data SameStep : Step (Configuration S) End → Step (Configuration M) End → Type 0 where
      go : (c : Configuration S) (d : Configuration M) → Related c d → SameStep (Goes c) (Goes d)
      make : (a b : Ask) (f : Reply → Configuration S) (g : Reply → Configuration M) → SameAsk a b f g
          → ((reply : Reply) → fits a reply ≡ true → reply ≢ NoRoom → Related (f reply) (g reply)) → SameStep (Asks a f) (Asks b g)
      end : (e : End) → SameStep (Ends e) (Ends e)
