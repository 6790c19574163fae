-- The law of related configurations: a run of one is a run of the other.
use Rattle.std.specs.Prelude.{◌≡◌, ◌≢◌, ℕ, true, List, [], map}
use Rattle.bds_host.specs.declared.asks.Ask.{Ask}
use Rattle.bds_host.specs.declared.asks.Ask.TheVariants as ask
use Rattle.bds_host.specs.declared.asks.Reply.{Reply}
use Rattle.bds_host.specs.declared.asks.Reply.TheVariants.{NoRoom}
use Rattle.bds_host.specs.Asks.{fits}
use Rattle.bds_host.specs.Host.{Log}
use Rattle.bds_schedule.specs.Configuration.{Configuration, IsOnWay}
use Rattle.bds_schedule.specs.Moves.{move}
use Rattle.bds_schedule.specs.Requests.{ThreadAct}
use Rattle.bds_schedule.specs.Revive.{revived}
use Rattle.bds_schedule.specs.Stages.{End}
use Rattle.bds_schedule.specs.Steps.{Step, Asks, Ends, Leads}
use Rattle.bds_sim.specs.schedule.Agree.{Agree}
use Rattle.bds_sim.specs.schedule.Related.{Related, SameAsk}

-- what a configuration does next, where a state may be saved as any bytes
abbrev pub Any : {S : Type 0} → List (List ℕ) → (S → ThreadAct S) → Configuration S → Step (Configuration S) End → Type 0
Any files step c s = (bytes : List ℕ) × (move files (λ saved. bytes) step c ≡ s)

-- and where it is saved as its spelling
abbrev pub Its : {M : Type 0} → List (List ℕ) → (Configuration M → List ℕ) → (M → ThreadAct M) → Configuration M → Step (Configuration M) End → Type 0
Its files image step d s = move files image step d ≡ s

abbrev pub without_image : Ask → Ask
without_image (ask.Save path image) = ask.Save path []
without_image a = a

-- asks and replies, but for images
abbrev pub without_images : Log → Log
without_images log = map (λ p. (without_image p.0, p.1)) log

module _ {S M : Type 0} (R F : S → M → Type 0) (source : S → ThreadAct S) (machine : M → ThreadAct M) (files : List (List ℕ)) (image : Configuration M → List ℕ) where
  abbrev pub Rel : Configuration S → Configuration M → Type 0
  Rel c d = Related R F source machine c d

  abbrev pub SourceLeads : Configuration S → Log → Configuration S → Log → Type 0
  SourceLeads c before c' after = Leads (Any files source) c before c' after

  abbrev pub MachineLeads : Configuration M → Log → Configuration M → Log → Type 0
  MachineLeads d before d' after = Leads (Its files image machine) d before d' after

  -- both make this ask next, and behind each reply they are related
  pub record BothAsk (c' : Configuration S) (a : Ask) (f : Reply → Configuration S) (b : Ask) (g : Reply → Configuration M) : Type 0 where
    pub bytes : List ℕ
    pub asks : move files (λ saved. bytes) source c' ≡ Asks a f
    pub same : SameAsk R F source machine bytes image a b f g
    pub related : (reply : Reply) → fits a reply ≡ true → reply ≢ NoRoom → Rel (f reply) (g reply)

  -- whatever the machine does, the source does: its steps, asks, images and ends are those of a run of the source
  pub record Only (c : Configuration S) (d : Configuration M) : Type 0 where
    pub goes : (before after : Log) (d' : Configuration M) → MachineLeads d before d' after → (c' : Configuration S) × SourceLeads c before c' after × (IsOnWay d'.mode → IsOnWay c'.mode)
    pub asks : (before after : Log) (d' : Configuration M) (a : Ask) (g : Reply → Configuration M) → MachineLeads d before d' after → Its files image machine d' (Asks a g)
        → (c' : Configuration S) × ((f : Reply → Configuration S) × SourceLeads c before c' after × BothAsk c' a f a g)
    pub ends : (before after : Log) (d' : Configuration M) (e : End) → MachineLeads d before d' after → Its files image machine d' (Ends e)
        → (c' : Configuration S) × SourceLeads c before c' after × Any files source c' (Ends e)

  -- what the machine has done, with the source's asks and replies
  pub record HasDone (c' : Configuration S) (d : Configuration M) (before' after : Log) : Type 0 where
    pub d' : Configuration M
    pub after' : Log
    pub leads : MachineLeads d before' d' after'
    pub same : without_images after ≡ without_images after'

  -- whatever the source does, the machine does, but for images
  pub record Does (c : Configuration S) (d : Configuration M) : Type 0 where
    pub goes : (before after before' : Log) (c' : Configuration S) → SourceLeads c before c' after → without_images before ≡ without_images before' → HasDone c' d before' after
    pub asks : (before after before' : Log) (c' : Configuration S) (a : Ask) (f : Reply → Configuration S) → SourceLeads c before c' after → without_images before ≡ without_images before' → Any files source c' (Asks a f)
        → (w : HasDone c' d before' after) × ((b : Ask) × ((g : Reply → Configuration M) × Its files image machine w.d' (Asks b g) × BothAsk c' a f b g))
    pub ends : (before after before' : Log) (c' : Configuration S) (e : End) → SourceLeads c before c' after → without_images before ≡ without_images before' → Any files source c' (Ends e)
        → (w : HasDone c' d before' after) × Its files image machine w.d' (Ends e)

  -- the law of runs, and that it holds behind a restart
  pub record Law (c : Configuration S) (d : Configuration M) : Type 0 where
    pub only : Only c d
    pub does : Does c d
    pub revives : (cpus budget : ℕ) → Rel (revived c cpus budget) (revived d cpus budget)

  abbrev pub RunsAgree : Type 0
  RunsAgree = Agree R F source machine → (c : Configuration S) → (d : Configuration M) → Rel c d → Law c d
