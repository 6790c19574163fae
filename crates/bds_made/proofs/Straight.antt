-- Runs of straight terms are never spent.
use Rattle.std.proofs.Common.{ℕ, List, subst}
use Rattle.bds_host.specs.Host.{Log}
use Rattle.bds_meaning.specs.Run.{Program, Conf, Moves, source_move}
use Rattle.bds_meaning.specs.Threads.{thread_step}
use Rattle.bds_schedule.specs.Steps.{Step, Leads}
use Rattle.bds_schedule.specs.Stages.{End}
use Rattle.bds_made.specs.Runs.{AreStraightNeverSpent}
use Rattle.bds_made.specs.Straight.{IsStraight, AreStraight}
use Rattle.bds_made.proofs.Calm.{thread_idle}
use Rattle.bds_made.proofs.Idle.{KeepsIdle, move_idle}

module _ (program : Program) where
  source_idle : (bytes : List ℕ) (c : Conf) → AreStraight c → KeepsIdle IsStraight (source_move program bytes c)
  source_idle bytes c straight =
      move_idle IsStraight program.files (λ saved. bytes) (thread_step program.functions) c straight
      (thread_idle program.functions)

  pub stays_straight : (c : Conf) (s : Step Conf End) → Moves program c s → AreStraight c → KeepsIdle IsStraight s
  stays_straight c s m straight = subst (KeepsIdle IsStraight) m.1 (source_idle m.0 c straight)

  leads_straight : (from : Conf) (before : Log) (c : Conf) (after : Log) → AreStraight from
      → Leads (Moves program) from before c after → AreStraight c
  leads_straight from before _ _ straight Leads.here = straight
  leads_straight from before _ _ straight (Leads.goes s t log leads m) =
      stays_straight s _ m (leads_straight from before s log straight leads)
  leads_straight from before _ _ straight (Leads.asks s log after a next r leads m answered) =
      stays_straight s _ m (leads_straight from before s log straight leads) r

pub never_spent : AreStraightNeverSpent
never_spent program from before after straight comes =
    stays_straight program comes.0 _ comes.2 (leads_straight program from before comes.0 after straight comes.1) tt
