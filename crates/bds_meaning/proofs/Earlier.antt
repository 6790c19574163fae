-- In each history a task needs earlier tasks alone.
use Rattle.std.proofs.Common.{map, sym, subst}
use Rattle.bds_host.specs.declared.asks.Reply.TheVariants as reply
use Rattle.bds_tasks.specs.Tasks.{revived_task}
use Rattle.bds_schedule.specs.Earlier.{NeedEarlier}
use Rattle.bds_meaning.specs.Earlier.{NeedsAreEarlier}
use Rattle.bds_meaning.specs.History.{Lives}
use Rattle.bds_meaning.specs.Run.{Program, Conf, Moves}
use Rattle.bds_schedule.specs.Stages.{End}
use Rattle.bds_schedule.specs.Steps.{Step, Goes, Asks}
use Rattle.bds_meaning.specs.Threads.{thread_step}
use Rattle.bds_schedule.proofs.Earlier.{Keeps, keeps_move, earlier_as, same_revived}

keeps_source : (program : Program) (c : Conf) (s : Step Conf End) → NeedEarlier c.tasks → Moves program c s → Keeps s
keeps_source program c s are (bytes, is) = subst (λ (u : Step Conf End). Keeps u) is (keeps_move program.files (λ saved. bytes) (thread_step program.functions) c c.mode are)

pub needs_are_earlier : (program : Program) → NeedsAreEarlier program
needs_are_earlier program start _ _ none Lives.opens = subst (λ ts. NeedEarlier ts) (sym none) tt
needs_are_earlier program start _ _ none (Lives.goes h c d lives moves) = keeps_source program c (Goes d) (needs_are_earlier program start c h none lives) moves
needs_are_earlier program start _ _ none (Lives.asks h c ask next reply lives moves answered) = keeps_source program c (Asks ask next) (needs_are_earlier program start c h none lives) moves reply
needs_are_earlier program start _ _ none (Lives.restarts h c path image next cpus budget lives moves) =
    earlier_as (next reply.Done).tasks (map revived_task (next reply.Done).tasks) (same_revived (next reply.Done).tasks)
    (keeps_source program c (Asks _ next) (needs_are_earlier program start c h none lives) moves reply.Done)
