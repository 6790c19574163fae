use Rattle.std.proofs.Common.{◌≤◌, ◌∙◌, ℕ, List, Option, ap, length, subst, sym}
use Rattle.std.specs.List.{insert}
use Rattle.bds_tasks.specs.declared.schedule.Schedule.{Schedule}
use Rattle.bds_tasks.specs.Kept.{MayHaveSchedule, position}
use Rattle.bds_tasks.proofs.KeptLaws.{started_kept}
use Rattle.bds_tasks.proofs.ReadLaws.{position_short}
use Rattle.bds_tasks.proofs.keeping.with_started.Goals as goal

pub insert-requires : goal.insert-requires
insert-requires c =
    let running : List ℕ = c.in-Some.schedule.running in
    let at = c.position-at.ensures ∙ ap (λ (ns : List ℕ). position c.args.n ns) c.as_slice.ensures in
    subst (λ k. k ≤ length running) (sym at) (position_short c.args.n running)

pub returns-in-Ok : goal.returns-in-Ok
returns-in-Ok c = λ ts one waits cpus may.
    let n = c.args.n in
    let s = c.in-Some.schedule in
    let kept = started_kept n c.args.cpus ts one waits cpus s (subst (λ (o : Option Schedule). MayHaveSchedule ts o) c.in-Some.is may) in
    let at = c.position-at.ensures ∙ ap (λ (ns : List ℕ). position n ns) c.as_slice.ensures in
    record {
      counted = kept.counted;
      users = kept.users;
      keyed = c.put.ensures ∙ kept.keyed;
      going = c.in-Ok.ensures.ok ∙ ap (λ i. insert s.running i n) at ∙ kept.going;
      summed = kept.summed;
      lost = kept.lost;
    }
