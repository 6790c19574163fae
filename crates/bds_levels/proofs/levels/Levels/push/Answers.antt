use Rattle.std.proofs.Common.{◌<◌, ◌+◌, ℕ, List, length, slice_set, rules, subst, sym}
use Rattle.bds_levels.specs.Least.{AreNever}
use Rattle.bds_levels.proofs.RoomLaws.{next_never}
use Rattle.bds_levels.proofs.levels.Levels.push.Goals as goal

pub invariant_of-self-2 : goal.invariant_of-self-2
invariant_of-self-2 c =
    let count = c.self.inside.count in
    let numbers = c.make_room.new.lowest in
    let room : count < length numbers = search rules in
    let new : AreNever (count + 1) (slice_set numbers count c.args.number) =
    next_never count c.args.number numbers room c.in_ok-make_room.ensures.never in (
      c.put.ensures.above,
      subst (λ (ns : List ℕ). AreNever c.next-count.result ns) (sym c.put.ensures.lowest)
          (subst (λ (k : ℕ). AreNever k (slice_set numbers count c.args.number)) (sym c.next-count.ensures) new),
    )
