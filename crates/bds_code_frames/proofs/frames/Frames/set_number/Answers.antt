use Rattle.std.proofs.Common.{◌<◌, ◌+◌, take, drop, slice_set, Some, sym, ap, subst, ◌∙◌, w64}
use Rattle.std.proofs.lemmas.Int.{to_z-of_z}
use Rattle.bds_value.specs.declared.value.Value.TheVariants as value
use Rattle.bds_code_frames.specs.Laid.{frames_of}
use Rattle.bds_code_frames.specs.Stack.{stack, slot_at}
use Rattle.bds_code_frames.proofs.Steps.{laid-some, slot-in, slot-is, swapped-is}
use Rattle.bds_code_frames.proofs.Newest.{apart, defined_newest, there_within}
use Rattle.bds_code_frames.proofs.frames.Frames.set_number.Goals as goal

pub index_mut-requires : goal.index_mut-requires
index_mut-requires c =
    let l = laid-some c.self.inside.values.items c.self.inside.below.items c.self.inside.newest c.head-head.result c.head-head.ensures c.self.invariant in
    let defined = there_within (drop c.head-head.result.slots (take c.head-head.result.operands c.self.inside.values.items)) c.args.slot (defined_newest c.self.inside.values.items c.self.inside.below.items c.args.self.now c.self.inside.newest c.head-head.result c.self.view_is c.head-head.ensures (slot_at c.args.slot) c.requires) in
    subst (λ n. c.head-head.result.slots + c.args.slot < n) (sym c.self.inside.values.ok.0) (slot-in c.self.inside.values.items c.head-head.result c.args.slot l.3 defined)

pub returns-clause-done : goal.returns-clause-done
returns-clause-done c done =
    let l = laid-some c.self.inside.values.items c.self.inside.below.items c.self.inside.newest c.head-head.result c.head-head.ensures c.self.invariant in
    let defined = there_within (drop c.head-head.result.slots (take c.head-head.result.operands c.self.inside.values.items)) c.args.slot (defined_newest c.self.inside.values.items c.self.inside.below.items c.args.self.now c.self.inside.newest c.head-head.result c.self.view_is c.head-head.ensures (slot_at c.args.slot) c.requires) in
    let at = c.head-head.result.slots + c.args.slot in
    let ws = slice_set c.self.inside.values.items at c.put_number.new.place in (
      c.index_mut.result.now,
      swapped-is c.self.inside.values.items ws c.self.inside.below.items c.args.self.now c.self.inside.newest c.head-head.result c.args.slot (value.Int c.args.n) c.index_mut.result.now c.self.view_is c.head-head.ensures c.self.invariant defined c.index_mut.ensures.value (ap (slice_set c.self.inside.values.items at) ((c.put_number.ensures.done done).0 ∙ ap value.Int (to_z-of_z w64 c.args.n c.ranges.n)))
          ∙ ap (λ o. Some (c.index_mut.result.now, stack (frames_of ws c.self.inside.below.items o))) (sym c.head-head.ensures),
      (c.put_number.ensures.done done).1,
    )

pub returns-clause-other : goal.returns-clause-other
returns-clause-other c other =
    let l = laid-some c.self.inside.values.items c.self.inside.below.items c.self.inside.newest c.head-head.result c.head-head.ensures c.self.invariant in
    let defined = there_within (drop c.head-head.result.slots (take c.head-head.result.operands c.self.inside.values.items)) c.args.slot (defined_newest c.self.inside.values.items c.self.inside.below.items c.args.self.now c.self.inside.newest c.head-head.result c.self.view_is c.head-head.ensures (slot_at c.args.slot) c.requires) in (
      c.index_mut.result.now,
      ap (slot_at c.args.slot) (apart c.self.inside.values.items c.self.inside.below.items c.args.self.now c.self.inside.newest c.head-head.result c.self.view_is c.head-head.ensures) ∙ slot-is c.self.inside.values.items c.head-head.result c.args.slot c.index_mut.result.now l.3 defined c.index_mut.ensures.value,
      (c.put_number.ensures.same other).1,
    )
