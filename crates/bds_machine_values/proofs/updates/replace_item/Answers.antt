use Rattle.std.proofs.Common.{[], ◌∷◌, IsSome, Ok, sym, subst}
use Rattle.std.proofs.lemmas.Int.{to_z-of_z}
use Rattle.std.specs.Int.{w64}
use Rattle.bds_value.specs.declared.value.Place.TheVariants.{Index}
use Rattle.bds_value.specs.declared.value.Value as values
use Rattle.bds_value.specs.declared.value.Value.TheVariants as value
use Rattle.bds_value.specs.Path.{put_index}
use Rattle.bds_value.specs.RunFaults.{put_fault}
use Rattle.bds_machine_values.specs.Faults.{Leaves, outcome}
use Rattle.bds_machine_values.specs.Results.{put_at}
use Rattle.bds_machine_values.proofs.Changing.{item_put, leaves_lifted}
use Rattle.bds_machine_values.proofs.Walks.{list_suits}
use Rattle.bds_machine_values.proofs.updates.replace_item.Goals as goal

pub returns : goal.returns
unfolding values.out-Value denote.Hole.Carrier.out
returns c =
    let i = c.args.index in
    let ty = c.in-List.field-0 in
    let items = c.in-List.items in
    let there = subst (λ v. IsSome (put_at (Index i ∷ []) v c.args.new)) c.in-List.is c.requires in
    let law = item_put i ty items c.args.new there in
    let given = rw c.in-List.items-is at c.put_item.ensures in
    let given' = rw (to_z-of_z w64 i c.ranges.index) at given in
    rw c.in-List.is (subst (λ o. Leaves o (value.List ty c.put_item.new.items) c.put_item.result) (sym law)
    (leaves_lifted (value.List ty) (outcome put_fault (put_index i items (λ w. Ok c.args.new))) c.put_item.new.items c.put_item.result given'))

pub unreachable-requires : goal.unreachable-requires
unreachable-requires c = let list = list_suits c.args.index c.args.value.now c.args.new c.requires in c.in_default.not-List list.0 list.1 list.2
