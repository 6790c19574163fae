use Rattle.std.proofs.Common.{[], ◌∷◌, IsSome, Ok, sym, subst}
use Rattle.bds_value.specs.declared.value.Place.TheVariants.{Key}
use Rattle.bds_value.specs.declared.value.Value as values
use Rattle.bds_value.specs.declared.value.Value.TheVariants as value
use Rattle.bds_value.specs.Path.{put_key}
use Rattle.bds_value.specs.RunFaults.{put_fault}
use Rattle.bds_machine_values.specs.Faults.{Leaves, outcome}
use Rattle.bds_machine_values.specs.Results.{put_at}
use Rattle.bds_machine_values.proofs.Changing.{entry_put, leaves_lifted}
use Rattle.bds_machine_values.proofs.Walks.{map_suits}
use Rattle.bds_machine_values.proofs.updates.replace_entry.Goals as goal

pub returns : goal.returns
unfolding values.out-Value denote.Hole.Carrier.out
returns c =
    let k = c.args.key in
    let ty = c.in-Map.field-0 in
    let ps = c.in-Map.pairs in
    let there = subst (λ v. IsSome (put_at (Key k ∷ []) v c.args.new)) c.in-Map.is c.requires in
    let law = entry_put k ty ps c.args.new there in
    let given = rw c.in-Map.pairs-is at c.put_new.ensures in
    rw c.in-Map.is (subst (λ o. Leaves o (value.Map ty c.put_new.new.pairs) c.put_new.result) (sym law)
    (leaves_lifted (value.Map ty) (outcome put_fault (put_key k ps [] c.args.new (λ w. Ok c.args.new))) c.put_new.new.pairs c.put_new.result given))

pub unreachable-requires : goal.unreachable-requires
unreachable-requires c = let map = map_suits c.args.key c.args.value.now c.args.new c.requires in c.in_default.not-Map map.0 map.1 map.2
