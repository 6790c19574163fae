use Rattle.std.proofs.Common.{rules, ◌≡◌, ◌≤◌, ℕ, pos, length, slice_set, IsSome, Option, None, List, ◌∷◌, false, refl, ap, subst, sym, ◌∙◌, arith}
use Rattle.std.proofs.lemmas.Int.{to_z-of_z}
use Rattle.std.specs.Int.{w64}
use Rattle.bds_value.specs.declared.value.Place.TheVariants.{Index, Key}
use Rattle.bds_value.specs.declared.value.Value.{Value}
use Rattle.bds_value.specs.declared.value.Value as values
use Rattle.bds_value.specs.declared.value.Value.TheVariants as value
use Rattle.bds_value.specs.Path.{at_key, set_key}
use Rattle.bds_value.proofs.PutLaws.{at_set, set_twice}
use Rattle.bds_machine_values.specs.Faults.{Leaves}
use Rattle.bds_machine_values.specs.Changes.{part_after}
use Rattle.bds_machine_values.specs.Results.{with_part}
use Rattle.bds_machine_values.proofs.Changing.{some_lifted, leaves_lifted, index_there, index_gone, key_there, key_missing, told_fault}
use Rattle.bds_machine_values.proofs.Keys.{missing}
use Rattle.bds_machine_values.proofs.Updating.{changed_here}
use Rattle.bds_machine_values.proofs.updates.+change.Goals as goal

pub change_at-change_part-requires : goal.change_at-change_part-requires
change_at-change_part-requires t c = changed_here (part_after c.args.change) c.args.path.now c.args.value.now (grind arith) c.requires

pub change_at_index-returns : goal.change_at_index-returns
unfolding values.out-Value denote.Hole.Carrier.out
change_at_index-returns t c =
    let e = rw c.in-List.items-is at c.change_item.ensures c.in-List.field-0 in
    let e' = rw (to_z-of_z w64 c.args.index c.ranges.index) at e in
    rw c.in-List.is e'

pub change_at_key-returns : goal.change_at_key-returns
unfolding values.out-Value denote.Hole.Carrier.out
change_at_key-returns t c =
    let e = rw c.in-Map.pairs-is at c.change_entry.ensures c.in-Map.field-0 in
    rw c.in-Map.is e

pub change_own_item-change_at-requires : goal.change_own_item-change_at-requires
change_own_item-change_at-requires t c =
    let is_at : c.args.index ≡ pos c.in-Some.at = search rules in
    let law = index_there (part_after c.args.change) c.args.index c.in-Some.at c.args.rest.now c.requires.0 c.args.items.now c.at_mut.result.now is_at c.at_mut.ensures.value in
    (search rules, some_lifted _ _ (subst IsSome law c.requires.1))

pub change_own_item-returns-in-Some : goal.change_own_item-returns-in-Some
change_own_item-returns-in-Some t c = λ ty.
    let is_at : c.args.index ≡ pos c.in-Some.at = search rules in
    let law = index_there (part_after c.args.change) c.args.index c.in-Some.at c.args.rest.now ty c.args.items.now c.at_mut.result.now is_at c.at_mut.ensures.value in
    subst (λ o. Leaves o (value.List ty (slice_set c.args.items.now c.in-Some.at c.change_at.new.value)) c.change_at.result) (sym law)
    (leaves_lifted (λ y. value.List ty (slice_set c.args.items.now c.in-Some.at y)) (with_part (part_after c.args.change) c.args.rest.now c.at_mut.result.now) c.change_at.new.value c.change_at.result c.change_at.ensures)

pub change_own_item-returns-in-None : goal.change_own_item-returns-in-None
change_own_item-returns-in-None t c = λ ty.
    let gone : (n : ℕ) → c.args.index ≡ pos n → length c.args.items.now ≤ n = search rules in
    let law = index_gone (part_after c.args.change) c.args.index c.args.rest.now ty c.args.items.now gone in
    told_fault _ _ (value.List ty c.args.items.now) _ law (rw (to_z-of_z w64 c.args.index c.ranges.index, c.len-length.ensures) at c.fault_of.ensures)

pub change_own_entry-returns-else-is_some : goal.change_own_entry-returns-else-is_some
change_own_entry-returns-else-is_some t c = λ ty.
    let gone : at_key c.args.key.now c.args.pairs.now ≡ None = missing c.get.result (at_key c.args.key.now c.args.pairs.now) c.if-is_some.ensures c.get.ensures in
    let law = key_missing (part_after c.args.change) c.args.key.now c.args.rest.now ty c.args.pairs.now gone in
    told_fault _ _ (value.Map ty c.args.pairs.now) _ law c.no_key.ensures

pub change_held-change_at-changed-requires : goal.change_held-change_at-changed-requires
change_held-change_at-changed-requires t c =
    let law = key_there (part_after c.args.change) c.args.key.now c.args.rest.now c.requires.fits.0 c.args.pairs.now c.swap-held.result c.swap-held.ensures.old in
    (search rules, some_lifted _ _ (subst IsSome law c.requires.fits.1))

pub change_held-swap-requires : goal.change_held-swap-requires
change_held-swap-requires t c =
    let there = at_set c.args.key.now c.args.pairs.now (value.Bool false) c.swap-held.result c.swap-held.ensures.old in
    subst (λ (ps : List (List ℕ × Value)). IsSome (at_key c.args.key.now ps)) (sym c.swap-held.ensures.new) (subst (λ (o : Option Value). IsSome o) (sym there) refl)

pub change_held-returns : goal.change_held-returns
change_held-returns t c = λ ty.
    let k = c.args.key.now in
    let ps = c.args.pairs.now in
    let y = c.change_at-changed.new.value in
    let law = key_there (part_after c.args.change) k c.args.rest.now ty ps c.swap-held.result c.swap-held.ensures.old in
    subst (λ (qs : List (List ℕ × Value)). Leaves (with_part (part_after c.args.change) (Key k ∷ c.args.rest.now) (value.Map ty ps)) (value.Map ty qs) c.change_at-changed.result) (sym (c.swap.ensures.new ∙ ap (set_key k y) c.swap-held.ensures.new ∙ set_twice k ps (value.Bool false) y))
    (subst (λ o. Leaves o (value.Map ty (set_key k y ps)) c.change_at-changed.result) (sym law)
    (leaves_lifted (λ z. value.Map ty (set_key k z ps)) (with_part (part_after c.args.change) c.args.rest.now c.swap-held.result) y c.change_at-changed.result c.change_at-changed.ensures))

pub change_item-returns-in-Some : goal.change_item-returns-in-Some
change_item-returns-in-Some t c = λ ty.
    let e = rw (to_z-of_z w64 c.args.index c.ranges.index) at c.change_own_item.ensures ty in
    subst (λ (xs : List Value). Leaves (with_part (part_after c.args.change) (Index c.args.index ∷ c.args.rest.now) (value.List ty xs)) (value.List ty c.change_own_item.new.items) c.change_own_item.result)
    (c.in-Some.ensures.value ∙ c.unshare_items.ensures) e

pub change_entry-returns-in-Some : goal.change_entry-returns-in-Some
change_entry-returns-in-Some t c = λ ty.
    subst (λ (ps : List (List ℕ × Value)). Leaves (with_part (part_after c.args.change) (Key c.args.key.now ∷ c.args.rest.now) (value.Map ty ps)) (value.Map ty c.change_own_entry.new.pairs) c.change_own_entry.result)
    (c.in-Some.ensures.value ∙ c.unshare_entries.ensures) (c.change_own_entry.ensures ty)
