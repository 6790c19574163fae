use Rattle.std.proofs.Common.{rules, ◌≡◌, ◌<◌, ◌≤◌, ℕ, pos, length}
use Rattle.std.proofs.lemmas.Int.{to_z-of_z}
use Rattle.std.specs.Int.{w64}
use Rattle.bds_machine_values.proofs.Changing.{put_there, put_gone, told_fault}
use Rattle.bds_machine_values.proofs.updates.put_own_item.Goals as goal

pub returns-in-Some : goal.returns-in-Some
returns-in-Some c =
    let is_at : c.args.index ≡ pos c.in-Some.at = search rules in
    let inside : c.in-Some.at < length c.args.items.now = search rules in
    rw c.set.ensures (put_there c.args.index c.in-Some.at c.args.items.now c.args.new is_at inside)

pub returns-in-None : goal.returns-in-None
returns-in-None c =
    let gone : (n : ℕ) → c.args.index ≡ pos n → length c.args.items.now ≤ n = search rules in
    let law = put_gone c.args.index c.args.items.now c.args.new gone in
    told_fault _ _ c.args.items.now _ law (rw (to_z-of_z w64 c.args.index c.ranges.index, c.len-length.ensures) at c.fault_of.ensures)
