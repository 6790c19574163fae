use Rattle.std.proofs.Common.{refl, subst, ◌≡◌, ◌++◌}
use Rattle.std.proofs.lemmas.Int.{to_z-of_z}
use Rattle.std.specs.Int.{w64}
use Rattle.std.specs.Prelude.{OnOk}
use Rattle.bds_value.specs.Spelling.{bool_field, i64_field, u64_field}
use Rattle.bds_replay.specs.Log.{stamp_field}
use Rattle.bds_replay.specs.Longs.{both_field}
use Rattle.bds_replay.proofs.Puts.{two_puts}
use Rattle.bds_replay.proofs.writing.put_stamp.Goals as goal

pub returns : goal.returns
returns c =
    two_puts c.args.out.now.items c.put_size.new.out.items c.put_i64.new.out.items
    (both_field bool_field u64_field (c.args.there, c.args.size)) (i64_field c.args.time)
    (stamp_field ((c.args.there, c.args.size), c.args.time)) c.put_i64.result c.in_ok-put_size.ensures refl
    (subst (λ z. OnOk c.put_i64.result (c.put_i64.new.out.items ≡ c.put_size.new.out.items ++ i64_field z))
    (to_z-of_z w64 c.args.time c.ranges.time) c.put_i64.ensures.ok)
