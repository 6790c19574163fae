use Rattle.std.proofs.Common.{ap, ◌∷◌, [], subst, ◌≡◌, ◌++◌}
use Rattle.std.proofs.lemmas.Int.{to_z-of_z}
use Rattle.std.specs.Int.{w64}
use Rattle.std.specs.Prelude.{OnOk}
use Rattle.bds_replay.specs.Log.{IsFieldReply, reply_field, stamp_field}
use Rattle.bds_replay.proofs.Puts.{two_puts}
use Rattle.bds_replay.proofs.writing.put_reply.Goals as goal

pub returns-in_ok-put_u8-in-Stamp : goal.returns-in_ok-put_u8-in-Stamp
returns-in_ok-put_u8-in-Stamp c =
    let legal = subst IsFieldReply c.in-Stamp.is c.requires in
    two_puts c.args.out.now.items c.put_u8-in-Stamp.new.out.items c.put_stamp.new.out.items (2 ∷ [])
    (stamp_field ((c.in-Stamp.there, c.in-Stamp.size), c.in-Stamp.time)) (reply_field c.args.reply.now)
    c.put_stamp.result c.in_ok-put_u8-in-Stamp.ensures.ok (ap reply_field c.in-Stamp.is)
    (subst (λ z. OnOk c.put_stamp.result
    (c.put_stamp.new.out.items ≡ c.put_u8-in-Stamp.new.out.items
    ++ stamp_field ((c.in-Stamp.there, c.in-Stamp.size), z)))
    (to_z-of_z w64 c.in-Stamp.time legal.1) c.put_stamp.ensures)
