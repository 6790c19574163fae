use Rattle.std.proofs.Common.{◌≡◌, ◌++◌, take}
use Rattle.std.specs.List.{flat_map}
use Rattle.bds_replay.specs.Log.{reply_field}
use Rattle.bds_replay.proofs.writing.put_each_reply.Given as goal

abbrev pub invariant-loop-reply : goal.invariant-loop-reply
invariant-loop-reply l = l.out.items ≡ l.fn.out.items ++ flat_map reply_field (take l.reply-index l.replies)
