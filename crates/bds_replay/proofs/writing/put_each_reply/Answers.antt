use Rattle.bds_replay.specs.Log.{reply_field}
use Rattle.bds_value.proofs.Growing.{put_more}
use Rattle.bds_replay.proofs.writing.put_each_reply.Goals as goal

pub loop-reply-preserved : goal.loop-reply-preserved
loop-reply-preserved c =
    put_more reply_field c.args.replies.now c.loop-reply.reply-index c.reply-item.result c.args.out.now.items
    c.loop-reply.out.items c.put_reply.new.out.items c.loop-reply-test.true c.reply-item.is c.loop-reply.invariant
    c.in_ok-put_reply.ensures
