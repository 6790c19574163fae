use Rattle.std.proofs.Common.{take}
use Rattle.std.specs.List.{All}
use Rattle.bds_replay.specs.Log.{ReplyFits}
use Rattle.bds_replay.proofs.fitting.all_fit.Given as goal

abbrev pub invariant-loop-reply : goal.invariant-loop-reply
invariant-loop-reply l = All ReplyFits (take l.reply-index l.replies)
