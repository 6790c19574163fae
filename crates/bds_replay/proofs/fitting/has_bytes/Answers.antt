use Rattle.std.proofs.Common.{arith, subst}
use Rattle.std.specs.List.{All}
use Rattle.bds_replay.specs.Log.{ReplyFits}
use Rattle.bds_replay.proofs.GivenReplies.{all_given}
use Rattle.bds_replay.proofs.fitting.has_bytes.Goals as goal

pub returns : goal.returns
returns c = record {
  job = c.requires.job;
  path = omega arith;
  count = omega arith;
  replies =
      all_given c.args.log.now.replies
      (subst (λ l. All ReplyFits l) c.as_slice.ensures c.all_fit.ensures) c.requires.given;
}
