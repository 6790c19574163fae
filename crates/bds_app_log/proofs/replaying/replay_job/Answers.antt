use Rattle.bds_app_log.proofs.Replayed.{done_again}
use Rattle.bds_app_log.proofs.replaying.replay_job.Goals as goal

pub conclude-requires : goal.conclude-requires
conclude-requires g c = c.run_job-came.ensures.words

pub returns : goal.returns
returns g c =
    c.conclude.ensures (record { job = c.args.job.now; replies = c.args.replies }) _
    (done_again c.args.job.now c.args.replies g.K.Given.given _ _ _ _ c.new-again.ensures.log c.trace.ensures c.requires.given
    c.run_job-came.ensures.does c.is_replayed.ensures)
    c.is_used_up.ensures.used c.is_used_up.ensures.left
