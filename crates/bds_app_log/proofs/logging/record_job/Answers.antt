use Rattle.bds_app_log.proofs.Lost.{recorded_job}
use Rattle.bds_app_log.proofs.logging.record_job.Goals as goal

pub returns : goal.returns
returns g c =
    recorded_job c.args.job.now g.K.Since.start _ _ _ _ _ c.new-recorder.ensures.log c.into_parts-replies.ensures.inner
    c.into_parts-replies.ensures.replies c.into_parts-replies.ensures.recorded c.run_job-came.ensures.does
