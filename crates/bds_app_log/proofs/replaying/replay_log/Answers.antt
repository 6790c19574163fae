use Rattle.bds_app_log.proofs.Same.{replayed_same}
use Rattle.bds_app_log.proofs.replaying.replay_log.Goals as goal

pub returns-clause-same : goal.returns-clause-same
returns-clause-same g c = replayed_same c.job_has_one_step.ensures c.ends_have_causes.ensures
    c.states_are_read_back.ensures.one _ _ _ _ c.replay_file.ensures
