use Rattle.bds_app_log.proofs.replaying.replay.Given as goal

abbrev pub ghosts-replay_job : goal.ghosts-replay_job
ghosts-replay_job g a = record { given = a.replies }
