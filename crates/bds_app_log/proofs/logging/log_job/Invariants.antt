use Rattle.bds_app_log.proofs.logging.log_job.Given as goal

abbrev pub ghosts-record_job : goal.ghosts-record_job
ghosts-record_job g a = record { start = g.H.Host.log a.host }
