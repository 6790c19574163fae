use Rattle.bds_app_farm.proofs.farming.farm_job.Given as goal

abbrev pub ghosts-run_over : goal.ghosts-run_over
ghosts-run_over g a = record { start = g.H.Host.log a.host; submit = a.submit; poll = a.poll }
