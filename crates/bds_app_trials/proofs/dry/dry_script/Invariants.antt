use Rattle.bds_app_trials.proofs.dry.dry_script.Given as goal

abbrev pub ghosts-run_inside : goal.ghosts-run_inside
ghosts-run_inside g a = record { start = g.H.Host.log a.host }
