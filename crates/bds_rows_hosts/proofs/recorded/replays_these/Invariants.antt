use Rattle.bds_rows_hosts.proofs.recorded.replays_these.Given as goal

abbrev pub ghosts-replays : goal.ghosts-replays
ghosts-replays a = record { given = a.given }
