use Rattle.std.specs.Prelude.{[]}
use Rattle.bds_rows_hosts.proofs.farms.runs_with.Given as goal

abbrev pub ghosts-runs : goal.ghosts-runs
ghosts-runs a = record { start = []; submit = a.submit; poll = a.poll }
