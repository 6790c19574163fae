use Rattle.std.proofs.Common.{[]}
use Rattle.bds_meaning.specs.Begin.{Reading}
use Rattle.bds_app_run.proofs.Saves.{saves_on}
use Rattle.bds_app_run.proofs.scripts.run_script.Goals as goal

pub returns-clause-does : goal.returns-clause-does
returns-clause-does g c = c.conclude.ensures.does c.args.call _ c.load_and_run-came.ensures.reaches

pub returns-clause-saves : goal.returns-clause-saves
returns-clause-saves g c = saves_on c.args.call _ _ _ c.load_and_run-came.result (Reading []) c.load_and_run-came.ensures.reaches c.load_and_run-came.ensures.saves c.conclude.ensures.quiet
