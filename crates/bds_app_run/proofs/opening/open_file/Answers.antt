use Rattle.bds_app_run.specs.Resume.{HoldsNone}
use Rattle.bds_app_run.proofs.opening.open_file.Goals as goal

pub returns-in-Ok-Some : goal.returns-in-Ok-Some
returns-in-Ok-Some g c = c.load_state.ensures _ _ (rw c.in-Ok-Some.field-0-is at c.in-Ok-Some.ensures)

pub returns-in-Ok-None : goal.returns-in-Ok-None
returns-in-Ok-None g c = HoldsNone.missing (rw c.in-Ok-None.field-0-is at c.in-Ok-None.ensures)

pub returns-in-Err : goal.returns-in-Err
returns-in-Err g c = c.unread.ensures c.args.path _ _ c.in-Err.ensures
