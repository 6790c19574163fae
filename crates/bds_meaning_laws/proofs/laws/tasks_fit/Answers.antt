use Rattle.bds_meaning_laws.proofs.Room.{tasks_have_room}
use Rattle.bds_meaning_laws.proofs.laws.tasks_fit.Goals as goal

pub returns : goal.returns
returns c = tasks_have_room
