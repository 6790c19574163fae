use Rattle.bds_meaning_laws.proofs.Histories.{starts_behind_needs}
use Rattle.bds_meaning_laws.proofs.laws.tasks_start_behind_needs.Goals as goal

pub returns : goal.returns
returns c = starts_behind_needs
