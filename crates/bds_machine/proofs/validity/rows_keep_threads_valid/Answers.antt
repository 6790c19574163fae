use Rattle.bds_machine.proofs.Rows.{goes_well, stays_well}
use Rattle.bds_machine.proofs.validity.rows_keep_threads_valid.Goals as goal

pub returns : goal.returns
returns c = λ u v g s t live some. (goes_well u v g s t live some, λ g' s' t' e. let next = stays_well u v g s t live some g' s' t' e in (next.0, next.1))
