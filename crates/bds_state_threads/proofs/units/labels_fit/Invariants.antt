use Rattle.std.proofs.Common.{take}
use Rattle.std.specs.List.{All}
use Rattle.bds_state_threads.proofs.Wide.{LabelFits}
use Rattle.bds_state_threads.proofs.units.labels_fit.Given as goal

abbrev pub invariant-loop-label : goal.invariant-loop-label
invariant-loop-label l = All LabelFits (take l.label-index l.labels)
