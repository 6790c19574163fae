use Rattle.std.proofs.Common.{◌∙◌, inr, sym}
use Rattle.bds_app_run.specs.Resume.{HoldsNone}
use Rattle.bds_app_run.proofs.Commands.{none_loaded}
use Rattle.bds_app_run.proofs.opening.fault_of.Goals as goal

pub returns-then-is_want : goal.returns-then-is_want
returns-then-is_want c = λ before after bytes answered gives. inr (bytes, answered)

pub returns-else-is_want : goal.returns-else-is_want
returns-else-is_want c = λ before after bytes answered gives.
    HoldsNone.not_loadable bytes answered (λ s l. none_loaded s c.args.fault (sym c.is_want.ensures ∙ c.if-is_want.false) (gives s l))
