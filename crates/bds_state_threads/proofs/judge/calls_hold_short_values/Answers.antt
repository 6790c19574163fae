use Rattle.bds_state_threads.proofs.Short.{short-slots, short-operands, short-text, short-list, short-map}
use Rattle.bds_state_threads.proofs.judge.calls_hold_short_values.Goals as goal

pub returns-clause-slots : goal.returns-clause-slots
returns-clause-slots c = short-slots

pub returns-clause-operands : goal.returns-clause-operands
returns-clause-operands c = short-operands

pub returns-clause-texts : goal.returns-clause-texts
returns-clause-texts c = short-text

pub returns-clause-lists : goal.returns-clause-lists
returns-clause-lists c = short-list

pub returns-clause-maps : goal.returns-clause-maps
returns-clause-maps c = short-map
