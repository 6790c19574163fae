use Rattle.std.proofs.Common.{take}
use Rattle.std.specs.List.{All}
use Rattle.bds_state.specs.Valid.{IsThere}
use Rattle.bds_state.proofs.judge.all_there.Given as goal

abbrev pub invariant-loop-i : goal.invariant-loop-i
invariant-loop-i l = All (IsThere l.tasks l.threads) (take l.i l.ids)
