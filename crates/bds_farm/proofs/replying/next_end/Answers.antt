use Rattle.std.proofs.Common.{arith}
use Rattle.bds_farm.proofs.Asking.{empty_of, nothing_turn}
use Rattle.bds_farm.proofs.replying.next_end.Goals as goal

pub returns-in-empty : goal.returns-in-empty
returns-in-empty g c =
    λ submit. nothing_turn submit c.args.poll.now c.args.running.now _ _
    (empty_of c.args.running.now (omega (arith, c.in-empty.len_below)))
