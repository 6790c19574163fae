use Rattle.std.proofs.Common.{inr, arith}
use Rattle.std.proofs.Math.Logic.{⊎_map}
use Rattle.bds_exec.proofs.FirstLines.{read_long, read_none}
use Rattle.bds_exec.proofs.line.read_line.Goals as goal

pub returns-in_default-clause-line : goal.returns-in_default-clause-line
returns-in_default-clause-line g c =
    let left = g.T.Read.remaining in
    let so_far = c.loop.invariant in
    ⊎_map (λ so. so)
    (λ end. read_none (left c.args.source.now) (left c.loop.source) c.loop.line.items so_far.bytes so_far.whole end)
    (rw c.in_default.is at c.in_ok-byte.ensures.given_up)

pub returns-clause-line : goal.returns-clause-line
returns-clause-line g c =
    let left = g.T.Read.remaining in
    let so_far = c.loop.invariant in
    inr (read_long (left c.args.source.now) (left c.loop.source) c.loop.line.items so_far.bytes so_far.whole
    (omega (arith, so_far.many, c.loop-test.false)))
