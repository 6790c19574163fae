use Rattle.std.proofs.Common.{arith}
use Rattle.bds_state_threads.proofs.Typing.{uneven, other_type, typed-more}
use Rattle.bds_state_threads.proofs.types.are_of.Goals as goal

pub returns-then-values-types : goal.returns-then-values-types
returns-then-values-types c = uneven c.args.values.now c.args.types.now c.if-values-types.true

pub returns-then-not-branch : goal.returns-then-not-branch
returns-then-not-branch c =
    other_type c.args.values.now c.args.types.now c.loop-i.i c.index-values-i.result c.index-types-i.result c.in_ok-has_type.field-0 c.loop-i-test.true (omega (arith, c.loop-i-test.true, c.if-values-types.false))
    c.index-values-i.is c.index-types-i.is c.in_ok-has_type.ensures c.if-not-branch.true

pub loop-i-preserved : goal.loop-i-preserved
loop-i-preserved c =
    typed-more c.args.values.now c.args.types.now c.loop-i.i c.index-values-i.result c.index-types-i.result c.in_ok-has_type.field-0 c.loop-i-test.true (omega (arith, c.loop-i-test.true, c.if-values-types.false))
    c.index-values-i.is c.index-types-i.is c.in_ok-has_type.ensures c.if-not-branch.false c.requires c.loop-i.invariant
