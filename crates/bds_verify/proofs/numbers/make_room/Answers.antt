use Rattle.std.proofs.Common.{arith}
use Rattle.bds_verify.proofs.numbers.make_room.Goals as goal

pub returns-then-len-saturating_add-clause-short : goal.returns-then-len-saturating_add-clause-short
returns-then-len-saturating_add-clause-short c = omega (arith, c.no_numbers.ensures.none)

pub returns-then-len-saturating_add-clause-kept : goal.returns-then-len-saturating_add-clause-kept
returns-then-len-saturating_add-clause-kept c = λ labels shape h. c.no_numbers.ensures.knows labels shape
