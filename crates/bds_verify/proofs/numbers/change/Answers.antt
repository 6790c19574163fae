use Rattle.std.proofs.Common.{◌≤◌, ◌-◌, length, arith}
use Rattle.std.proofs.lemmas.Grind.{common_steps}
use Rattle.bds_verify.proofs.NumberedLaws.{stays}
use Rattle.bds_verify.proofs.numbers.change.Goals as goal

pub returns-in-Ok-clause-knows : goal.returns-in-Ok-clause-knows
returns-in-Ok-clause-knows c = λ labels h.
    let n = c.cut.new.numbers in
    let k = c.cut.ensures.kept labels c.args.shape.now h in
    let short : n.length ≤ length c.effect_in.new.shape - 1 =
    grind (arith, common_steps, c.cut.ensures.short, c.saturating_sub.ensures, c.len.ensures) in
    (stays n.lists.nodes n.number n.length c.args.shape.now c.effect_in.new.shape c.in-Ok.ensures.front short k.0, k.1)
