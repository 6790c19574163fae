use Rattle.std.proofs.Common.{◌+ℤ◌, ◌-ℤ◌, ◌*ℤ◌, ap, ◌∙◌}
use Rattle.bds_value.specs.declared.value.Value.TheVariants as value
use Rattle.bds_machine.specs.Stretches.{computed}
use Rattle.bds_machine.proofs.Numbering.{wrapped, sum, difference, product}
use Rattle.bds_machine.proofs.numbers.computed.Goals as goal

pub returns-in-Add : goal.returns-in-Add
returns-in-Add c =
    ap (λ i. computed i (value.Int c.args.a) (value.Int c.args.b)) c.in-Add.is ∙ sum c.args.a c.args.b ∙ wrapped ◌+ℤ◌ c.args.a c.args.b c.add.result c.ranges.a c.ranges.b c.add.ensures

pub returns-in-Sub : goal.returns-in-Sub
returns-in-Sub c =
    ap (λ i. computed i (value.Int c.args.a) (value.Int c.args.b)) c.in-Sub.is ∙ difference c.args.a c.args.b ∙ wrapped ◌-ℤ◌ c.args.a c.args.b c.sub.result c.ranges.a c.ranges.b c.sub.ensures

pub returns-in-Mul : goal.returns-in-Mul
returns-in-Mul c =
    ap (λ i. computed i (value.Int c.args.a) (value.Int c.args.b)) c.in-Mul.is ∙ product c.args.a c.args.b ∙ wrapped ◌*ℤ◌ c.args.a c.args.b c.mul.result c.ranges.a c.ranges.b c.mul.ensures
