use Rattle.std.proofs.Common.{◌+ℤ◌, ◌-ℤ◌, ◌*ℤ◌, [], ◌∷◌, ap, ◌∙◌}
use Rattle.bds_value.specs.declared.value.Value.TheVariants as value
use Rattle.bds_machine_values.specs.Updates.{value_changed}
use Rattle.bds_machine.proofs.Numbering.{wrapped, increased, decreased, multiplied}
use Rattle.bds_machine.proofs.numbers.changed.Goals as goal

pub returns-in-1 : goal.returns-in-1
returns-in-1 c =
    ap (λ what. value_changed what [] (value.Int c.args.old) (value.Int c.args.n ∷ [])) c.in-1.is ∙ increased c.args.old c.args.n
    ∙ wrapped ◌+ℤ◌ c.args.old c.args.n c.add.result c.ranges.old c.ranges.n c.add.ensures

pub returns-in-2 : goal.returns-in-2
returns-in-2 c =
    ap (λ what. value_changed what [] (value.Int c.args.old) (value.Int c.args.n ∷ [])) c.in-2.is ∙ decreased c.args.old c.args.n
    ∙ wrapped ◌-ℤ◌ c.args.old c.args.n c.sub.result c.ranges.old c.ranges.n c.sub.ensures

pub returns-in-3 : goal.returns-in-3
returns-in-3 c =
    ap (λ what. value_changed what [] (value.Int c.args.old) (value.Int c.args.n ∷ [])) c.in-3.is ∙ multiplied c.args.old c.args.n
    ∙ wrapped ◌*ℤ◌ c.args.old c.args.n c.mul.result c.ranges.old c.ranges.n c.mul.ensures
