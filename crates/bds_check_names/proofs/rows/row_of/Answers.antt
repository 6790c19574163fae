use Rattle.std.proofs.Common.{◌≡◌, Option, ap, subst}
use Rattle.std.specs.Prelude.{IfOk}
use Rattle.std.specs.Option.{option_map}
use Rattle.bds_check_names.specs.declared.rows.Row.{Row}
use Rattle.bds_value.specs.Methods.{inner_of}
use Rattle.bds_check_names.specs.Rows.{row_with}
use Rattle.bds_check_names.proofs.rows.row_of.Goals as goal

pub returns-in-Some : goal.returns-in-Some
returns-in-Some c =
    subst (λ (o : Option Row). IfOk c.row_at.result (λ made. made ≡ o)) (ap (option_map (row_with (inner_of c.args.receiver.now))) c.in-Some.ensures) c.row_at.ensures

pub returns-in-None : goal.returns-in-None
returns-in-None c = ap (option_map (row_with (inner_of c.args.receiver.now))) c.in-None.ensures
