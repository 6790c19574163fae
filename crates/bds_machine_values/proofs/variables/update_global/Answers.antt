use Rattle.std.proofs.Common.{◌≡◌, true, IsSome, Some, sym, subst, ◌∙◌}
use Rattle.bds_machine_values.specs.Changes.{places_of, value_after}
use Rattle.bds_machine_values.specs.Updates.{assigned}
use Rattle.bds_machine_values.proofs.Updating.{some_first}
use Rattle.bds_machine_values.proofs.variables.update_global.Goals as goal

pub change_value-requires : goal.change_value-requires
change_value-requires c =
    let both : Some c.requires.1 ≡ Some c.at_mut.result.now = sym c.requires.2 ∙ c.at_mut.ensures.value in
    let held : c.requires.1 ≡ c.at_mut.result.now = cc in
    subst (λ v. IsSome (value_after c.args.change (places_of c.args.route) v)) held
    (some_first _ (λ new. assigned true c.args.slot new c.args.globals.now c.requires.0) c.requires.3)
