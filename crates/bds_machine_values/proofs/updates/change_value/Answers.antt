use Rattle.std.proofs.Common.{subst, sym, IsSome}
use Rattle.bds_machine_values.specs.Changes.{places_of}
use Rattle.bds_machine_values.specs.Faults.{Leaves}
use Rattle.bds_machine_values.proofs.Changing.{other_change}
use Rattle.bds_machine_values.proofs.updates.change_value.Goals as goal

pub change_along-requires : goal.change_along-requires
change_along-requires c = subst IsSome (other_change c.args.change (places_of c.args.route) c.args.value.now c.in_default.not-Replace c.requires) c.requires

pub returns-in_default : goal.returns-in_default
returns-in_default c =
    let law = other_change c.args.change (places_of c.args.route) c.args.value.now c.in_default.not-Replace c.requires in
    subst (λ o. Leaves o c.change_along.new.value c.change_along.result) (sym law) c.change_along.ensures
