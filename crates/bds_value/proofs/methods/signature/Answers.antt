use Rattle.std.proofs.Common.{ap, ◌∙◌}
use Rattle.std.specs.Option.{option_map}
use Rattle.bds_value.specs.declared.methods.MethodRow.{MethodRow}
use Rattle.bds_value.specs.declared.value.Ty.{out-Ty}
use Rattle.bds_value.specs.Methods.{rows_of}
use Rattle.bds_value.proofs.MethodLaws.{method_of-row}
use Rattle.bds_value.proofs.methods.signature.Goals as goal

pub returns-in-Some : goal.returns-in-Some
returns-in-Some c = ap (option_map (λ (r : MethodRow). r.method)) c.in-Some.ensures ∙ method_of-row (rows_of (out-Ty c.args.receiver.now)) c.args.name.now c.args.count

pub returns-in-None : goal.returns-in-None
returns-in-None c = ap (option_map (λ (r : MethodRow). r.method)) c.in-None.ensures ∙ method_of-row (rows_of (out-Ty c.args.receiver.now)) c.args.name.now c.args.count
