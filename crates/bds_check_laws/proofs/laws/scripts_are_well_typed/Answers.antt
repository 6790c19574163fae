use Rattle.bds_check_typing.proofs.AcceptedScripts.{script-accepted}
use Rattle.bds_check_typing.proofs.WellTypedScriptLaws.{accepted-typed}
use Rattle.bds_check_laws.proofs.laws.scripts_are_well_typed.Goals as goal

pub returns : goal.returns
returns c = (accepted-typed, script-accepted)
