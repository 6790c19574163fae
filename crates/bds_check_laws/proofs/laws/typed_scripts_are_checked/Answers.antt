use Rattle.bds_check_typing.proofs.TypedScripts.{typed-accepted}
use Rattle.bds_check_laws.proofs.laws.typed_scripts_are_checked.Goals as goal

pub returns : goal.returns
returns c = typed-accepted
