use Rattle.bds_gen_stmt.proofs.UnitWhole.{program-verified}
use Rattle.bds_gen_stmt.proofs.laws.units_are_verified.Goals as goal

pub returns : goal.returns
returns c = λ ss args s typed size. program-verified ss args s typed.script.program typed.globals typed.args typed.script.types size
