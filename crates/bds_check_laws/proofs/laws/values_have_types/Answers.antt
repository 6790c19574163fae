use Rattle.bds_check_typing.proofs.ScriptTypes.{written-typed}
use Rattle.bds_check_laws.proofs.laws.values_have_types.Goals as goal

pub returns : goal.returns
returns c = (λ s t. t.types, written-typed)
