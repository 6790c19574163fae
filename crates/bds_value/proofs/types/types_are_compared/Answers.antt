use Rattle.bds_value.proofs.TypeLaws.{same_ty-equal}
use Rattle.bds_value.proofs.types.types_are_compared.Goals as goal

pub returns : goal.returns
returns c = same_ty-equal
