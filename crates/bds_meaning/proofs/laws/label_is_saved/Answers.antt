use Rattle.std.specs.Prelude.{refl}
use Rattle.std.specs.Fmt as fmt
use Rattle.std.specs.Int as int
use Rattle.bds_value.specs.declared.value.Ty as a_type
use Rattle.bds_value.specs.declared.value.Value as a_value
use Rattle.bds_meaning.proofs.laws.label_is_saved.Goals as goal

pub returns : goal.returns
unfolding a_value.out-Value a_type.out-Ty denote.Hole.Carrier.out fmt.digits int.int_wrap
returns c = refl
