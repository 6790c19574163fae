use Rattle.bds_check_typing.proofs.NameTypes.{place-written}
use Rattle.bds_check_typing.proofs.ValueTypes.{typed-has}
use Rattle.bds_check_laws.proofs.laws.expressions_have_types.Goals as goal

pub returns : goal.returns
returns c = (λ e names asked n h v w. typed-has names n e asked (h, v) w, λ p names n w. place-written names n p w.1)
