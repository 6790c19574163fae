use Rattle.std.proofs.Common.{arith, sym}
use Rattle.bds_check_names.proofs.LastPlaces.{type_there}
use Rattle.bds_check_names.proofs.locals.type_at.Goals as goal

pub returns : goal.returns
returns c = type_there c.args.locals.now c.in_ok-local_at.field-0.now c.args.place (omega (arith, c.if-place-eq0.false)) (sym c.in_ok-local_at.ensures)
