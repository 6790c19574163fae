use Rattle.std.proofs.Common.{◌≡◌, slice_get, Some, subst}
use Rattle.bds_code.specs.declared.unit.Unit.{Unit as CodeUnit}
use Rattle.bds_machine.proofs.LeftBehind.{line_there}
use Rattle.bds_machine.proofs.behind.line_behind.Goals as goal

pub line_at-requires : goal.line_at-requires
line_at-requires c =
    let here = c.place-number.result in
    let f = c.function_at.result.now in
    let there = subst (λ (w : CodeUnit). slice_get w.functions here.0 ≡ Some f) c.unit.ensures.same c.function_at.ensures in
    line_there c.args.unit.now c.args.thread.now c.requires.0 c.requires.1 c.unit.ensures.verified here c.place-number.ensures f there
