use Rattle.std.proofs.Common.{◌≡◌, Some, slice_get, ap, subst}
use Rattle.bds_code.specs.declared.unit.Unit.{Unit as CodeUnit}
use Rattle.bds_machine.specs.Answers.{AwaitsAnswer}
use Rattle.bds_state.specs.Parts.{Parts}
use Rattle.bds_engine.proofs.Contacting.{breaks_there}
use Rattle.bds_engine.proofs.giving.breaks.Goals as goal

pub returns : goal.returns
returns c =
    let same : c.state.inside.unit ≡ c.args.state.now.unit = ap (λ (p : Parts). p.unit) c.state.view_is in
    let at = subst (λ (u : CodeUnit). (a : AwaitsAnswer u c.args.thread.now c.requires.0) → slice_get a.f.lines a.at ≡ Some c.line_behind-at.result) same (c.line_behind-at.ensures c.requires.0) c.requires.1 in
    breaks_there c.args.state.now c.args.thread.now c.requires.0 c.requires.1 c.line_behind-at.result at c.args.fault c.fails.result c.fails.ensures
