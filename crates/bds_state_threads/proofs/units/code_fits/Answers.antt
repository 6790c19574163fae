use Rattle.std.proofs.Common.{subst}
use Rattle.std.specs.List.{All}
use Rattle.std.proofs.lemmas.List.{take_all}
use Rattle.std.proofs.lemmas.List.Elements.{All-more}
use Rattle.bds_code.specs.UnitFields.{NumbersFit}
use Rattle.bds_state_threads.proofs.units.code_fits.Goals as goal

pub loop-instr-preserved : goal.loop-instr-preserved
loop-instr-preserved c =
    All-more NumbersFit c.args.code.now c.loop-instr.instr-index c.instr-item.result c.loop-instr-test.true c.loop-instr.invariant (subst NumbersFit c.instr-item.is c.instr_fits.ensures)

pub returns : goal.returns
returns c = subst (All NumbersFit) (take_all c.loop-instr.instr-index c.args.code.now c.loop-instr-test.false) c.loop-instr.invariant
