use Rattle.bds_machine.proofs.Wholes.{small}
use Rattle.bds_machine.proofs.table.step.Goals as goal

pub row-requires-clause-small : goal.row-requires-clause-small
row-requires-clause-small c = small c.args.unit.now c.args.number c.args.at c.args.function.now c.instr_at-instr.result.now c.requires.verified c.requires.function c.instr_at-instr.ensures
