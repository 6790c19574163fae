use Rattle.std.proofs.Common.{IsSome, subst}
use Rattle.bds_code_frames.specs.Stack.{stack}
use Rattle.bds_machine_values.specs.Worked.{worked}
use Rattle.bds_machine_values.proofs.Updating.{some_first, others_changed}
use Rattle.bds_machine_values.proofs.rows.change.Goals as goal

pub work-requires : goal.work-requires
work-requires c =
    let g = c.args.globals.now in
    let s = stack c.args.frames.now in
    some_first (worked c.args.instr.now g s) _ (subst IsSome (others_changed c.args.instr.now g s c.in_default.not-StoreGlobal c.in_default.not-Update) c.requires)
