use Rattle.std.proofs.Common.{[], ◌∷◌}
use Rattle.bds_value.specs.declared.value.Value.TheVariants as value
use Rattle.bds_code_frames.specs.Stack.{stack}
use Rattle.bds_machine.proofs.Stretching.{code_there, sink_there, sink_leads}
use Rattle.bds_machine.proofs.numbers.branch_at.Goals as goal

pub instr_at-instr-requires : goal.instr_at-instr-requires
instr_at-instr-requires c = code_there c.args.function.now c.args.at (value.Bool c.args.holds ∷ []) c.requires.runs.0
    (stack c.args.frames.now) c.requires.runs.1

pub branch-instr-requires : goal.branch-instr-requires
branch-instr-requires c = (
  c.requires.runs.0,
  sink_there c.args.function.now c.args.at c.instr_at-instr.result.now c.requires.runs.0 (stack c.args.frames.now)
      c.instr_at-instr.ensures (value.Bool c.args.holds) c.requires.runs.1,
)

pub returns-clause-done : goal.returns-clause-done
returns-clause-done c is g =
    let done = c.branch-instr.ensures.done is in
    sink_leads c.args.function.now c.args.at c.instr_at-instr.result.now g (stack c.args.frames.now)
    c.instr_at-instr.ensures (value.Bool c.args.holds) g (stack c.branch-instr.new.frames) done.0 (done.1 g)
