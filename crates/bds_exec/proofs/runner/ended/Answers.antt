use Rattle.std.proofs.Common.{rules, sym, ◌∙◌}
use Rattle.bds_exec.proofs.Lines.{other_task}
use Rattle.bds_exec.proofs.runner.ended.Goals as goal

pub returns-else-contains-clause-told : goal.returns-else-contains-clause-told
returns-else-contains-clause-told c = other_task c.args.running.now c.args.line.now c.in-Some.task c.in-Some.code (search rules) (search rules) c.in-Some.ensures (sym c.contains.ensures.value ∙ c.if-contains.false)
