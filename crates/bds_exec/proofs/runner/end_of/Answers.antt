use Rattle.std.proofs.Common.{rules}
use Rattle.bds_exec.proofs.Lines.{large_code, wrong_code, wrong_task}
use Rattle.bds_exec.proofs.runner.end_of.Goals as goal

pub returns-in_default-number_of : goal.returns-in_default-number_of
returns-in_default-number_of c = wrong_task c.args.line.now c.in-Some.task.now c.in-Some.code.now c.in-Some.ensures c.in_default-number_of.ensures

pub returns-in_default-number_of-2 : goal.returns-in_default-number_of-2
returns-in_default-number_of-2 c = wrong_code c.args.line.now c.in-Some.task.now c.in-Some.code.now c.in-Some.ensures c.in_default-number_of-2.ensures

pub returns-in-Err : goal.returns-in-Err
returns-in-Err c =
    large_code c.args.line.now c.in-Some.task.now c.in-Some.code.now c.in-Some-number_of-2.code c.in-Some.ensures c.in-Some-number_of-2.ensures (search rules) (λ small. c.in-Err.ensures small)
