use Rattle.std.proofs.Common.{ap, sym, ◌∙◌, option_and_then}
use Rattle.bds_exec.specs.Untold.{untold}
use Rattle.bds_exec.proofs.FirstLines.{told_given}
use Rattle.bds_exec.proofs.runner.next_line.Goals as goal

pub returns-in-Some-clause-told : goal.returns-in-Some-clause-told
returns-in-Some-clause-told g c = λ task code behind h k is.
    let left = option_and_then g.P.Stdout.Read.remaining in
    told_given (left c.in-Some.runner.shell.stdout) (left c.read_from.new.source) c.read_from.new.interrupted
    c.read_from.result c.read_from.ensures.line task code behind h k
    (sym (ap (untold g.P.Stdout.Read.remaining) c.in-Some.is) ∙ is)
