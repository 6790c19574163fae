use Rattle.std.proofs.Common.{◌++◌}
use Rattle.std.specs.Prelude.{codes, decimal}
use Rattle.bds_farm.proofs.Numbers.{line_both, line_none}
use Rattle.bds_farm.proofs.lines.code_of.Goals as goal

pub returns-in-Some-number_behind : goal.returns-in-Some-number_behind
returns-in-Some-number_behind c =
    line_both (codes "task." ++ decimal c.args.task)
    (codes "." ++ decimal c.args.attempt) c.args.line.now c.in-Some.rest.now c.in-Some-number_behind.rest.now
    (λ n. codes " " ++ decimal n)
    c.code_in.result c.in-Some.ensures c.in-Some-number_behind.ensures c.code_in.ensures

pub returns-in-None-number_behind : goal.returns-in-None-number_behind
returns-in-None-number_behind c =
    line_none (codes "task." ++ decimal c.args.task)
    (codes "." ++ decimal c.args.attempt) c.args.line.now c.in-Some.rest.now
    (λ n. codes " " ++ decimal n) c.in-Some.ensures c.in-None-number_behind.ensures
