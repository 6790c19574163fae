use Rattle.std.proofs.Common.{ap}
use Rattle.std.proofs.lemmas.Result.{on_ok_weaker}
use Rattle.bds_gen_stmt_code.specs.Bodies.{with_function}
use Rattle.bds_gen_unit.proofs.unit.write_code.Goals as goal

pub returns : goal.returns
returns c =
    on_ok_weaker c.write_ending.result
    (λ e. record { function = c.write_args.new.function; above = c.write_tops.new.unit; args_is = c.in_ok-write_args.ensures; tops = c.in_ok-write_tops.ensures; ended = ap (with_function c.write_tops.new.unit) e })
    c.write_ending.ensures
