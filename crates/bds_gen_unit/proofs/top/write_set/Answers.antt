use Rattle.std.proofs.Common.{◌∙◌, ap, length}
use Rattle.std.proofs.lemmas.Result.{on_ok_weaker}
use Rattle.bds_tree.specs.StmtView.{stmt_of}
use Rattle.bds_gen_unit.proofs.SetLaws.{set-written, at_is}
use Rattle.bds_gen_unit.proofs.top.write_set.Goals as goal

pub returns : goal.returns
returns c =
    on_ok_weaker c.act.result
    (λ e. set-written c.args.value.now (stmt_of c.args.stmt.now) c.args.unit.now c.take_function.new.unit c.gen_stmt.new.unit c.in_ok-function.function c.write_value.new.function c.act.new.function c.args.stmt.now.at c.in_ok-global.global
    c.requires.high c.requires.names c.in_ok-function.ensures.others c.in_ok-gen_stmt.ensures c.in_ok-function.ensures.function (at_is c.args.stmt.now) (c.in_ok-global.ensures ∙ ap length c.as_slice.ensures) c.in_ok-write_value.ensures e)
    c.act.ensures.code
