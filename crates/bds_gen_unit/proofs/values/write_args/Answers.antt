use Rattle.std.proofs.lemmas.Result.{on_ok_weaker}
use Rattle.bds_gen_unit.proofs.ValueLaws.{args_written}
use Rattle.bds_gen_unit.proofs.values.write_args.Goals as goal

pub returns : goal.returns
returns c =
    on_ok_weaker c.act-2.result
    (λ e. args_written c.args.function.now c.write_texts.new.function c.act.new.function c.act-2.new.function c.args.at c.args.args.now c.in_ok-count.count c.in_ok-write_texts.ensures c.in_ok-count.ensures c.in_ok-act.ensures.code e)
    c.act-2.ensures.code
