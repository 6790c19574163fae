use Rattle.std.proofs.Common.{◌∙◌, ap, length}
use Rattle.std.proofs.lemmas.Result.{on_ok_weaker}
use Rattle.bds_gen_unit.proofs.ValueLaws.{list_written}
use Rattle.bds_gen_unit.proofs.values.write_value.Goals as goal

pub returns-in_ok-item-in-List : goal.returns-in_ok-item-in-List
returns-in_ok-item-in-List c =
    on_ok_weaker c.act.result
    (λ e. list_written c.args.function.now c.write_items.new.function c.act.new.function c.args.at c.args.value.now c.in-List.item c.in_ok-item-in-List.item c.in-List.items c.as_slice.result.now c.in_ok-count-in-List.count c.in-List.is (c.as_slice.ensures ∙ c.get-held.ensures) c.in_ok-write_items-in-List.ensures (c.in_ok-count-in-List.ensures ∙ c.len.ensures ∙ ap length c.get-held.ensures) c.in_ok-item-in-List.ensures e)
    c.act.ensures.code
