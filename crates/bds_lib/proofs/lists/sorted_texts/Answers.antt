use Rattle.std.proofs.Common.{◌≡◌, ap, rules, ◌∙◌}
use Rattle.std.proofs.lemmas.Cmp.{nat_list_cmp_total}
use Rattle.std.proofs.lemmas.List.Sorted.{ranks_by}
use Rattle.bds_value.specs.Order.{text_cmp}
use Rattle.bds_lib.specs.Lists.{is_earlier, item_text, sorted}
use Rattle.bds_lib.proofs.SortLaws.{sorts_by}
use Rattle.bds_lib.proofs.lists.sorted_texts.Goals as goal

pub returns : goal.returns
returns c =
    let done = sorts_by (λ v w. text_cmp (item_text v) (item_text w)) (ranks_by nat_list_cmp_total item_text) c.into_vec-values.result.items c.sort_by.new.self.items c.in_ok-sort_by.ensures.sorted c.in_ok-sort_by.ensures.stable (λ a r f k. search rules) in
    let from : c.into_vec-values.result.items ≡ c.args.items.now = search rules in
    c.from_vec.ensures ∙ (done ∙ ap (sorted is_earlier) from)
