use Rattle.std.proofs.Common.{◌≡◌, ap, rules, ◌∙◌}
use Rattle.std.proofs.lemmas.Cmp.{int_cmp_total}
use Rattle.std.proofs.lemmas.List.Sorted.{ranks_by}
use Rattle.std.specs.Ordering.{int_cmp}
use Rattle.bds_lib.specs.Lists.{is_less, item_number, sorted}
use Rattle.bds_lib.proofs.SortLaws.{sorts_by}
use Rattle.bds_lib.proofs.lists.sorted_numbers.Goals as goal

pub returns : goal.returns
returns c =
    let done = sorts_by (λ v w. int_cmp (item_number v) (item_number w)) (ranks_by int_cmp_total item_number) c.into_vec-values.result.items c.sort_by.new.self.items c.in_ok-sort_by.ensures.sorted c.in_ok-sort_by.ensures.stable (λ a r f k. search rules) in
    let from : c.into_vec-values.result.items ≡ c.args.items.now = search rules in
    c.from_vec.ensures ∙ (done ∙ ap (sorted is_less) from)
