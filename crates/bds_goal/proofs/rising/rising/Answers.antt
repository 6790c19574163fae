use Rattle.std.proofs.Common.{◌≡◌, ◌∙◌, [], ap, rules, subst, sym}
use Rattle.std.proofs.lemmas.Result.{IfOk-weaker}
use Rattle.std.specs.List.Sorted.{IsPermutation}
use Rattle.bds_goal.specs.Collected.{unrepeated}
use Rattle.bds_goal.specs.Rising.{AreRising}
use Rattle.bds_goal.proofs.RisingLaws.{are_rising}
use Rattle.bds_goal.proofs.rising.rising.Goals as goal

pub returns : goal.returns
returns c =
    let texts = c.args.texts in
    let sorted = c.sort.new.texts.items in
    let from : c.into_vec-texts.result.items ≡ texts = search rules in
    let moved = subst (λ ts. IsPermutation ts sorted) from c.in_ok-sort.ensures.moved in
    let all = are_rising texts sorted moved c.in_ok-sort.ensures.sorted in
    let lent : c.deref.result.now ≡ sorted = c.deref.ensures.value in
    IfOk-weaker c.unrepeated.result (λ out. out ≡ unrepeated [] c.deref.result.now) (λ out. AreRising texts out) (λ out e. subst (λ o. AreRising texts o) (sym (e ∙ ap (unrepeated []) lent)) all) c.unrepeated.ensures
