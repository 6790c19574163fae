use Rattle.std.proofs.Common.{ℕ, List, drop, reverse, sym, ap, subst, ◌∙◌}
use Rattle.bds_value.specs.declared.value.Ty.{Ty}
use Rattle.bds_verify.specs.Numbered.{IsListOf, IsFront, AreDeclared}
use Rattle.bds_verify.proofs.NumberedLaws.{counted}
use Rattle.bds_verify.proofs.numbers.number_of.Goals as goal

pub returns : goal.returns
returns c = λ labels h.
    let n = c.make_room.new.numbers in
    let new = c.with_all.new.lists.nodes in
    let number = c.in_ok-number.number in
    let came = c.args.came.now in
    let k = c.make_room.ensures.kept labels came h in
    let rest = c.split_at.ensures.back ∙ ap (λ (ts : List Ty). drop n.length ts) c.as_slice.ensures in
    let p = counted n.lists.nodes new labels n.labels n.number number n.length came _ rest c.in_ok-number.ensures k in
    subst (λ size. (IsFront new number size came × AreDeclared new labels n.labels)
    × IsListOf new number (reverse came)) (sym c.len-numbers.ensures) p
