use Rattle.std.proofs.Common.{◌≡◌, ◌-◌, length, slice_get, Some, ◌∙◌, subst}
use Rattle.std.proofs.lemmas.Option.{IfSome_then}
use Rattle.bds_machine.proofs.Tops.{last_value}
use Rattle.bds_machine.proofs.numbers.last_number.Goals as goal

pub returns-in-Some : goal.returns-in-Some
returns-in-Some c =
    let x = c.in-Some.value.now in
    IfSome_then c.whole.result c.whole.ensures
    (λ n is v s e.
    let there = last_value c.args.frames.now v s e in
    let found = subst (λ vs. Some x ≡ slice_get vs (length vs - 1)) c.values.ensures c.in-Some.ensures.value in
    let same : v ≡ x = cc in
    same ∙ is)
