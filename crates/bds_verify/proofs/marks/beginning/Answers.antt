use Rattle.std.proofs.Common.{inl, inr, Some, IsSome, refl, sym, ap, subst, ◌∙◌}
use Rattle.bds_verify.specs.Verified.{label_at}
use Rattle.bds_verify.proofs.LabelLaws.{declares}
use Rattle.bds_verify.proofs.MarkLaws.{mark_at}
use Rattle.bds_verify.proofs.marks.beginning.Goals as goal

pub returns-then-is_up_to-clause-begins : goal.returns-then-is_up_to-clause-begins
returns-then-is_up_to-clause-begins c = λ u f labels marks.
    let l = c.in-Some.label.now in
    let found = c.in-Some.ensures.there in
    inr (refl, subst (λ ls. IsSome (label_at ls l.0)) (sym labels) (declares c.args.labels.now found.0 l c.requires.rising found.1))

pub returns-in_ok-types-in-Some-mark-clause-begins : goal.returns-in_ok-types-in-Some-mark-clause-begins
returns-in_ok-types-in-Some-mark-clause-begins c = λ u f labels marks.
    let found = c.in-Some-mark.ensures.there in
    inl (ap Some c.in_ok-types-in-Some-mark.ensures ∙ mark_at u f c.args.marks.now found.0 c.in-Some-mark.mark.now marks found.1)
