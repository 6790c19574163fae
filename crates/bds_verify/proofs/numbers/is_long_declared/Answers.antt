use Rattle.std.proofs.Common.{◌≡◌, List, true, sym, ap, ◌∙◌}
use Rattle.bds_value.specs.declared.value.Ty.{Ty}
use Rattle.bds_verify.specs.Numbered.{noted_at}
use Rattle.bds_verify.specs.Pass.{same_tys}
use Rattle.bds_verify.proofs.NumberedLaws.{same_by_number, noted_same}
use Rattle.bds_verify.proofs.numbers.is_long_declared.Goals as goal

pub returns-then-noted_at-number : goal.returns-then-noted_at-number
returns-then-noted_at-number c = λ labels here h.
    let n = c.number_of.new.numbers in
    let k = c.in_ok-number.ensures labels h in
    let same : noted_at n.labels c.args.place ≡ c.in_ok-number.number =
    sym (c.noted_at.ensures ∙ ap (λ ns. noted_at ns c.args.place) c.as_slice.ensures) ∙ c.if-noted_at-number.true in (
      same_by_number n.lists.nodes labels n.labels c.args.place c.in_ok-number.number c.args.declared.now
          c.args.came.now
          c.if-number-gt0.true same here k.0.1 k.1,
      k.0,
    )

pub returns-in_ok-note : goal.returns-in_ok-note
returns-in_ok-note c = λ labels here h.
    let n = c.number_of.new.numbers in
    let k = c.in_ok-number.ensures labels h in
    let same : c.same_types-same.result ≡ same_tys c.args.came.now c.args.declared.now =
    c.same_types-same.ensures ∙ ap (λ (ts : List Ty). same_tys ts c.args.declared.now) c.as_slice-2.ensures in
    let yes : same_tys c.args.came.now c.args.declared.now ≡ true = sym same ∙ c.if-same.true in (
      same,
      (
        k.0.0,
        noted_same n.lists.nodes labels n.labels c.note.new.labels c.args.place c.in_ok-number.number
            c.args.declared.now
            c.args.came.now c.in_ok-note.ensures here yes k.1 k.0.1,
      ),
    )

pub returns-else-same : goal.returns-else-same
returns-else-same c = λ labels here h.
    let k = c.in_ok-number.ensures labels h in
    let same : c.same_types-same.result ≡ same_tys c.args.came.now c.args.declared.now =
    c.same_types-same.ensures ∙ ap (λ (ts : List Ty). same_tys ts c.args.declared.now) c.as_slice-2.ensures in
    (same, k.0)
