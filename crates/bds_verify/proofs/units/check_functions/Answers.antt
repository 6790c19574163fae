use Rattle.std.proofs.Common.{◌≡◌, ◌≤◌, ◌+◌, [], ◌∷◌, ◌++◌, slice_get, length, Some, arith, rules, ap, sym, ◌∙◌, subst}
use Rattle.bds_verify.proofs.Accepts.{verifies_functions, one_more, at_item, all_checked}
use Rattle.std.proofs.lemmas.List.{length-append}
use Rattle.bds_verify.specs.Marked.{AreAllMarks}
use Rattle.bds_verify.proofs.MarkLaws.{all_more}
use Rattle.bds_verify.proofs.units.check_functions.Goals as goal

pub returns-in-Err-clause-fault : goal.returns-in-Err-clause-fault
returns-in-Err-clause-fault c =
    let l = c.loop-function in
    let is = at_item c.args.unit.now.functions c.as_slice-function-items.result.now l.function-index l.number c.function-item.result c.as_slice-function-items.ensures l.invariant.number c.loop-function-test.true c.function-item.is in
    rw c.at_function.ensures (verifies_functions c.args.unit.now l.number c.function-item.result c.in-Err.fault is l.invariant.verified c.in-Err.ensures.fault)

pub loop-function-preserved : goal.loop-function-preserved
loop-function-preserved c =
    let l = c.loop-function in
    let u = c.args.unit.now in
    let f = c.function-item.result in
    let is = at_item u.functions c.as_slice-function-items.result.now l.function-index l.number f c.as_slice-function-items.ensures l.invariant.number c.loop-function-test.true c.function-item.is in
    let pushed : c.push.new.self ≡ l.all ++ c.check_function.new.marks ∷ [] = search rules in
    let next : slice_get u.functions (length l.all) ≡ Some f = subst (λ n. slice_get u.functions n ≡ Some f) (l.invariant.number ∙ sym l.invariant.count) is in
    record {
      number = ap (λ k. k + 1) l.invariant.number;
      verified = one_more u l.number f is l.invariant.verified c.in-Ok.ensures.fault;
      count = ap length pushed ∙ length-append l.all (c.check_function.new.marks ∷ []) ∙ ap (λ n. n + 1) l.invariant.count;
      marks = subst (AreAllMarks u) (sym pushed) (all_more u l.all c.check_function.new.marks f l.invariant.marks next c.in-Ok.ensures.marks);
    }

pub returns-clause-fault : goal.returns-clause-fault
returns-clause-fault c =
    let l = c.loop-function in
    let all : length c.args.unit.now.functions ≤ l.function-index = omega (arith, ap length c.as_slice-function-items.ensures) in
    all_checked c.args.unit.now l.number l.function-index all l.invariant.number l.invariant.verified
