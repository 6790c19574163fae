use Rattle.std.proofs.Common.{arith, ◌≤◌, None, Ok, Err, Result, length, ◌≡◌, ◌-◌, take, drop, length-drop}
use Rattle.std.specs.Prelude.{OnOk}
use Rattle.bds_farm.proofs.Halves.{half_begins, take-whole, text_done}
use Rattle.bds_farm.proofs.learning.learn_text.Goals as goal

pub loop-i-init : goal.loop-i-init
loop-i-init c = record { within = omega arith; learnt = λ last. half_begins _ _ }

pub loop-i-preserved : goal.loop-i-preserved
loop-i-preserved c = record {
  within = (c.in_ok-start.ensures None _ (c.loop-i.invariant.learnt None)).0;
  learnt = λ last. (c.in_ok-start.ensures last _ (c.loop-i.invariant.learnt last)).1;
}

where_ok : {T E : Type 0} (r : Result T E) (P Q : Type 0) → (P → Q) → OnOk r P → OnOk r Q
where_ok (Ok x) P Q f h = f h
where_ok (Err e) P Q f h = tt

pub returns : goal.returns
returns c =
    let all : length c.args.text.now ≤ c.loop-i.i = omega arith in
    let whole : take (length c.args.text.now - c.loop-i.start)
    (drop c.loop-i.start c.args.text.now) ≡ drop c.loop-i.start c.args.text.now =
    take-whole _ _ (omega (arith, length-drop c.loop-i.start c.args.text.now)) in
    where_ok c.learn_line.result _ _
    (λ h last. text_done _ c.args.text.now c.loop-i.start c.loop-i.i _ _ c.loop-i.invariant.within all _ whole
    (c.loop-i.invariant.learnt last) (h last)) c.learn_line.ensures
