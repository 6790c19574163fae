use Rattle.std.proofs.Common.{◌<◌, ◌/◌, length, sym, ◌∙◌, arith}
use Rattle.bds_verify.proofs.LabelLaws.{found, lower, upper, half_less}
use Rattle.bds_verify.proofs.labels.label.Goals as goal

pub returns-then-middle-place : goal.returns-then-middle-place
returns-then-middle-place c =
    let xs = c.loop-left.left.now in
    let within : length xs / 2 < length xs = half_less (length xs) (sym c.loop-left-test.true ∙ c.is_empty.ensures) in
    found xs (length xs / 2) c.args.place c.index-left-half.result within c.index-left-half.is c.loop-left.invariant.rising c.if-middle-place.true ∙ c.loop-left.invariant.same

pub loop-left-preserved-then-place-middle : goal.loop-left-preserved-then-place-middle
loop-left-preserved-then-place-middle c =
    let xs = c.loop-left.left.now in
    let within : length xs / 2 < length xs = half_less (length xs) (sym c.loop-left-test.true ∙ c.is_empty.ensures) in
    let p = lower xs (length xs / 2) c.args.place c.index-left-half.result within c.index-left-half.is c.loop-left.invariant.rising c.if-place-middle.true in
    record {
      same = rw c.split_at.ensures.front (p.0 ∙ c.loop-left.invariant.same);
      rising = rw c.split_at.ensures.front p.1;
      fewer = omega (arith, c.split_at.ensures.front_len, c.loop-left.invariant.fewer);
    }

pub loop-left-preserved : goal.loop-left-preserved
loop-left-preserved c =
    let xs = c.loop-left.left.now in
    let within : length xs / 2 < length xs = half_less (length xs) (sym c.loop-left-test.true ∙ c.is_empty.ensures) in
    let more : c.index-left-half.result.0 < c.args.place = omega (arith, c.if-place-middle.false, c.if-middle-place.false) in
    let p = upper xs (length xs / 2) c.args.place c.index-left-half.result within c.index-left-half.is c.loop-left.invariant.rising more in
    record {
      same = rw c.split_at-else-place-middle.ensures.back (p.0 ∙ c.loop-left.invariant.same);
      rising = rw c.split_at-else-place-middle.ensures.back p.1;
      fewer = omega (arith, c.split_at-else-place-middle.ensures.back_len, c.loop-left.invariant.fewer);
    }
