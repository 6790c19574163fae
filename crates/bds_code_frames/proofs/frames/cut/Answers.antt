use Rattle.std.proofs.Common.{◌≡◌, ◌+◌, ◌-◌, length, take, ap, ◌∙◌, arith}
use Rattle.bds_code_frames.proofs.frames.cut.Goals as goal

pub returns : goal.returns
returns c =
    let vs = c.args.values.now.items in
    let a = c.loop.auto.counter in
    let b = c.loop.auto.counter-end in
    let t = c.loop-test.false in
    let e = c.len-end.ensures in
    let n = c.args.values.now.ok.0 in
    let r = c.requires in
    let k : length vs + c.args.begin - c.loop.counter ≡ c.args.begin = omega arith in
    c.loop.invariant ∙ ap (λ m. take m vs) k
