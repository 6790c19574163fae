use Rattle.std.proofs.Common.{◌≡◌, ◌-◌, ◌<◌, refl, ap, ◌∙◌, arith}
use Rattle.bds_verify.specs.Numbered.{Nodes, node_at, before_of}
use Rattle.bds_verify.proofs.NumberedLaws.{popped}
use Rattle.bds_verify.proofs.numbers.cut.Goals as goal

pub loop-numbers-preserved : goal.loop-numbers-preserved
loop-numbers-preserved c = λ labels shape h.
    let l = c.loop-numbers.numbers in
    let k = c.loop-numbers.invariant labels shape h in
    let some : 0 < l.length = omega (arith, c.loop-numbers-test.true) in
    let less : c.without_last-numbers.result ≡ before_of (node_at l.lists.nodes l.number) =
    c.without_last-numbers.ensures ∙ ap (λ (ns : Nodes). before_of (node_at ns l.number)) c.as_slice.ensures in
    (popped l.lists.nodes l.number c.without_last-numbers.result l.length (l.length - 1) shape some less refl k.0, k.1)
