use Rattle.std.proofs.Common.{◌≡◌, ◌++◌, ◌∷◌, [], ◌∙◌, None, get_or, rules, sym}
use Rattle.bds_tasks.specs.Makers.{unrepeated}
use Rattle.bds_tasks.proofs.NumberLaws.{unrepeated_more, unrepeated_same}
use Rattle.bds_tasks.proofs.needs.unrepeated.Goals as goal
use Rattle.bds_tasks.proofs.needs.unrepeated.Goals.{then-follows+in_ok-push, else-follows}

pub loop-n-preserved : goal.loop-n-preserved
loop-n-preserved c =
    let numbers = c.args.numbers.now in
    let i = c.loop-n.n-index in
    elim c.if-follows.branch [
      | then-follows+in_ok-push w ↦
          let pushed : w.push.new.self ≡ c.loop-n.out ++ get_or numbers i 0 ∷ [] = search rules in
          rw (w.out-is, pushed) (unrepeated_more numbers i 0 c.loop-n.out (unrepeated None numbers) c.loop-n-test.true (sym c.follows.ensures ∙ w.if-follows.true) c.loop-n.invariant)
      | else-follows w ↦ rw w.out-is (unrepeated_same numbers i 0 c.loop-n.out (unrepeated None numbers) c.loop-n-test.true (sym c.follows.ensures ∙ w.if-follows.false) c.loop-n.invariant)
    ]
