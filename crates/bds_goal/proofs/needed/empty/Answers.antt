use Rattle.std.proofs.Common.{◌≡◌, ◌++◌, ◌∷◌, [], rules}
use Rattle.bds_goal.proofs.WantedLaws.{empty_more, empty_none}
use Rattle.bds_goal.proofs.needed.empty.Goals as goal

pub loop-init : goal.loop-init
loop-init c = let none : c.new-lists.result ≡ [] = search rules in rw none empty_none

pub loop-preserved : goal.loop-preserved
loop-preserved c =
    let pushed : c.push.new.self ≡ c.loop.lists ++ [] ∷ [] = search rules in
    rw pushed (empty_more c.loop.counter c.loop.lists c.loop.invariant)
