use Rattle.std.proofs.Common.{subst, Some}
use Rattle.bds_farm.specs.Farm.{IsPlace}
use Rattle.bds_farm.proofs.Halves.{gives_so}
use Rattle.bds_farm.proofs.learning.give.Goals as goal

pub returns-in-Some : goal.returns-in-Some
returns-in-Some c =
    gives_so c.args.running.now c.args.ends.now.items c.remove.new.self.items c.in-Some.place c.remove.result
    (subst (λ es. IsPlace c.args.running.now es
    (Some c.in-Some.place)) c.as_slice.ensures.value c.in-Some.ensures) c.remove.ensures.value
    c.remove.ensures.by_index.2
