use Rattle.std.proofs.Common.{subst, Some, None}
use Rattle.bds_farm.specs.Farm.{IsToldBy}
use Rattle.bds_farm.proofs.Told.{learns_so, skips_so}
use Rattle.bds_farm.proofs.learning.learn_line.Goals as goal

pub returns-in_ok-push-in-Some : goal.returns-in_ok-push-in-Some
returns-in_ok-push-in-Some c = λ last.
    learns_so c.args.line.now last c.args.open_ends.now.items c.args.ends.now.items c.leave_out.new.entries.items
    c.push.new.self.items
    (c.in-Some.task, c.in-Some.code)
    (subst (λ es. IsToldBy es c.args.line.now
    (Some (
      c.in-Some.task,
      c.in-Some.code,
    ))) c.as_slice.ensures.value c.in-Some.ensures) c.in_ok-push-in-Some.ensures.items c.leave_out.ensures

pub returns-in-None : goal.returns-in-None
returns-in-None c = λ last.
    skips_so c.args.line.now last c.args.open_ends.now.items c.args.ends.now.items
    (subst (λ es. IsToldBy es c.args.line.now None) c.as_slice.ensures.value c.in-None.ensures)
