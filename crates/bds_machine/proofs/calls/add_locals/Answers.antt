use Rattle.std.proofs.Common.{◌≡◌, Some, OnOk, sym, subst}
use Rattle.bds_code_frames.specs.Stack.{stack}
use Rattle.bds_machine.proofs.Entering.{defaults_added, all_values}
use Rattle.bds_machine.proofs.calls.add_locals.Goals as goal

pub add_defaults-requires-clause-values : goal.add_defaults-requires-clause-values
add_defaults-requires-clause-values c = all_values c.args.locals.now c.requires.types

pub returns : goal.returns
returns c =
    subst (λ o. OnOk c.add_defaults.result (o ≡ Some (stack c.add_defaults.new.self))) (sym (defaults_added c.args.locals.now (stack c.args.frames.now))) c.add_defaults.ensures.ok
