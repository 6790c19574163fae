use Rattle.std.proofs.Common.{map, sym, ap, ◌∙◌, subst, List}
use Rattle.bds_value.specs.declared.value.Value.{Value}
use Rattle.bds_value.specs.Value.{default_of}
use Rattle.bds_code.specs.declared.unit.Unit.{Unit as CodeUnit}
use Rattle.bds_verify.specs.Threads.{Typed}
use Rattle.bds_state_threads.proofs.Begun.{globals-values}
use Rattle.bds_state_threads.proofs.Locals.{defaults-typed}
use Rattle.bds_state_threads.proofs.made.first_thread.Goals as goal

pub new_thread-requires-clause-globals : goal.new_thread-requires-clause-globals
new_thread-requires-clause-globals c =
    let u = c.args.unit.now in
    subst (λ (g : List Value). Typed g u.globals) (sym (c.in_ok-globals.ensures ∙ ap (map default_of) (c.as_slice.ensures ∙ ap (λ (u : CodeUnit). u.globals) c.unit.ensures.same)))
    (defaults-typed u.globals (globals-values u c.unit.ensures.verified))
