use Rattle.std.proofs.Common.{◌≡◌, true, IsSome, ap, ◌∙◌, subst}
use Rattle.bds_code.specs.declared.instr.Instr.TheVariants.{Update}
use Rattle.bds_machine.specs.Stretches.{is_sink, sunk}
use Rattle.bds_machine.proofs.numbers.sink_last.Goals as goal

pub update_by_last-requires-clause-there : goal.update_by_last-requires-clause-there
update_by_last-requires-clause-there c v s taken =
    let plain = c.is_plain.ensures c.if-is_plain.true in
    let is = c.in-Update.is
    ∙ ap (λ kinds. Update c.in-Update.is_global c.in-Update.slot kinds c.in-Update.what) plain.0 in
    let sinks : is_sink c.args.instr.now ≡ true = ap is_sink is ∙ plain.1 in
    subst (λ i. IsSome (sunk i v c.args.next c.args.globals.now s)) is (c.requires.there sinks v s taken)
