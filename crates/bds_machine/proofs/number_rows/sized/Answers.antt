use Rattle.std.proofs.Common.{◌∷◌}
use Rattle.std.proofs.lemmas.Option.{IfSome_then}
use Rattle.bds_value.specs.declared.value.Value.TheVariants as value
use Rattle.bds_machine.proofs.Pushing.{size_seen}
use Rattle.bds_machine.proofs.Stretching.{code_there}
use Rattle.bds_machine.proofs.number_rows.sized.Goals as goal

pub instr_at-instr-requires : goal.instr_at-instr-requires
instr_at-instr-requires c =
    code_there c.args.function.now c.args.at (c.args.value.now ∷ c.requires.1) c.requires.0 c.requires.2 c.requires.3

pub returns : goal.returns
returns c =
    IfSome_then c.asked_size.result c.asked_size.ensures
    (λ n h. size_seen c.args.function.now c.args.at c.instr_at-instr.result.now c.instr_at-instr.ensures
    c.args.value.now (value.Int n) c.requires.0 c.requires.1 c.requires.2 h.0 h.1 h.2 h.3 c.requires.3)
