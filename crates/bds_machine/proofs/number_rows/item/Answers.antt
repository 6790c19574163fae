use Rattle.std.proofs.Common.{◌≡◌, ◌∷◌, Some, sym, subst}
use Rattle.std.proofs.lemmas.Option.{IfSome_then}
use Rattle.bds_value.specs.declared.value.Place.TheVariants.{Index}
use Rattle.bds_value.specs.declared.value.Value.{out-Value}
use Rattle.bds_value.specs.declared.value.Value.TheVariants as value
use Rattle.bds_value.specs.Path.{child}
use Rattle.bds_machine.proofs.Numbering.{same_number}
use Rattle.bds_machine.proofs.Pushing.{item_seen}
use Rattle.bds_machine.proofs.Stretching.{code_there}
use Rattle.bds_machine.proofs.number_rows.item.Goals as goal

pub instr_at-instr-requires : goal.instr_at-instr-requires
instr_at-instr-requires c = code_there c.args.function.now c.args.at
    (value.Int c.args.index ∷ c.args.value.now ∷ c.requires.1) c.requires.0 c.requires.2 c.requires.3

pub returns : goal.returns
returns c =
    let a = c.args.value.now in
    let k = c.args.index in
    IfSome_then c.asked_item.result c.asked_item.ensures
    (λ n h. item_seen c.args.function.now c.args.at c.instr_at-instr.result.now c.instr_at-instr.ensures a (value.Int n)
    k c.requires.0 c.requires.1 c.requires.2 h.0
    (subst (λ k. child (Index k) (out-Value a) ≡ Some (value.Int n)) (sym (same_number k c.ranges.index)) h.1)
    c.requires.3)
