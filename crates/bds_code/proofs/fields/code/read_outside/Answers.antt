use Rattle.std.proofs.Common.{◌≡◌, ◌≤◌, ℕ, Err, refl, arith}
use Rattle.std.proofs.lemmas.Option.{slice_get_past}
use Rattle.bds_value.specs.declared.faults.FieldFault.TheVariants.{BadTag}
use Rattle.bds_value.specs.declared.value.Input.{Input}
use Rattle.bds_code.specs.UnitReading.{instr_of, instr_readers}
use Rattle.bds_code.proofs.fields.code.read_outside.Goals as goal

no_tag : (at tag : ℕ) (i : Input) → 55 ≤ tag → instr_of at tag i ≡ Err (BadTag at tag)
no_tag at tag i h = rw (slice_get_past instr_readers tag h) refl

pub returns-in_default-clause-read : goal.returns-in_default-clause-read
returns-in_default-clause-read c = no_tag c.args.at c.args.tag _ (omega arith)
