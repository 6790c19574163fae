use Rattle.std.proofs.Common.{subst}
use Rattle.bds_value.specs.Fields.{AreBytes, IsFieldValue}
use Rattle.bds_value.specs.Reading.{value_at}
use Rattle.bds_value.specs.Spelling.{value_field}
use Rattle.bds_value.proofs.CallLaws.{read_legal}
use Rattle.bds_value.proofs.ValueFieldLaws.{value_is_field}
use Rattle.bds_value.proofs.fields.reading.read_value.Goals as goal

pub returns-clause-legal : goal.returns-clause-legal
returns-clause-legal c = read_legal value_at value_field IsFieldValue value_is_field.spelled c.args.input.now c.read_typed.new.input c.read_typed.result (subst AreBytes c.as_slice.ensures c.are_bytes.ensures) c.read_typed.ensures.read
