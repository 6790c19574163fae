use Rattle.std.proofs.Common.{subst, length, ◌≤◌}
use Rattle.bds_value.specs.declared.TheConstants.{MAX_TEXT}
use Rattle.bds_value.specs.Fields.{AreBytes}
use Rattle.bds_value.specs.Reading.{text_at}
use Rattle.bds_value.specs.Spelling.{text_field}
use Rattle.bds_value.proofs.CallLaws.{read_legal}
use Rattle.bds_value.proofs.NumberLaws.{text_is_field}
use Rattle.bds_value.proofs.fields.reading.read_text.Goals as goal

pub returns-clause-legal : goal.returns-clause-legal
returns-clause-legal c = read_legal text_at text_field (λ t. length t ≤ MAX_TEXT) text_is_field.spelled c.args.input.now c.read_counted.new.input c.read_counted.result (subst AreBytes c.as_slice.ensures c.are_bytes.ensures) c.read_counted.ensures.read
