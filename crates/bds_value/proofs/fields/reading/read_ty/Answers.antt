use Rattle.std.proofs.Common.{subst}
use Rattle.bds_value.specs.Fields.{AreBytes, IsFieldTy}
use Rattle.bds_value.specs.Reading.{ty_at}
use Rattle.bds_value.specs.Spelling.{ty_field}
use Rattle.bds_value.proofs.CallLaws.{read_legal}
use Rattle.bds_value.proofs.TyFieldLaws.{ty_is_field}
use Rattle.bds_value.proofs.fields.reading.read_ty.Goals as goal

pub returns-clause-legal : goal.returns-clause-legal
returns-clause-legal c = read_legal ty_at ty_field IsFieldTy ty_is_field.spelled c.args.input.now c.read_ty_within.new.input c.read_ty_within.result (subst AreBytes c.as_slice.ensures c.are_bytes.ensures) c.read_ty_within.ensures.read
