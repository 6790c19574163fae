use Rattle.std.proofs.Common.{subst}
use Rattle.bds_value.specs.Fields.{AreBytes}
use Rattle.bds_value.proofs.CallLaws.{read_legal}
use Rattle.bds_ckpt.specs.FileReading.{file_at, spell_file}
use Rattle.bds_ckpt.specs.Loading.{IsFieldFile}
use Rattle.bds_ckpt.proofs.Loads.{read_stretch}
use Rattle.bds_ckpt.proofs.FileLaws.{file_is_field}
use Rattle.bds_ckpt.proofs.reading.images.read_file.Goals as goal

pub returns-clause-legal : goal.returns-clause-legal
returns-clause-legal c = read_legal file_at spell_file IsFieldFile file_is_field.spelled c.args.input.now c.read_parts.new.input c.read_parts.result (subst AreBytes c.as_slice.ensures c.are_bytes.ensures) c.read_parts.ensures.read

pub returns-clause-stretch : goal.returns-clause-stretch
returns-clause-stretch c = read_stretch file_at spell_file IsFieldFile file_is_field.spelled c.args.input.now c.read_parts.new.input c.read_parts.result (subst AreBytes c.as_slice.ensures c.are_bytes.ensures) c.read_parts.ensures.read
