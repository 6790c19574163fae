use Rattle.std.proofs.Common.{subst}
use Rattle.bds_value.specs.Fields.{AreBytes}
use Rattle.bds_ckpt.proofs.Loads.{judged}
use Rattle.bds_ckpt.proofs.loading.load_whole.Goals as goal

pub returns-in-Ok : goal.returns-in-Ok
returns-in-Ok c = judged c.args.bytes c.in-Ok.file c.judge_file.result (subst AreBytes c.as_slice.ensures c.are_bytes.ensures) c.in-Ok.ensures.read c.in-Ok.ensures.summed c.in-Ok.ensures.legal.0 c.judge_file.ensures

pub read_summed-requires : goal.read_summed-requires
read_summed-requires c = subst AreBytes c.as_slice.ensures c.are_bytes.ensures
