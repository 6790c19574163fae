use Rattle.std.proofs.Common.{Err, sym, subst}
use Rattle.bds_state.specs.Parts.{Parts}
use Rattle.bds_verify.specs.Pass.{VerifiesUnit}
use Rattle.bds_ckpt.specs.Loading.{IsWrong}
use Rattle.bds_ckpt.proofs.Loads.{wrong_unit}
use Rattle.bds_ckpt.proofs.loading.judge.Goals as goal

pub returns-in-Err : goal.returns-in-Err
returns-in-Err c =
    let fault = c.in-Err.fault in
    subst (IsWrong c.args.image) (sym c.unit_fault.ensures)
    (wrong_unit c.args.image fault (subst (λ (s : Parts). VerifiesUnit s.unit (Err fault)) c.image.view_is (c.verify.ensures.fault fault c.in-Err.is)))
