use Rattle.bds_gen_stmt.specs.UnitCode.{unit_of}
use Rattle.bds_meaning.specs.Opening.{opening as source_opening}
use Rattle.bds_engine_parts.specs.Image.{image}
use Rattle.bds_engine_parts.specs.Seen.{opening}
use Rattle.bds_sim_code.specs.ScriptHere.{source_of}
use Rattle.bds_verify.specs.Verified.{VerifiedUnit}
use Rattle.std.proofs.Common.{subst, ap}
use Rattle.bds_sim_code.proofs.laws.units_run_as_scripts.Goals as goal

pub returns : goal.returns
returns c ss args s typed path cpus budget p begins valid =
    let here = c.typed_scripts_are_here.ensures ss args s typed in
    let verified : VerifiedUnit (unit_of ss args s) = subst VerifiedUnit (ap (λ x. x.unit) begins.parts) valid.unit in
    c.runs_agree.ensures (source_of s (unit_of ss args s)) (unit_of ss args s) s.files (image (unit_of ss args s)) (c.units_have_code.ensures ss args s here) verified (source_opening path cpus budget ss args s) (opening p cpus budget)
    (c.begun_states_stand.ensures ss args s here path cpus budget p begins valid)
