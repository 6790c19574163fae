use Rattle.std.proofs.Common.{subst, ap}
use Rattle.bds_gen_stmt.specs.UnitCode.{unit_of}
use Rattle.bds_meaning.specs.History.{Lives}
use Rattle.bds_meaning.specs.Opening.{opening}
use Rattle.bds_state.specs.Parts.{Parts}
use Rattle.bds_sim_code.specs.ScriptHere.{source_of}
use Rattle.bds_verify.specs.Verified.{VerifiedUnit}
use Rattle.bds_sim_code.proofs.laws.script_histories_go_on.Goals as goal

pub returns : goal.returns
returns c ss args s typed path cpus budget =
    let here = c.typed_scripts_are_here.ensures ss args s typed in
    let start = opening path cpus budget ss args s in
    let law = c.histories_go_on.ensures (source_of s (unit_of ss args s)) (unit_of ss args s) start (c.units_have_code.ensures ss args s here) in
    record {
      begun = λ p begins valid before after r run.
          let verified : VerifiedUnit (unit_of ss args s) = subst VerifiedUnit (ap (λ (x : Parts). x.unit) begins.parts) valid.unit in
          law.0 verified _ start Lives.opens p cpus budget (ap (λ (x : Parts). x.unit) begins.parts) (c.begun_states_stand.ensures ss args s here path cpus budget p begins valid) before after r run;
      loaded = law.1;
    }
