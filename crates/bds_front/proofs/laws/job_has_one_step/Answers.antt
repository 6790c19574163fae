use Rattle.bds_front.proofs.OneStep.{one_step}
use Rattle.bds_front.proofs.laws.job_has_one_step.Goals as goal

pub returns : goal.returns
returns c = λ job words size. one_step c.text_spells_one_script.ensures job words size c.next_step_is_one.ensures
