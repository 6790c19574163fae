use Rattle.bds_rank.proofs.Turns.{taken_less}
use Rattle.bds_rank.proofs.laws.turns_lessen.Goals as goal

pub returns : goal.returns
returns c weight files image step k stamps m turn t there s ready few falls =
    taken_less weight files image k stamps m turn t there s ready few step (step s) falls
