use Rattle.bds_ckpt.proofs.Loads.{gives}
use Rattle.bds_ckpt.proofs.loading.load.Goals as goal

pub returns-clause-exact : goal.returns-clause-exact
returns-clause-exact c = λ s h. gives c.valid_states_may_be_written.ensures c.faults_are_real.ensures c.args.bytes s h c.load_whole.result c.load_whole.ensures
