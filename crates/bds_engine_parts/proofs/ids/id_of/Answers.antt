use Rattle.bds_engine_parts.proofs.Naming.{unnamed}
use Rattle.bds_engine_parts.proofs.ids.id_of.Goals as goal

pub returns-in-None-number_behind : goal.returns-in-None-number_behind
returns-in-None-number_behind c =
    unnamed c.args.tasks c.args.threads c.args.text.now c.ranges.tasks.fits c.ranges.threads.fits c.in-None.ensures c.in-None-number_behind.ensures
