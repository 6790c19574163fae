use Rattle.std.proofs.Common.{◌∙◌, ap}
use Rattle.bds_value.specs.Path.{without_key}
use Rattle.bds_value.proofs.Entries.{remove_is}
use Rattle.bds_value.proofs.rising.Rising.remove.Goals as goal

pub returns : goal.returns
returns g c = c.remove.ensures.entries ∙ remove_is c.args.key.now c.self.inside.pairs.entries ∙ ap (without_key c.args.key.now) c.self.view_is
