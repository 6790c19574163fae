use Rattle.std.proofs.Common.{◌∙◌, ap}
use Rattle.bds_value.specs.Path.{at_key}
use Rattle.bds_value.proofs.Entries.{lookup_is}
use Rattle.bds_value.proofs.rising.Rising.get.Goals as goal

pub returns : goal.returns
returns g c = c.get.ensures.value ∙ lookup_is c.args.key.now c.self.inside.pairs.entries ∙ ap (at_key c.args.key.now) c.self.view_is
