use Rattle.std.proofs.Common.{subst}
use Rattle.bds_value.specs.Order.{KeysRise}
use Rattle.bds_value.proofs.Entries.{rise_sorted}
use Rattle.bds_value.proofs.rising.Rising.rises.Goals as goal

pub returns : goal.returns
returns g c = subst KeysRise c.self.view_is (rise_sorted c.self.inside.pairs.entries c.len-count.ensures.ordered)
