use Rattle.std.proofs.Common.{◌≡◌, drop}
use Rattle.std.specs.List.{list_any}
use Rattle.std.specs.Str.{bytes_eq}
use Rattle.bds_check_rules.proofs.setting_rules.was_seen.Given as goal

abbrev pub invariant-loop-other : goal.invariant-loop-other
invariant-loop-other l = list_any (λ y. bytes_eq y l.name) (drop l.other-index l.other-items) ≡ list_any (λ y. bytes_eq y l.name) l.seen.names
