use Rattle.std.proofs.Common.{◌≡◌, drop}
use Rattle.std.specs.Option.{option_copied}
use Rattle.bds_check_size.specs.ScriptSize.{later, set_value}
use Rattle.bds_check_typing.specs.GivenValues.{set_by}
use Rattle.bds_source_parts.proofs.declarations.value_set.Given as goal

abbrev pub invariant-loop-given : goal.invariant-loop-given
invariant-loop-given l = later (set_value (set_by (drop l.given-index l.settings)) l.name) (option_copied l.found) ≡ set_value (set_by l.settings) l.name
