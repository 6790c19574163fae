use Rattle.std.proofs.Common.{[], ap, arith, subst, sym, ◌∙◌}
use Rattle.bds_value.specs.declared.value.Ty.TheVariants.{Int}
use Rattle.bds_value.specs.declared.value.Value.TheVariants.{Map}
use Rattle.bds_value.specs.Spelling.{IsWithinHere, IsWithinLimits}
use Rattle.bds_value.proofs.Every.{every-Map}
use Rattle.bds_rows_values.proofs.fields.written_map.Goals as goal

pub write_value-requires : goal.write_value-requires
write_value-requires c =
    subst IsWithinLimits (sym (c.in_ok-map.ensures ∙ ap (Map Int) c.new.ensures))
    ((every-Map IsWithinHere Int []).1 ((omega arith, tt), tt))
