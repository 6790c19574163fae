use Rattle.std.proofs.Common.{◌<◌, ◌≤◌, length, IsSome, sym, ap, subst, refl, arith}
use Rattle.std.proofs.lemmas.Option.{slice_get-get_or, slice_get_past}
use Rattle.bds_machine_values.specs.Values.{counts, argument_counts}
use Rattle.bds_machine_values.proofs.methods.takes.Goals as goal

pub argument_count-requires : goal.argument_count-requires
argument_count-requires c =
    let l : c.args.method < length argument_counts = omega arith in
    subst IsSome (sym (slice_get-get_or argument_counts c.args.method 0 l)) refl

pub returns-else-method-lt30 : goal.returns-else-method-lt30
returns-else-method-lt30 c =
    let le : length argument_counts ≤ c.args.method = omega arith in
    sym (ap (counts c.args.count) (slice_get_past argument_counts c.args.method le))
