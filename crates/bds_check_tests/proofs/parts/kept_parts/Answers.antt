use Rattle.std.proofs.Common.{rules, ap, map, ◌∙◌}
use Rattle.std.specs.List.{filter}
use Rattle.std.proofs.lemmas.Fn.{filter_same}
use Rattle.bds_tree.specs.StmtView.{part_of}
use Rattle.bds_check_tests.specs.Tests.{is_kept}
use Rattle.bds_check_tests.proofs.TestPrograms.{kept_as}
use Rattle.bds_check_tests.proofs.parts.kept_parts.Goals as goal

pub returns : goal.returns
returns c =
    ap (map part_of) (c.from_vec.ensures
    ∙ filter_same _ (λ p. is_kept (part_of p)) _ (λ x b f' k. search rules) _ _ c.retain.ensures.filtered
    ∙ ap (filter (λ p. is_kept (part_of p))) c.into_vec-items.ensures) ∙ kept_as c.args.parts
