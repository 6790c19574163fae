-- The rules of literals with items.
use Rattle.std.proofs.Common.{◌≡◌, ◌≤◌, List, [], ◌∷◌, length, refl, rules, None}
use Rattle.bds_tree.specs.declared.expr.Expr.{Expr}
use Rattle.bds_tree.specs.View.{trees_of, pairs_of}
use Rattle.bds_check_names.specs.declared.names.Asked.{Asked}
use Rattle.bds_check_rules.specs.declared.rules.Rule.TheVariants as rule
use Rattle.bds_check_rules.specs.Typing.{asked_list_item, asked_map_item, first_type, first_value_type, item_type}
use Rattle.bds_check_rules.specs.Pieces.{when}
use Rattle.bds_check_rules.specs.Breaks.{list_rule, map_rule, any_differs, any_pair_differs}

pub list_rule_some : (asked : Asked) (es : List Expr) → 1 ≤ length es → list_rule asked (trees_of es) ≡ when (any_differs (item_type (asked_list_item asked) (first_type (trees_of es))) (trees_of es)) rule.WrongType None
list_rule_some asked [] h = search rules
list_rule_some asked (e ∷ es) h = refl

pub map_rule_some : (asked : Asked) (ps : List (Expr × Expr)) → 1 ≤ length ps → map_rule asked (pairs_of ps) ≡ when (any_pair_differs (item_type (asked_map_item asked) (first_value_type (pairs_of ps))) (pairs_of ps)) rule.WrongType None
map_rule_some asked [] h = search rules
map_rule_some asked (p ∷ ps) h = refl
