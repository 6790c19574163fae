-- What the check rewrites by in the walk.
use Rattle.bds_tree.proofs.Views.{view_rules}
use Rattle.bds_check_walk.proofs.Depths.{most-take, most-drop}

pub ruleset walk_rules = (view_rules, most-take, most-drop)
