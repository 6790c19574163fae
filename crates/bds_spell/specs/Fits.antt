-- For private contracts alone: whether an expression is shaped and nests at most so deep, as a test.
use Rattle.std.specs.Prelude.{ℕ, ◌-◌, Bool, true, ◌&&◌, nat_eq, nat_le, nat_lt}
use Rattle.bds_value.specs.declared.value.At.{At}
use Rattle.bds_value.specs.Types.{is_void}
use Rattle.bds_tree.specs.Tree.{Tree, FormTree, Trees, TreePairs, node, number, text, truth, name, call, group, list, mapping, item, key, method, prefix, binary, choice, dependency, none, more, no_pairs, more_pairs}
use Rattle.bds_tree.specs.Shape.{level_of, level, follow}

-- a test of what stands one below
abbrev pub below : (ℕ → Bool) → ℕ → Bool
below test most = nat_lt 0 most && test (most - 1)

abbrev pub is_first : At → Bool
is_first at = nat_eq at.file 0

abbrev mutual
  pub fits : Tree → ℕ → Bool
  fits (node at t f) most = is_first at && (is_void t && form_fits f most)

  pub form_fits : FormTree → ℕ → Bool
  form_fits (number v) most = true
  form_fits (text ps) most = true
  form_fits (truth b) most = true
  form_fits (name n) most = true
  form_fits (call n es) most = all_fit es most
  form_fits (group e) most = below (fits e) most
  form_fits (list es) most = all_fit es most
  form_fits (mapping ps) most = pairs_fit ps most
  form_fits (item a i) most = nat_le 10 (follow a) && (below (fits a) most && below (fits i) most)
  form_fits (key a k) most = nat_le 10 (follow a) && (below (fits a) most && below (fits k) most)
  form_fits (method a n es) most = nat_le 10 (follow a) && (below (fits a) most && all_fit es most)
  form_fits (prefix o a) most = nat_le 9 (level a) && below (fits a) most
  form_fits (binary a o b) most = nat_le (level_of o) (follow a) && (nat_lt (level_of o) (level b) && (below (fits a) most && below (fits b) most))
  form_fits (choice c a b) most = nat_le 2 (follow c) && (nat_le 2 (level a) && (nat_le 2 (level b) && (below (fits c) most && (below (fits a) most && below (fits b) most))))
  form_fits (dependency a b) most = nat_le 1 (follow a) && (nat_le 2 (level b) && (below (fits a) most && below (fits b) most))

  pub all_fit : Trees → ℕ → Bool
  all_fit none most = true
  all_fit (more e es) most = below (fits e) most && all_fit es most

  pub pairs_fit : TreePairs → ℕ → Bool
  pairs_fit no_pairs most = true
  pairs_fit (more_pairs k v ps) most = (below (fits k) most && below (fits v) most) && pairs_fit ps most
