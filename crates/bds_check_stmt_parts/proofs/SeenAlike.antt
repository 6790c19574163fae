-- What is seen of an option, whatever types are in it.
use Rattle.std.proofs.Common.{◌≡◌, Bool, ◌||◌, refl, ap, sym, ◌∙◌}
use Rattle.bds_tree.specs.Tree.{Tree, node, number, text, truth, name, call, group, list, mapping, item, key, method}
use Rattle.bds_tree.specs.Tree.{prefix, binary, choice, dependency}
use Rattle.bds_tree.specs.StmtTree.{SettingFormTree, setting_named, setting_plain}
use Rattle.bds_check_names.specs.declared.names.Seen.{Seen}
use Rattle.bds_check_rules.specs.StmtBreaks.{is_dependency, seen_behind}
use Rattle.bds_check_walk.specs.InPlace.{bare_expr}
use Rattle.bds_check_stmt_parts.specs.InPlace.{bare_setting_form}

dependency-bare : (e : Tree) → is_dependency (bare_expr e) ≡ is_dependency e
dependency-bare (node at t (number v)) = refl
dependency-bare (node at t (text ps)) = refl
dependency-bare (node at t (truth b)) = refl
dependency-bare (node at t (name x)) = refl
dependency-bare (node at t (call f es)) = refl
dependency-bare (node at t (group e)) = refl
dependency-bare (node at t (list es)) = refl
dependency-bare (node at t (mapping ps)) = refl
dependency-bare (node at t (item a i)) = refl
dependency-bare (node at t (key a k)) = refl
dependency-bare (node at t (method a m es)) = refl
dependency-bare (node at t (prefix o a)) = refl
dependency-bare (node at t (binary a o b)) = refl
dependency-bare (node at t (choice c a b)) = refl
dependency-bare (node at t (dependency a b)) = refl

seen-bare : (seen : Seen) (f : SettingFormTree) → seen_behind seen (bare_setting_form f) ≡ seen_behind seen f
seen-bare seen (setting_named x e) = refl
seen-bare seen (setting_plain e) =
    ap (λ (b : Bool). record { names = seen.names; dependency = seen.dependency || b }) (dependency-bare e)

pub seen-alike : (seen : Seen) (f g : SettingFormTree) → bare_setting_form f ≡ bare_setting_form g
    → seen_behind seen f ≡ seen_behind seen g
seen-alike seen f g same = sym (seen-bare seen f) ∙ ap (seen_behind seen) same ∙ seen-bare seen g
