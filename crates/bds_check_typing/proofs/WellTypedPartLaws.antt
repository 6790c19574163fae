-- Parts of a statement in which the walk meets no broken node are well typed.
use Rattle.std.proofs.Common.{◌≡◌, Bool, ◌||◌, List, [], ◌∷◌, Option, Some, None, refl, ap, sym, subst, ◌∙◌}
use Rattle.std.specs.List.{AllByRecursion}
use Rattle.bds_value.specs.declared.value.At.{At}
use Rattle.bds_value.specs.declared.value.Ty.{Ty}
use Rattle.bds_tree.specs.declared.stmt.Command.{Command}
use Rattle.bds_tree.specs.Tree.{Tree, node, number, text, truth, name, call, group, list, mapping, item, key, method, prefix, binary, choice, dependency}
use Rattle.bds_tree.specs.StmtTree.{SuffixTree, at_index, at_key, PlaceTree, StepTree, step_after, step_before, SmallFormTree, small_declare, small_infer, small_assign, small_update, small_step, small_call, SmallTree, SettingFormTree, setting_named, setting_plain, SettingTree, step}
use Rattle.bds_check_names.specs.declared.names.Names.{Names}
use Rattle.bds_check_names.specs.declared.names.Asked.{Asked}
use Rattle.bds_check_names.specs.declared.names.Asked.TheVariants.{Whole, Value, This}
use Rattle.bds_check_names.specs.declared.names.Site.{Site}
use Rattle.bds_check_names.specs.declared.names.Seen.{Seen}
use Rattle.bds_check_rules.specs.declared.rules.Rule.{Rule}
use Rattle.bds_check_names.specs.Scopes.{type_named}
use Rattle.bds_check_rules.specs.Pieces.{sys_rule}
use Rattle.bds_check_rules.specs.StmtBreaks.{into, part_ty, place_ty, place_breaks, small_breaks, is_dependency, seen_behind, setting_breaks}
use Rattle.bds_check_typing.specs.Walk.{Broken, first, placed, judge}
use Rattle.bds_check_typing.specs.StmtParts.{judge_maybe, judge_suffix, judge_suffixes, judge_place, judge_step, judge_small_form, judge_small, judge_setting_form, judge_setting, judge_settings, commands_broken}
use Rattle.bds_check_typing.specs.WellTyped.{IsWellTyped}
use Rattle.bds_check_typing.specs.WellTypedParts.{IsWellTypedMaybe, IsWellTypedSuffix, AreWellTypedSuffixes, IsWellTypedPlace, IsWellTypedStep, IsWellTypedSmallForm, IsWellTypedSmall, names_behind_small, IsWellTypedSettingForm, IsWellTypedSetting, AreWellTypedSettings}
use Rattle.bds_check_typing.proofs.WellTypedLaws.{first-left, first-right, placed-none, well-typed}

-- What typing leaves as it is

into-kept : (t : Ty) (s : SuffixTree) (names : Names) → into t (judge_suffix s names).suffix ≡ into t s
into-kept t (at_index e) names = refl
into-kept t (at_key e) names = refl

part-kept : (t : Ty) (ss : List SuffixTree) (names : Names) → part_ty t (judge_suffixes ss names).suffixes ≡ part_ty t ss
part-kept t [] names = refl
part-kept t (s ∷ ss) names = ap (λ (u : Ty). part_ty u (judge_suffixes ss names).suffixes) (into-kept t s names) ∙ part-kept (into t s) ss names

pub place-kept : (p : PlaceTree) (names : Names) → place_ty names (judge_place p names).place ≡ place_ty names p
place-kept p names = part-kept (type_named p.name names) p.suffixes names

dependency-kept : (e : Tree) (names : Names) (asked : Asked) → is_dependency (judge e names asked).tree ≡ is_dependency e
dependency-kept (node at t (number v)) names asked = refl
dependency-kept (node at t (text ps)) names asked = refl
dependency-kept (node at t (truth b)) names asked = refl
dependency-kept (node at t (name x)) names asked = refl
dependency-kept (node at t (call f es)) names asked = refl
dependency-kept (node at t (group e)) names asked = refl
dependency-kept (node at t (list es)) names asked = refl
dependency-kept (node at t (mapping ps)) names asked = refl
dependency-kept (node at t (item a i)) names asked = refl
dependency-kept (node at t (key a k)) names asked = refl
dependency-kept (node at t (method a m es)) names asked = refl
dependency-kept (node at t (prefix o a)) names asked = refl
dependency-kept (node at t (binary a o b)) names asked = refl
dependency-kept (node at t (choice c a b)) names asked = refl
dependency-kept (node at t (dependency a b)) names asked = refl

seen-kept : (seen : Seen) (s : SettingFormTree) (names : Names) → seen_behind seen (judge_setting_form s names).form ≡ seen_behind seen s
seen-kept seen (setting_named x e) names = refl
seen-kept seen (setting_plain e) names = ap (λ (b : Bool). record { names = seen.names; dependency = seen.dependency || b }) (dependency-kept e names Value)

-- The names behind

pub small-names-kept : (s : Option SmallTree) (names : Names) (site : Site) → (judge_small s names site).names ≡ names_behind_small (judge_small s names site).small names site
small-names-kept None names site = refl
small-names-kept (Some s) names site = refl

-- Expressions in statements

pub maybe-typed : (e : Option Tree) (names : Names) → (judge_maybe e names).broken ≡ None → IsWellTypedMaybe (judge_maybe e names).expr names
maybe-typed None names q = tt
maybe-typed (Some e) names q = well-typed e names Value q

pub suffix-typed : (s : SuffixTree) (names : Names) → (judge_suffix s names).broken ≡ None → IsWellTypedSuffix (judge_suffix s names).suffix names
suffix-typed (at_index e) names q = well-typed e names Value q
suffix-typed (at_key e) names q = well-typed e names Value q

pub suffixes-typed : (ss : List SuffixTree) (names : Names) → (judge_suffixes ss names).broken ≡ None → AreWellTypedSuffixes (judge_suffixes ss names).suffixes names
suffixes-typed [] names q = tt
suffixes-typed (s ∷ ss) names q = (
  suffix-typed s names (first-left (judge_suffix s names).broken (judge_suffixes ss names).broken q),
  suffixes-typed ss names (first-right (judge_suffix s names).broken (judge_suffixes ss names).broken q),
)

-- a node behind its parts
pub closed : (P : Type 0) (at : At) (parts : Option Broken) (r : Option Rule) → (parts ≡ None → P) → first parts (placed at r) ≡ None → P × (r ≡ None)
closed P at parts r h q = (h (first-left parts (placed at r) q), placed-none at r (first-right parts (placed at r) q))

pub place-typed : (p : PlaceTree) (names : Names) → (judge_place p names).broken ≡ None → IsWellTypedPlace (judge_place p names).place names
place-typed p names q =
    closed (AreWellTypedSuffixes (judge_suffixes p.suffixes names).suffixes names) p.at (judge_suffixes p.suffixes names).broken
    (place_breaks names (judge_place p names).place) (suffixes-typed p.suffixes names) q

pub step-typed : (s : StepTree) (names : Names) → (judge_step s names).broken ≡ None → IsWellTypedStep (judge_step s names).step names
step-typed (step_after p o) names q = place-typed p names q
step-typed (step_before o p) names q = place-typed p names q

-- what is asked of the right side is the type of the place, as it was and as it is typed
pub asked-of-place : (P : Asked → Type 0) (p : PlaceTree) (names : Names) → P (This (place_ty names p)) → P (This (place_ty names (judge_place p names).place))
asked-of-place P p names h = subst (λ (t : Ty). P (This t)) (sym (place-kept p names)) h

-- Heads of loops

pub small-form-typed : (f : SmallFormTree) (names : Names) → (judge_small_form f names).broken ≡ None → IsWellTypedSmallForm (judge_small_form f names).form names
small-form-typed (small_declare t x None) names q = tt
small-form-typed (small_declare t x (Some e)) names q = well-typed e names (This t) q
small-form-typed (small_infer x e) names q = well-typed e names Value q
small-form-typed (small_assign p e) names q = (
  place-typed p names (first-left (judge_place p names).broken (judge e names (This (place_ty names p))).broken q),
  asked-of-place (IsWellTyped (judge e names (This (place_ty names p))).tree names) p names (well-typed e names (This (place_ty names p)) (first-right (judge_place p names).broken (judge e names (This (place_ty names p))).broken q)),
)
small-form-typed (small_update p o e) names q = (
  place-typed p names (first-left (judge_place p names).broken (judge e names Value).broken q),
  well-typed e names Value (first-right (judge_place p names).broken (judge e names Value).broken q),
)
small-form-typed (small_step s) names q = step-typed s names q
small-form-typed (small_call e) names q = well-typed e names Whole q

pub small-typed : (s : Option SmallTree) (names : Names) (site : Site) → (judge_small s names site).broken ≡ None → IsWellTypedSmall (judge_small s names site).small names site
small-typed None names site q = tt
small-typed (Some s) names site q =
    closed (IsWellTypedSmallForm (judge_small_form s.form names).form names) s.at (judge_small_form s.form names).broken
    (small_breaks names site (judge_small_form s.form names).form) (small-form-typed s.form names) q

-- Options and commands

pub setting-form-typed : (f : SettingFormTree) (names : Names) → (judge_setting_form f names).broken ≡ None → IsWellTypedSettingForm (judge_setting_form f names).form names
setting-form-typed (setting_named x e) names q = well-typed e names Value q
setting-form-typed (setting_plain e) names q = well-typed e names Value q

pub setting-typed : (s : SettingTree) (names : Names) (of_dep : Bool) (seen : Seen) → (judge_setting s names of_dep seen).broken ≡ None → IsWellTypedSetting (judge_setting s names of_dep seen).setting names of_dep seen
setting-typed s names of_dep seen q =
    closed (IsWellTypedSettingForm (judge_setting_form s.form names).form names) s.at (judge_setting_form s.form names).broken
    (setting_breaks of_dep seen (judge_setting_form s.form names).form) (setting-form-typed s.form names) q

pub settings-typed : (ss : List SettingTree) (names : Names) (of_dep : Bool) (seen : Seen) → (judge_settings ss names of_dep seen).broken ≡ None → AreWellTypedSettings (judge_settings ss names of_dep seen).settings names of_dep seen
settings-typed [] names of_dep seen q = tt
settings-typed (s ∷ ss) names of_dep seen q =
    let behind : Seen = seen_behind seen s.form in
    let here : Option Broken = (judge_setting s names of_dep seen).broken in
    let others : Option Broken = (judge_settings ss names of_dep behind).broken in (
      setting-typed s names of_dep seen (first-left here others q),
      subst (AreWellTypedSettings (judge_settings ss names of_dep behind).settings names of_dep) (sym (seen-kept seen s.form names)) (settings-typed ss names of_dep behind (first-right here others q)),
    )

pub commands-typed : (cs : List Command) (names : Names) → commands_broken cs names ≡ None → AllByRecursion (λ c. sys_rule names c.text ≡ None) cs
commands-typed [] names q = tt
commands-typed (c ∷ cs) names q =
    let here : Option Broken = placed c.at (sys_rule names c.text) in
    (placed-none c.at (sys_rule names c.text) (first-left here (commands_broken cs names) q), commands-typed cs names (first-right here (commands_broken cs names) q))
