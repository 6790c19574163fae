-- What the typed parts of a statement are: each node has its type and breaks no rule under the names in force there.
use Rattle.std.specs.Prelude.{◌≡◌, Bool, false, Option, Some, None, List, [], ◌∷◌, ⊤}
use Rattle.std.specs.List.{AllByRecursion}
use Rattle.bds_tree.specs.declared.stmt.Body.{Body}
use Rattle.bds_tree.specs.Tree.{Tree}
use Rattle.bds_tree.specs.StmtTree.{SuffixTree, at_index, at_key, PlaceTree, StepTree, step_after, step_before, SmallFormTree, small_declare, small_infer, small_assign, small_update, small_step, small_call, SmallTree, SettingFormTree, setting_named, setting_plain, SettingTree, task, dep}
use Rattle.bds_check_names.specs.declared.names.Names.{Names}
use Rattle.bds_check_names.specs.declared.names.Asked.TheVariants.{Whole, Value, This}
use Rattle.bds_check_names.specs.declared.names.Site.{Site}
use Rattle.bds_check_names.specs.declared.names.Seen.{Seen}
use Rattle.bds_check_rules.specs.Declarations.{declared_by_small, names_with}
use Rattle.bds_check_rules.specs.Pieces.{sys_rule}
use Rattle.bds_check_rules.specs.StmtBreaks.{place_breaks, place_ty, small_breaks, none_seen, seen_behind, setting_breaks, commands_of}
use Rattle.bds_check_typing.specs.WellTyped.{IsWellTyped}

-- Expressions in statements

abbrev pub IsWellTypedMaybe : Option Tree → Names → Type 0
IsWellTypedMaybe None names = ⊤
IsWellTypedMaybe (Some e) names = IsWellTyped e names Value

abbrev pub IsWellTypedSuffix : SuffixTree → Names → Type 0
IsWellTypedSuffix (at_index e) names = IsWellTyped e names Value
IsWellTypedSuffix (at_key e) names = IsWellTyped e names Value

abbrev pub AreWellTypedSuffixes : List SuffixTree → Names → Type 0
AreWellTypedSuffixes [] names = ⊤
AreWellTypedSuffixes (s ∷ ss) names = IsWellTypedSuffix s names × AreWellTypedSuffixes ss names

abbrev pub IsWellTypedPlace : PlaceTree → Names → Type 0
IsWellTypedPlace p names = AreWellTypedSuffixes p.suffixes names × (place_breaks names p ≡ None)

abbrev pub IsWellTypedStep : StepTree → Names → Type 0
IsWellTypedStep (step_after p o) names = IsWellTypedPlace p names
IsWellTypedStep (step_before o p) names = IsWellTypedPlace p names

-- Heads of loops

abbrev pub IsWellTypedSmallForm : SmallFormTree → Names → Type 0
IsWellTypedSmallForm (small_declare t x None) names = ⊤
IsWellTypedSmallForm (small_declare t x (Some e)) names = IsWellTyped e names (This t)
IsWellTypedSmallForm (small_infer x e) names = IsWellTyped e names Value
IsWellTypedSmallForm (small_assign p e) names = IsWellTypedPlace p names × IsWellTyped e names (This (place_ty names p))
IsWellTypedSmallForm (small_update p o e) names = IsWellTypedPlace p names × IsWellTyped e names Value
IsWellTypedSmallForm (small_step s) names = IsWellTypedStep s names
IsWellTypedSmallForm (small_call e) names = IsWellTyped e names Whole

abbrev pub IsWellTypedSmall : Option SmallTree → Names → Site → Type 0
IsWellTypedSmall None names site = ⊤
IsWellTypedSmall (Some s) names site = IsWellTypedSmallForm s.form names × (small_breaks names site s.form ≡ None)

-- the names behind a part of a head
abbrev pub names_behind_small : Option SmallTree → Names → Site → Names
names_behind_small s names site = names_with names site (declared_by_small s)

-- Options and commands

abbrev pub IsWellTypedSettingForm : SettingFormTree → Names → Type 0
IsWellTypedSettingForm (setting_named x e) names = IsWellTyped e names Value
IsWellTypedSettingForm (setting_plain e) names = IsWellTyped e names Value

-- an option of a `dep`, or else of a task, behind those that were seen
abbrev pub IsWellTypedSetting : SettingTree → Names → Bool → Seen → Type 0
IsWellTypedSetting s names of_dep seen = IsWellTypedSettingForm s.form names × (setting_breaks of_dep seen s.form ≡ None)

abbrev pub AreWellTypedSettings : List SettingTree → Names → Bool → Seen → Type 0
AreWellTypedSettings [] names of_dep seen = ⊤
AreWellTypedSettings (s ∷ ss) names of_dep seen = IsWellTypedSetting s names of_dep seen × AreWellTypedSettings ss names of_dep (seen_behind seen s.form)

abbrev pub AreWellTypedMaybeSettings : Option (List SettingTree) → Names → Type 0
AreWellTypedMaybeSettings None names = ⊤
AreWellTypedMaybeSettings (Some os) names = AreWellTypedSettings os names false none_seen

abbrev pub IsWellTypedBody : Body → Names → Type 0
IsWellTypedBody b names = AllByRecursion (λ c. sys_rule names c.text ≡ None) (commands_of b)
