-- What a walk in place has to leave of the parts of statements.
use Rattle.std.specs.Prelude.{◌≡◌, Option, List, Result}
use Rattle.bds_tree.specs.Tree.{Tree}
use Rattle.bds_tree.specs.StmtTree.{SuffixTree, PlaceTree, StepTree, SmallFormTree, SmallTree, SettingFormTree}
use Rattle.bds_tree.specs.StmtTree.{SettingTree, ActFormTree}
use Rattle.bds_check_names.specs.declared.names.Names.{Names}
use Rattle.bds_check_rules.specs.declared.rules.CheckFault.{CheckFault}
use Rattle.bds_check_typing.specs.Answers.{Fits}
use Rattle.bds_check_typing.specs.Remade.{remade_suffix, remade_place, remade_step, remade_small_form, remade_small}
use Rattle.bds_check_typing.specs.Remade.{remade_setting_form, remade_setting}
use Rattle.bds_check_typing.specs.StmtParts.{JudgedMaybe, JudgedSuffix, JudgedSuffixes, JudgedPlace, JudgedStep}
use Rattle.bds_check_typing.specs.StmtParts.{JudgedSmallForm, JudgedSmall, JudgedSettingForm, JudgedSetting}
use Rattle.bds_check_typing.specs.StmtParts.{JudgedSettings, JudgedActForm}
use Rattle.bds_check_walk.specs.InPlace.{same_at, no_ty}

-- without their types
abbrev pub bare_suffix : SuffixTree → SuffixTree
bare_suffix = remade_suffix same_at no_ty

abbrev pub bare_place : PlaceTree → PlaceTree
bare_place = remade_place same_at no_ty

abbrev pub bare_step : StepTree → StepTree
bare_step = remade_step same_at no_ty

abbrev pub bare_small_form : SmallFormTree → SmallFormTree
bare_small_form = remade_small_form same_at no_ty

abbrev pub bare_small : SmallTree → SmallTree
bare_small = remade_small same_at no_ty

abbrev pub bare_setting_form : SettingFormTree → SettingFormTree
bare_setting_form = remade_setting_form same_at no_ty

abbrev pub bare_setting : SettingTree → SettingTree
bare_setting = remade_setting same_at no_ty

abbrev pub LeavesMaybe : {X : Type 0} → Result X CheckFault → Option Tree → JudgedMaybe → Type 0
LeavesMaybe r e j = Fits r j.broken (λ x. e ≡ j.expr)

abbrev pub LeavesSuffix : {X : Type 0} → Result X CheckFault → SuffixTree → JudgedSuffix → Type 0
LeavesSuffix r s j = Fits r j.broken (λ x. s ≡ j.suffix)

abbrev pub LeavesSuffixes : {X : Type 0} → Result X CheckFault → List SuffixTree → JudgedSuffixes → Type 0
LeavesSuffixes r ss j = Fits r j.broken (λ x. ss ≡ j.suffixes)

abbrev pub LeavesPlace : {X : Type 0} → Result X CheckFault → PlaceTree → JudgedPlace → Type 0
LeavesPlace r p j = Fits r j.broken (λ x. p ≡ j.place)

abbrev pub LeavesStep : {X : Type 0} → Result X CheckFault → StepTree → JudgedStep → Type 0
LeavesStep r s j = Fits r j.broken (λ x. s ≡ j.step)

abbrev pub LeavesSmallForm : {X : Type 0} → Result X CheckFault → SmallFormTree → JudgedSmallForm → Type 0
LeavesSmallForm r f j = Fits r j.broken (λ x. f ≡ j.form)

-- and these names are left
abbrev pub LeavesSmall : {X : Type 0} → Result X CheckFault → Option SmallTree → Names → JudgedSmall → Type 0
LeavesSmall r s left j = Fits r j.broken (λ x. (s ≡ j.small) × (left ≡ j.names))

abbrev pub LeavesSettingForm : {X : Type 0} → Result X CheckFault → SettingFormTree → JudgedSettingForm → Type 0
LeavesSettingForm r f j = Fits r j.broken (λ x. f ≡ j.form)

abbrev pub LeavesSetting : {X : Type 0} → Result X CheckFault → SettingTree → JudgedSetting → Type 0
LeavesSetting r s j = Fits r j.broken (λ x. s ≡ j.setting)

abbrev pub LeavesSettings : {X : Type 0} → Result X CheckFault → List SettingTree → JudgedSettings → Type 0
LeavesSettings r ss j = Fits r j.broken (λ x. ss ≡ j.settings)

abbrev pub LeavesActForm : {X : Type 0} → Result X CheckFault → ActFormTree → JudgedActForm → Type 0
LeavesActForm r f j = Fits r j.broken (λ x. f ≡ j.form)
