-- What a tree is with its types: the same tree but for the types of expressions, in which each node has its type and breaks no rule.
use Rattle.std.specs.Prelude.{◌≡◌, Bool, Option, List, map}
use Rattle.bds_value.specs.declared.value.At.{At}
use Rattle.bds_value.specs.declared.value.Ty.{Ty}
use Rattle.bds_value.specs.declared.value.Ty.TheVariants as ty
use Rattle.bds_tree.specs.Tree.{Tree, FormTree}
use Rattle.bds_tree.specs.StmtTree.{SuffixTree, PlaceTree, SmallFormTree, SmallTree, SettingFormTree, SettingTree, StmtTree, StmtFormTree, RightTree, ActFormTree, BlockTree, PartTree, CaseTree}
use Rattle.bds_check_names.specs.declared.names.Names.{Names}
use Rattle.bds_check_names.specs.declared.names.Head.{Head}
use Rattle.bds_check_names.specs.declared.names.Asked.{Asked}
use Rattle.bds_check_names.specs.declared.names.Site.{Site}
use Rattle.bds_check_names.specs.declared.names.Seen.{Seen}
use Rattle.bds_check_typing.specs.WellTyped.{IsWellTyped, ArePartsWellTyped}
use Rattle.bds_check_typing.specs.WellTypedParts.{IsWellTypedMaybe, IsWellTypedSuffix, AreWellTypedSuffixes, IsWellTypedPlace, IsWellTypedSmallForm, IsWellTypedSmall, IsWellTypedSettingForm, IsWellTypedSetting, AreWellTypedSettings}
use Rattle.bds_check_typing.specs.WellTypedStmts.{IsWellTypedStmt, IsWellTypedForm, IsWellTypedRight, IsWellTypedActForm, IsWellTypedBlock, IsWellTypedCase}
use Rattle.bds_check_typing.specs.Remade as remade
use Rattle.bds_check_typing.specs.WellTypedScripts.{IsWellTypedPart, AreWellTypedParts}

abbrev pub kept_at : At → At
kept_at at = at

abbrev pub no_type : Ty → Ty
no_type t = ty.Void

-- two trees that are the same but for the types of expressions
abbrev pub AreAlike : {X : Type 0} → ((At → At) → (Ty → Ty) → X → X) → X → X → Type 0
AreAlike remade x y = remade kept_at no_type x ≡ remade kept_at no_type y

-- Each of these says of a tree, with what is asked of it, which one it is with its types.

abbrev pub IsTypedAs : Tree → Names → Asked → Tree → Type 0
IsTypedAs e names asked d = AreAlike remade.remade_expr d e × IsWellTyped d names asked

abbrev pub IsFormTypedAs : FormTree → Names → Asked → FormTree → Type 0
IsFormTypedAs f names asked g = AreAlike remade.remade_form g f × ArePartsWellTyped g names asked

abbrev pub IsMaybeTypedAs : Option Tree → Names → Option Tree → Type 0
IsMaybeTypedAs e names d = AreAlike (λ move retype. remade.option_with (remade.remade_expr move retype)) d e × IsWellTypedMaybe d names

abbrev pub IsSuffixTypedAs : SuffixTree → Names → SuffixTree → Type 0
IsSuffixTypedAs s names r = AreAlike remade.remade_suffix r s × IsWellTypedSuffix r names

abbrev pub AreSuffixesTypedAs : List SuffixTree → Names → List SuffixTree → Type 0
AreSuffixesTypedAs ss names rs = AreAlike (λ move retype. map (remade.remade_suffix move retype)) rs ss × AreWellTypedSuffixes rs names

abbrev pub IsPlaceTypedAs : PlaceTree → Names → PlaceTree → Type 0
IsPlaceTypedAs p names q = AreAlike remade.remade_place q p × IsWellTypedPlace q names

abbrev pub IsSmallFormTypedAs : SmallFormTree → Names → SmallFormTree → Type 0
IsSmallFormTypedAs f names g = AreAlike remade.remade_small_form g f × IsWellTypedSmallForm g names

abbrev pub IsSmallTypedAs : Option SmallTree → Names → Site → Option SmallTree → Type 0
IsSmallTypedAs s names site r = AreAlike (λ move retype. remade.option_with (remade.remade_small move retype)) r s × IsWellTypedSmall r names site

abbrev pub IsSettingFormTypedAs : SettingFormTree → Names → SettingFormTree → Type 0
IsSettingFormTypedAs f names g = AreAlike remade.remade_setting_form g f × IsWellTypedSettingForm g names

abbrev pub IsSettingTypedAs : SettingTree → Names → Bool → Seen → SettingTree → Type 0
IsSettingTypedAs s names of_dep seen r = AreAlike remade.remade_setting r s × IsWellTypedSetting r names of_dep seen

abbrev pub AreSettingsTypedAs : List SettingTree → Names → Bool → Seen → List SettingTree → Type 0
AreSettingsTypedAs ss names of_dep seen rs = AreAlike (λ move retype. map (remade.remade_setting move retype)) rs ss × AreWellTypedSettings rs names of_dep seen

abbrev pub IsStmtTypedAs : StmtTree → Names → Site → StmtTree → Type 0
IsStmtTypedAs s names site r = AreAlike remade.remade_stmt r s × IsWellTypedStmt r names site

abbrev pub IsStmtFormTypedAs : StmtFormTree → Names → Site → StmtFormTree → Type 0
IsStmtFormTypedAs f names site g = AreAlike remade.remade_stmt_form g f × IsWellTypedForm g names site

abbrev pub IsCaseTypedAs : CaseTree → Names → Site → CaseTree → Type 0
IsCaseTypedAs c names site d = AreAlike remade.remade_case d c × IsWellTypedCase d names site

abbrev pub IsRightTypedAs : RightTree → Names → Asked → RightTree → Type 0
IsRightTypedAs r names asked q = AreAlike remade.remade_right q r × IsWellTypedRight q names asked

abbrev pub IsActFormTypedAs : ActFormTree → Names → ActFormTree → Type 0
IsActFormTypedAs f names g = AreAlike remade.remade_act_form g f × IsWellTypedActForm g names

abbrev pub IsBlockTypedAs : BlockTree → Names → Site → BlockTree → Type 0
IsBlockTypedAs x names site y = AreAlike remade.remade_block y x × IsWellTypedBlock y names site

abbrev pub IsPartTypedAs : PartTree → Names → List Head → Names → PartTree → Type 0
IsPartTypedAs p all before names q = AreAlike remade.remade_part q p × IsWellTypedPart q all before names

abbrev pub ArePartsTypedAs : List PartTree → Names → List Head → Names → List PartTree → Type 0
ArePartsTypedAs ps all before names qs = AreAlike (λ move retype. map (remade.remade_part move retype)) qs ps × AreWellTypedParts qs all before names
