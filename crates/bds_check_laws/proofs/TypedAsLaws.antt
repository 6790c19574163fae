-- The walk meets no broken node exactly where a tree has its types, and gives the tree with them.
use Rattle.std.proofs.Common.{◌≡◌, Bool, List, map, Option, None, refl, ap, sym, ◌∙◌}
use Rattle.bds_tree.specs.Tree.{Tree, FormTree}
use Rattle.bds_tree.specs.StmtTree.{SuffixTree, PlaceTree, SmallFormTree, SmallTree, SettingFormTree, SettingTree, StmtTree, StmtFormTree, RightTree, ActFormTree, BlockTree, PartTree, CaseTree}
use Rattle.bds_check_names.specs.declared.names.Names.{Names}
use Rattle.bds_check_names.specs.declared.names.Head.{Head}
use Rattle.bds_check_names.specs.declared.names.Asked.{Asked}
use Rattle.bds_check_names.specs.declared.names.Site.{Site}
use Rattle.bds_check_names.specs.declared.names.Seen.{Seen}
use Rattle.bds_check_typing.specs.Walk.{Broken, judge, judge_form}
use Rattle.bds_check_typing.specs.WellTyped.{IsWellTyped, ArePartsWellTyped}
use Rattle.bds_check_typing.proofs.WellTypedLaws.{well-typed, well-typed-parts}
use Rattle.bds_check_typing.proofs.AcceptedValues.{whole, whole_form, judged-whole, form-whole}
use Rattle.bds_check_typing.specs.StmtParts.{judge_maybe, judge_suffix, judge_suffixes, judge_place, judge_small_form, judge_small, judge_setting_form, judge_setting, judge_settings}
use Rattle.bds_check_typing.specs.StmtWalk.{judge_stmt, judge_stmt_form, judge_right, judge_act_form, judge_block, judge_case}
use Rattle.bds_check_typing.specs.WellTypedParts.{IsWellTypedMaybe, IsWellTypedSuffix, AreWellTypedSuffixes, IsWellTypedPlace, IsWellTypedSmallForm, IsWellTypedSmall, IsWellTypedSettingForm, IsWellTypedSetting, AreWellTypedSettings}
use Rattle.bds_check_typing.specs.WellTypedStmts.{IsWellTypedStmt, IsWellTypedForm, IsWellTypedRight, IsWellTypedActForm, IsWellTypedBlock, IsWellTypedCase}
use Rattle.bds_check_typing.proofs.WellTypedPartLaws.{maybe-typed, suffix-typed, suffixes-typed, place-typed, small-form-typed, small-typed, setting-form-typed, setting-typed, settings-typed}
use Rattle.bds_check_typing.proofs.WellTypedStmtLaws.{stmt-typed, form-typed, right-typed, act-form-typed, block-typed, case-typed}
use Rattle.bds_check_typing.proofs.AcceptedParts.{whole_maybe, whole_suffix, whole_suffixes, whole_place, whole_small_form, whole_small, whole_setting_form, whole_setting, whole_settings, maybe-whole, suffix-whole, suffixes-whole, place-whole, small-form-whole, small-whole, setting-form-whole, setting-whole, settings-whole}
use Rattle.bds_check_typing.proofs.AcceptedStmts.{whole_stmt, whole_right, whole_act_form, whole_block, stmt-whole, right-whole, act-form-whole, block-whole, whole_case, case-whole}
use Rattle.bds_check_typing.proofs.AcceptedStmts.{form-whole as stmt-form-whole, whole_form as whole_stmt_form}
use Rattle.bds_check_typing.specs.Program.{judge_part, judge_parts}
use Rattle.bds_check_typing.specs.Remade.{option_with}
use Rattle.bds_check_laws.specs.TypedAs.{IsTypedAs, IsFormTypedAs, IsMaybeTypedAs, IsSuffixTypedAs, AreSuffixesTypedAs, IsPlaceTypedAs, IsSmallFormTypedAs, IsSmallTypedAs, IsSettingFormTypedAs, IsSettingTypedAs, AreSettingsTypedAs, IsStmtTypedAs, IsStmtFormTypedAs, IsRightTypedAs, IsActFormTypedAs, IsBlockTypedAs, IsPartTypedAs, ArePartsTypedAs, IsCaseTypedAs}
use Rattle.bds_check_typing.specs.WellTypedScripts.{IsWellTypedPart, AreWellTypedParts}
use Rattle.bds_check_typing.proofs.WellTypedScriptLaws.{part-typed, parts-typed}
use Rattle.bds_check_typing.proofs.AcceptedScripts.{whole_part, whole_parts, part-whole, parts-whole}
use Rattle.bds_check_laws.proofs.Bare.{bare_expr, bare_form, expr-bare, form-bare}
use Rattle.bds_check_laws.proofs.BareStmts.{bare_suffix, bare_place, bare_small_form, bare_small, bare_setting_form, bare_setting, bare_stmt, bare_stmt_form, bare_right, bare_act_form, bare_block, bare_part, maybe-bare, suffix-bare, suffixes-bare, place-bare, small-form-bare, small-bare, setting-form-bare, setting-bare, settings-bare, stmt-bare, stmt-form-bare, right-bare, act-form-bare, block-bare, part-bare, parts-bare, bare_case, case-bare}
use Rattle.bds_check_laws.proofs.BareKept.{expr-kept, form-kept, maybe-kept, suffix-kept, suffixes-kept, place-kept, small-form-kept, small-kept, setting-form-kept, setting-kept, settings-kept, stmt-kept, stmt-form-kept, right-kept, act-form-kept, block-kept, part-kept, parts-kept, case-kept}

-- no node is found exactly where it has types, and then it is made into what has them
pub record Types {X : Type 0} (found : Option Broken) (made : X) (IsTyped : X → Type 0) : Type 0 where
  pub to : found ≡ None → IsTyped made
  pub from : (x : X) → IsTyped x → (found ≡ None) × (made ≡ x)

module _ {X J : Type 0} (bare : X → X) (walk : X → J) (found : J → Option Broken) (made : J → X) (Good : X → Type 0) (whole_of : X → J)
    (same : (x : X) → walk (bare x) ≡ walk x) (kept : (x : X) → bare (made (walk x)) ≡ bare x) (good : (x : X) → found (walk x) ≡ None → Good (made (walk x)))
    (as_it_is : (x : X) → Good x → walk x ≡ whole_of x) (none : (x : X) → found (whole_of x) ≡ None) (it : (x : X) → made (whole_of x) ≡ x) where
  types : (x : X) → Types (found (walk x)) (made (walk x)) (λ y. (bare y ≡ bare x) × Good y)
  types x = record {
    to = λ q. (kept x, good x q);
    from = λ y t.
        let alike : walk x ≡ whole_of y = sym (same x) ∙ ap walk (sym t.0) ∙ same y ∙ as_it_is y t.1 in
        (ap found alike ∙ none y, ap made alike ∙ it y);
  }

pub expr-types : (x : Tree) (names : Names) (asked : Asked) → Types (judge x names asked).broken (judge x names asked).tree (IsTypedAs x names asked)
expr-types x names asked = types (bare_expr) (λ x. judge x names asked) (λ j. j.broken) (λ j. j.tree) (λ x. IsWellTyped x names asked) (λ x. whole x) (λ x. expr-bare names x asked) (λ x. expr-kept x names asked) (λ x q. well-typed x names asked q) (λ x w. judged-whole names x asked w) (λ x. refl) (λ x. refl) x

pub form-types : (x : FormTree) (names : Names) (asked : Asked) → Types (judge_form x names asked).broken (judge_form x names asked).form (IsFormTypedAs x names asked)
form-types x names asked = types (bare_form) (λ x. judge_form x names asked) (λ j. j.broken) (λ j. j.form) (λ x. ArePartsWellTyped x names asked) (λ x. whole_form x) (λ x. form-bare names x asked) (λ x. form-kept x names asked) (λ x q. well-typed-parts x names asked q) (λ x w. form-whole names x asked w) (λ x. refl) (λ x. refl) x

pub maybe-types : (x : Option Tree) (names : Names) → Types (judge_maybe x names).broken (judge_maybe x names).expr (IsMaybeTypedAs x names)
maybe-types x names = types (option_with bare_expr) (λ x. judge_maybe x names) (λ j. j.broken) (λ j. j.expr) (λ x. IsWellTypedMaybe x names) (λ x. whole_maybe x) (λ x. maybe-bare x names) (λ x. maybe-kept x names) (λ x q. maybe-typed x names q) (λ x w. maybe-whole names x w) (λ x. refl) (λ x. refl) x

pub suffix-types : (x : SuffixTree) (names : Names) → Types (judge_suffix x names).broken (judge_suffix x names).suffix (IsSuffixTypedAs x names)
suffix-types x names = types (bare_suffix) (λ x. judge_suffix x names) (λ j. j.broken) (λ j. j.suffix) (λ x. IsWellTypedSuffix x names) (λ x. whole_suffix x) (λ x. suffix-bare x names) (λ x. suffix-kept x names) (λ x q. suffix-typed x names q) (λ x w. suffix-whole names x w) (λ x. refl) (λ x. refl) x

pub suffixes-types : (x : List SuffixTree) (names : Names) → Types (judge_suffixes x names).broken (judge_suffixes x names).suffixes (AreSuffixesTypedAs x names)
suffixes-types x names = types (map bare_suffix) (λ x. judge_suffixes x names) (λ j. j.broken) (λ j. j.suffixes) (λ x. AreWellTypedSuffixes x names) (λ x. whole_suffixes x) (λ x. suffixes-bare x names) (λ x. suffixes-kept x names) (λ x q. suffixes-typed x names q) (λ x w. suffixes-whole names x w) (λ x. refl) (λ x. refl) x

pub place-types : (x : PlaceTree) (names : Names) → Types (judge_place x names).broken (judge_place x names).place (IsPlaceTypedAs x names)
place-types x names = types (bare_place) (λ x. judge_place x names) (λ j. j.broken) (λ j. j.place) (λ x. IsWellTypedPlace x names) (λ x. whole_place x) (λ x. place-bare x names) (λ x. place-kept x names) (λ x q. place-typed x names q) (λ x w. place-whole names x w) (λ x. refl) (λ x. refl) x

pub small-form-types : (x : SmallFormTree) (names : Names) → Types (judge_small_form x names).broken (judge_small_form x names).form (IsSmallFormTypedAs x names)
small-form-types x names = types (bare_small_form) (λ x. judge_small_form x names) (λ j. j.broken) (λ j. j.form) (λ x. IsWellTypedSmallForm x names) (λ x. whole_small_form x) (λ x. small-form-bare x names) (λ x. small-form-kept x names) (λ x q. small-form-typed x names q) (λ x w. small-form-whole names x w) (λ x. refl) (λ x. refl) x

pub small-types : (x : Option SmallTree) (names : Names) (site : Site) → Types (judge_small x names site).broken (judge_small x names site).small (IsSmallTypedAs x names site)
small-types x names site = types (option_with bare_small) (λ x. judge_small x names site) (λ j. j.broken) (λ j. j.small) (λ x. IsWellTypedSmall x names site) (λ x. whole_small x names site) (λ x. small-bare x names site) (λ x. small-kept x names site) (λ x q. small-typed x names site q) (λ x w. small-whole names x site w) (λ x. refl) (λ x. refl) x

pub setting-form-types : (x : SettingFormTree) (names : Names) → Types (judge_setting_form x names).broken (judge_setting_form x names).form (IsSettingFormTypedAs x names)
setting-form-types x names = types (bare_setting_form) (λ x. judge_setting_form x names) (λ j. j.broken) (λ j. j.form) (λ x. IsWellTypedSettingForm x names) (λ x. whole_setting_form x) (λ x. setting-form-bare x names) (λ x. setting-form-kept x names) (λ x q. setting-form-typed x names q) (λ x w. setting-form-whole names x w) (λ x. refl) (λ x. refl) x

pub setting-types : (x : SettingTree) (names : Names) (of_dep : Bool) (seen : Seen) → Types (judge_setting x names of_dep seen).broken (judge_setting x names of_dep seen).setting (IsSettingTypedAs x names of_dep seen)
setting-types x names of_dep seen = types (bare_setting) (λ x. judge_setting x names of_dep seen) (λ j. j.broken) (λ j. j.setting) (λ x. IsWellTypedSetting x names of_dep seen) (λ x. whole_setting x) (λ x. setting-bare x names of_dep seen) (λ x. setting-kept x names of_dep seen) (λ x q. setting-typed x names of_dep seen q) (λ x w. setting-whole names x of_dep seen w) (λ x. refl) (λ x. refl) x

pub settings-types : (x : List SettingTree) (names : Names) (of_dep : Bool) (seen : Seen) → Types (judge_settings x names of_dep seen).broken (judge_settings x names of_dep seen).settings (AreSettingsTypedAs x names of_dep seen)
settings-types x names of_dep seen = types (map bare_setting) (λ x. judge_settings x names of_dep seen) (λ j. j.broken) (λ j. j.settings) (λ x. AreWellTypedSettings x names of_dep seen) (λ x. whole_settings x) (λ x. settings-bare x names of_dep seen) (λ x. settings-kept x names of_dep seen) (λ x q. settings-typed x names of_dep seen q) (λ x w. settings-whole names x of_dep seen w) (λ x. refl) (λ x. refl) x

pub stmt-types : (x : StmtTree) (names : Names) (site : Site) → Types (judge_stmt x names site).broken (judge_stmt x names site).stmt (IsStmtTypedAs x names site)
stmt-types x names site = types (bare_stmt) (λ x. judge_stmt x names site) (λ j. j.broken) (λ j. j.stmt) (λ x. IsWellTypedStmt x names site) (λ x. whole_stmt x names site) (λ x. stmt-bare x names site) (λ x. stmt-kept x names site) (λ x q. stmt-typed x names site q) (λ x w. stmt-whole x names site w) (λ x. refl) (λ x. refl) x

pub stmt-form-types : (x : StmtFormTree) (names : Names) (site : Site) → Types (judge_stmt_form x names site).broken (judge_stmt_form x names site).form (IsStmtFormTypedAs x names site)
stmt-form-types x names site = types (bare_stmt_form) (λ x. judge_stmt_form x names site) (λ j. j.broken) (λ j. j.form) (λ x. IsWellTypedForm x names site) (λ x. whole_stmt_form x) (λ x. stmt-form-bare x names site) (λ x. stmt-form-kept x names site) (λ x q. form-typed x names site q) (λ x w. stmt-form-whole x names site w) (λ x. refl) (λ x. refl) x

pub case-types : (x : CaseTree) (names : Names) (site : Site) → Types (judge_case x names site).broken (judge_case x names site).tree (IsCaseTypedAs x names site)
case-types x names site = types (bare_case) (λ x. judge_case x names site) (λ j. j.broken) (λ j. j.tree) (λ x. IsWellTypedCase x names site) (λ x. whole_case x) (λ x. case-bare x names site) (λ x. case-kept x names site) (λ x q. case-typed x names site q) (λ x w. case-whole x names site w) (λ x. refl) (λ x. refl) x

pub right-types : (x : RightTree) (names : Names) (asked : Asked) → Types (judge_right x names asked).broken (judge_right x names asked).right (IsRightTypedAs x names asked)
right-types x names asked = types (bare_right) (λ x. judge_right x names asked) (λ j. j.broken) (λ j. j.right) (λ x. IsWellTypedRight x names asked) (λ x. whole_right x) (λ x. right-bare x names asked) (λ x. right-kept x names asked) (λ x q. right-typed x names asked q) (λ x w. right-whole x names asked w) (λ x. refl) (λ x. refl) x

pub act-form-types : (x : ActFormTree) (names : Names) → Types (judge_act_form x names).broken (judge_act_form x names).form (IsActFormTypedAs x names)
act-form-types x names = types (bare_act_form) (λ x. judge_act_form x names) (λ j. j.broken) (λ j. j.form) (λ x. IsWellTypedActForm x names) (λ x. whole_act_form x) (λ x. act-form-bare x names) (λ x. act-form-kept x names) (λ x q. act-form-typed x names q) (λ x w. act-form-whole x names w) (λ x. refl) (λ x. refl) x

pub block-types : (x : BlockTree) (names : Names) (site : Site) → Types (judge_block x names site).broken (judge_block x names site).block (IsBlockTypedAs x names site)
block-types x names site = types (bare_block) (λ x. judge_block x names site) (λ j. j.broken) (λ j. j.block) (λ x. IsWellTypedBlock x names site) (λ x. whole_block x) (λ x. block-bare x names site) (λ x. block-kept x names site) (λ x q. block-typed x names site q) (λ x w. block-whole x names site w) (λ x. refl) (λ x. refl) x

pub part-types : (x : PartTree) (all : Names) (before : List Head) (names : Names) → Types (judge_part all before names x).broken (judge_part all before names x).part (IsPartTypedAs x all before names)
part-types x all before names = types (bare_part) (λ x. judge_part all before names x) (λ j. j.broken) (λ j. j.part) (λ x. IsWellTypedPart x all before names) (λ x. whole_part x names) (λ x. part-bare x all before names) (λ x. part-kept x all before names) (λ x q. part-typed x all before names q) (λ x w. part-whole x all before names w) (λ x. refl) (λ x. refl) x

pub parts-types : (x : List PartTree) (all : Names) (before : List Head) (names : Names) → Types (judge_parts all before names x).broken (judge_parts all before names x).parts (ArePartsTypedAs x all before names)
parts-types x all before names = types (map bare_part) (λ x. judge_parts all before names x) (λ j. j.broken) (λ j. j.parts) (λ x. AreWellTypedParts x all before names) (λ x. whole_parts x) (λ x. parts-bare x all before names) (λ x. parts-kept x all before names) (λ x q. parts-typed x all before names q) (λ x w. parts-whole x all before names w) (λ x. refl) (λ x. refl) x
