-- What an answer of the walk of the parts of statements has to be.
use Rattle.std.specs.Prelude.{◌≡◌, Option, List, Result, map}
use Rattle.std.specs.Option.{option_map}
use Rattle.bds_tree.specs.declared.expr.Expr.{Expr}
use Rattle.bds_tree.specs.declared.stmt.Act.{Act}
use Rattle.bds_tree.specs.declared.stmt.ActForm.{ActForm}
use Rattle.bds_tree.specs.declared.stmt.Place.{Place}
use Rattle.bds_tree.specs.declared.stmt.Setting.{Setting}
use Rattle.bds_tree.specs.declared.stmt.SettingForm.{SettingForm}
use Rattle.bds_tree.specs.declared.stmt.Small.{Small}
use Rattle.bds_tree.specs.declared.stmt.SmallForm.{SmallForm}
use Rattle.bds_tree.specs.declared.stmt.Step.{Step}
use Rattle.bds_tree.specs.declared.stmt.Stmt.{Stmt}
use Rattle.bds_tree.specs.declared.stmt.StmtForm.{StmtForm}
use Rattle.bds_tree.specs.declared.stmt.Suffix.{Suffix}
use Rattle.bds_tree.specs.View.{tree_of}
use Rattle.bds_tree.specs.StmtView.{suffix_of, place_of, step_of, small_form_of, small_of, setting_of, setting_form_of, settings_of, stmt_of, stmt_form_of, act_of, act_form_of}
use Rattle.bds_check_names.specs.declared.names.Names.{Names}
use Rattle.bds_check_rules.specs.declared.rules.CheckFault.{CheckFault}
use Rattle.bds_check_typing.specs.StmtParts.{JudgedMaybe, JudgedSuffix, JudgedSuffixes, JudgedPlace, JudgedStep, JudgedSmallForm, JudgedSmall, JudgedSettingForm, JudgedSetting, JudgedSettings, JudgedActForm, JudgedAct, JudgedStmt}
use Rattle.bds_check_typing.specs.StmtParts.{JudgedForm as JudgedStmtForm}
use Rattle.bds_check_typing.specs.Answers.{Fits}

abbrev pub FitsMaybe : Result (Option Expr) CheckFault → JudgedMaybe → Type 0
FitsMaybe r j = Fits r j.broken (λ e. option_map tree_of e ≡ j.expr)

abbrev pub FitsSuffix : Result Suffix CheckFault → JudgedSuffix → Type 0
FitsSuffix r j = Fits r j.broken (λ s. suffix_of s ≡ j.suffix)

abbrev pub FitsSuffixes : Result (List Suffix) CheckFault → JudgedSuffixes → Type 0
FitsSuffixes r j = Fits r j.broken (λ ss. map suffix_of ss ≡ j.suffixes)

abbrev pub FitsPlace : Result Place CheckFault → JudgedPlace → Type 0
FitsPlace r j = Fits r j.broken (λ p. place_of p ≡ j.place)

abbrev pub FitsStep : Result Step CheckFault → JudgedStep → Type 0
FitsStep r j = Fits r j.broken (λ s. step_of s ≡ j.step)

abbrev pub FitsSmallForm : Result SmallForm CheckFault → JudgedSmallForm → Type 0
FitsSmallForm r j = Fits r j.broken (λ f. small_form_of f ≡ j.form)

-- and these names are left
abbrev pub FitsSmall : Result (Option Small) CheckFault → Names → JudgedSmall → Type 0
FitsSmall r left j = Fits r j.broken (λ s. (option_map small_of s ≡ j.small) × (left ≡ j.names))

abbrev pub FitsSettingForm : Result SettingForm CheckFault → JudgedSettingForm → Type 0
FitsSettingForm r j = Fits r j.broken (λ f. setting_form_of f ≡ j.form)

abbrev pub FitsSetting : Result Setting CheckFault → JudgedSetting → Type 0
FitsSetting r j = Fits r j.broken (λ s. setting_of s ≡ j.setting)

abbrev pub FitsSettings : Result (List Setting) CheckFault → JudgedSettings → Type 0
FitsSettings r j = Fits r j.broken (λ ss. settings_of ss ≡ j.settings)

abbrev pub FitsActForm : Result ActForm CheckFault → JudgedActForm → Type 0
FitsActForm r j = Fits r j.broken (λ f. act_form_of f ≡ j.form)

abbrev pub FitsAct : Result Act CheckFault → JudgedAct → Type 0
FitsAct r j = Fits r j.broken (λ a. act_of a ≡ j.act)

abbrev pub FitsStmtForm : Result StmtForm CheckFault → JudgedStmtForm → Type 0
FitsStmtForm r j = Fits r j.broken (λ f. stmt_form_of f ≡ j.form)

abbrev pub FitsStmt : Result Stmt CheckFault → Names → JudgedStmt → Type 0
FitsStmt r left j = Fits r j.broken (λ s. (stmt_of s ≡ j.stmt) × (left ≡ j.names))
