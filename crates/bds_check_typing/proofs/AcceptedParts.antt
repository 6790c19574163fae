-- Well-typed parts of statements are judged as they stand: the walk meets no broken node, and leaves them as they are.
use Rattle.std.proofs.Common.{◌≡◌, Bool, List, [], ◌∷◌, Option, Some, None, refl, ap, ap₂, ◌∙◌}
use Rattle.std.specs.List.{AllByRecursion}
use Rattle.bds_tree.specs.declared.stmt.Command.{Command}
use Rattle.bds_tree.specs.Tree.{Tree}
use Rattle.bds_tree.specs.StmtTree.{SuffixTree, at_index, at_key, PlaceTree, StepTree, step_after, step_before, SmallFormTree, small_declare, small_infer, small_assign, small_update, small_step, small_call, SmallTree, SettingFormTree, setting_named, setting_plain, SettingTree, step}
use Rattle.bds_check_names.specs.declared.names.Names.{Names}
use Rattle.bds_check_names.specs.declared.names.Asked.TheVariants.{Whole, Value, This}
use Rattle.bds_check_names.specs.declared.names.Site.{Site}
use Rattle.bds_check_names.specs.declared.names.Seen.{Seen}
use Rattle.bds_check_rules.specs.Declarations.{declared_by_small_form, names_with}
use Rattle.bds_check_rules.specs.declared.rules.Rule.{Rule}
use Rattle.bds_check_rules.specs.Pieces.{sys_rule}
use Rattle.bds_check_rules.specs.StmtBreaks.{place_ty, seen_behind}
use Rattle.bds_check_typing.specs.Walk.{first, placed}
use Rattle.bds_check_typing.specs.StmtParts.{JudgedMaybe, JudgedSuffix, JudgedSuffixes, JudgedPlace, JudgedStep, JudgedSmallForm, JudgedSmall, JudgedSettingForm, JudgedSetting, JudgedSettings, some_expr, judge_maybe, suffix_with, judge_suffix, also_suffix, judge_suffixes, close_place, judge_place, with_step, judge_step, small_with, small_with_place, small_with_step, judge_small_form, close_small, judge_small, setting_with, judge_setting_form, close_setting, judge_setting, also_setting, judge_settings, commands_broken}
use Rattle.bds_check_typing.specs.WellTypedParts.{IsWellTypedMaybe, IsWellTypedSuffix, AreWellTypedSuffixes, IsWellTypedPlace, IsWellTypedStep, IsWellTypedSmallForm, IsWellTypedSmall, names_behind_small, IsWellTypedSettingForm, IsWellTypedSetting, AreWellTypedSettings}
use Rattle.bds_check_typing.proofs.AcceptedValues.{judged-whole}

-- Judged as they stand

abbrev pub whole_maybe : Option Tree → JudgedMaybe
whole_maybe e = record { expr = e; broken = None }

abbrev pub whole_suffix : SuffixTree → JudgedSuffix
whole_suffix s = record { suffix = s; broken = None }

abbrev pub whole_suffixes : List SuffixTree → JudgedSuffixes
whole_suffixes ss = record { suffixes = ss; broken = None }

abbrev pub whole_place : PlaceTree → JudgedPlace
whole_place p = record { place = p; broken = None }

abbrev pub whole_step : StepTree → JudgedStep
whole_step s = record { step = s; broken = None }

abbrev pub whole_small_form : SmallFormTree → JudgedSmallForm
whole_small_form f = record { form = f; broken = None }

abbrev pub whole_small : Option SmallTree → Names → Site → JudgedSmall
whole_small s names site = record { small = s; broken = None; names = names_behind_small s names site }

abbrev pub whole_setting_form : SettingFormTree → JudgedSettingForm
whole_setting_form f = record { form = f; broken = None }

abbrev pub whole_setting : SettingTree → JudgedSetting
whole_setting s = record { setting = s; broken = None }

abbrev pub whole_settings : List SettingTree → JudgedSettings
whole_settings ss = record { settings = ss; broken = None }

-- Expressions in statements

module _ (names : Names) where
  pub maybe-whole : (e : Option Tree) → IsWellTypedMaybe e names → judge_maybe e names ≡ whole_maybe e
  maybe-whole None w = refl
  maybe-whole (Some e) w = ap some_expr (judged-whole names e Value w)

  pub suffix-whole : (s : SuffixTree) → IsWellTypedSuffix s names → judge_suffix s names ≡ whole_suffix s
  suffix-whole (at_index e) w = ap (suffix_with at_index) (judged-whole names e Value w)
  suffix-whole (at_key e) w = ap (suffix_with at_key) (judged-whole names e Value w)

  pub suffixes-whole : (ss : List SuffixTree) → AreWellTypedSuffixes ss names → judge_suffixes ss names ≡ whole_suffixes ss
  suffixes-whole [] w = refl
  suffixes-whole (s ∷ ss) w = ap₂ also_suffix (suffix-whole s w.0) (suffixes-whole ss w.1)

  pub place-whole : (p : PlaceTree) → IsWellTypedPlace p names → judge_place p names ≡ whole_place p
  place-whole p w = ap (close_place p.at p.name names) (suffixes-whole p.suffixes w.0) ∙ ap (λ (r : Option Rule). record { place = p; broken = placed p.at r }) w.1

  pub step-whole : (s : StepTree) → IsWellTypedStep s names → judge_step s names ≡ whole_step s
  step-whole (step_after p o) w = ap (with_step (λ q. step_after q o)) (place-whole p w)
  step-whole (step_before o p) w = ap (with_step (step_before o)) (place-whole p w)

  -- Heads of loops

  pub small-form-whole : (f : SmallFormTree) → IsWellTypedSmallForm f names → judge_small_form f names ≡ whole_small_form f
  small-form-whole (small_declare t x None) w = refl
  small-form-whole (small_declare t x (Some e)) w = ap (small_with (λ d. small_declare t x (Some d))) (judged-whole names e (This t) w)
  small-form-whole (small_infer x e) w = ap (small_with (small_infer x)) (judged-whole names e Value w)
  small-form-whole (small_assign p e) w = ap₂ (small_with_place small_assign) (place-whole p w.0) (judged-whole names e (This (place_ty names p)) w.1)
  small-form-whole (small_update p o e) w = ap₂ (small_with_place (λ q. small_update q o)) (place-whole p w.0) (judged-whole names e Value w.1)
  small-form-whole (small_step s) w = ap small_with_step (step-whole s w)
  small-form-whole (small_call e) w = ap (small_with small_call) (judged-whole names e Whole w)

  pub small-whole : (s : Option SmallTree) (site : Site) → IsWellTypedSmall s names site → judge_small s names site ≡ whole_small s names site
  small-whole None site w = refl
  small-whole (Some s) site w =
      ap (close_small s.at names site) (small-form-whole s.form w.0) ∙ ap (λ (r : Option Rule). record { small = Some s; broken = placed s.at r; names = names_with names site (declared_by_small_form s.form) }) w.1

  -- Options and commands

  pub setting-form-whole : (f : SettingFormTree) → IsWellTypedSettingForm f names → judge_setting_form f names ≡ whole_setting_form f
  setting-form-whole (setting_named x e) w = ap (setting_with (setting_named x)) (judged-whole names e Value w)
  setting-form-whole (setting_plain e) w = ap (setting_with setting_plain) (judged-whole names e Value w)

  pub setting-whole : (s : SettingTree) (of_dep : Bool) (seen : Seen) → IsWellTypedSetting s names of_dep seen → judge_setting s names of_dep seen ≡ whole_setting s
  setting-whole s of_dep seen w = ap (close_setting s.at of_dep seen) (setting-form-whole s.form w.0) ∙ ap (λ (r : Option Rule). record { setting = s; broken = placed s.at r }) w.1

  pub settings-whole : (ss : List SettingTree) (of_dep : Bool) (seen : Seen) → AreWellTypedSettings ss names of_dep seen → judge_settings ss names of_dep seen ≡ whole_settings ss
  settings-whole [] of_dep seen w = refl
  settings-whole (s ∷ ss) of_dep seen w = ap₂ also_setting (setting-whole s of_dep seen w.0) (settings-whole ss of_dep (seen_behind seen s.form) w.1)

  pub commands-whole : (cs : List Command) → AllByRecursion (λ c. sys_rule names c.text ≡ None) cs → commands_broken cs names ≡ None
  commands-whole [] w = refl
  commands-whole (c ∷ cs) w = ap (λ (r : Option Rule). first (placed c.at r) (commands_broken cs names)) w.0 ∙ commands-whole cs w.1
