-- The loops over indexes and keys, and over options: what their turns come to.
use Rattle.std.proofs.Common.{◌≡◌, ℕ, ◌+◌, ◌<◌, Bool, List, [], ◌∷◌, Option, Some, None, map, length, set, slice_get}
use Rattle.std.proofs.Common.{refl, subst, ap, sym, ◌∙◌, arith}
use Rattle.bds_tree.specs.declared.stmt.Setting.{Setting}
use Rattle.bds_tree.specs.declared.stmt.Suffix.{Suffix}
use Rattle.bds_tree.specs.StmtTree.{SuffixTree, SettingTree}
use Rattle.bds_tree.specs.StmtView.{suffix_of, setting_of, settings_of}
use Rattle.bds_check_names.specs.declared.names.Names.{Names}
use Rattle.bds_check_names.specs.declared.names.Seen.{Seen}
use Rattle.bds_check_rules.specs.StmtBreaks.{none_seen, seen_behind}
use Rattle.bds_check_typing.specs.StmtParts.{JudgedSuffixes, JudgedSettings, also_suffix, also_setting, judge_suffix}
use Rattle.bds_check_typing.specs.StmtParts.{judge_suffixes, judge_setting, judge_settings}
use Rattle.bds_check_typing.specs.Walk.{Broken}
use Rattle.bds_check_walk.proofs.Turns.{Walking, walking-none, walking-more, kept-more, all_wanted, any_faulty}
use Rattle.bds_check_walk.proofs.Turns.{whole-walked, whole-broken}
use Rattle.bds_check_stmt_parts.specs.InPlace.{bare_suffix, bare_setting}

pub map-map : {X Y Z : Type 0} (f : X → Y) (g : Y → Z) (xs : List X) → map g (map f xs) ≡ map (λ x. g (f x)) xs
map-map f g [] = refl
map-map f g (x ∷ xs) = ap (λ zs. g (f x) ∷ zs) (map-map f g xs)

-- the same by both maps where it is the same by one that does both
pub both-maps : {X Y Z : Type 0} (f : X → Y) (g : Y → Z) (xs ys : List X)
    → map (λ x. g (f x)) xs ≡ map (λ x. g (f x)) ys → map g (map f xs) ≡ map g (map f ys)
both-maps f g xs ys same = map-map f g xs ∙ same ∙ sym (map-map f g ys)

-- Indexes and keys

abbrev pub suffix_wanted : Names → Suffix → SuffixTree
suffix_wanted names s = (judge_suffix (suffix_of s) names).suffix

abbrev pub suffix_faulty : Names → Suffix → Option Broken
suffix_faulty names s = (judge_suffix (suffix_of s) names).broken

abbrev pub same_names : {X : Type 0} → Names → X → Names
same_names names x = names

abbrev pub SuffixesWalking : Names → List Suffix → ℕ → List Suffix → Type 0
SuffixesWalking names olds i news =
    Walking suffix_of bare_suffix suffix_wanted suffix_faulty same_names olds 0 (length olds) names i news names

suffixes-as : (names : Names) (ss : List Suffix) →
    judge_suffixes (map suffix_of ss) names ≡ record {
      suffixes = all_wanted suffix_of bare_suffix suffix_wanted
          suffix_faulty same_names names ss;
      broken =
          any_faulty suffix_of bare_suffix suffix_wanted suffix_faulty same_names names ss;
    }
suffixes-as names [] = refl
suffixes-as names (s ∷ ss) = ap (also_suffix (judge_suffix (suffix_of s) names)) (suffixes-as names ss)

pub suffixes-none : (names : Names) (olds : List Suffix) → SuffixesWalking names olds 0 olds
suffixes-none names olds =
    walking-none suffix_of bare_suffix suffix_wanted suffix_faulty same_names olds 0 (length olds) names (omega arith)

pub suffixes-more : (names : Names) (olds : List Suffix) (i : ℕ) (news : List Suffix) (x y : Suffix) → i < length olds
    → slice_get news i ≡ Some x →
    ((judge_suffix (suffix_of x) names).broken ≡ None) × (suffix_of y ≡ (judge_suffix (suffix_of x) names).suffix)
    → bare_suffix (suffix_of y) ≡ bare_suffix (suffix_of x) → SuffixesWalking names olds i news
    → SuffixesWalking names olds (i + 1) (set news i y)
suffixes-more names olds i news x y below e right same h = walking-more suffix_of bare_suffix suffix_wanted
    suffix_faulty same_names olds 0 (length olds) names i news names x y (omega arith) below e right.0 right.1 same h

pub suffixes-kept : (names : Names) (olds : List Suffix) (i : ℕ) (news : List Suffix) (x y : Suffix)
    → slice_get news i ≡ Some x → bare_suffix (suffix_of y) ≡ bare_suffix (suffix_of x)
    → SuffixesWalking names olds i news →
    map bare_suffix (map suffix_of (set news i y)) ≡ map bare_suffix (map suffix_of olds)
suffixes-kept names olds i news x y e same h = both-maps suffix_of bare_suffix (set news i y) olds
    (kept-more suffix_of bare_suffix suffix_wanted suffix_faulty same_names olds 0 (length olds) names i news names x y
    e same h)

pub suffixes-done : (names : Names) (olds : List Suffix) (i : ℕ) (news : List Suffix) → i ≡ length olds
    → SuffixesWalking names olds i news →
    ((judge_suffixes (map suffix_of olds) names).broken ≡ None)
    × (map suffix_of news ≡ (judge_suffixes (map suffix_of olds) names).suffixes)
suffixes-done names olds i news end h =
    let e = suffixes-as names olds in
    let w = whole-walked suffix_of bare_suffix suffix_wanted suffix_faulty same_names olds names i news names end h in
    (ap (λ (j : JudgedSuffixes). j.broken) e ∙ w.0, w.1 ∙ sym (ap (λ (j : JudgedSuffixes). j.suffixes) e))

pub suffixes-broken : (names : Names) (olds : List Suffix) (i : ℕ) (news : List Suffix) (s : Suffix) → i < length olds
    → slice_get news i ≡ Some s → SuffixesWalking names olds i news →
    (b : Broken) → (judge_suffix (suffix_of s) names).broken ≡ Some b
    → (judge_suffixes (map suffix_of olds) names).broken ≡ Some b
suffixes-broken names olds i news s below e h b broken =
    ap (λ (j : JudgedSuffixes). j.broken) (suffixes-as names olds)
    ∙ whole-broken suffix_of bare_suffix suffix_wanted suffix_faulty same_names olds names i news names s below e h
    b broken

-- Options

module _ (names : Names) (of_dep : Bool) where
  abbrev pub setting_wanted : Seen → Setting → SettingTree
  setting_wanted seen s = (judge_setting (setting_of s) names of_dep seen).setting

  abbrev pub setting_faulty : Seen → Setting → Option Broken
  setting_faulty seen s = (judge_setting (setting_of s) names of_dep seen).broken

abbrev pub seen_then : Seen → Setting → Seen
seen_then seen s = seen_behind seen (setting_of s).form

abbrev pub SettingsWalking : Names → Bool → List Setting → ℕ → List Setting → Seen → Type 0
SettingsWalking names of_dep olds i news seen = Walking setting_of bare_setting (setting_wanted names of_dep)
    (setting_faulty names of_dep) seen_then olds 0 (length olds) none_seen i news seen

settings-as : (names : Names) (of_dep : Bool) (seen : Seen) (ss : List Setting) →
    judge_settings (settings_of ss) names of_dep seen
    ≡ record {
      settings = all_wanted setting_of bare_setting (setting_wanted names of_dep) (setting_faulty names of_dep)
          seen_then seen ss;
      broken = any_faulty setting_of bare_setting (setting_wanted names of_dep) (setting_faulty names of_dep)
          seen_then seen ss;
    }
settings-as names of_dep seen [] = refl
settings-as names of_dep seen (s ∷ ss) =
    ap (also_setting (judge_setting (setting_of s) names of_dep seen)) (settings-as names of_dep (seen_then seen s) ss)

pub settings-none : (names : Names) (of_dep : Bool) (olds : List Setting)
    → SettingsWalking names of_dep olds 0 olds none_seen
settings-none names of_dep olds = walking-none setting_of bare_setting (setting_wanted names of_dep)
    (setting_faulty names of_dep) seen_then olds 0 (length olds) none_seen (omega arith)

pub settings-more : (names : Names) (of_dep : Bool) (olds : List Setting) (i : ℕ) (news : List Setting)
    (seen left : Seen) (x y : Setting) → i < length olds → slice_get news i ≡ Some x →
    (judge_setting (setting_of x) names of_dep seen).broken ≡ None
    → setting_of y ≡ (judge_setting (setting_of x) names of_dep seen).setting → left ≡ seen_then seen x
    → bare_setting (setting_of y) ≡ bare_setting (setting_of x) →
    SettingsWalking names of_dep olds i news seen → SettingsWalking names of_dep olds (i + 1) (set news i y) left
settings-more names of_dep olds i news seen left x y below e none is behind same h =
    subst (λ (s : Seen). SettingsWalking names of_dep olds (i + 1) (set news i y) s) (sym behind)
    (walking-more setting_of bare_setting (setting_wanted names of_dep) (setting_faulty names of_dep) seen_then olds 0
    (length olds) none_seen i news seen x y (omega arith) below e none is same h)

pub settings-kept : (names : Names) (of_dep : Bool) (olds : List Setting) (i : ℕ) (news : List Setting) (seen : Seen)
    (x y : Setting) → slice_get news i ≡ Some x → bare_setting (setting_of y) ≡ bare_setting (setting_of x)
    → SettingsWalking names of_dep olds i news seen →
    map bare_setting (settings_of (set news i y)) ≡ map bare_setting (settings_of olds)
settings-kept names of_dep olds i news seen x y e same h =
    both-maps setting_of bare_setting (set news i y) olds (kept-more setting_of bare_setting
    (setting_wanted names of_dep) (setting_faulty names of_dep) seen_then olds 0 (length olds) none_seen i news seen
    x y e same h)

pub settings-done : (names : Names) (of_dep : Bool) (olds : List Setting) (i : ℕ) (news : List Setting) (seen : Seen)
    → i ≡ length olds → SettingsWalking names of_dep olds i news seen →
    ((judge_settings (settings_of olds) names of_dep none_seen).broken ≡ None)
    × (settings_of news ≡ (judge_settings (settings_of olds) names of_dep none_seen).settings)
settings-done names of_dep olds i news seen end h =
    let e = settings-as names of_dep none_seen olds in
    let w = whole-walked setting_of bare_setting (setting_wanted names of_dep) (setting_faulty names of_dep) seen_then
    olds none_seen i news seen end h in
    (ap (λ (j : JudgedSettings). j.broken) e ∙ w.0, w.1 ∙ sym (ap (λ (j : JudgedSettings). j.settings) e))

pub settings-broken : (names : Names) (of_dep : Bool) (olds : List Setting) (i : ℕ) (news : List Setting) (seen : Seen)
    (s : Setting) → i < length olds → slice_get news i ≡ Some s → SettingsWalking names of_dep olds i news seen →
    (b : Broken) → (judge_setting (setting_of s) names of_dep seen).broken ≡ Some b
    → (judge_settings (settings_of olds) names of_dep none_seen).broken ≡ Some b
settings-broken names of_dep olds i news seen s below e h b broken =
    ap (λ (j : JudgedSettings). j.broken) (settings-as names of_dep none_seen olds)
    ∙ whole-broken setting_of bare_setting (setting_wanted names of_dep) (setting_faulty names of_dep) seen_then
    olds none_seen i news seen s below e h b broken
