-- Each row of an argument that wants a value has one.
use Rattle.std.proofs.Common.{◌≡◌, ◌∙◌, ◌≤◌, ℕ, Bool, true, false, refl, sym, ap, subst, cond, inl, inr, arith, List, [], ◌∷◌, ◌++◌, length, suc, zero, Option, Some, None}
use Rattle.std.specs.List.{AllByRecursion, fold}
use Rattle.std.specs.Prelude.{⊤}
use Rattle.std.specs.Str.{bytes_eq}
use Rattle.std.proofs.lemmas.Bool.{lt-ltb}
use Rattle.std.proofs.lemmas.List.{length-append}
use Rattle.std.proofs.lemmas.Slice.Eq.{bytes_eq-Decides}
use Rattle.clap.specs.Kinds.{range_kinds}
use Rattle.clap.specs.Facts.{unwrap_or_range}
use Rattle.clap.specs.Walk.{Row, Rule, Text, arg_by_id, at_row, default_rows, has_row, more_values, most_values, reading_by, values_or_missing, with_default, with_values, without}
use Rattle.clap.specs.declared.builder.value_parser.Reading.{Reading}
use Rattle.clap.specs.declared.parser.matches.ValueSource.{ValueSource}
use Rattle.clap.specs.declared.parser.matches.ValueSource.TheVariants.{CommandLine, DefaultValue}
use Rattle.bds_app_words.proofs.Fitting.{IsPlainRule, each_append, no_first}
use Rattle.bds_app_words.proofs.Keeping.{KeptByUse}

-- the fewest values that a use of an argument may have
abbrev pub least : Rule → ℕ
least a = (unwrap_or_range a.range).start_inclusive

-- values of an argument, one at least where it wants any
abbrev pub IsFilledBy : Option Rule → List Text → Type 0
IsFilledBy None vs = ⊤
IsFilledBy (Some a) vs = 1 ≤ least a → 1 ≤ length vs

abbrev pub IsFilled : List Rule → Row → Type 0
IsFilled c r = IsFilledBy (arg_by_id c r.id) r.values

abbrev pub AreFilled : List Rule → List Row → Type 0
AreFilled c = AllByRecursion (IsFilled c)

-- a change of one row, or a new row, keeps what holds of each
each_changed : (P : Row → Type 0) (id : Text) (change : Row → List Row) (new : List Row) → ((r : Row) → bytes_eq r.id id ≡ true → P r → AllByRecursion P (change r)) → AllByRecursion P new
    → (rows : List Row) → AllByRecursion P rows → AllByRecursion P (at_row id change new rows)
each_changed P id change new step last [] h = last
each_changed P id change new step last (r ∷ rs) h = go (bytes_eq r.id id) (each_changed P id change new step last rs h.1) refl
  where
    go : (b : Bool) → AllByRecursion P (at_row id change new rs) → bytes_eq r.id id ≡ b → AllByRecursion P (cond b (change r ++ rs) (r ∷ at_row id change new rs))
    go true later is = each_append P (change r) rs (step r is h.0) h.1
    go false later is = (h.0, later)

-- ---- values that join a row

module _ (c : List Rule) (a : Rule) (plain : IsPlainRule c a) (vs : List Text) (full : 1 ≤ least a → 1 ≤ length vs) where
  filled_by : (id : Text) → id ≡ a.id → (ws : List Text) → length vs ≤ length ws → IsFilledBy (arg_by_id c id) ws
  filled_by id is ws le =
      let known : arg_by_id c id ≡ Some a = ap (arg_by_id c) is ∙ plain.own in
      subst (λ o. IsFilledBy o ws) (sym known) (λ wants. omega (arith, full wants, le))

  values_fill : (how : Reading) (source : ValueSource) (rows : List Row) → AreFilled c rows → AreFilled c (with_values a.id how source vs rows)
  values_fill how source rows h = each_changed (IsFilled c) a.id (more_values source vs) (record { id = a.id; values = vs; count = None; source = Some source; reading = how } ∷ []) grow (filled_by a.id refl vs (omega arith), tt) rows h
    where
      grow : (r : Row) → bytes_eq r.id a.id ≡ true → IsFilled c r → AreFilled c (more_values source vs r)
      grow r same f =
          let sum = length-append r.values vs in
          (filled_by r.id ((bytes_eq-Decides r.id a.id).0 same) (r.values ++ vs) (omega (arith, sum)), tt)

-- ---- uses and defaults

some_value : (low most n : ℕ) → range_kinds low most n ≡ [] → 1 ≤ low → 1 ≤ n
some_value low most zero e le =
    let none = rw (lt-ltb 0 low le) at e in
    absurd (cc none)
some_value low most (suc n) e le = omega arith

or_missing : (a : Rule) (vs : List Text) → (1 ≤ least a → 1 ≤ length vs) → 1 ≤ least a → 1 ≤ length (values_or_missing a vs)
or_missing a [] full wants =
    let none = full wants in
    absurd (omega (arith, none))
or_missing a (v ∷ vs) full wants = full wants

pub uses_fill : (c : List Rule) (again : Bool) → KeptByUse c again (AreFilled c)
uses_fill c again a vs rows plain none h = elim plain.acts [
  | inl set ↦ rw set (values_fill c a plain ws full (reading_by a) CommandLine (without a.id rows) (each_changed (IsFilled c) a.id (λ _. []) [] (λ r same f. tt) tt rows h))
  | inr append ↦ rw append (values_fill c a plain ws full (reading_by a) CommandLine rows h)
]
  where
    ws : List Text
    ws = values_or_missing a vs

    full : 1 ≤ least a → 1 ≤ length ws
    full = or_missing a vs (some_value (least a) (most_values a) (length vs) (no_first _ _ none))

default_fills : (c : List Rule) (a : Rule) (rows : List Row) → IsPlainRule c a → AreFilled c rows → AreFilled c (with_default rows a)
default_fills c a rows plain h = go (has_row a.id rows) a.defaults
  where
    go : (b : Bool) (ds : List Text) → AreFilled c (cond b rows (default_rows a.id (reading_by a) ds rows))
    go true ds = h
    go false [] = h
    go false (d ∷ ds) = values_fill c a plain (d ∷ ds) (λ wants. omega arith) (reading_by a) DefaultValue rows h

pub defaults_fill : (c rules : List Rule) (rows : List Row) → AllByRecursion (IsPlainRule c) rules → AreFilled c rows → AreFilled c (fold with_default rows rules)
defaults_fill c [] rows plains h = h
defaults_fill c (a ∷ rules) rows plains h = defaults_fill c rules (with_default rows a) plains.1 (default_fills c a rows plains.0 h)
