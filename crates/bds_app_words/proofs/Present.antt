-- Arguments that are wanted, and those with a default, have a row.
use Rattle.std.proofs.Common.{◌≡◌, ◌≤◌, ◌&&◌, ◌||◌, Bool, true, false, refl, cond, arith, List, [], ◌∷◌, ◌++◌, length, Option, Some, None}
use Rattle.std.specs.List.{AllByRecursion, fold, list_any}
use Rattle.std.specs.Prelude.{find, is_some, not}
use Rattle.std.specs.Option.{option_map_or}
use Rattle.std.specs.Str.{bytes_eq}
use Rattle.std.proofs.lemmas.Slice.Eq.{bytes_eq-Decides}
use Rattle.clap.specs.Facts.{explicit_source}
use Rattle.clap.specs.Faults.{check_fault}
use Rattle.clap.specs.Kinds.{check_kinds}
use Rattle.clap.specs.Simple.{Shape}
use Rattle.clap.specs.Takes.{is_given}
use Rattle.clap.specs.Walk.{Row, Rule, Text, default_rows, has_row, more_values, reading_by, with_default, with_values}
use Rattle.clap.specs.declared.builder.value_parser.Reading.{Reading}
use Rattle.clap.specs.declared.parser.matches.ValueSource.{ValueSource}
use Rattle.clap.specs.declared.parser.matches.ValueSource.TheVariants.{DefaultValue}

-- there is a row of this id
abbrev pub is_there : Text → List Row → Bool
is_there id rows = is_some (find (λ r. bytes_eq r.id id) rows)

pub row_there : (id : Text) (rows : List Row) → has_row id rows ≡ true → is_there id rows ≡ true
row_there id [] e = absurd (cc e)
row_there id (r ∷ rs) e = go (bytes_eq r.id id) e (row_there id rs)
  where
    go : (b : Bool) → (b || has_row id rs) ≡ true → (has_row id rs ≡ true → is_there id rs ≡ true) → is_some (cond b (Some r) (find (λ x. bytes_eq x.id id) rs)) ≡ true
    go true e later = refl
    go false e later = later e

pub given_there : (id : Text) (rows : List Row) → is_given id rows ≡ true → is_there id rows ≡ true
given_there id rows e = go (find (λ r. bytes_eq r.id id) rows) e
  where
    go : (o : Option Row) → option_map_or (λ r. explicit_source r.source) o false ≡ true → is_some o ≡ true
    go None e = absurd (cc e)
    go (Some r) e = refl

-- ---- defaults

module _ (id : Text) (how : Reading) (source : ValueSource) (vs : List Text) where
  new_there : (rows : List Row) → has_row id (with_values id how source vs rows) ≡ true
  new_there [] = rw ((bytes_eq-Decides id id).1 refl) refl
  new_there (r ∷ rs) = go (bytes_eq r.id id) refl (new_there rs)
    where
      go : (b : Bool) → bytes_eq r.id id ≡ b → has_row id (with_values id how source vs rs) ≡ true → has_row id (cond b (more_values source vs r ++ rs) (r ∷ with_values id how source vs rs)) ≡ true
      go true is later = rw is refl
      go false is later = rw is later

  stays_there : (other : Text) (rows : List Row) → has_row other rows ≡ true → has_row other (with_values id how source vs rows) ≡ true
  stays_there other [] e = absurd (cc e)
  stays_there other (r ∷ rs) e = go (bytes_eq r.id id) (λ later. stays_there other rs later)
    where
      either : (b : Bool) → (b || has_row other rs) ≡ true → (has_row other rs ≡ true → has_row other (with_values id how source vs rs) ≡ true) → (b || has_row other (with_values id how source vs rs)) ≡ true
      either true e later = refl
      either false e later = later e

      go : (b : Bool) → (has_row other rs ≡ true → has_row other (with_values id how source vs rs) ≡ true) → has_row other (cond b (more_values source vs r ++ rs) (r ∷ with_values id how source vs rs)) ≡ true
      go true later = e
      go false later = either (bytes_eq r.id other) e later

default_there : (a : Rule) (rows : List Row) → 1 ≤ length a.defaults → has_row a.id (with_default rows a) ≡ true
default_there a rows le = go (has_row a.id rows) refl a.defaults le
  where
    go : (b : Bool) → has_row a.id rows ≡ b → (ds : List Text) → 1 ≤ length ds → has_row a.id (cond b rows (default_rows a.id (reading_by a) ds rows)) ≡ true
    go true is ds le = is
    go false is [] le = absurd (omega (arith, le))
    go false is (d ∷ ds) le = new_there a.id (reading_by a) DefaultValue (d ∷ ds) rows

default_leaves : (a : Rule) (rows : List Row) (id : Text) → has_row id rows ≡ true → has_row id (with_default rows a) ≡ true
default_leaves a rows id there = go (has_row a.id rows) a.defaults
  where
    go : (b : Bool) (ds : List Text) → has_row id (cond b rows (default_rows a.id (reading_by a) ds rows)) ≡ true
    go true ds = there
    go false [] = there
    go false (d ∷ ds) = stays_there a.id (reading_by a) DefaultValue (d ∷ ds) id rows there

defaults_leave : (rules : List Rule) (rows : List Row) (id : Text) → has_row id rows ≡ true → has_row id (fold with_default rows rules) ≡ true
defaults_leave [] rows id there = there
defaults_leave (a ∷ rules) rows id there = defaults_leave rules (with_default rows a) id (default_leaves a rows id there)

-- an argument with a default has a row
abbrev pub HasDefault : List Row → Rule → Type 0
HasDefault rows a = 1 ≤ length a.defaults → is_there a.id rows ≡ true

pub defaults_there : (rules : List Rule) (rows : List Row) → AllByRecursion (HasDefault (fold with_default rows rules)) rules
defaults_there [] rows = tt
defaults_there (a ∷ rules) rows =
    let all = fold with_default rows (a ∷ rules) in
    (λ le. row_there a.id all (defaults_leave rules (with_default rows a) a.id (default_there a rows le)), defaults_there rules (with_default rows a))

-- ---- what is required

-- an argument that is required has a row
abbrev pub HasRequired : List Row → Rule → Type 0
HasRequired rows a = a.required ≡ true → is_there a.id rows ≡ true

-- the kinds of the last checks, where there are none
no_checks : (help subcommand argument : Bool) → check_kinds help subcommand argument ≡ [] → (subcommand ≡ false) × (argument ≡ false)
no_checks true subcommand argument e = absurd (cc e)
no_checks false true argument e = absurd (cc e)
no_checks false false true e = absurd (cc e)
no_checks false false false e = (refl, refl)

missing_none : (rows : List Row) (rules : List Rule) → list_any (λ a. a.required && not (is_given a.id rows)) rules ≡ false → AllByRecursion (HasRequired rows) rules
missing_none rows [] e = tt
missing_none rows (a ∷ rules) e = go a.required (is_given a.id rows) refl e (missing_none rows rules)
  where
    go : (b given : Bool) → is_given a.id rows ≡ given → (b && not given || list_any (λ x. x.required && not (is_given x.id rows)) rules) ≡ false
        → (list_any (λ x. x.required && not (is_given x.id rows)) rules ≡ false → AllByRecursion (HasRequired rows) rules) → (b ≡ true → is_there a.id rows ≡ true) × AllByRecursion (HasRequired rows) rules
    go true true is e later = (λ wants. given_there a.id rows is, later e)
    go true false is e later = absurd (cc e)
    go false given is e later = (λ wants. absurd (cc wants), later e)

pub required_there : (s : Shape) (rows : List Row) → check_fault s rows false ≡ [] → AllByRecursion (HasRequired rows) s.rules
required_there s rows e = missing_none rows s.rules (go s.subcommand_negates_reqs (no_checks _ _ _ e).1)
  where
    go : (b : Bool) → (not (b && false) && list_any (λ a. a.required && not (is_given a.id rows)) s.rules) ≡ false → list_any (λ a. a.required && not (is_given a.id rows)) s.rules ≡ false
    go true e = e
    go false e = e

-- where a subcommand is required there is one
pub subcommand_there : (s : Shape) (rows : List Row) (has : Bool) → s.subcommand_required ≡ true → check_fault s rows has ≡ [] → has ≡ true
subcommand_there s rows true wants e = refl
subcommand_there s rows false wants e =
    let free = (no_checks _ _ _ e).0 in
    absurd (cc (wants, free))
