-- The rows of a command with plain options and positionals: how many values each has, how long they are, and that each passed.
use Rattle.std.proofs.Common.{◌≡◌, ◌∙◌, ◌≤◌, ◌+◌, ◌⊎◌, ℕ, Bool, true, false, refl, sym, ap, subst, cond, inl, inr, arith, List, [], ◌∷◌, ◌++◌, length, suc, Option, Some, None}
use Rattle.std.specs.List.{AllByRecursion, list_all}
use Rattle.std.specs.Prelude.{find, ⊤}
use Rattle.std.specs.Option.{option_map_or}
use Rattle.std.specs.Str.{bytes_eq}
use Rattle.std.proofs.lemmas.List.{length-append}
use Rattle.std.proofs.lemmas.Slice.Eq.{bytes_eq-Decides}
use Rattle.clap.specs.Kinds.{Kinds, or_else, value_kinds}
use Rattle.clap.specs.Values.{refused_kind}
use Rattle.clap.specs.Facts.{parser_of_value}
use Rattle.clap.specs.declared.error.kind.ErrorKind.{ErrorKind}
use Rattle.clap.specs.Takes.{value_passes}
use Rattle.clap.specs.Faults.{action_fault, react_fault, settle_fault, use_fault, values_fault}
use Rattle.clap.specs.Walk.{Held, Row, Rule, Text, action_of, arg_by_id, at_row, has_short, more_values, pushed, reacted, reading_by, settled, settled_rows, started, used, used_as, used_by_id, values_or_missing, with_values, without}
use Rattle.clap.specs.declared.builder.action.ArgAction.{ArgAction}
use Rattle.clap.specs.declared.builder.action.ArgAction.TheVariants.{Set, Append}
use Rattle.clap.specs.declared.builder.value_parser.Reading.{Reading}
use Rattle.clap.specs.declared.parser.matches.ValueSource.{ValueSource}
use Rattle.clap.specs.declared.parser.matches.ValueSource.TheVariants.{CommandLine}
use Rattle.clap.proofs.WalkLemmas.{both}
use Rattle.bds_app_words.specs.Ranges.{IsShort}

-- ---- lists

pub each_append : {X : Type 0} (P : X → Type 0) (xs ys : List X) → AllByRecursion P xs → AllByRecursion P ys → AllByRecursion P (xs ++ ys)
each_append P [] ys h k = k
each_append P (x ∷ xs) ys h k = (h.0, each_append P xs ys h.1 k)

pub each_weaker : {X : Type 0} (P Q : X → Type 0) → ((x : X) → P x → Q x) → (xs : List X) → AllByRecursion P xs → AllByRecursion Q xs
each_weaker P Q step [] h = tt
each_weaker P Q step (x ∷ xs) h = (step x h.0, each_weaker P Q step xs h.1)

pub each_found : {X : Type 0} (P : X → Type 0) (test : X → Bool) (xs : List X) (x : X) → AllByRecursion P xs → find test xs ≡ Some x → P x
each_found P test [] x h e = absurd (cc e)
each_found P test (y ∷ ys) x h e = go (test y) (each_found P test ys x h.1) e
  where
    go : (b : Bool) → (find test ys ≡ Some x → P x) → cond b (Some y) (find test ys) ≡ Some x → P x
    go true later same = subst P (ap (λ o. option_map_or (λ z. z) o y) same) h.0
    go false later e = later e

all_append : {X : Type 0} (p : X → Bool) (xs ys : List X) → list_all p xs ≡ true → list_all p ys ≡ true → list_all p (xs ++ ys) ≡ true
all_append p [] ys h k = k
all_append p (x ∷ xs) ys h k = let parts = both (p x) (list_all p xs) h in rw parts.0 (all_append p xs ys parts.1 k)

-- ---- kinds of faults

pub no_first : (a b : Kinds) → or_else a b ≡ [] → a ≡ []
no_first [] b e = refl
no_first (k ∷ ks) b e = absurd (cc e)

pub no_second : (a b : Kinds) → or_else a b ≡ [] → b ≡ []
no_second [] b e = e
no_second (k ∷ ks) b e = absurd (cc e)

one_passes : (a : Rule) (v : Text) → value_kinds a.ignore_case (parser_of_value a.parser) v ≡ [] → value_passes a v ≡ true
one_passes a v = go (value_passes a v) (refused_kind (parser_of_value a.parser))
  where
    go : (b : Bool) (k : ErrorKind) → cond b [] (k ∷ []) ≡ [] → b ≡ true
    go true k e = refl
    go false k e = absurd (cc e)

values_pass : (a : Rule) (vs : List Text) → values_fault a vs ≡ [] → list_all (value_passes a) vs ≡ true
values_pass a [] e = refl
values_pass a (v ∷ vs) e = rw (one_passes a v (no_first _ _ e)) (values_pass a vs (no_second _ _ e))

-- ---- what fits

-- whether a value passes the parser of an argument, where there is one
abbrev pub passes_by : Option Rule → Text → Bool
passes_by None v = true
passes_by (Some a) v = value_passes a v

abbrev pub IsReadBy : Option Rule → Reading → Type 0
IsReadBy None how = ⊤
IsReadBy (Some a) how = how ≡ reading_by a

-- a row with room for k more values among n
pub record RowFits (c : List Rule) (k n : ℕ) (r : Row) : Type 0 where
  pub few : length r.values + k ≤ n
  pub shorts : AllByRecursion IsShort r.values
  pub passed : list_all (passes_by (arg_by_id c r.id)) r.values ≡ true
  pub read_by : IsReadBy (arg_by_id c r.id) r.reading

-- an argument of one or more values, with no short name
pub record IsPlainRule (c : List Rule) (a : Rule) : Type 0 where
  pub own : arg_by_id c a.id ≡ Some a
  pub none_missing : a.missing ≡ []
  pub acts : (action_of a ≡ Set) ⊎ (action_of a ≡ Append)
  pub unnamed : (x : ℕ) → has_short a x ≡ false
  pub few_defaults : length a.defaults ≤ 1
  pub short_defaults : AllByRecursion IsShort a.defaults
  pub passing_defaults : list_all (value_passes a) a.defaults ≡ true

abbrev pub pending_texts : Option (Text × List Text) → List Text
pending_texts None = []
pending_texts (Some p) = p.1

pub record HeldFits (c : List Rule) (n : ℕ) (h : Held) : Type 0 where
  pub few_pending : length (pending_texts h.pending) ≤ n
  pub short_pending : AllByRecursion IsShort (pending_texts h.pending)
  pub fitting : AllByRecursion (RowFits c (length (pending_texts h.pending)) n) h.rows

pub less_room : (c : List Rule) (k m n l : ℕ) → l + m ≤ k + n → (r : Row) → RowFits c k m r → RowFits c l n r
less_room c k m n l le r f = record { few = omega (arith, f.few); shorts = f.shorts; passed = f.passed; read_by = f.read_by }

-- ---- values that join a row

module _ (c : List Rule) (a : Rule) (plain : IsPlainRule c a) (vs : List Text) (short_values : AllByRecursion IsShort vs) (pass : list_all (value_passes a) vs ≡ true) (n : ℕ) where
  row_grows : (source : ValueSource) (r : Row) → bytes_eq r.id a.id ≡ true → RowFits c (length vs) n r → AllByRecursion (RowFits c 0 n) (more_values source vs r)
  row_grows source r same f =
      let is : r.id ≡ a.id = (bytes_eq-Decides r.id a.id).0 same in
      let by : arg_by_id c r.id ≡ Some a = ap (arg_by_id c) is ∙ plain.own in
      let values : list_all (passes_by (arg_by_id c r.id)) vs ≡ true = rw by pass in
      let sum = length-append r.values vs in (
        record {
          few = omega (arith, f.few, sum);
          shorts = each_append IsShort r.values vs f.shorts short_values;
          passed = all_append (passes_by (arg_by_id c r.id)) r.values vs f.passed values;
          read_by = f.read_by;
        },
        tt,
      )

  pub row_new : (source : ValueSource) → length vs ≤ n → RowFits c 0 n (record { id = a.id; values = vs; count = None; source = Some source; reading = reading_by a })
  row_new source le = record {
    few = omega arith;
    shorts = short_values;
    passed = rw plain.own pass;
    read_by = subst (λ o. IsReadBy o (reading_by a)) (sym plain.own) refl;
  }

  -- what joins, and rows that stay
  each_at_row : (k m : ℕ) (change : Row → List Row) (new : List Row) → ((r : Row) → RowFits c k m r → RowFits c 0 n r) → ((r : Row) → bytes_eq r.id a.id ≡ true → RowFits c k m r → AllByRecursion (RowFits c 0 n) (change r))
      → AllByRecursion (RowFits c 0 n) new → (rows : List Row) → AllByRecursion (RowFits c k m) rows → AllByRecursion (RowFits c 0 n) (at_row a.id change new rows)
  each_at_row k m change new keep grow last [] h = last
  each_at_row k m change new keep grow last (r ∷ rs) h = go (bytes_eq r.id a.id) (each_at_row k m change new keep grow last rs h.1) refl
    where
      go : (b : Bool) → AllByRecursion (RowFits c 0 n) (at_row a.id change new rs) → bytes_eq r.id a.id ≡ b → AllByRecursion (RowFits c 0 n) (cond b (change r ++ rs) (r ∷ at_row a.id change new rs))
      go true later is = each_append (RowFits c 0 n) (change r) rs (grow r is h.0) (each_weaker (RowFits c k m) (RowFits c 0 n) keep rs h.1)
      go false later is = (keep r h.0, later)

  pub values_join : (source : ValueSource) → length vs ≤ n → (rows : List Row) → AllByRecursion (RowFits c (length vs) n) rows → AllByRecursion (RowFits c 0 n) (with_values a.id (reading_by a) source vs rows)
  values_join source le rows h = each_at_row (length vs) n (more_values source vs) (record { id = a.id; values = vs; count = None; source = Some source; reading = reading_by a } ∷ [])
      (λ r f. less_room c (length vs) n n 0 (omega arith) r f) (row_grows source) (row_new source le, tt) rows h

each_without : (P : Row → Type 0) (id : Text) (rows : List Row) → AllByRecursion P rows → AllByRecursion P (without id rows)
each_without P id [] h = tt
each_without P id (r ∷ rs) h = go (bytes_eq r.id id) (each_without P id rs h.1)
  where
    go : (b : Bool) → AllByRecursion P (without id rs) → AllByRecursion P (cond b rs (r ∷ without id rs))
    go true later = h.1
    go false later = (h.0, later)

-- ---- one use of an argument

given : (a : Rule) (vs : List Text) → a.missing ≡ [] → values_or_missing a vs ≡ vs
given a [] e = e
given a (v ∷ vs) e = refl

act_passes : (x : ArgAction) (again : Bool) (a : Rule) (vs : List Text) (rows : List Row) → (x ≡ Set) ⊎ (x ≡ Append) → action_fault x again a vs rows ≡ [] → values_fault a vs ≡ []
act_passes x again a vs rows acts e = elim acts [
  | inl set ↦ let f = rw set at e in no_second _ _ f
  | inr append ↦ let f = rw append at e in f
]

act_joins : (c : List Rule) (x : ArgAction) (a : Rule) → IsPlainRule c a → (vs : List Text) → AllByRecursion IsShort vs → list_all (value_passes a) vs ≡ true → (n : ℕ) → length vs ≤ n → (rows : List Row)
    → AllByRecursion (RowFits c (length vs) n) rows → (x ≡ Set) ⊎ (x ≡ Append) → AllByRecursion (RowFits c 0 n) (used_as x a.id (reading_by a) vs rows)
act_joins c x a plain vs shorts pass n le rows h acts = elim acts [
  | inl set ↦ rw set (values_join c a plain vs shorts pass n CommandLine le (without a.id rows) (each_without (RowFits c (length vs) n) a.id rows h))
  | inr append ↦ rw append (values_join c a plain vs shorts pass n CommandLine le rows h)
]

pub used_fits : (c : List Rule) (again : Bool) (a : Rule) (vs : List Text) (rows : List Row) (n : ℕ) → IsPlainRule c a → use_fault again a vs rows ≡ [] → AllByRecursion IsShort vs → length vs ≤ n
    → AllByRecursion (RowFits c (length vs) n) rows → AllByRecursion (RowFits c 0 n) (used a vs rows)
used_fits c again a vs rows n plain none shorts le h =
    let is : values_or_missing a vs ≡ vs = given a vs plain.none_missing in
    let acted : action_fault (action_of a) again a vs rows ≡ [] = subst (λ ws. action_fault (action_of a) again a ws rows ≡ []) is (no_second _ _ none) in
    let pass = values_pass a vs (act_passes (action_of a) again a vs rows plain.acts acted) in
    subst (λ ws. AllByRecursion (RowFits c 0 n) (used_as (action_of a) a.id (reading_by a) ws rows)) (sym is) (act_joins c (action_of a) a plain vs shorts pass n le rows h plain.acts)

-- ---- what is held

pub settled_fits : (c : List Rule) (again : Bool) (n : ℕ) (h : Held) → AllByRecursion (IsPlainRule c) c → HeldFits c n h → settle_fault c again h ≡ [] → AllByRecursion (RowFits c 0 n) (settled c h).rows
settled_fits c again n h plain f none = go h.pending none f.few_pending f.short_pending f.fitting
  where
    none_known : (p : Text × List Text) (o : Option Rule) → arg_by_id c p.0 ≡ o → option_map_or (λ a. use_fault again a p.1 h.rows) o [] ≡ [] → length p.1 ≤ n → AllByRecursion IsShort p.1
        → AllByRecursion (RowFits c (length p.1) n) h.rows → AllByRecursion (RowFits c 0 n) (used_by_id o p.1 h.rows)
    none_known p None is e few shorts rows = each_weaker (RowFits c (length p.1) n) (RowFits c 0 n) (less_room c (length p.1) n n 0 (omega arith)) h.rows rows
    none_known p (Some a) is e few shorts rows = used_fits c again a p.1 h.rows n (each_found (IsPlainRule c) (λ x. bytes_eq x.id p.0) c a plain is) e shorts few rows

    go : (p : Option (Text × List Text)) → option_map_or (λ q. option_map_or (λ a. use_fault again a q.1 h.rows) (arg_by_id c q.0) []) p [] ≡ [] → length (pending_texts p) ≤ n → AllByRecursion IsShort (pending_texts p)
        → AllByRecursion (RowFits c (length (pending_texts p)) n) h.rows → AllByRecursion (RowFits c 0 n) (settled_rows c p h.rows)
    go None e few shorts rows = rows
    go (Some p) e few shorts rows = none_known p (arg_by_id c p.0) refl e few shorts rows

pub settles : (c : List Rule) (n : ℕ) (h : Held) → AllByRecursion (RowFits c 0 n) (settled c h).rows → HeldFits c n (settled c h)
settles c n h rows = record { few_pending = omega arith; short_pending = tt; fitting = rows }

-- one more value at most
pub reacted_fits : (c : List Rule) (again : Bool) (a : Rule) (vs : List Text) (n : ℕ) (h : Held) → AllByRecursion (IsPlainRule c) c → IsPlainRule c a → length vs ≤ 1 → AllByRecursion IsShort vs → HeldFits c n h
    → react_fault c again a vs h ≡ [] → HeldFits c (suc n) (reacted c a vs h)
reacted_fits c again a vs n h plain own le shorts f none =
    let before = settled_fits c again n h plain f (no_first _ _ none) in
    let room = each_weaker (RowFits c 0 n) (RowFits c (length vs) (suc n)) (less_room c 0 n (suc n) (length vs) (omega arith)) (settled c h).rows before in
    record { few_pending = omega arith; short_pending = tt; fitting = used_fits c again a vs (settled c h).rows (suc n) own (no_second _ _ none) shorts (omega arith) room }

pub more_room : (c : List Rule) (n : ℕ) (h : Held) → HeldFits c n h → HeldFits c (suc n) h
more_room c n h f =
    let k = length (pending_texts h.pending) in
    record { few_pending = omega (arith, f.few_pending); short_pending = f.short_pending; fitting = each_weaker (RowFits c k n) (RowFits c k (suc n)) (less_room c k n (suc n) k (omega arith)) h.rows f.fitting }

pub pushed_fits : (c : List Rule) (id word : Text) (n : ℕ) (h : Held) → IsShort word → HeldFits c n h → HeldFits c (suc n) (pushed id word h)
pushed_fits c id word n h short f = go h.pending f.few_pending f.short_pending f.fitting
  where
    joins : (ts : List Text) → length ts ≤ n → AllByRecursion IsShort ts → AllByRecursion (RowFits c (length ts) n) h.rows → (p : Text × List Text) → p.1 ≡ ts
        → HeldFits c (suc n) (record h { pending = Some (p.0, p.1 ++ word ∷ []) })
    joins ts few shorts rows p is =
        let sum = length-append p.1 (word ∷ []) in
        let same = ap length is in
        record {
          few_pending = omega (arith, sum, same, few);
          short_pending = each_append IsShort p.1 (word ∷ []) (subst (AllByRecursion IsShort) (sym is) shorts) (short, tt);
          fitting = each_weaker (RowFits c (length ts) n) (RowFits c (length (p.1 ++ word ∷ [])) (suc n)) (less_room c (length ts) n (suc n) (length (p.1 ++ word ∷ [])) (omega (arith, sum, same))) h.rows rows;
        }

    go : (p : Option (Text × List Text)) → length (pending_texts p) ≤ n → AllByRecursion IsShort (pending_texts p) → AllByRecursion (RowFits c (length (pending_texts p)) n) h.rows
        → HeldFits c (suc n) (record h { pending = Some ((started id p).0, (started id p).1 ++ word ∷ []) })
    go None few shorts rows = joins [] few shorts rows (id, []) refl
    go (Some p) few shorts rows = joins p.1 few shorts rows p refl
