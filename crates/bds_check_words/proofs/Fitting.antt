-- What words give has the type of the global that they set.
use Rattle.std.proofs.Common.{◌≡◌, ◌≤◌, ℕ, zero, suc, Bool, true, false, not, Option, Some, None, Result, Ok, Err, List, [], ◌∷◌, map, take, length, refl, ap, sym, subst, arith, codes}
use Rattle.std.specs.Prelude.{ℤ, ok_or, option_map, if◌then◌else◌}
use Rattle.std.specs.List.{AllByRecursion, prefix_len}
use Rattle.std.specs.Str.{bytes_eq}
use Rattle.bds_value.specs.declared.TheConstants.{MAX_ITEMS}
use Rattle.bds_value.specs.declared.value.Ty.{Ty}
use Rattle.bds_value.specs.declared.value.Ty.TheVariants as ty
use Rattle.bds_value.specs.declared.value.Value.{Value, out-Value}
use Rattle.bds_value.specs.declared.value.Value.TheVariants as value
use Rattle.bds_value.specs.declared.value.Value.TheOpen.{Value-F}
use Rattle.bds_value.specs.Results.{◌>>=◌, result_map}
use Rattle.bds_lib.specs.Numbers.{number_of}
use Rattle.bds_check_names.specs.declared.names.Variable.{Variable}
use Rattle.bds_check_names.specs.Scopes.{first_type}
use Rattle.bds_check_size.specs.ScriptSize.{Settings, items_at, items_in}
use Rattle.bds_check_typing.specs.GivenValues.{IsTextAt, IsGivenAt}
use Rattle.bds_check_typing.specs.Texts.{IsShort, AreShortTexts}
use Rattle.bds_check_words.specs.declared.faults.WordsFault.{WordsFault}
use Rattle.bds_check_words.specs.declared.faults.WordsFault.TheVariants as fault
use Rattle.bds_check_words.specs.declared.kinds.Kind.{Kind}
use Rattle.bds_check_words.specs.declared.kinds.Kind.TheVariants as kind
use Rattle.bds_check_words.specs.SetNames.{name_in, kind_named}
use Rattle.bds_check_words.specs.WordSettings.{truth_behind, is_dashed, words_before_dash, text_list, value_behind, setting, with_setting, with_item, words_behind}
use Rattle.bds_check_words.proofs.KindLaws.{type_for, kind-found}

-- Results that go on

record Mapped {A B E : Type 0} (f : A → B) (r : Result A E) (b : B) : Type 0 where
  from : A
  was : r ≡ Ok from
  is : f from ≡ b

mapped : {A B E : Type 0} (f : A → B) (r : Result A E) (b : B) → result_map f r ≡ Ok b → Mapped f r b
mapped f (Ok a) b e = record { from = a; was = refl; is = cc }
mapped f (Err x) b e = absurd (cc)

record Bound {A B E : Type 0} (r : Result A E) (go : A → Result B E) (b : B) : Type 0 where
  from : A
  was : r ≡ Ok from
  is : go from ≡ Ok b

bound : {A B E : Type 0} (r : Result A E) (go : A → Result B E) (b : B) → (r >>= go) ≡ Ok b → Bound r go b
bound (Ok a) go b e = record { from = a; was = refl; is = e }
bound (Err x) go b e = absurd (cc)

there : {A E : Type 0} (o : Option A) (e : E) (a : A) → ok_or o e ≡ Ok a → o ≡ Some a
there (Some x) e a q = cc
there None e a q = absurd (cc)

-- Values of a kind

-- a value of the type, with at most so many items
record Gives (k : Kind) (most : ℕ) (v : Value) : Type 0 where
  given : IsGivenAt (out-Value v) (type_for k)
  few : items_in v ≤ most

gives : (k : Kind) (most : ℕ) (v : Value) (w : Value-F Value) → out-Value v ≡ w → IsGivenAt w (type_for k) → items_at w ≤ most → Gives k most v
gives k most v w e g f = record {
  given = subst (λ (x : Value-F Value). IsGivenAt x (type_for k)) (sym e) g;
  few = subst (λ (x : Value-F Value). items_at x ≤ most) (sym e) f;
}

truth-gives : (most : ℕ) (b : Bool) → Gives kind.Truth most (value.Bool b)
truth-gives most b = gives kind.Truth most (value.Bool b) (Value-F.Bool b) (value.outs-Bool b) refl (omega arith)

truth-behind-gives : (ws : List (List ℕ)) → Gives kind.Truth (length ws) (truth_behind ws).0
truth-behind-gives [] = truth-gives 0 true
truth-behind-gives (w ∷ ws) = by (bytes_eq w (codes "true")) (bytes_eq w (codes "false"))
  where
    by : (a b : Bool) → let found : Value × ℕ = if a then (value.Bool true, 1) else (if b then (value.Bool false, 1) else (value.Bool true, 0)) in Gives kind.Truth (length (w ∷ ws)) found.0
    by true b = truth-gives (length (w ∷ ws)) true
    by false true = truth-gives (length (w ∷ ws)) false
    by false false = truth-gives (length (w ∷ ws)) true

number-gives : (most : ℕ) (o : Option ℤ) (s : Value × ℕ) → option_map (λ n. (value.Int n, 1)) o ≡ Some s → Gives kind.Number most s.0
number-gives most None s e = absurd (cc)
number-gives most (Some n) s e =
    let is : value.Int n ≡ s.0 = ap (λ (o : Option (Value × ℕ)). (elim o [ None ↦ value.Int n | Some q ↦ q.0 ])) e in
    subst (Gives kind.Number most) is (gives kind.Number most (value.Int n) (Value-F.Int n) (value.outs-Int n) refl (omega arith))

text-gives : (most : ℕ) (w : List ℕ) (s : Value × ℕ) → IsShort w → Some (value.Text w, 1) ≡ Some s → Gives kind.Text most s.0
text-gives most w s short e =
    let is : value.Text w ≡ s.0 = ap (λ (o : Option (Value × ℕ)). (elim o [ None ↦ value.Text w | Some q ↦ q.0 ])) e in
    subst (Gives kind.Text most) is (gives kind.Text most (value.Text w) (Value-F.Text w) (value.outs-Text w) (refl, short) (omega arith))

-- Lists of texts

texts-are : (ts : List (List ℕ)) → AreShortTexts ts → AllByRecursion (λ v. IsTextAt (out-Value v)) (map value.Text ts)
texts-are [] h = tt
texts-are (t ∷ ts) h = (subst IsTextAt (sym (value.outs-Text t)) h.0, texts-are ts h.1)

as-many : (ts : List (List ℕ)) → length (map value.Text ts) ≡ length ts
as-many [] = refl
as-many (t ∷ ts) = ap suc (as-many ts)

front-short : (n : ℕ) (ws : List (List ℕ)) → AreShortTexts ws → AreShortTexts (take n ws)
front-short zero [] h = tt
front-short zero (w ∷ ws) h = tt
front-short (suc n) [] h = tt
front-short (suc n) (w ∷ ws) h = (h.0, front-short n ws h.1)

front-fewer : (n : ℕ) (ws : List (List ℕ)) → length (take n ws) ≤ length ws
front-fewer zero [] = omega arith
front-fewer zero (w ∷ ws) = omega arith
front-fewer (suc n) [] = omega arith
front-fewer (suc n) (w ∷ ws) = omega (arith, front-fewer n ws)

texts-give : (most : ℕ) (ts : List (List ℕ)) (s : Value × ℕ) → AreShortTexts ts → length ts ≤ most → Some (text_list ts) ≡ Some s → Gives kind.Texts most s.0
texts-give most ts s short few e =
    let is : value.List ty.Text (map value.Text ts) ≡ s.0 = ap (λ (o : Option (Value × ℕ)). (elim o [ None ↦ value.List ty.Text (map value.Text ts) | Some q ↦ q.0 ])) e in
    subst (Gives kind.Texts most) is
    (gives kind.Texts most (value.List ty.Text (map value.Text ts)) (Value-F.List ty.Text (map value.Text ts)) (value.outs-List ty.Text (map value.Text ts)) (refl, refl, texts-are ts short) (omega (arith, as-many ts, few)))

value-gives : (k : Kind) (ws : List (List ℕ)) (s : Value × ℕ) → AreShortTexts ws → value_behind k ws ≡ Some s → Gives k (length ws) s.0
value-gives kind.Truth ws s short e =
    subst (Gives kind.Truth (length ws)) (ap (λ (o : Option (Value × ℕ)). (elim o [ None ↦ (truth_behind ws).0 | Some q ↦ q.0 ])) e) (truth-behind-gives ws)
value-gives kind.Number [] s short e = absurd (cc)
value-gives kind.Number (w ∷ ws) s short e = number-gives (length (w ∷ ws)) (number_of w) s e
value-gives kind.Text [] s short e = absurd (cc)
value-gives kind.Text (w ∷ ws) s short e = text-gives (length (w ∷ ws)) w s short.0 e
value-gives kind.Texts ws s short e =
    let n : ℕ = prefix_len (λ w. not (is_dashed w)) ws in texts-give (length ws) (words_before_dash ws) s (front-short n ws short) (front-fewer n ws) e

-- Settings

-- a value of the type of the first global of the name
pub record FitsVariable (globals : List Variable) (s : List ℕ × Value) : Type 0 where
  pub type_found : Ty
  pub found : first_type s.0 globals ≡ Some type_found
  pub given : IsGivenAt (out-Value s.1) type_found
  pub few : items_in s.1 ≤ MAX_ITEMS

setting-fits : (globals : List Variable) (x : List ℕ) (ws : List (List ℕ)) (s : Value × ℕ) → length ws ≤ MAX_ITEMS → AreShortTexts ws → setting globals x ws ≡ Ok s → FitsVariable globals (x, s.0)
setting-fits globals x ws s few short e =
    let b = bound (ok_or (kind_named globals x) (fault.NoVariable x)) (λ (k : Kind). ok_or (value_behind k ws) (fault.BadValue x)) s e in
    let k : Kind = b.from in
    let g : Gives k (length ws) s.0 = value-gives k ws s short (there (value_behind k ws) (fault.BadValue x) s b.is) in
    record {
      type_found = type_for k;
      found = kind-found globals x k (there (kind_named globals x) (fault.NoVariable x) k b.was);
      given = g.given;
      few = omega (arith, g.few, few);
    }

-- All words

abbrev Given : Type 0
Given = Settings × List (List ℕ)

pub record Fit (globals : List Variable) (ws : List (List ℕ)) (given : Settings × List (List ℕ)) : Type 0 where
  pub settings : AllByRecursion (FitsVariable globals) given.0
  pub args : AreShortTexts given.1
  pub fewer : length given.1 ≤ length ws

module _ (globals : List Variable) (w : List ℕ) (ws : List (List ℕ)) (few : length ws ≤ MAX_ITEMS) (short : AreShortTexts (w ∷ ws))
    (others : (n : ℕ) (g : Given) → words_behind globals n ws ≡ Ok g → Fit globals ws g) (given : Given) where
  item-fits : Mapped (with_item w) (words_behind globals 0 ws) given → Fit globals (w ∷ ws) given
  item-fits m =
      let r = others 0 m.from m.was in
      subst (Fit globals (w ∷ ws)) m.is (record { settings = r.settings; args = (short.0, r.args); fewer = omega (arith, r.fewer) })

  set-fits : (x : List ℕ) (s : Value × ℕ) → setting globals x ws ≡ Ok s → Mapped (with_setting x s.0) (words_behind globals s.1 ws) given → Fit globals (w ∷ ws) given
  set-fits x s e m =
      let r = others s.1 m.from m.was in
      subst (Fit globals (w ∷ ws)) m.is (record { settings = (setting-fits globals x ws s few short.1 e, r.settings); args = r.args; fewer = omega (arith, r.fewer) })

  abbrev word_gives : Option (List ℕ) → Result Given WordsFault
  word_gives o = elim o [
    | None ↦ result_map (with_item w) (words_behind globals 0 ws)
    | Some x ↦ setting globals x ws >>= λ s. result_map (with_setting x s.0) (words_behind globals s.1 ws)
  ]

  word-fits : (o : Option (List ℕ)) → word_gives o ≡ Ok given → Fit globals (w ∷ ws) given
  word-fits None e = item-fits (mapped (with_item w) (words_behind globals 0 ws) given e)
  word-fits (Some x) e =
      let b = bound (setting globals x ws) (λ (s : Value × ℕ). result_map (with_setting x s.0) (words_behind globals s.1 ws)) given e in
      set-fits x b.from b.was (mapped (with_setting x b.from.0) (words_behind globals b.from.1 ws) given b.is)

pub words-fit : (globals : List Variable) (ws : List (List ℕ)) (taken : ℕ) (given : Settings × List (List ℕ)) → length ws ≤ MAX_ITEMS → AreShortTexts ws → words_behind globals taken ws ≡ Ok given → Fit globals ws given
words-fit globals [] taken given few short e = let is : ([], []) ≡ given = cc in subst (Fit globals []) is (record { settings = tt; args = tt; fewer = omega arith })
words-fit globals (w ∷ ws) (suc taken) given few short e =
    let r = words-fit globals ws taken given (omega arith) short.1 e in record { settings = r.settings; args = r.args; fewer = omega (arith, r.fewer) }
words-fit globals (w ∷ ws) zero given few short e =
    word-fits globals w ws (omega arith) short (λ n g q. words-fit globals ws n g (omega arith) short.1 q) given (name_in w) e
