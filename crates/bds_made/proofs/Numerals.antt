-- The bytes of numbers that are written, and which bytes are read as they stand.
use Rattle.std.proofs.Common.{◌≡◌, ℕ, ◌+◌, ◌^◌, ◌<◌, ◌%◌, Bool, true, false, List, [], ◌∷◌, ◌++◌, refl, sym, ap, ◌∙◌}
use Rattle.std.proofs.Common.{arith, append_assoc}
use Rattle.std.specs.Prelude.{◌==◌, ◌&&◌, not, decimal}
use Rattle.std.specs.List.{list_all}
use Rattle.std.proofs.lemmas.Fmt.{decimal_by_steps}
use Rattle.std.proofs.lemmas.Bool.{and_parts}
use Rattle.std.proofs.lemmas.Bool.Decides.{nat_tests}
use Rattle.bds_tree.specs.lexing.Bytes.{line_end, carriage_return, dollar, single_quote, backslash, is_blank}
use Rattle.bds_fmt.proofs.Fronts.{AllPassing, all_append}

-- a byte that stands for itself in each kind of text
pub record Quiet (b : ℕ) : Type 0 where
  pub line : b == line_end ≡ false
  pub return : b == carriage_return ≡ false
  pub dollar : b == dollar ≡ false
  pub quote : b == single_quote ≡ false
  pub slash : b == backslash ≡ false

abbrev pub is_quiet : ℕ → Bool
is_quiet b =
    not (b == line_end) && (not (b == carriage_return)
    && (not (b == dollar) && (not (b == single_quote) && not (b == backslash))))

no_of : (x : Bool) → not x ≡ true → x ≡ false
no_of true e = cc
no_of false e = refl

pub quiet_is : (b : ℕ) → is_quiet b ≡ true → Quiet b
quiet_is b e =
    let k = and_parts (not (b == line_end)) _ e in
    let l = and_parts (not (b == carriage_return)) _ k.1 in
    let m = and_parts (not (b == dollar)) _ l.1 in
    let n = and_parts (not (b == single_quote)) _ m.1 in
    record {
      line = no_of (b == line_end) k.0;
      return = no_of (b == carriage_return) l.0;
      dollar = no_of (b == dollar) m.0;
      quote = no_of (b == single_quote) n.0;
      slash = no_of (b == backslash) n.1;
    }

abbrev pub AreQuiet : List ℕ → Type 0
AreQuiet bytes = AllPassing is_quiet bytes

pub all_of : (p : ℕ → Bool) (xs : List ℕ) → list_all p xs ≡ true → AllPassing p xs
all_of p [] e = tt
all_of p (x ∷ xs) e = let k = and_parts (p x) (list_all p xs) e in (k.0, all_of p xs k.1)

digit_quiet : (n : ℕ) → n < 10 → is_quiet (48 + n) ≡ true
digit_quiet n h = grind (arith, nat_tests)

pub decimal_quiet : (n : ℕ) → n < 2 ^ 64 → AreQuiet (decimal n)
decimal_quiet n h =
    decimal_by_steps (λ n ds. AreQuiet ds) (λ n h. (digit_quiet n h, tt))
    (λ n ds h k. all_append is_quiet ds ((48 + n % 10) ∷ []) k (digit_quiet (n % 10) (omega arith), tt)) n h

-- what ends with a byte that is no blank
pub record EndsDark (bytes : List ℕ) : Type 0 where
  pub front : List ℕ
  pub last : ℕ
  pub is : bytes ≡ front ++ last ∷ []
  pub dark : is_blank last ≡ false

digit_dark : (n : ℕ) → n < 10 → is_blank (48 + n) ≡ false
digit_dark n h = grind (arith, nat_tests)

pub decimal_dark : (n : ℕ) → n < 2 ^ 64 → EndsDark (decimal n)
decimal_dark n h =
    decimal_by_steps (λ n ds. EndsDark ds)
    (λ n h. record { front = []; last = 48 + n; is = refl; dark = digit_dark n h })
    (λ n ds h k. record { front = ds; last = 48 + n % 10; is = refl; dark = digit_dark (n % 10) (omega arith) }) n h

pub behind_dark : (xs ys : List ℕ) → EndsDark ys → EndsDark (xs ++ ys)
behind_dark xs ys e = record {
  front = xs ++ e.front;
  last = e.last;
  is = ap (λ t. xs ++ t) e.is ∙ sym (append_assoc xs e.front (e.last ∷ []));
  dark = e.dark;
}
