-- The line that tells the end of a task, and the numbers in it.
use Rattle.std.proofs.Common.{◌≡◌, ◌≢◌, ◌<◌, ◌^◌, ℕ, zero, suc, true, false, List, [], ◌∷◌, ◌++◌, Bor, Option, Some, None, MatchOption, Result, Ok, refl, sym, ap, ◌∙◌, subst, arith}
use Rattle.std.specs.List.{AllByRecursion}
use Rattle.std.specs.Fmt.{decimal}
use Rattle.std.specs.Str.{IsAscii, IsUtf8}
use Rattle.std.specs.Str.Parse.{AllDigits, ParsesUnsigned}
use Rattle.std.proofs.lemmas.Bool.{false≢true}
use Rattle.std.proofs.lemmas.Fmt.{IsAscii-decimal, decimal_injective, decimal_is_IsNumeral, parse-decimal}
use Rattle.std.proofs.lemmas.Str.{IsUtf8-append, IsUtf8-from_ascii}
use Rattle.std.proofs.lemmas.Str.Parse.{digit_from_value}
use Rattle.bds_host.specs.Asks.{has}
use Rattle.bds_host.specs.declared.asks.Reply.TheVariants.{Fault}
use Rattle.bds_exec.specs.Replies.{IsEnd, IsNoLine, line_of}

-- a byte isn't among some
abbrev pub Without : ℕ → List ℕ → Type 0
Without b bytes = AllByRecursion (λ c. c ≢ b) bytes

digits_without : (b : ℕ) (ds : List ℕ) → b < 48 → AllDigits 10 ds → Without b ds
digits_without b [] less d = tt
digits_without b (c ∷ cs) less d = (λ e. omega (arith, less, digit_from_value c d.0, e), digits_without b cs less d.1)

-- no digit is as small
pub decimal_without : (b n : ℕ) → b < 48 → n < 2 ^ 64 → Without b (decimal n)
decimal_without b n less h = digits_without b (decimal n) less (decimal_is_IsNumeral n h).0.1

blank_free : (n : ℕ) → n < 2 ^ 64 → Without 32 (decimal n)
blank_free n h = decimal_without 32 n (omega arith) h

has_blank : (a b : List ℕ) → Without 32 (a ++ 32 ∷ b) → ⊥
has_blank [] b h = h.0 refl
has_blank (c ∷ cs) b h = has_blank cs b h.1

abbrev pub head_of : List ℕ → ℕ
head_of [] = 0
head_of (c ∷ cs) = c

abbrev pub tail_of : List ℕ → List ℕ
tail_of [] = []
tail_of (c ∷ cs) = cs

-- a list with one blank is parted there in one way
split_same : (xs ys a b : List ℕ) → Without 32 xs → Without 32 ys → xs ++ 32 ∷ ys ≡ a ++ 32 ∷ b → (a ≡ xs) × (b ≡ ys)
split_same [] ys [] b f g e = (refl, sym (ap tail_of e))
split_same [] ys (c ∷ cs) b f g e = elim (has_blank cs b (subst (Without 32) (ap tail_of e) g)) [ ]
split_same (x ∷ xs) ys [] b f g e = elim (f.0 (ap head_of e)) [ ]
split_same (x ∷ xs) ys (c ∷ cs) b f g e =
    let more = split_same xs ys cs b f.1 g (ap tail_of e) in
    (ap (λ l. c ∷ l) more.0 ∙ ap (λ z. z ∷ xs) (sym (ap head_of e)), more.1)

-- a line is parted at its blank
parted : (line a b : List ℕ) (task code : ℕ) → task < 2 ^ 32 → code < 2 ^ 8 → line ≡ a ++ 32 ∷ b → line ≡ line_of task code → (a ≡ decimal task) × (b ≡ decimal code)
parted line a b task code h k e is =
    split_same (decimal task) (decimal code) a b (blank_free task (omega arith)) (blank_free code (omega arith)) (sym is ∙ e)

blank_first : (code : ℕ) → code < 2 ^ 8 → IsAscii (32 ∷ decimal code)
blank_first code k zero = omega arith
blank_first code k (suc i) = IsAscii-decimal code (omega arith) i

line_utf8 : (task code : ℕ) → task < 2 ^ 32 → code < 2 ^ 8 → IsUtf8 (line_of task code)
line_utf8 task code h k =
    IsUtf8-append (decimal task) (32 ∷ decimal code)
    (IsUtf8-from_ascii (decimal task) (IsAscii-decimal task (omega arith)))
    (IsUtf8-from_ascii (32 ∷ decimal code) (blank_first code k))

-- no text
pub strange_line : (line : List ℕ) → (IsUtf8 line → ⊥) → IsNoLine line
strange_line line strange task code h k is = strange (subst IsUtf8 (sym is) (line_utf8 task code h k))

-- no blank
pub whole_line : (line : List ℕ) → ((xs ys : List ℕ) → line ≢ xs ++ (32 ∷ [] ++ ys)) → IsNoLine line
whole_line line none task code h k is = none (decimal task) (decimal code) is

-- what stands before and behind a blank, or nothing
pub parted_at : (line text : List ℕ) (r : Option (Bor (List ℕ) × Bor (List ℕ))) → text ≡ line →
    MatchOption r ((xs ys : List ℕ) → text ≢ xs ++ (32 ∷ [] ++ ys)) (λ x. text ≡ x.0.now ++ (32 ∷ [] ++ x.1.now)) →
    MatchOption r (IsNoLine line) (λ p. line ≡ p.0.now ++ 32 ∷ p.1.now)
parted_at line text None same none = whole_line line (λ xs ys e. none xs ys (same ∙ e))
parted_at line text (Some x) same is = sym same ∙ is

-- no number of a task
pub wrong_task : (line a b : List ℕ) → line ≡ a ++ 32 ∷ b → ((n : ℕ) → n < 2 ^ 32 → a ≢ decimal n) → IsNoLine line
wrong_task line a b e none task code h k is = none task h (parted line a b task code h k e is).0

-- no code
pub wrong_code : (line a b : List ℕ) → line ≡ a ++ 32 ∷ b → ((n : ℕ) → n < 2 ^ 32 → b ≢ decimal n) → IsNoLine line
wrong_code line a b e none task code h k is = none code (omega arith) (parted line a b task code h k e is).1

-- a code that is too large
pub large_code : (line a b : List ℕ) (n : ℕ) → line ≡ a ++ 32 ∷ b → b ≡ decimal n → n < 2 ^ 32 → (n < 2 ^ 8 → ⊥) → IsNoLine line
large_code line a b n e number small large task code h k is =
    let same : n ≡ code = decimal_injective n code (omega arith) (omega arith) (sym number ∙ (parted line a b task code h k e is).1) in
    large (omega (arith, same))

-- a number and a code with a blank between
pub told_line : (line a b : List ℕ) (task code : ℕ) → line ≡ a ++ 32 ∷ b → a ≡ decimal task → b ≡ decimal code → line ≡ line_of task code
told_line line a b task code e first second = e ∙ ap (λ l. l ++ 32 ∷ b) first ∙ ap (λ l. decimal task ++ 32 ∷ l) second

-- the end of a task that doesn't run
pub other_task : (running line : List ℕ) (task code : ℕ) → task < 2 ^ 32 → code < 2 ^ 8 → line ≡ line_of task code → has running task ≡ false → IsEnd running line Fault
other_task running line task code small less is stopped t c h k runs e =
    let same : task ≡ t = decimal_injective task t (omega arith) (omega arith) (parted line (decimal task) (decimal code) t c h k is e).0 in
    false≢true (sym stopped ∙ subst (λ n. has running n ≡ true) (sym same) runs)

-- a text that isn't parsed is no number
pub unparsed : {E : Type 0} (text : List ℕ) (r : Result ℕ E) → ParsesUnsigned 32 10 text r → ((n : ℕ) → r ≢ Ok n) → (n : ℕ) → n < 2 ^ 32 → text ≢ decimal n
unparsed text r parses failed n h is = failed n (parse-decimal 32 n text r h (omega arith) is parses)

-- a text that isn't how its number is printed is no number
pub printed_otherwise : {E : Type 0} (text : List ℕ) (r : Result ℕ E) (m : ℕ) → ParsesUnsigned 32 10 text r → r ≡ Ok m → decimal m ≢ text → (n : ℕ) → n < 2 ^ 32 → text ≢ decimal n
printed_otherwise text r m parses read other n h is =
    let same : m ≡ n = ok_same m n (sym read ∙ parse-decimal 32 n text r h (omega arith) is parses) in
    other (ap decimal same ∙ sym is)
  where
    value_or : {E : Type 0} → Result ℕ E → ℕ
    value_or (Ok k) = k
    value_or _ = 0

    ok_same : {E : Type 0} (a b : ℕ) → ◌≡◌ {A = Result ℕ E} (Ok a) (Ok b) → a ≡ b
    ok_same a b e = ap value_or e
