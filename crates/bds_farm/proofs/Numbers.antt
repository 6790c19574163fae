-- Numbers of eight bits as texts, and what stands behind words.
use Rattle.std.proofs.Common.{◌≡◌, ◌≢◌, ◌<◌, ◌^◌, ℕ, false, List, ◌++◌, length, take, Option, Some}
use Rattle.std.proofs.Common.{None, MatchOption, Result, Ok, sym, ap, ◌∙◌, subst, arith, append_assoc}
use Rattle.std.specs.Prelude.{decimal}
use Rattle.std.specs.Str.{bytes_eq, IsUtf8}
use Rattle.std.specs.Str.Parse.{ParsesUnsigned}
use Rattle.std.proofs.lemmas.Bool.{false≢true}
use Rattle.std.proofs.lemmas.Fmt.{IsAscii-decimal, parse-decimal}
use Rattle.std.proofs.lemmas.List.{append_cancel_left}
use Rattle.std.proofs.lemmas.Slice.Eq.{bytes_eq-Decides}
use Rattle.std.proofs.lemmas.Str.{IsUtf8-from_ascii}
use Rattle.std.proofs.Math.Seq.{take-append_seam}

ok_same : {E : Type 0} (m n : ℕ) (r : Result ℕ E) → r ≡ Ok m → r ≡ Ok n → m ≡ n
ok_same m n r e f = cc (e, f)

pub unparsed : {E : Type 0} (text : List ℕ) (r : Result ℕ E) → ParsesUnsigned 8 10 text r → ((n : ℕ) → r ≢ Ok n)
    → (n : ℕ) → n < 2 ^ 8 → text ≢ decimal n
unparsed text r parses failed n h is = failed n (parse-decimal 8 n text r h (omega arith) is parses)

pub printed_otherwise : {E : Type 0} (text : List ℕ) (r : Result ℕ E) (m : ℕ) → ParsesUnsigned 8 10 text r → r ≡ Ok m
    → decimal m ≢ text → (n : ℕ) → n < 2 ^ 8 → text ≢ decimal n
printed_otherwise text r m parses read other n h is =
    let same : m ≡ n = ok_same m n r read (parse-decimal 8 n text r h (omega arith) is parses) in
    other (ap decimal same ∙ sym is)

pub strange_number : (text : List ℕ) → (IsUtf8 text → ⊥) → (n : ℕ) → n < 2 ^ 8 → text ≢ decimal n
strange_number text strange n h is =
    strange (subst IsUtf8 (sym is) (IsUtf8-from_ascii (decimal n) (IsAscii-decimal n (omega arith))))

pub same_number : (bytes text : List ℕ) (r : Option ℕ) → text ≡ bytes
    → MatchOption r ((n : ℕ) → n < 2 ^ 8 → text ≢ decimal n) (λ n. text ≡ decimal n)
    → MatchOption r ((n : ℕ) → n < 2 ^ 8 → bytes ≢ decimal n) (λ n. bytes ≡ decimal n)
same_number bytes text None same none = λ n h is. none n h (same ∙ is)
same_number bytes text (Some n) same is = sym same ∙ is

pub other_front : (words text head : List ℕ) → head ≡ take (length words) text → bytes_eq head words ≡ false
    → (rest : List ℕ) → text ≡ words ++ rest → ⊥
other_front words text head front other rest is =
    let same : head ≡ words = front ∙ ap (take (length words)) is ∙ take-append_seam words rest in
    false≢true (sym other ∙ (bytes_eq-Decides head words).1 same)

pub behind_both : {R : Type 0} (now : R → List ℕ) (first second text rest : List ℕ) (r : Option R)
    → text ≡ first ++ rest → MatchOption r ((x : List ℕ) → rest ≢ second ++ x) (λ x. rest ≡ second ++ now x)
    → MatchOption r ((x : List ℕ) → text ≢ (first ++ second) ++ x) (λ x. text ≡ (first ++ second) ++ now x)
behind_both now first second text rest None is none =
    λ x e. none x (append_cancel_left first rest (second ++ x) (sym is ∙ e ∙ append_assoc first second x))
behind_both now first second text rest (Some x) is h =
    is ∙ ap (λ l. first ++ l) h ∙ sym (append_assoc first second (now x))

pub line_both : (a b line rest rest' : List ℕ) (c : ℕ → List ℕ) (r : Option ℕ) → line ≡ a ++ rest → rest ≡ b ++ rest'
    → MatchOption r ((n : ℕ) → n < 2 ^ 8 → rest' ≢ c n) (λ n. rest' ≡ c n)
    → MatchOption r ((n : ℕ) → n < 2 ^ 8 → line ≢ a ++ (b ++ c n)) (λ n. line ≡ a ++ (b ++ c n))
line_both a b line rest rest' c None first second none =
    λ n h e. none n h
    (append_cancel_left b rest' (c n) (sym second ∙ append_cancel_left a rest (b ++ c n) (sym first ∙ e)))
line_both a b line rest rest' c (Some n) first second h = first ∙ ap (λ l. a ++ l) (second ∙ ap (λ l. b ++ l) h)

pub line_none : (a b line rest : List ℕ) (c : ℕ → List ℕ) → line ≡ a ++ rest → ((x : List ℕ) → rest ≢ b ++ x) → (n : ℕ)
    → n < 2 ^ 8 → line ≢ a ++ (b ++ c n)
line_none a b line rest c first none n h e = none (c n) (append_cancel_left a rest (b ++ c n) (sym first ∙ e))
