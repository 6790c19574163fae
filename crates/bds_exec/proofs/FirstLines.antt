-- The line at the front of what a reader has left.
use Rattle.std.proofs.Common.{◌≡◌, ◌≢◌, ◌<◌, ◌≤◌, ◌^◌, ◌⊎◌, ℕ, zero, suc, List, [], ◌∷◌, ◌++◌, length, take}
use Rattle.std.proofs.Common.{Option, Some, None, Result, Ok, Err, IfOk, inr, refl, sym, ap, ◌∙◌, subst, arith}
use Rattle.std.proofs.Common.{append_assoc, append-nil}
use Rattle.std.proofs.Math.Logic.{⊎_map}
use Rattle.std.specs.Fmt.{decimal}
use Rattle.std.specs.Io.KnownBytes.{Consumes, IsAtEnd}
use Rattle.std.proofs.lemmas.Fmt.{length-decimal-le}
use Rattle.std.proofs.lemmas.List.{length-append}
use Rattle.std.proofs.lemmas.List.Elements.{All-take, recursion_from_All}
use Rattle.bds_exec.proofs.Lines.{Without, decimal_without, head_of, tail_of}
use Rattle.bds_exec.specs.FirstLine.{EndsNoLine, GivesLine, HasNoLine, TakesLine, longest_line}
use Rattle.bds_exec.specs.Replies.{line_of}

-- so many bytes are the first of what follows them too
take-front : (n : ℕ) (xs ys : List ℕ) → n ≤ length xs → take n (xs ++ ys) ≡ take n xs
take-front zero xs ys l = refl
take-front (suc n) [] ys l = absurd (omega (arith, l))
take-front (suc n) (x ∷ xs) ys l = ap (λ l. x ∷ l) (take-front n xs ys (omega (arith, l)))

ends_none : (n : ℕ) (xs left : List ℕ) → left ≡ xs → EndsNoLine xs → EndsNoLine (take n left)
ends_none n xs left same none = subst (λ l. EndsNoLine (take n l)) (sym same) (All-take (λ b. b ≢ 10) n xs none)

-- no line ends in what was read, and that is all there is
pub read_none : (a b : Option (List ℕ)) (bytes : List ℕ) → Consumes a b bytes → EndsNoLine bytes
    → IsAtEnd b → HasNoLine a
read_none None b bytes read none end = tt
read_none (Some left) None bytes read none end = absurd read
read_none (Some left) (Some rest) bytes read none end =
    ends_none longest_line bytes left (read ∙ ap (λ l. bytes ++ l) end ∙ append-nil bytes) none

-- or it is as much as the longest line has
pub read_long : (a b : Option (List ℕ)) (bytes : List ℕ) → Consumes a b bytes → EndsNoLine bytes
    → longest_line ≤ length bytes → HasNoLine a
read_long None b bytes read none long = tt
read_long (Some left) None bytes read none long = absurd read
read_long (Some left) (Some rest) bytes read none long =
    subst EndsNoLine (sym (ap (take longest_line) read ∙ take-front longest_line bytes rest long))
    (All-take (λ b. b ≢ 10) longest_line bytes none)

-- Lines that tell the end of a task

together : (b : ℕ) (xs ys : List ℕ) → Without b xs → Without b ys → Without b (xs ++ ys)
together b [] ys f g = g
together b (x ∷ xs) ys f g = (f.0, together b xs ys f.1 g)

one_line : (task code : ℕ) → task < 2 ^ 32 → code < 2 ^ 8 → Without 10 (line_of task code)
one_line task code h k =
    together 10 (decimal task) (32 ∷ decimal code) (decimal_without 10 task (omega arith) (omega arith))
    ((λ e. omega (arith, e)), decimal_without 10 code (omega arith) (omega arith))

-- with its end it is no longer than the longest line
short_line : (task code : ℕ) → task < 2 ^ 32 → code < 2 ^ 8 → length (line_of task code) < longest_line
short_line task code h k =
    let number : length (decimal task) ≤ 10 = length-decimal-le 10 task (omega arith) (omega arith) (omega arith) in
    let small : length (decimal code) ≤ 3 = length-decimal-le 3 code (omega arith) (omega arith) (omega arith) in
    let both = length-append (decimal task) (32 ∷ decimal code) in
    omega (arith, number, small, both)

an_end : (n : ℕ) (xs ys : List ℕ) → length xs < n → Without 10 (take n (xs ++ 10 ∷ ys)) → ⊥
an_end zero xs ys l h = omega (arith, l)
an_end (suc n) [] ys l h = h.0 refl
an_end (suc n) (x ∷ xs) ys l h = an_end n xs ys (omega (arith, l)) h.1

-- so a line ends in time, where one begins the bytes that are left
told_ends : (a : Option (List ℕ)) (task code : ℕ) (behind : List ℕ) → task < 2 ^ 32 → code < 2 ^ 8
    → a ≡ Some (line_of task code ++ 10 ∷ behind) → HasNoLine a → ⊥
told_ends a task code behind h k is none =
    an_end longest_line (line_of task code) behind (short_line task code h k)
    (recursion_from_All (λ b. b ≢ 10) _ (subst HasNoLine is none))

same_line : (xs ys vs ws : List ℕ) → Without 10 xs → Without 10 vs
    → xs ++ 10 ∷ ys ≡ vs ++ 10 ∷ ws → vs ≡ xs
same_line [] ys [] ws f g e = refl
same_line [] ys (v ∷ vs) ws f g e = elim (g.0 (sym (ap head_of e))) [ ]
same_line (x ∷ xs) ys [] ws f g e = elim (f.0 (ap head_of e)) [ ]
same_line (x ∷ xs) ys (v ∷ vs) ws f g e =
    ap (λ l. v ∷ l) (same_line xs ys vs ws f.1 g.1 (ap tail_of e)) ∙ ap (λ z. z ∷ xs) (sym (ap head_of e))

told_taken : (a b : Option (List ℕ)) (line : List ℕ) (task code : ℕ) (behind : List ℕ) → TakesLine a b line
    → task < 2 ^ 32 → code < 2 ^ 8 → a ≡ Some (line_of task code ++ 10 ∷ behind) → line ≡ line_of task code
told_taken a b line task code behind takes h k is = go b (subst (λ x. Consumes x b (line ++ 10 ∷ [])) is takes.1)
  where
    go : (b : Option (List ℕ)) → Consumes (Some (line_of task code ++ 10 ∷ behind)) b (line ++ 10 ∷ [])
        → line ≡ line_of task code
    go None read = absurd read
    go (Some rest) read =
        same_line (line_of task code) behind line rest (one_line task code h k)
        (recursion_from_All (λ b. b ≢ 10) line takes.0)
        (read ∙ append_assoc line (10 ∷ []) rest)

-- so it is given
pub told_given : {E : Type 0} (a b : Option (List ℕ)) (many : ℕ) (r : Result (Option (List ℕ)) E)
    → IfOk r (GivesLine a b many)
    → (task code : ℕ) (behind : List ℕ) → task < 2 ^ 32 → code < 2 ^ 8 → a ≡ Some (line_of task code ++ 10 ∷ behind)
    → IfOk r (λ read. (many ≡ 2 ^ 32) ⊎ (read ≡ Some (line_of task code)))
told_given a b many (Err e) gives task code behind h k is = tt
told_given a b many (Ok None) gives task code behind h k is =
    ⊎_map (λ so. so) (λ none. absurd (told_ends a task code behind h k is none)) gives
told_given a b many (Ok (Some line)) gives task code behind h k is =
    inr (ap Some (told_taken a b line task code behind gives.0 h k is))
