-- Learning line by line.
use Rattle.std.proofs.Common.{◌≡◌, ◌∙◌, ◌+◌, ◌-◌, ◌<◌, ◌≤◌, ℕ, zero, suc, true, false, ◌==◌, List, [], ◌∷◌, ◌++◌}
use Rattle.std.proofs.Common.{length, take, drop, get_or, append_assoc, ap, sym, subst, refl, arith, if◌then◌else◌}
use Rattle.std.proofs.Common.{Some, slice_get, slice_index_or, ◌≢◌, ◌⊎◌, inl, inr, length-drop}
use Rattle.std.proofs.Math.Dec.{eqb}
use Rattle.std.proofs.Math.Seq.{drop-cons, take-suc}
use Rattle.std.proofs.lemmas.Bool.{eq-eqb}
use Rattle.std.proofs.lemmas.Bool.Decides.{eqb_tells}
use Rattle.std.proofs.lemmas.List.{get_or-drop}
use Rattle.bds_host.specs.Asks.{has}
use Rattle.bds_farm.specs.Farm.{Entry, GivesOr, Halfway, IsPlace, LearnsLine, LearnsLines, Queue, line_at}
use Rattle.bds_farm.specs.Farm.{lines, lines_from}

pub half_begins : (q : Queue) (text : List ℕ) → Halfway q text [] text q
half_begins q text = record { above = []; learnt = LearnsLines.none; split = refl }

pub half_line : (q : Queue) (text line rest : List ℕ) (b : ℕ) (now after : Queue) → (b == 10) ≡ true
    → Halfway q text line (b ∷ rest) now → LearnsLine line now after → Halfway q text [] rest after
half_line q text line rest b now after ends h l =
    record {
      above = h.above ++ line ∷ [];
      learnt = LearnsLines.one_more h.above line now after h.learnt l;
      split = h.split
          ∙ ap (λ x. h.above ++ (if x then line ∷ lines_from [] rest else lines_from (line ++ b ∷ []) rest)) ends
          ∙ sym (append_assoc h.above (line ∷ []) (lines_from [] rest));
    }

pub half_byte : (q : Queue) (text line rest : List ℕ) (b : ℕ) (now : Queue) → (b == 10) ≡ false
    → Halfway q text line (b ∷ rest) now → Halfway q text (line ++ b ∷ []) rest now
half_byte q text line rest b now other h =
    record {
      above = h.above;
      learnt = h.learnt;
      split = h.split
          ∙ ap (λ x. h.above ++ (if x then line ∷ lines_from [] rest else lines_from (line ++ b ∷ []) rest)) other;
    }

pub half_ends : (q : Queue) (text line : List ℕ) (now after : Queue) → Halfway q text line [] now
    → LearnsLine line now after → LearnsLines q (lines text) after
half_ends q text line now after h l =
    subst (λ ls. LearnsLines q ls after) (sym h.split) (LearnsLines.one_more h.above line now after h.learnt l)

not_equal : (a b : ℕ) → a ≢ b → eqb a b ≡ false
not_equal a b other = go (eqb_tells a b)
  where
    go : ((eqb a b ≡ true) × (a ≡ b)) ⊎ ((eqb a b ≡ false) × (a ≢ b)) → eqb a b ≡ false
    go (inl x) = absurd (other x.1)
    go (inr x) = x.0

drop-all : (text : List ℕ) (i : ℕ) → length text ≤ i → drop i text ≡ []
drop-all [] zero le = refl
drop-all [] (suc i) le = refl
drop-all (b ∷ bs) zero le = absurd (omega arith)
drop-all (b ∷ bs) (suc i) le = drop-all bs i (omega arith)

pub take-whole : (n : ℕ) (text : List ℕ) → length text ≤ n → take n text ≡ text
take-whole zero [] le = refl
take-whole (suc n) [] le = refl
take-whole zero (b ∷ bs) le = absurd (omega arith)
take-whole (suc n) (b ∷ bs) le = ap (λ l. b ∷ l) (take-whole n bs (omega arith))

suc_more : (start i : ℕ) → start ≤ i → (i + 1) - start ≡ suc (i - start)
suc_more start i le = omega arith

back_to : (start i : ℕ) → start ≤ i → start + (i - start) ≡ i
back_to start i le = omega arith

-- a line that ends at a place
pub line_done : (q : Queue) (text : List ℕ) (start i n : ℕ) (now after : Queue) → n ≡ i + 1 → i < length text
    → get_or text i 0 ≡ 10 → Halfway q text (line_at text start i) (drop i text) now
    → LearnsLine (line_at text start i) now after
    → (n ≤ i + 1) × Halfway q text (line_at text n (i + 1)) (drop (i + 1) text) after
line_done q text start i n now after next lt ends h l =
    let split : drop i text ≡ get_or text i 0 ∷ drop (suc i) text = drop-cons text i 0 lt in
    let more : suc i ≡ i + 1 = omega arith in
    let none : (i + 1) - n ≡ 0 = omega arith in
    let half : Halfway q text [] (drop (i + 1) text) after = subst (λ k. Halfway q text [] (drop k text) after) more
    (half_line q text (line_at text start i) (drop (suc i) text) (get_or text i 0) now after
    (eq-eqb (get_or text i 0) 10 ends) (subst (λ r. Halfway q text (line_at text start i) r now) split h) l) in
    (omega arith, subst (λ k. Halfway q text (take k (drop n text)) (drop (i + 1) text) after) (sym none) half)

-- a byte of a line
pub byte_done : (q : Queue) (text : List ℕ) (start i : ℕ) (now : Queue) → start ≤ i → i < length text
    → get_or text i 0 ≢ 10 → Halfway q text (line_at text start i) (drop i text) now
    → (start ≤ i + 1) × Halfway q text (line_at text start (i + 1)) (drop (i + 1) text) now
byte_done q text start i now le lt other h =
    let split : drop i text ≡ get_or text i 0 ∷ drop (suc i) text = drop-cons text i 0 lt in
    let more : suc i ≡ i + 1 = omega arith in
    let inside : i - start < length (drop start text) = omega (arith, length-drop start text) in
    let byte : get_or (drop start text) (i - start) 0 ≡ get_or text i 0 =
    get_or-drop start text (i - start) 0 ∙ ap (λ k. get_or text k 0) (back_to start i le) in
    let line : line_at text start i ++ get_or text i 0 ∷ [] ≡ line_at text start (i + 1) =
    ap (λ b. line_at text start i ++ b ∷ []) (sym byte) ∙ sym (take-suc (drop start text) (i - start) 0 inside)
    ∙ ap (λ k. take k (drop start text)) (sym (suc_more start i le)) in
    let unequal : (get_or text i 0 == 10) ≡ false = not_equal (get_or text i 0) 10 other in
    let half =
    half_byte q text (line_at text start i) (drop (suc i) text) (get_or text i 0) now unequal
    (subst (λ r. Halfway q text (line_at text start i) r now) split h) in (
      omega arith,
      subst (λ l. Halfway q text l (drop (i + 1) text) now) line
          (subst (λ k. Halfway q text (line_at text start i ++ get_or text i 0 ∷ []) (drop k text) now) more half),
    )

-- behind the last byte
pub text_done : (q : Queue) (text : List ℕ) (start i : ℕ) (now after : Queue) → start ≤ i → length text ≤ i
    → (rest : List ℕ) → rest ≡ drop start text → Halfway q text (line_at text start i) (drop i text) now
    → LearnsLine rest now after → LearnsLines q (lines text) after
text_done q text start i now after le all rest is h l =
    let nothing : drop i text ≡ [] = drop-all text i all in
    let whole : line_at text start i ≡ drop start text =
    take-whole (i - start) (drop start text) (omega (arith, length-drop start text)) in
    half_ends q text (line_at text start i) now after
    (subst (λ r. Halfway q text (line_at text start i) r now) nothing h)
    (subst (λ x. LearnsLine x now after) (is ∙ sym whole) l)

-- an entry between those before it and those behind
split_at : (ends : List Entry) (i : ℕ) (e : Entry) → slice_get ends i ≡ Some e
    → ends ≡ take i ends ++ e ∷ drop (i + 1) ends
split_at [] i e there = absurd (cc there)
split_at (f ∷ es) zero e there = let q : f ≡ e = cc there in ap (λ x. x ∷ es) q
split_at (f ∷ es) (suc i) e there = let q : suc i + 1 ≡ suc (i + 1) =
    omega arith in ap (λ l. f ∷ l) (split_at es i e there) ∙ ap (λ n. f ∷ (take i es ++ e ∷ drop n (f ∷ es))) (sym q)

index_of : (ends : List Entry) (i : ℕ) (e d : Entry) → slice_get ends i ≡ Some e → slice_index_or ends i d ≡ e
index_of [] i e d there = absurd (cc there)
index_of (f ∷ es) zero e d there = cc there
index_of (f ∷ es) (suc i) e d there = index_of es i e d there

pub gives_so : (running : List ℕ) (before after : List Entry) (i : ℕ) (e : Entry) → IsPlace running before (Some i)
    → e ≡ slice_index_or before i e → after ≡ take i before ++ drop (i + 1) before
    → GivesOr running before after (Some e)
gives_so running before after i e (f, (there, runs, others)) here left =
    let same : f ≡ e = sym (here ∙ index_of before i f e there) in (
      take i before,
      drop (i + 1) before,
      (
        split_at before i e (there ∙ ap Some same),
        others,
        subst (λ (x : Entry). has running x.0 ≡ true) same runs,
        left,
      ),
    )
