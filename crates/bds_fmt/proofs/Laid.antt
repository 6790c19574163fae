-- What a loop over tokens has put, and what it knows of those before.
use Rattle.std.proofs.Common.{◌≡◌, ℕ, zero, suc, ◌+◌, ◌-◌, ◌*◌, ◌≤◌, ◌<◌, Bool, true, List, [], ◌∷◌, ◌++◌, length, get_or, take, drop, reverse, replicate, cond, refl, ap, sym, ◌∙◌, subst, arith, append_assoc, append-nil, drop-cons, length-append}
use Rattle.std.specs.Prelude.{◌&&◌, if◌then◌else◌, count_by, nat_lt}
use Rattle.std.proofs.Math.Seq.{take-suc}
use Rattle.std.proofs.lemmas.List.{reverse-append, map-append, length-reverse}
use Rattle.std.proofs.Math.ListN.{length-take}
use Rattle.std.proofs.lemmas.Bool.{ltb-true}
use Rattle.std.proofs.lemmas.List.Sums.{count_by-le-length, sum_by-cons}
use Rattle.bds_tree.specs.declared.token.Token.{Token}
use Rattle.bds_tree.specs.declared.token.Word.{Word}
use Rattle.bds_tree.specs.declared.token.Word.TheVariants as w
use Rattle.bds_tree.specs.Words.{words}
use Rattle.bds_tree.specs.lexing.LineEnds.{is_semicolon}
use Rattle.bds_fmt.specs.declared.before.Before.{Before}
use Rattle.bds_fmt.specs.Layout.{is_at_begin, is_joined, is_open_block, is_close_block_word, is_open_round, is_close_round, ends_line, is_left_out, begins_with_else, spell_before, gap, written, layout_behind, joins_behind, may_be_followed}
use Rattle.bds_fmt.specs.Told.{told_of, behind, written_by, ends_in_sys, is_sys, gap_by, line_end_by, ends_line_by}

rep_tail : (m x : ℕ) (ys : List ℕ) → replicate m x ++ x ∷ ys ≡ x ∷ (replicate m x ++ ys)
rep_tail zero x ys = refl
rep_tail (suc m) x ys = ap (λ (t : List ℕ). x ∷ t) (rep_tail m x ys)

pub spaces_more : (n : ℕ) → replicate {A = ℕ} (4 * (n + 1)) 32 ≡ replicate {A = ℕ} (4 * n) 32 ++ (32 ∷ 32 ∷ 32 ∷ 32 ∷ [])
spaces_more n =
    let e : 4 * (n + 1) ≡ suc (suc (suc (suc (4 * n)))) = omega arith in
    ap (λ (m : ℕ). replicate {A = ℕ} m 32) e
    ∙ sym (rep_tail (4 * n) 32 (32 ∷ 32 ∷ 32 ∷ []) ∙ ap (λ (t : List ℕ). 32 ∷ t) (rep_tail (4 * n) 32 (32 ∷ 32 ∷ [])) ∙ ap (λ (t : List ℕ). 32 ∷ 32 ∷ t) (rep_tail (4 * n) 32 (32 ∷ [])) ∙ ap (λ (t : List ℕ). 32 ∷ 32 ∷ 32 ∷ t) (rep_tail (4 * n) 32 [])
    ∙ ap (λ (t : List ℕ). 32 ∷ 32 ∷ 32 ∷ 32 ∷ t) (append-nil (replicate {A = ℕ} (4 * n) 32)))

-- the words before a place, the last one first
pub past_at : ℕ → List Token → List Word
past_at i ts = reverse (words (take i ts))

pub past_none : (ts : List Token) → past_at 0 ts ≡ []
unfolding past_at
past_none ts = refl

past_more : (i : ℕ) (ts : List Token) (t : Token) → i < length ts → t ≡ get_or ts i t → past_at (i + 1) ts ≡ t.word ∷ past_at i ts
unfolding past_at
past_more i ts t lt is =
    let one : take (i + 1) ts ≡ take i ts ++ t ∷ [] = take_one i ts t lt is in
    ap (λ (x : List Token). reverse (words x)) one
    ∙ ap reverse (map-append (λ (t : Token). t.word) (take i ts) (t ∷ []))
    ∙ reverse-append (words (take i ts)) (t.word ∷ [])
  where
    take_one : (i : ℕ) (ts : List Token) (t : Token) → i < length ts → t ≡ get_or ts i t → take (i + 1) ts ≡ take i ts ++ t ∷ []
    take_one i ts t lt is = let e : i + 1 ≡ suc i = omega arith in ap (λ (n : ℕ). take n ts) e ∙ take-suc ts i t lt ∙ ap (λ (x : Token). take i ts ++ x ∷ []) (sym is)

words_length : (ts : List Token) → length (words ts) ≡ length ts
words_length [] = refl
words_length (t ∷ ts) = ap suc (words_length ts)

-- what is known behind a word
left_is : (past : List Word) (word : Word) → is_left_out past word ≡ ends_in_sys past && is_semicolon word
left_is [] word = refl
left_is (w.Sys ps ∷ past) w.Semicolon = refl
left_is (w.Sys ps ∷ past) _ = refl
left_is (_ ∷ past) word = refl

ends_alike : (past : List Word) (word : Word) → ends_line_by (told_of past) word ≡ ends_line past word
ends_alike past w.Semicolon = refl
ends_alike past (w.Sys ps) = refl
ends_alike past w.OpenBlock = refl
ends_alike past w.CloseBlock = refl
ends_alike past _ = refl

joins_alike : (past : List Word) (word : Word) → joins_behind (word ∷ []) ≡ joins_behind (word ∷ past)
joins_alike past w.OpenRound = refl
joins_alike past w.OpenSquare = refl
joins_alike past w.OpenValue = refl
joins_alike past w.Dot = refl
joins_alike past _ = refl

followed_alike : (past : List Word) (word : Word) → may_be_followed (word ∷ []) ≡ may_be_followed (word ∷ past)
followed_alike past (w.Name n) = refl
followed_alike past w.Bool = refl
followed_alike past w.Int = refl
followed_alike past w.String = refl
followed_alike past w.CloseRound = refl
followed_alike past w.CloseSquare = refl
followed_alike past w.CloseValue = refl
followed_alike past _ = refl

abbrev told_with : Word → Bool → Bool → Bool → ℕ → ℕ → ℕ → ℕ → Before
told_with word b j f ob cb or cr = record { begins_line = b; is_sys = is_sys word; joins = j; followed = f; opened_blocks = ob; closed_blocks = cb; opened_rounds = or; closed_rounds = cr }

one_more : (p : Word → Bool) (word : Word) (past : List Word) → cond (p word) 1 0 + count_by p past ≡ count_by p (word ∷ past)
one_more p word past = sym (sum_by-cons (λ (x : Word). cond (p x) 1 0) word past)

behind_is : (past : List Word) (word : Word) → behind (told_of past) word ≡ told_of (word ∷ past)
behind_is past word =
    let e = ends_alike past word in
    let j = joins_alike past word in
    let f = followed_alike past word in
    let ob = one_more is_open_block word past in
    let cb = one_more is_close_block_word word past in
    let or = one_more is_open_round word past in
    let cr = one_more is_close_round word past in
    same e j f ob cb or cr
  where
    same : {b b2 j j2 f f2 : Bool} {n n2 m m2 k k2 l l2 : ℕ} → b ≡ b2 → j ≡ j2 → f ≡ f2 → n ≡ n2 → m ≡ m2 → k ≡ k2 → l ≡ l2 → told_with word b j f n m k l ≡ told_with word b2 j2 f2 n2 m2 k2 l2
    same e j f n m k l = rw (e, j, f, n, m, k, l) refl

gap_is : (past : List Word) (word : Word) → gap_by (told_of past) word ≡ gap past word
gap_is past word = ap (λ (n : ℕ). if is_at_begin past then replicate (4 * (count_by is_open_block past - n)) 32 else (if is_joined past word then [] else 32 ∷ [])) (one_more is_close_block_word word past)

written_is : (past : List Word) (word : Word) (ws : List Word) → written_by (told_of past) (begins_with_else ws) word ≡ written past word ws
written_is past word ws =
    ap (λ (t : Bool). if t then [] else gap_by (told_of past) word ++ (spell_before word ws ++ line_end_by (told_of past) word)) (sym (left_is past word))
    ∙ ap (λ (t : List ℕ). if is_left_out past word then [] else t ++ (spell_before word ws ++ line_end_by (told_of past) word)) (gap_is past word)
    ∙ ap (λ (t : Bool). if is_left_out past word then [] else gap past word ++ (spell_before word ws ++ (if t then 10 ∷ [] else []))) (ends_alike past word)

-- what is put and what is still to be put make the whole
pub record IsLaid (ts : List Token) (start : List ℕ) (i : ℕ) (before : Before) (out : List ℕ) : Type 0 where
  pub told : before ≡ told_of (past_at i ts)
  pub all : out ++ layout_behind (past_at i ts) (words (drop i ts)) ≡ start ++ layout_behind [] (words ts)

pub laid_none : (ts : List Token) (out : List ℕ) → IsLaid ts out 0 (told_of []) out
unfolding past_at
laid_none ts out = record { told = refl; all = refl }

drop_one : (i : ℕ) (ts : List Token) (t : Token) → i < length ts → t ≡ get_or ts i t → drop i ts ≡ t ∷ drop (i + 1) ts
drop_one i ts t lt is = let e : i + 1 ≡ suc i = omega arith in drop-cons ts i t lt ∙ ap (λ (x : Token). x ∷ drop (suc i) ts) (sym is) ∙ ap (λ (n : ℕ). t ∷ drop n ts) (sym e)

pub laid_more : (ts : List Token) (start : List ℕ) (i : ℕ) (before : Before) (out next : List ℕ) (t : Token) → i < length ts → t ≡ get_or ts i t → IsLaid ts start i before out
    → next ≡ out ++ written_by before (begins_with_else (words (drop (i + 1) ts))) t.word → IsLaid ts start (i + 1) (behind before t.word) next
unfolding layout_behind
laid_more ts start i before out next t lt is h e =
    let past = past_more i ts t lt is in
    record {
      told = ap (λ (b : Before). behind b t.word) h.told ∙ behind_is (past_at i ts) t.word ∙ ap told_of (sym past);
      all =
          ap (λ (x : List Word). next ++ layout_behind x (words (drop (i + 1) ts))) past
          ∙ ap (λ (x : List ℕ). x ++ layout_behind (t.word ∷ past_at i ts) (words (drop (i + 1) ts))) (e ∙ ap (λ (b : Before). out ++ written_by b (begins_with_else (words (drop (i + 1) ts))) t.word) h.told ∙ ap (λ (x : List ℕ). out ++ x) (written_is (past_at i ts) t.word (words (drop (i + 1) ts))))
          ∙ append_assoc out (written (past_at i ts) t.word (words (drop (i + 1) ts))) (layout_behind (t.word ∷ past_at i ts) (words (drop (i + 1) ts)))
          ∙ ap (λ (x : List Token). out ++ layout_behind (past_at i ts) (words x)) (sym (drop_one i ts t lt is))
          ∙ h.all;
    }

pub laid_all : (ts : List Token) (start : List ℕ) (i : ℕ) (before : Before) (out : List ℕ) → length ts ≤ i → IsLaid ts start i before out → out ≡ start ++ layout_behind [] (words ts)
unfolding layout_behind
laid_all ts start i before out le h = sym (append-nil out) ∙ ap (λ (x : List Token). out ++ layout_behind (past_at i ts) (words x)) (sym (drop_all i ts le)) ∙ h.all
  where
    drop_all : (i : ℕ) (ts : List Token) → length ts ≤ i → drop i ts ≡ []
    drop_all zero [] le = refl
    drop_all zero (t ∷ ts) le = absurd (omega arith)
    drop_all (suc i) [] le = refl
    drop_all (suc i) (t ∷ ts) le = drop_all i ts (omega arith)

-- so it is no longer than the whole
laid_within : (ts : List Token) (start : List ℕ) (i : ℕ) (before : Before) (out : List ℕ) → IsLaid ts start i before out → length out ≤ length (start ++ layout_behind [] (words ts))
laid_within ts start i before out h =
    let e = sym (length-append out (layout_behind (past_at i ts) (words (drop i ts)))) ∙ ap length h.all in omega (arith, e)

pub laid_beyond : (ts : List Token) (start : List ℕ) (i : ℕ) (before : Before) (out : List ℕ) (most : ℕ) (is : Bool) → IsLaid ts start i before out → is ≡ nat_lt most (length out) → is ≡ true
    → most < length (start ++ layout_behind [] (words ts))
laid_beyond ts start i before out most is h e t =
    let short = laid_within ts start i before out h in
    let long = ltb-true most (length out) (sym e ∙ t) in omega (arith, short, long)

-- no count is above the place
pub record IsBelow (before : Before) (i : ℕ) : Type 0 where
  pub opened_blocks : before.opened_blocks ≤ i
  pub closed_blocks : before.closed_blocks ≤ i
  pub opened_rounds : before.opened_rounds ≤ i
  pub closed_rounds : before.closed_rounds ≤ i

pub laid_below : (ts : List Token) (start : List ℕ) (i : ℕ) (before : Before) (out : List ℕ) → IsLaid ts start i before out → IsBelow before i
unfolding past_at
laid_below ts start i before out h = subst (λ (b : Before). IsBelow b i) (sym h.told) (record {
  opened_blocks = short is_open_block;
  closed_blocks = short is_close_block_word;
  opened_rounds = short is_open_round;
  closed_rounds = short is_close_round;
})
  where
    short : (p : Word → Bool) → count_by p (past_at i ts) ≤ i
    short p =
        let a = count_by-le-length p (past_at i ts) in
        let b = length-reverse (words (take i ts)) in
        let c = words_length (take i ts) in
        let d = length-take i ts in omega arith
