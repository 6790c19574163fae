-- The theorem, from both directions.
use Rattle.std.proofs.lemmas.List.{take_all, length-drop}
use Rattle.std.proofs.Common.{◌≡◌, ℕ, zero, suc, ◌+◌, ◌-◌, ◌<◌, min, false, List, [], ◌∷◌, length, take, drop, Some, None, refl, sym, ap, ◌∙◌, arith}
use Rattle.bds_tree.specs.declared.token.Token.{Token}
use Rattle.bds_tree.specs.declared.token.Word.{Word}
use Rattle.bds_tree.specs.declared.token.Word.TheVariants as w
use Rattle.bds_tree.specs.Tree.{Tree}
use Rattle.bds_tree.specs.Spelling.{spell}
use Rattle.bds_parse_expr.specs.Longest.{continues, Ends, Longest}
use Rattle.bds_parse_expr.specs.Reading.{next_of, strength, ahead, expression}
use Rattle.bds_parse_expr.proofs.Fronts.{to_fronts, from_fronts, fronts_drop}
use Rattle.bds_parse_expr.proofs.Steps.{level_one}
use Rattle.bds_parse_expr.proofs.Complete.{finds}
use Rattle.bds_parse_expr.proofs.Sound.{found}

-- the signs that continue an expression are those that bind
stops_weak : (word : Word) → continues word ≡ false → strength (next_of word) ≡ 0
stops_weak w.From e = cc
stops_weak w.Question e = cc
stops_weak w.Or e = cc
stops_weak w.And e = cc
stops_weak w.Equal e = cc
stops_weak w.NotEqual e = cc
stops_weak w.Less e = cc
stops_weak w.AtMost e = cc
stops_weak w.Greater e = cc
stops_weak w.AtLeast e = cc
stops_weak w.Plus e = cc
stops_weak w.Minus e = cc
stops_weak w.Star e = cc
stops_weak w.Slash e = cc
stops_weak w.Percent e = cc
stops_weak w.Dot e = cc
stops_weak w.OpenRound e = cc
stops_weak w.OpenSquare e = cc
stops_weak w.OpenValue e = cc
stops_weak _ e = refl

weak_stops : (word : Word) → strength (next_of word) < 1 → continues word ≡ false
weak_stops w.From h = absurd (omega arith)
weak_stops w.Question h = absurd (omega arith)
weak_stops w.Or h = absurd (omega arith)
weak_stops w.And h = absurd (omega arith)
weak_stops w.Equal h = absurd (omega arith)
weak_stops w.NotEqual h = absurd (omega arith)
weak_stops w.Less h = absurd (omega arith)
weak_stops w.AtMost h = absurd (omega arith)
weak_stops w.Greater h = absurd (omega arith)
weak_stops w.AtLeast h = absurd (omega arith)
weak_stops w.Plus h = absurd (omega arith)
weak_stops w.Minus h = absurd (omega arith)
weak_stops w.Star h = absurd (omega arith)
weak_stops w.Slash h = absurd (omega arith)
weak_stops w.Percent h = absurd (omega arith)
weak_stops w.Dot h = absurd (omega arith)
weak_stops w.OpenRound h = absurd (omega arith)
weak_stops w.OpenSquare h = absurd (omega arith)
weak_stops w.OpenValue h = absurd (omega arith)
weak_stops _ h = refl

pub ends_ahead : (ts : List Token) → Ends ts → ahead ts ≡ 0
ends_ahead [] e = refl
ends_ahead (t ∷ ts) e = stops_weak t.word e

pub ahead_ends : (ts : List Token) → ahead ts < 1 → Ends ts
ahead_ends [] h = tt
ahead_ends (t ∷ ts) h = weak_stops t.word h

pub read_longest : (t : Tree) (ts rest : List Token) → Longest t ts rest → expression 201 1 ts ≡ Some (t, rest)
read_longest t ts rest l = finds t 201 1 ts rest l.legal.shaped (from_fronts t ts rest l.spelled) (omega (arith, l.legal.nesting)) (level_one t) (omega (arith, ends_ahead rest l.ends))

pub longest_read : (t : Tree) (ts rest : List Token) → expression 201 1 ts ≡ Some (t, rest) → Longest t ts rest
longest_read t ts rest e =
    let f = found 201 1 ts t rest (omega arith) (omega arith) e in
    record { legal = record { shaped = f.0; nesting = omega (arith, f.2) }; spelled = to_fronts t ts rest f.1; ends = ahead_ends rest f.4 }

-- where nothing is read, nothing is there
pub none_read : (ts : List Token) → expression 201 1 ts ≡ None → (t : Tree) (rest : List Token) → Longest t ts rest → ⊥
none_read ts e t rest l = let f = read_longest t ts rest l in cc

-- there is at most one
pub only_longest : (s t : Tree) (ts a b : List Token) → Longest s ts a → Longest t ts b → (s ≡ t) × (a ≡ b)
only_longest s t ts a b p q =
    let e = read_longest s ts a p in
    let f = read_longest t ts b q in
    let g : (s, a) ≡ (t, b) = cc in
    (ap (λ (x : Tree × List Token). x.0) g, ap (λ (x : Tree × List Token). x.1) g)

drop_nil : (m : ℕ) → drop {A = Token} m [] ≡ []
drop_nil zero = refl
drop_nil (suc m) = refl

drop_drop : (m n : ℕ) (xs : List Token) → drop m (drop n xs) ≡ drop (n + m) xs
drop_drop m zero xs = let e : m ≡ zero + m = omega arith in ap (λ k. drop k xs) e
drop_drop m (suc n) [] = drop_nil m ∙ sym (drop_nil (suc n + m))
drop_drop m (suc n) (x ∷ xs) =
    let e : suc n + m ≡ suc (n + m) = omega arith in
    drop_drop m n xs ∙ sym (ap (λ k. drop k (x ∷ xs)) e)

place_of : (n : ℕ) (xs : List Token) → drop (length xs - length (drop n xs)) xs ≡ drop n xs
place_of zero xs = let e : length xs - length xs ≡ zero = omega arith in ap (λ k. drop k xs) e
place_of (suc n) [] = drop_nil (length {A = Token} [] - length (drop {A = Token} (suc n) []))
place_of (suc n) (x ∷ xs) =
    let e : length (x ∷ xs) - length (drop n xs) ≡ suc (length xs - length (drop n xs)) = omega (arith, length-drop n xs) in
    ap (λ k. drop k (x ∷ xs)) e ∙ place_of n xs

-- the place behind the tree
pub rest_of : (t : Tree) (ts rest : List Token) (at : ℕ) → Longest t (drop at ts) rest → drop (length ts - length rest) ts ≡ rest
rest_of t ts rest at l =
    let is : rest ≡ drop (at + length (spell t)) ts = sym (fronts_drop (spell t) (drop at ts) rest l.spelled) ∙ drop_drop (length (spell t)) at ts in
    ap (λ r. drop (length ts - length r) ts) is ∙ place_of (at + length (spell t)) ts ∙ sym is

pub only_read : (s t : Tree) (ts us a b : List Token) → ts ≡ us → expression 201 1 ts ≡ Some (s, a) → Longest t us b → (s ≡ t) × (a ≡ b)
only_read s t ts us a b is e g = only_longest s t us a b (longest_read s us a (sym (ap (expression 201 1) is) ∙ e)) g

-- a place is cut at the end
drop_cap : (at k : ℕ) (ts : List Token) → k ≡ min at (length ts) → drop k ts ≡ drop at ts
drop_cap at k [] is = let e : k ≡ zero = omega arith in ap (λ j. drop j []) e ∙ sym (drop_nil at)
drop_cap zero k (x ∷ xs) is = let e : k ≡ zero = omega arith in ap (λ j. drop j (x ∷ xs)) e
drop_cap (suc at) zero (x ∷ xs) is = absurd (omega arith)
drop_cap (suc at) (suc k) (x ∷ xs) is = drop_cap at k xs (omega arith)

-- the tokens from a place on, as the slice has them
pub from : (at k : ℕ) (us ts : List Token) → us ≡ ts → k ≡ min at (length us) → take (length us - k) (drop k us) ≡ drop at ts
from at k us ts e is =
    take_all (length us - k) (drop k us) (omega (arith, length-drop k us))
    ∙ drop_cap at k us is
    ∙ ap (drop at) e
