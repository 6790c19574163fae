-- Lists of types in chunks.
use Rattle.std.proofs.Common.{◌≡◌, ℕ, zero, suc, ◌+◌, ◌-◌, ◌*◌, ◌/◌, ◌%◌, ◌^◌, ◌<◌, ◌≤◌, ◌⊎◌, inl, inr}
use Rattle.std.proofs.Common.{◌++◌, List, [], ◌∷◌}
use Rattle.std.proofs.Common.{length, take, get_or, slice_get, Some, refl, sym, ◌∙◌, ap, subst, arith}
use Rattle.std.proofs.Common.{append_assoc, append-nil, length-append}
use Rattle.std.specs.List.{All}
use Rattle.std.proofs.lemmas.Grind.{flat_map-append}
use Rattle.std.proofs.lemmas.List.{take-append-le, length-take-le, take_all, get_or-take, get_or_append_left}
use Rattle.std.proofs.lemmas.List.{get_or-append_right}
use Rattle.std.proofs.lemmas.List.Elements.{All-nil, All-cons, All-head, All-tail, All-take, All-append}
use Rattle.std.proofs.lemmas.Nat.{div-add-mod'}
use Rattle.std.proofs.lemmas.Option.{slice_get_read}
use Rattle.std.proofs.Math.Seq.{take-append-add}
use Rattle.bds_value.specs.declared.value.Ty.{Ty}
use Rattle.bds_code.specs.Chunks.{flat, laid, IsWhole, IsFull, AreLaid}

abbrev Chunks : Type 0
Chunks = List (List Ty)

size : (cs : Chunks) → All IsFull cs → length (flat cs) ≡ 32 * length cs
size [] f = refl
size (d ∷ cs) f =
    let here : length d ≡ 32 = All-head IsFull d cs f in
    let rest = size cs (All-tail IsFull d cs f) in
    let joined = length-append d (flat cs) in
    omega (arith, here, rest, joined)

-- whole chunks, and a part of the next one
front : (cs : Chunks) (m r n : ℕ) → All IsFull cs → m < length cs → r ≤ 32 → n ≡ 32 * m + r
    → take n (flat cs) ≡ flat (take m cs) ++ take r (get_or cs m [])
front [] m r n f l k e = absurd (omega arith)
front (d ∷ cs) zero r n f l k e =
    let here : length d ≡ 32 = All-head IsFull d cs f in
    let same : n ≡ r = omega (arith, e) in
    rw same (take-append-le r d (flat cs) (omega (arith, here, k)))
front (d ∷ cs) (suc m) r n f l k e =
    let here : length d ≡ 32 = All-head IsFull d cs f in
    let more = 32 * m + r in
    let same : n ≡ length d + more = omega (arith, e, here) in
    ap (λ i. take i (d ++ flat cs)) same
    ∙ take-append-add d (flat cs) more
    ∙ ap (λ xs. d ++ xs) (front cs m r more (All-tail IsFull d cs f) (omega (arith, l)) k refl)
    ∙ sym (append_assoc d (flat (take m cs)) (take r (get_or cs m [])))

-- whole chunks alone
fronts : (cs : Chunks) (m n : ℕ) → All IsFull cs → m ≤ length cs → n ≡ 32 * m → take n (flat cs) ≡ flat (take m cs)
fronts cs zero n f l e = let same : n ≡ 0 = omega (arith, e) in rw same refl
fronts [] (suc m) n f l e = absurd (omega arith)
fronts (d ∷ cs) (suc m) n f l e =
    let here : length d ≡ 32 = All-head IsFull d cs f in
    let more = 32 * m in
    let same : n ≡ length d + more = omega (arith, e, here) in
    ap (λ i. take i (d ++ flat cs)) same
    ∙ take-append-add d (flat cs) more
    ∙ ap (λ xs. d ++ xs) (fronts cs m more (All-tail IsFull d cs f) (omega (arith, l)) refl)

full_at : (cs : Chunks) (m : ℕ) (d : List Ty) → All IsFull cs → m < length cs → length (get_or cs m d) ≡ 32
full_at [] m d f l = absurd (omega arith)
full_at (c ∷ cs) zero d f l = All-head IsFull c cs f
full_at (c ∷ cs) (suc m) d f l = full_at cs m d (All-tail IsFull c cs f) (omega (arith, l))

spot : (cs : Chunks) (m r n : ℕ) (e : List Ty) (d : Ty) → All IsFull cs → m < length cs → r < 32 → n ≡ 32 * m + r
    → get_or (flat cs) n d ≡ get_or (get_or cs m e) r d
spot [] m r n e d f l k same = absurd (omega arith)
spot (c ∷ cs) zero r n e d f l k same =
    let here : length c ≡ 32 = All-head IsFull c cs f in
    let at : n ≡ r = omega (arith, same) in
    ap (λ i. get_or (c ++ flat cs) i d) at ∙ get_or_append_left c (flat cs) d r (omega (arith, here, k))
spot (c ∷ cs) (suc m) r n e d f l k same =
    let here : length c ≡ 32 = All-head IsFull c cs f in
    get_or-append_right c (flat cs) 32 n d here (omega (arith, same))
    ∙ spot cs m r (n - 32) e d (All-tail IsFull c cs f) (omega (arith, l)) k (omega (arith, same))

-- the chunk in which a type lies
pub chunk_of : (cs : Chunks) (n i : ℕ) (top : List Ty) → AreLaid cs n top → i < n → i / 32 < length cs
chunk_of cs n i top a l =
    let parts = div-add-mod' i 32 in
    let sized = size cs a.full in
    omega (arith, parts, sized, a.within, l)

pub rest_of : (n : ℕ) → n % 32 < 32
rest_of n = search arith

pub chunk_full : (cs : Chunks) (n i : ℕ) (top c : List Ty) → AreLaid cs n top → i < n → c ≡ get_or cs (i / 32) c
    → length c ≡ 32
chunk_full cs n i top c a l is = ap length is ∙ full_at cs (i / 32) c a.full (chunk_of cs n i top a l)

laid-length : (cs : Chunks) (n : ℕ) (top : List Ty) → AreLaid cs n top → length (laid cs n top) ≡ n + length top
laid-length cs n top a =
    length-append (take n (flat cs)) top ∙ ap (λ k. k + length top) (length-take-le n (flat cs) a.within)

pub at_chunk : (cs : Chunks) (n i : ℕ) (top c : List Ty) (t : Ty) → AreLaid cs n top → i < n → c ≡ get_or cs (i / 32) c
    → t ≡ get_or c (i % 32) t → slice_get (laid cs n top) i ≡ Some t
at_chunk cs n i top c t a l is at =
    let parts = div-add-mod' i 32 in
    let long = laid-length cs n top a in
    let taken : length (take n (flat cs)) ≡ n = length-take-le n (flat cs) a.within in
    slice_get_read (laid cs n top) (length (laid cs n top)) i t refl (omega (arith, long, l))
    (at ∙ ap (λ x. get_or x (i % 32) t) is
    ∙ sym (spot cs (i / 32) (i % 32) i c t a.full (chunk_of cs n i top a l) (rest_of i) (omega (arith, parts)))
    ∙ sym (get_or-take n (flat cs) i t l)
    ∙ sym (get_or_append_left (take n (flat cs)) top t i (omega (arith, taken, l))))

pub at_top : (cs : Chunks) (n i : ℕ) (top : List Ty) (t : Ty) → AreLaid cs n top → n ≤ i → i < length (laid cs n top)
    → t ≡ get_or top (i - n) t → slice_get (laid cs n top) i ≡ Some t
at_top cs n i top t a l k at =
    let taken : length (take n (flat cs)) ≡ n = length-take-le n (flat cs) a.within in
    slice_get_read (laid cs n top) (length (laid cs n top)) i t refl k
    (at ∙ sym (get_or-append_right (take n (flat cs)) top n i t taken l))

-- Only whole chunks are in use

pub next_chunk : (cs : Chunks) (n : ℕ) (top : List Ty) → AreLaid cs n top → 0 < n % 32 → n / 32 < length cs
next_chunk cs n top a p =
    let parts = div-add-mod' n 32 in
    let sized = size cs a.full in
    omega (arith, parts, sized, a.within, p)

pub next_full : (cs : Chunks) (n : ℕ) (top c : List Ty) → AreLaid cs n top → 0 < n % 32 → c ≡ get_or cs (n / 32) c
    → length c ≡ 32
next_full cs n top c a p is = ap length is ∙ full_at cs (n / 32) c a.full (next_chunk cs n top a p)

get_any : (cs : Chunks) (m : ℕ) (d e : List Ty) → m < length cs → get_or cs m d ≡ get_or cs m e
get_any [] m d e l = absurd (omega arith)
get_any (c ∷ cs) zero d e l = refl
get_any (c ∷ cs) (suc m) d e l = get_any cs m d e (omega (arith, l))

pub record Settles (cs : Chunks) (n : ℕ) (top : List Ty) (new : ℕ) (left : List Ty) : Type 0 where
  pub holds : AreLaid cs new left
  pub same : laid cs new left ≡ laid cs n top
  pub room : IsWhole new × (length left < 32)

pub settled : (cs : Chunks) (n : ℕ) (top c left : List Ty) → AreLaid cs n top → top ≡ [] → 0 < n % 32
    → c ≡ get_or cs (n / 32) c → left ≡ take (n % 32) c → Settles cs n top (n / 32 * 32) left
settled cs n top c left a none p is begins =
    let parts = div-add-mod' n 32 in
    let less : n % 32 < 32 = rest_of n in
    let there : n / 32 < length cs = next_chunk cs n top a p in
    let full : length c ≡ 32 = next_full cs n top c a p is in
    let short : length left ≡ n % 32 = ap length begins ∙ length-take-le (n % 32) c (omega (arith, full, less)) in
    let chunk : c ≡ get_or cs (n / 32) [] = is ∙ get_any cs (n / 32) c [] there in
    let even : n / 32 * 32 ≡ 32 * (n / 32) = omega arith in
    record {
      holds = record {
        full = a.full;
        within = omega (arith, parts, a.within);
        whole = inr (n / 32, even);
        short = omega (arith, short, less);
        few = omega (arith, parts, a.few);
      };
      same = ap (λ xs. xs ++ left) (fronts cs (n / 32) (n / 32 * 32) a.full (omega (arith, there)) even)
          ∙ ap (λ xs. flat (take (n / 32) cs) ++ xs) (begins ∙ ap (λ d. take (n % 32) d) chunk)
          ∙ sym (front cs (n / 32) (n % 32) n a.full there (omega (arith, less)) (omega (arith, parts)))
          ∙ sym (append-nil (take n (flat cs)))
          ∙ ap (λ xs. take n (flat cs) ++ xs) (sym none);
      room = ((n / 32, even), omega (arith, short, less));
    }

pub settled_whole : (n : ℕ) (top : List Ty) → top ≡ [] → n % 32 ≤ 0 → IsWhole n × (length top < 32)
settled_whole n top none p =
    let parts = div-add-mod' n 32 in
    let long = ap length none in
    ((n / 32, omega (arith, parts, p)), omega (arith, long))

-- The top becomes a chunk

pub record Seals (cs : Chunks) (n : ℕ) (top : List Ty) (more : Chunks) (left : List Ty) : Type 0 where
  pub holds : AreLaid more (n + 32) left
  pub same : laid more (n + 32) left ≡ laid cs n top
  pub room : IsWhole (n + 32) × (length left < 32)

whole_of : (n : ℕ) (top : List Ty) → length top ≡ 32 → (top ≡ []) ⊎ IsWhole n → n ≡ 32 * (n / 32)
whole_of n top full (inl none) = let e = ap length none in absurd (omega (arith, full, e))
whole_of n top full (inr w) =
    let parts = div-add-mod' n 32 in
    let less : n % 32 < 32 = rest_of n in
    let even = w.1 in
    omega (arith, parts, less, even)

pub sealed : (cs : Chunks) (n : ℕ) (top left : List Ty) (more : Chunks) → AreLaid cs n top
    → length top ≡ 32 → n < 2 ^ 63
    → more ≡ take (n / 32) cs ++ top ∷ [] → left ≡ [] → Seals cs n top more left
sealed cs n top left more a full few is none =
    let even : n ≡ 32 * (n / 32) = whole_of n top full a.whole in
    let sized = size cs a.full in
    let enough : n / 32 ≤ length cs = omega (arith, even, sized, a.within) in
    let before : flat (take (n / 32) cs) ≡ take n (flat cs) = sym (fronts cs (n / 32) n a.full enough even) in
    let all : flat more ≡ laid cs n top =
    ap flat is ∙ flat_map-append (λ c. c) (take (n / 32) cs) (top ∷ [])
    ∙ ap (λ xs. flat (take (n / 32) cs) ++ xs) (append-nil top)
    ∙ ap (λ xs. xs ++ top) before in
    let long : length (flat more) ≡ n + 32 = ap length all ∙ laid-length cs n top a ∙ ap (λ k. n + k) full in
    let fulls : All IsFull (take (n / 32) cs ++ top ∷ []) =
    All-append IsFull (take (n / 32) cs) (top ∷ []) (All-take IsFull (n / 32) cs a.full)
    (All-cons IsFull top [] full (All-nil IsFull)) in
    let empty = ap length none in
    record {
      holds = record {
        full = subst (All IsFull) (sym is) fulls;
        within = omega (arith, long);
        whole = inl none;
        short = omega (arith, empty);
        few = omega (arith, few);
      };
      same = ap (λ xs. take (n + 32) (flat more) ++ xs) none ∙ append-nil (take (n + 32) (flat more))
          ∙ take_all (n + 32) (flat more) (omega (arith, long)) ∙ all;
      room = ((n / 32 + 1, omega (arith, even)), omega (arith, empty));
    }

-- So many of the first types

pub cut_top : (cs : Chunks) (n keeps : ℕ) (top left : List Ty) → AreLaid cs n top → n ≤ keeps
    → left ≡ take (keeps - n) top → laid cs n left ≡ take keeps (laid cs n top)
cut_top cs n keeps top left a l is =
    let taken : length (take n (flat cs)) ≡ n = length-take-le n (flat cs) a.within in
    let all : keeps ≡ length (take n (flat cs)) + (keeps - n) = omega (arith, taken, l) in
    ap (λ xs. take n (flat cs) ++ xs) is
    ∙ sym (take-append-add (take n (flat cs)) top (keeps - n))
    ∙ ap (λ k. take k (take n (flat cs) ++ top)) (sym all)
