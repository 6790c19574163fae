-- Fields one behind the other, both ways: what readers and spellings of larger fields are made of.
use Rattle.std.proofs.Common.{◌≡◌, ℕ, ◌+◌, ◌≤◌, ◌<◌, List, [], ◌∷◌, ◌++◌, length, take, drop, Bool, true, false, Ok, Err, nat_lt, get_or, refl, sym, ap, subst, ◌∙◌, arith, append_assoc, add_assoc, add-zero, length-append}
use Rattle.std.proofs.Math.Seq.{take-append_seam, drop-append_seam}
use Rattle.std.proofs.lemmas.List.{drop-drop, take-append-drop, get_or-drop, length-take-le}
use Rattle.std.proofs.lemmas.Bool.{le-ltb, ltb-false}
use Rattle.bds_value.specs.declared.faults.FieldFault.TheVariants.{Short}
use Rattle.bds_value.specs.declared.value.Input.{Input}
use Rattle.bds_value.specs.Fields.{AreBytes, Stretch, Back, ReadsBack, Spelled, ReadsSpelled}
use Rattle.bds_value.specs.Reading.{◌>>=◌, Read, Reader, read_map, rest_of, forward, first_of, byte_at, bytes_at}
use Rattle.bds_value.specs.Spelling.{u8_field}

-- behind what is spelled stands the rest
pub rest-forward : (i : Input) (text rest : List ℕ) → rest_of i ≡ text ++ rest → rest_of (forward (length text) i) ≡ rest
rest-forward i text rest e = sym (drop-drop (length text) i.at i.bytes) ∙ ap (drop (length text)) e ∙ drop-append_seam text rest

pub forward-forward : (i : Input) (n m : ℕ) → forward m (forward n i) ≡ forward (n + m) i
forward-forward i n m = ap (λ k. record { bytes = i.bytes; at = k }) (add_assoc i.at n m)

pub stretch-none : (i : Input) → Stretch i [] i
stretch-none i = record { moved = ap (λ k. record { bytes = i.bytes; at = k }) (sym (add-zero i.at)); stands = refl }

pub stretch-join : (i j k : Input) (a b : List ℕ) → Stretch i a j → Stretch j b k → Stretch i (a ++ b) k
stretch-join i j k a b s t = record {
  moved = t.moved ∙ ap (forward (length b)) s.moved ∙ forward-forward i (length a) (length b) ∙ ap (λ n. forward n i) (sym (length-append a b));
  stands = s.stands ∙ ap (λ l. a ++ l) t.stands ∙ sym (append_assoc a b (rest_of k));
}

-- the bytes of the input stay
pub stretch-bytes : (i j : Input) (text : List ℕ) → Stretch i text j → AreBytes i.bytes → AreBytes j.bytes
stretch-bytes i j text s h = subst (λ (k : Input). AreBytes k.bytes) (sym s.moved) h

pub ok_parts : {X : Type 0} (a b : X) (i j : Input) → ◌≡◌ {A = Read X} (Ok (a, i)) (Ok (b, j)) → (a ≡ b) × (i ≡ j)
ok_parts {X = X} a b i j e = let same : (a, i) ≡ (b, j) = cc in (ap (λ (p : X × Input). p.0) same, ap (λ (p : X × Input). p.1) same)

-- what was read where more was read
pub bind_ok : {X Y : Type 0} (read : Read X) (go : X × Input → Read Y) (y : Y × Input) → (read >>= go) ≡ Ok y → (x : X × Input) × ((read ≡ Ok x) × (go x ≡ Ok y))
bind_ok (Ok x) go y e = (x, (refl, e))
bind_ok (Err fault) go y e = absurd (cc)

pub map_ok : {X Y : Type 0} (f : X → Y) (read : Read X) (y : Y × Input) → read_map f read ≡ Ok y → (x : X × Input) × ((read ≡ Ok x) × ((f x.0, x.1) ≡ y))
map_ok f (Ok x) y e = (x, (refl, cc))
map_ok f (Err fault) y e = absurd (cc)

-- a number of bytes
pub bytes_back : (text : List ℕ) → ReadsBack (bytes_at (length text)) (λ t. t) text
bytes_back text i rest e =
    let all : length (rest_of i) ≡ length text + length rest = ap length e ∙ length-append text rest in
    let enough : nat_lt (length (rest_of i)) (length text) ≡ false = le-ltb (length (rest_of i)) (length text) (omega arith) in
    let taken : take (length text) (rest_of i) ≡ text = ap (take (length text)) e ∙ take-append_seam text rest in
    rw (enough, taken) refl

pub bytes_spelled : (n : ℕ) (i j : Input) (x : List ℕ) → bytes_at n i ≡ Ok (x, j) → Stretch i x j × (length x ≡ n)
bytes_spelled n i j x e = by_test (nat_lt (length (rest_of i)) n) refl
  where
    by_test : (b : Bool) → nat_lt (length (rest_of i)) n ≡ b → Stretch i x j × (length x ≡ n)
    by_test true t =
        let h : ◌≡◌ {A = Read (List ℕ)} (Err (Short (length i.bytes))) (Ok (x, j)) = rw t at e in
        absurd (cc)
    by_test false t =
        let h : ◌≡◌ {A = Read (List ℕ)} (Ok (take n (rest_of i), forward n i)) (Ok (x, j)) = rw t at e in
        let both = ok_parts (take n (rest_of i)) x (forward n i) j h in
        let text = both.0 in
        let next = both.1 in
        let long : n ≤ length (rest_of i) = ltb-false (length (rest_of i)) n t in
        let size : length x ≡ n = ap length (sym text) ∙ length-take-le n (rest_of i) long in (
          record {
            moved = sym next ∙ ap (λ k. forward k i) (sym size);
            stands = sym (take-append-drop n (rest_of i)) ∙ ap (λ l. l ++ drop n (rest_of i)) text ∙ ap (λ l. x ++ l) (drop-drop n i.at i.bytes ∙ ap rest_of next);
          },
          size,
        )

pub byte_back : (b : ℕ) → ReadsBack byte_at u8_field b
byte_back b i rest e = ap (λ l. first_of l i) e

pub byte_spelled : ReadsSpelled byte_at u8_field (λ b. b < 256)
byte_spelled i j b bytes e = from (rest_of i) refl
  where
    from : (l : List ℕ) → rest_of i ≡ l → Spelled u8_field (λ b. b < 256) i b j
    from [] h = let g : ◌≡◌ {A = Read ℕ} (Err (Short (length i.bytes))) (Ok (b, j)) = rw h at e in absurd (cc)
    from (c ∷ cs) h =
        let g : ◌≡◌ {A = Read ℕ} (Ok (c, forward 1 i)) (Ok (b, j)) = rw h at e in
        let both = ok_parts c b (forward 1 i) j g in
        let same = both.0 in
        let next = both.1 in
        let here : get_or (rest_of i) 0 0 < 256 = rw (get_or-drop i.at i.bytes 0 0) (bytes (i.at + 0)) in
        let small : c < 256 = rw h at here in
        record {
          legal = subst (λ n. n < 256) same small;
          stretch = record {
            moved = sym next;
            stands = h ∙ ap (λ n. n ∷ cs) same ∙ ap (λ l. b ∷ l) (sym (rest-forward i (c ∷ []) cs h) ∙ ap rest_of next);
          };
        }

-- one field behind another
pub back_then : {X Y : Type 0} (r : Reader X) (s : X → Reader Y) (a b : List ℕ) (x : X) (y : Y) → Back r a x → Back (s x) b y → Back (λ i. r i >>= λ z. s z.0 z.1) (a ++ b) y
back_then r s a b x y first second i rest e =
    let split : rest_of i ≡ a ++ (b ++ rest) = e ∙ append_assoc a b rest in
    let behind : rest_of (forward (length a) i) ≡ b ++ rest = rest-forward i a (b ++ rest) split in
    let size : forward (length b) (forward (length a) i) ≡ forward (length (a ++ b)) i = forward-forward i (length a) (length b) ∙ ap (λ n. forward n i) (sym (length-append a b)) in
    rw (first i (b ++ rest) split, second (forward (length a) i) rest behind) (ap (λ k. Ok (y, k)) size)
