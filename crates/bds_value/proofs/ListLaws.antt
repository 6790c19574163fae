-- Lists of fields, and items whose keys rise, both ways.
use Rattle.std.proofs.Common.{◌≡◌, ℕ, zero, suc, ◌^◌, ◌≤◌, ◌<◌, List, [], ◌∷◌, ◌++◌, length, Bool, true, false, Option, Some, None, Ok, Err, cond, refl, sym, ap, subst, append_assoc, add-zero}
use Rattle.std.specs.Bool.{IsTrue}
use Rattle.std.specs.List.{AllByRecursion, flat_map}
use Rattle.bds_value.specs.declared.faults.FieldFault.TheVariants.{NotRising}
use Rattle.bds_value.specs.declared.value.Input.{Input}
use Rattle.bds_value.specs.Fields.{AreBytes, Stretch, Back, ReadsBack, Spelled, ReadsSpelled, RisesFrom}
use Rattle.bds_value.specs.Reading.{◌>>=◌, Read, Reader, forward, count_at, many, list_at, follows, key_behind, rising, rising_at}
use Rattle.bds_value.specs.Spelling.{u32_field, list_field}
use Rattle.bds_value.proofs.FieldLaws.{back_then, bind_ok, ok_parts, stretch-none, stretch-join, stretch-bytes}
use Rattle.bds_value.proofs.NumberLaws.{count_is_field}

-- nothing is read and nothing stands there
back_none : {X : Type 0} (x : X) (i : Input) → ◌≡◌ {A = Read X} (Ok (x, i)) (Ok (x, forward 0 i))
back_none x i = ap (λ k. Ok (x, record { bytes = i.bytes; at = k })) (sym (add-zero i.at))

module _ {X : Type 0} (r : Reader X) (spell : X → List ℕ) where
  pub many_back : (xs : List X) → AllByRecursion (ReadsBack r spell) xs → Back (many r (length xs)) (flat_map spell xs) xs
  many_back [] h = λ i rest e. back_none {X = List X} [] i
  many_back (x ∷ xs) h =
      back_then r (λ y j. many r (length xs) j >>= λ ys. Ok (y ∷ ys.0, ys.1)) (spell x) (flat_map spell xs) x (x ∷ xs) h.0
      (λ j rest e. rw (many_back xs h.1 j rest e) refl)

  pub list_back : (limit : ℕ) → limit < 2 ^ 32 → (xs : List X) → length xs ≤ limit → AllByRecursion (ReadsBack r spell) xs → Back (list_at limit r) (list_field spell xs) xs
  list_back limit small xs le h =
      back_then (count_at limit) (many r) (u32_field (length xs)) (flat_map spell xs) (length xs) xs ((count_is_field limit small).read_back (length xs) le) (many_back xs h)

  module _ (Legal : X → Type 0) (given : ReadsSpelled r spell Legal) where
    pub many_spelled : (n : ℕ) (i j : Input) (xs : List X) → AreBytes i.bytes → many r n i ≡ Ok (xs, j) → (length xs ≡ n) × (AllByRecursion Legal xs × Stretch i (flat_map spell xs) j)
    many_spelled zero i j xs bytes e =
        let p = ok_parts [] xs i j e in
        subst (λ ys. (length ys ≡ 0) × (AllByRecursion Legal ys × Stretch i (flat_map spell ys) j)) p.0 (refl, (tt, subst (λ k. Stretch i [] k) p.1 (stretch-none i)))
    many_spelled (suc n) i j xs bytes e =
        let found = bind_ok (r i) (λ (x : X × Input). many r n x.1 >>= λ ys. Ok (x.0 ∷ ys.0, ys.1)) (xs, j) e in
        let x = found.0.0 in
        let here = given i found.0.1 x bytes found.1.0 in
        let more = bind_ok (many r n found.0.1) (λ (ys : List X × Input). Ok (x ∷ ys.0, ys.1)) (xs, j) found.1.1 in
        let there = many_spelled n found.0.1 more.0.1 more.0.0 (stretch-bytes i found.0.1 (spell x) here.stretch bytes) more.1.0 in
        let p = ok_parts (x ∷ more.0.0) xs more.0.1 j more.1.1 in
        subst (λ ys. (length ys ≡ suc n) × (AllByRecursion Legal ys × Stretch i (flat_map spell ys) j)) p.0
        (ap suc there.0, ((here.legal, there.1.0), subst (λ k. Stretch i (spell x ++ flat_map spell more.0.0) k) p.1 (stretch-join i found.0.1 more.0.1 (spell x) (flat_map spell more.0.0) here.stretch there.1.1)))

    pub list_spelled : (limit : ℕ) → limit < 2 ^ 32 → ReadsSpelled (list_at limit r) (list_field spell) (λ xs. (length xs ≤ limit) × AllByRecursion Legal xs)
    list_spelled limit small i j xs bytes e =
        let found = bind_ok (count_at limit i) (λ (n : ℕ × Input). many r n.0 n.1) (xs, j) e in
        let here = (count_is_field limit small).spelled i found.0.1 found.0.0 bytes found.1.0 in
        let there = many_spelled found.0.0 found.0.1 j xs (stretch-bytes i found.0.1 (u32_field found.0.0) here.stretch bytes) found.1.1 in
        record {
          legal = (subst (λ n. n ≤ limit) (sym there.0) here.legal, there.1.0);
          stretch = stretch-join i found.0.1 j (u32_field (length xs)) (flat_map spell xs) (subst (λ n. Stretch i (u32_field n) found.0.1) (sym there.0) here.stretch) there.1.1;
        }

-- items that begin with a key
module _ {K X : Type 0} (before : K → K → Bool) (key : Reader K) (item : K → Reader X) (key_of : X → K) (key_spell : K → List ℕ) (item_spell : X → List ℕ) where
  abbrev pub keyed : X → List ℕ
  keyed x = key_spell (key_of x) ++ item_spell x

  -- the key and the rest of an item are read back
  abbrev pub KeyedBack : X → Type 0
  KeyedBack x = ReadsBack key key_spell (key_of x) × Back (item (key_of x)) (item_spell x) x

  key_back : (last : Option K) (k : K) → IsTrue (follows before last k) → ReadsBack key key_spell k → Back (key_behind before key last) (key_spell k) k
  key_back last k rises back i rest e = rw (back i rest e, rises) refl

  pub rising_back : (last : Option K) (xs : List X) → RisesFrom before key_of last xs → AllByRecursion KeyedBack xs → Back (rising before key item last (length xs)) (flat_map keyed xs) xs
  rising_back last [] rises h = λ i rest e. back_none {X = List X} [] i
  rising_back last (x ∷ xs) rises h =
      let go : Back (λ j. item (key_of x) j >>= λ y. rising before key item (Some (key_of x)) (length xs) y.1 >>= λ ys. Ok (y.0 ∷ ys.0, ys.1)) (item_spell x ++ flat_map keyed xs) (x ∷ xs) =
      back_then (item (key_of x)) (λ y j. rising before key item (Some (key_of x)) (length xs) j >>= λ ys. Ok (y ∷ ys.0, ys.1)) (item_spell x) (flat_map keyed xs) x (x ∷ xs) h.0.1
      (λ j rest e. rw (rising_back (Some (key_of x)) xs rises.1 h.1 j rest e) refl) in
      let all = back_then (key_behind before key last) (λ k j. item k j >>= λ y. rising before key item (Some k) (length xs) y.1 >>= λ ys. Ok (y.0 ∷ ys.0, ys.1))
      (key_spell (key_of x)) (item_spell x ++ flat_map keyed xs) (key_of x) (x ∷ xs) (key_back last (key_of x) rises.0 h.0.0) go in
      λ i rest e. rw (append_assoc (key_spell (key_of x)) (item_spell x) (flat_map keyed xs)) (all i rest (rw (sym (append_assoc (key_spell (key_of x)) (item_spell x) (flat_map keyed xs))) e))

  pub rising_list_back : (limit : ℕ) → limit < 2 ^ 32 → (xs : List X) → length xs ≤ limit → RisesFrom before key_of None xs → AllByRecursion KeyedBack xs → Back (rising_at limit before key item) (list_field keyed xs) xs
  rising_list_back limit small xs le rises h =
      back_then (count_at limit) (rising before key item None) (u32_field (length xs)) (flat_map keyed xs) (length xs) xs ((count_is_field limit small).read_back (length xs) le) (rising_back None xs rises h)

  module _ (KeyLegal : K → Type 0) (Legal : X → Type 0) (key_given : ReadsSpelled key key_spell KeyLegal)
      (item_given : (k : K) (i j : Input) (x : X) → AreBytes i.bytes → item k i ≡ Ok (x, j) → (key_of x ≡ k) × (Legal x × Stretch i (item_spell x) j)) where
    -- a key that was read behind a last one
    key_spelled : (last : Option K) (i j : Input) (k : K) → AreBytes i.bytes → key_behind before key last i ≡ Ok (k, j) → IsTrue (follows before last k) × Spelled key_spell KeyLegal i k j
    key_spelled last i j k bytes e =
        let found = bind_ok (key i) (λ (x : K × Input). cond (follows before last x.0) (Ok x) (Err (NotRising i.at))) (k, j) e in
        by_test found.0.0 found.0.1 found.1.0 (follows before last found.0.0) refl found.1.1
      where
        by_test : (m : K) (a : Input) → key i ≡ Ok (m, a) → (b : Bool) → follows before last m ≡ b → ◌≡◌ {A = Read K} (cond (follows before last m) (Ok (m, a)) (Err (NotRising i.at))) (Ok (k, j)) → IsTrue (follows before last k) × Spelled key_spell KeyLegal i k j
        by_test m a is true t g =
            let h : ◌≡◌ {A = Read K} (Ok (m, a)) (Ok (k, j)) = rw t at g in
            let p = ok_parts m k a j h in (
              subst (λ x. IsTrue (follows before last x)) p.0 t,
              subst (λ x. Spelled key_spell KeyLegal i x j) p.0 (subst (λ c. Spelled key_spell KeyLegal i m c) p.1 (key_given i a m bytes is)),
            )
        by_test m a is false t g =
            let h : ◌≡◌ {A = Read K} (Err (NotRising i.at)) (Ok (k, j)) = rw t at g in absurd (cc)

    -- what was read of items whose keys rise
    pub record Rose (n : ℕ) (last : Option K) (i : Input) (xs : List X) (j : Input) : Type 0 where
      pub count : length xs ≡ n
      pub rises : RisesFrom before key_of last xs
      pub legal : AllByRecursion (λ x. KeyLegal (key_of x) × Legal x) xs
      pub stretch : Stretch i (flat_map keyed xs) j

    pub rising_spelled : (n : ℕ) (last : Option K) (i j : Input) (xs : List X) → AreBytes i.bytes → rising before key item last n i ≡ Ok (xs, j) → Rose n last i xs j
    rising_spelled zero last i j xs bytes e =
        let p = ok_parts [] xs i j e in
        subst (λ ys. Rose 0 last i ys j) p.0 (record { count = refl; rises = tt; legal = tt; stretch = subst (λ k. Stretch i [] k) p.1 (stretch-none i) })
    rising_spelled (suc n) last i j xs bytes e =
        let found = bind_ok (key_behind before key last i) (λ (k : K × Input). item k.0 k.1 >>= λ y. rising before key item (Some k.0) n y.1 >>= λ ys. Ok (y.0 ∷ ys.0, ys.1)) (xs, j) e in
        let k = found.0.0 in
        let first = key_spelled last i found.0.1 k bytes found.1.0 in
        let bytes1 = stretch-bytes i found.0.1 (key_spell k) first.1.stretch bytes in
        let second = bind_ok (item k found.0.1) (λ (y : X × Input). rising before key item (Some k) n y.1 >>= λ ys. Ok (y.0 ∷ ys.0, ys.1)) (xs, j) found.1.1 in
        let x = second.0.0 in
        let here = item_given k found.0.1 second.0.1 x bytes1 second.1.0 in
        let bytes2 = stretch-bytes found.0.1 second.0.1 (item_spell x) here.1.1 bytes1 in
        let more = bind_ok (rising before key item (Some k) n second.0.1) (λ (ys : List X × Input). Ok (x ∷ ys.0, ys.1)) (xs, j) second.1.1 in
        let there = rising_spelled n (Some k) second.0.1 more.0.1 more.0.0 bytes2 more.1.0 in
        let p = ok_parts (x ∷ more.0.0) xs more.0.1 j more.1.1 in
        let same = sym here.0 in
        let head : Stretch i (keyed x) second.0.1 = stretch-join i found.0.1 second.0.1 (key_spell (key_of x)) (item_spell x) (subst (λ m. Stretch i (key_spell m) found.0.1) same first.1.stretch) here.1.1 in
        subst (λ ys. Rose (suc n) last i ys j) p.0 (record {
          count = ap suc there.count;
          rises = (subst (λ m. IsTrue (follows before last m)) same first.0, subst (λ m. RisesFrom before key_of (Some m) more.0.0) same there.rises);
          legal = ((subst KeyLegal same first.1.legal, here.1.0), there.legal);
          stretch = subst (λ c. Stretch i (keyed x ++ flat_map keyed more.0.0) c) p.1 (stretch-join i second.0.1 more.0.1 (keyed x) (flat_map keyed more.0.0) head there.stretch);
        })

    pub rising_list_spelled : (limit : ℕ) → limit < 2 ^ 32
        → ReadsSpelled (rising_at limit before key item) (list_field keyed) (λ xs. (length xs ≤ limit) × (RisesFrom before key_of None xs × AllByRecursion (λ x. KeyLegal (key_of x) × Legal x) xs))
    rising_list_spelled limit small i j xs bytes e =
        let found = bind_ok (count_at limit i) (λ (n : ℕ × Input). rising before key item None n.0 n.1) (xs, j) e in
        let here = (count_is_field limit small).spelled i found.0.1 found.0.0 bytes found.1.0 in
        let there = rising_spelled found.0.0 None found.0.1 j xs (stretch-bytes i found.0.1 (u32_field found.0.0) here.stretch bytes) found.1.1 in
        record {
          legal = (subst (λ n. n ≤ limit) (sym there.count) here.legal, (there.rises, there.legal));
          stretch = stretch-join i found.0.1 j (u32_field (length xs)) (flat_map keyed xs) (subst (λ n. Stretch i (u32_field n) found.0.1) (sym there.count) here.stretch) there.stretch;
        }
