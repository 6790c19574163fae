-- Pairs that were read one behind the other have keys that rise.
use Rattle.std.proofs.Common.{◌≡◌, ℕ, zero, suc, List, [], ◌∷◌, Bool, true, false, Option, Some, None, Ok, Err, refl, sym, ap, subst, if◌then◌else◌}
use Rattle.bds_value.specs.declared.faults.FieldFault.TheVariants.{NotRising}
use Rattle.bds_value.specs.declared.value.Input.{Input}
use Rattle.bds_value.specs.declared.value.Value.{Value}
use Rattle.bds_value.specs.Order.{is_before, BeginsBehind, KeysRise}
use Rattle.bds_value.specs.Reading.{◌>>=◌, Read, Reader, read_map, follows, key_behind, rising, text_at, pair_at}
use Rattle.bds_value.proofs.FieldLaws.{bind_ok, ok_parts}

module _ (value : Reader Value) where
  abbrev item : List ℕ → Reader (List ℕ × Value)
  item = pair_at value

  ordered : (last : Option (List ℕ)) (i : Input) (k : List ℕ × Input) → (key_behind is_before text_at last i) ≡ Ok k → follows is_before last k.0 ≡ true
  ordered last i k e =
      let found = bind_ok (text_at i) (λ (l : List ℕ × Input). if follows is_before last l.0 then Ok l else Err (NotRising i.at)) k e in
      by_test found.0 (follows is_before last found.0.0) refl found.1.1
    where
      by_test : (l : List ℕ × Input) (b : Bool) → follows is_before last l.0 ≡ b → (if follows is_before last l.0 then Ok l else Err (NotRising i.at)) ≡ Ok k → follows is_before last k.0 ≡ true
      by_test l true t g =
          let h : ◌≡◌ {A = Read (List ℕ)} (Ok l) (Ok k) = rw t at g in
          let same : l ≡ k = cc in
          subst (λ (m : List ℕ × Input). follows is_before last m.0 ≡ true) same t
      by_test l false t g = let h : ◌≡◌ {A = Read (List ℕ)} (Err (NotRising i.at)) (Ok k) = rw t at g in absurd (cc)

  -- behind a key, the first comes behind it, and the keys rise
  abbrev Behind : Option (List ℕ) → List (List ℕ × Value) → Type 0
  Behind None ps = KeysRise ps
  Behind (Some k) ps = BeginsBehind k ps × KeysRise ps

  joined : (last : Option (List ℕ)) (p : List ℕ × Value) (ps : List (List ℕ × Value)) → follows is_before last p.0 ≡ true → Behind (Some p.0) ps → Behind last (p ∷ ps)
  joined None p ps f b = b
  joined (Some k) p ps f b = (f, b)

  none : (last : Option (List ℕ)) → Behind last []
  none None = tt
  none (Some k) = (tt, tt)

  read_behind : (n : ℕ) (last : Option (List ℕ)) (i j : Input) (ps : List (List ℕ × Value)) → rising is_before text_at item last n i ≡ Ok (ps, j) → Behind last ps
  read_behind zero last i j ps e = subst (Behind last) (ok_parts [] ps i j e).0 (none last)
  read_behind (suc n) last i j ps e =
      let found = bind_ok (key_behind is_before text_at last i) (λ (k : List ℕ × Input). item k.0 k.1 >>= λ y. rising is_before text_at item (Some k.0) n y.1 >>= λ ys. Ok (y.0 ∷ ys.0, ys.1)) (ps, j) e in
      let k = found.0.0 in
      let second = bind_ok (item k found.0.1) (λ (y : (List ℕ × Value) × Input). rising is_before text_at item (Some k) n y.1 >>= λ ys. Ok (y.0 ∷ ys.0, ys.1)) (ps, j) found.1.1 in
      let more = bind_ok (rising is_before text_at item (Some k) n second.0.1) (λ (ys : List (List ℕ × Value) × Input). Ok (second.0.0 ∷ ys.0, ys.1)) (ps, j) second.1.1 in
      let its_key : second.0.0.0 ≡ k = keyed (value found.0.1) k second.0 second.1.0 in
      let later : Behind (Some second.0.0.0) more.0.0 = subst (λ m. Behind (Some m) more.0.0) (sym its_key) (read_behind n (Some k) second.0.1 more.0.1 more.0.0 more.1.0) in
      subst (Behind last) (ok_parts (second.0.0 ∷ more.0.0) ps more.0.1 j more.1.1).0
      (joined last second.0.0 more.0.0 (subst (λ m. follows is_before last m ≡ true) (sym its_key) (ordered last i found.0 found.1.0)) later)
    where
      keyed : (r : Read Value) (k : List ℕ) (y : (List ℕ × Value) × Input) → read_map (λ (v : Value). (k, v)) r ≡ Ok y → y.0.0 ≡ k
      keyed (Ok v) k y h = let same : ((k, v.0), v.1) ≡ y = cc in ap (λ (z : (List ℕ × Value) × Input). z.0.0) (sym same)
      keyed (Err f) k y h = absurd (cc)

pub read_rises : (value : Reader Value) (n : ℕ) (i j : Input) (ps : List (List ℕ × Value)) → rising is_before text_at (pair_at value) None n i ≡ Ok (ps, j) → KeysRise ps
read_rises value n i j ps e = read_behind value n None i j ps e
