-- How tests that fit are joined.
use Rattle.std.proofs.Common.{◌≡◌, ℕ, ◌+◌, ◌-◌, ◌<◌, ◌≤◌, max, Bool, true, false, not, ◌&&◌, refl, arith, rules}
use Rattle.std.specs.Prelude.{nat_eq, nat_le, nat_lt, ⊤}
use Rattle.std.specs.Bool.{Decides}
use Rattle.std.proofs.lemmas.Bool.Decides.{Decides-and, Decides-eqb, Decides-ltb}
use Rattle.std.proofs.lemmas.Bool.{leb-true, le-leb}
use Rattle.bds_spell.specs.Fits.{below}

-- the test says whether this holds
pub record Tells (b : Bool) (C : Type 0) : Type 0 where
  pub sound : b ≡ true → C
  pub complete : C → b ≡ true

-- the test says whether this holds, and a height is at most so much
pub record Fitting (b : Bool) (P : Type 0) (m n : ℕ) : Type 0 where
  pub sound : b ≡ true → P × (m ≤ n)
  pub complete : P → m ≤ n → b ≡ true

pub both_true : (a b : Bool) → Decides (a && b) ((a ≡ true) × (b ≡ true))
both_true a b = Decides-and a b (λ h. h, λ h. h) (λ h. h, λ h. h)

pub is_true : (b : Bool) → Tells b (b ≡ true)
is_true b = record { sound = λ h. h; complete = λ h. h }

pub is_false : (b : Bool) → Tells (not b) (b ≡ false)
is_false true = record { sound = λ h. search rules; complete = λ h. search rules }
is_false false = record { sound = λ h. refl; complete = λ h. refl }

pub is_zero : (m : ℕ) → Tells (nat_eq m 0) (m ≡ 0)
is_zero m = record { sound = (Decides-eqb m 0).0; complete = (Decides-eqb m 0).1 }

pub is_at_most : (m n : ℕ) → Tells (nat_le m n) (m ≤ n)
is_at_most m n = record { sound = leb-true m n; complete = le-leb m n }

pub is_less : (m n : ℕ) → Tells (nat_lt m n) (m < n)
is_less m n = record { sound = (Decides-ltb m n).0; complete = (Decides-ltb m n).1 }

pub holds : {n : ℕ} → Fitting true ⊤ 0 n
holds = record { sound = λ h. (tt, omega arith); complete = λ p le. refl }

module _ {a : Bool} {C : Type 0} {n : ℕ} where
  pub told : Tells a C → Fitting a C 0 n
  told x = record { sound = λ h. (x.sound h, omega arith); complete = λ p le. x.complete p }

module _ {a b : Bool} {C P : Type 0} where
  pub tells : Tells a C → Tells b P → Tells (a && b) (C × P)
  tells x y = record {
    sound = λ h. (x.sound ((both_true a b).0 h).0, y.sound ((both_true a b).0 h).1);
    complete = λ p. (both_true a b).1 (x.complete p.0, y.complete p.1);
  }

module _ {a b : Bool} {C P : Type 0} {m n : ℕ} where
  pub also : Tells a C → Fitting b P m n → Fitting (a && b) (C × P) m n
  also x y = record {
    sound = λ h. ((x.sound ((both_true a b).0 h).0, (y.sound ((both_true a b).0 h).1).0), (y.sound ((both_true a b).0 h).1).1);
    complete = λ p le. (both_true a b).1 (x.complete p.0, y.complete p.1 le);
  }

module _ {a b : Bool} {C P : Type 0} {m n : ℕ} where
  pub and_also : Fitting a P m n → Tells b C → Fitting (a && b) (P × C) m n
  and_also x y = record {
    sound = λ h. (((x.sound ((both_true a b).0 h).0).0, y.sound ((both_true a b).0 h).1), (x.sound ((both_true a b).0 h).0).1);
    complete = λ p le. (both_true a b).1 (x.complete p.0 le, y.complete p.1);
  }

highest : (m k n : ℕ) → m ≤ n → k ≤ n → max m k ≤ n
highest m k n p q = omega arith

left_within : (m k n : ℕ) → max m k ≤ n → m ≤ n
left_within m k n p = omega arith

right_within : (m k n : ℕ) → max m k ≤ n → k ≤ n
right_within m k n p = omega arith

module _ {a b : Bool} {P Q : Type 0} {m k n : ℕ} where
  pub with : Fitting a P m n → Fitting b Q k n → Fitting (a && b) (P × Q) (max m k) n
  with x y = record {
    sound = λ h. (((x.sound ((both_true a b).0 h).0).0, (y.sound ((both_true a b).0 h).1).0), highest m k n (x.sound ((both_true a b).0 h).0).1 (y.sound ((both_true a b).0 h).1).1);
    complete = λ p le. (both_true a b).1 (x.complete p.0 (left_within m k n le), y.complete p.1 (right_within m k n le));
  }

module _ {a : Bool} {P Q R : Type 0} {m n : ℕ} where
  pub three : Fitting a (P × (Q × R)) m n → Fitting a (P × Q × R) m n
  three x = record {
    sound = λ h. let p = (x.sound h).0 in ((p.0, p.1.0, p.1.1), (x.sound h).1);
    complete = λ p le. x.complete (p.0, (p.1, p.2)) le;
  }

  pub pair_and_one : Fitting a ((P × Q) × R) m n → Fitting a (P × Q × R) m n
  pair_and_one x = record {
    sound = λ h. let p = (x.sound h).0 in ((p.0.0, p.0.1, p.1), (x.sound h).1);
    complete = λ p le. x.complete ((p.0, p.1), p.2) le;
  }

module _ {a : Bool} {P Q R S : Type 0} {m n : ℕ} where
  pub four : Fitting a (P × (Q × (R × S))) m n → Fitting a (P × Q × R × S) m n
  four x = record {
    sound = λ h. let p = (x.sound h).0 in ((p.0, p.1.0, p.1.1.0, p.1.1.1), (x.sound h).1);
    complete = λ p le. x.complete (p.0, (p.1, (p.2, p.3))) le;
  }

module _ {a : Bool} {P Q R S T U : Type 0} {m n : ℕ} where
  pub six : Fitting a (P × (Q × (R × (S × (T × U))))) m n → Fitting a (P × Q × R × S × T × U) m n
  six x = record {
    sound = λ h. let p = (x.sound h).0 in ((p.0, p.1.0, p.1.1.0, p.1.1.1.0, p.1.1.1.1.0, p.1.1.1.1.1), (x.sound h).1);
    complete = λ p le. x.complete (p.0, (p.1, (p.2, (p.3, (p.4, p.5))))) le;
  }

pub one_below : (test : ℕ → Bool) (P : Type 0) (m : ℕ) → ((k : ℕ) → Fitting (test k) P m k) → (n : ℕ) → Fitting (below test n) P (m + 1) n
one_below test P m x n = record {
  sound = λ h. let parts = (both_true (nat_lt 0 n) (test (n - 1))).0 h in
      let some = (Decides-ltb 0 n).0 parts.0 in let under = (x (n - 1)).sound parts.1 in (under.0, omega (arith, some, under.1));
  complete = λ p le. (both_true (nat_lt 0 n) (test (n - 1))).1 ((Decides-ltb 0 n).1 (omega (arith, le)), (x (n - 1)).complete p (omega (arith, le)));
}
