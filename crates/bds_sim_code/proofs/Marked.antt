-- Marks that a function has at a place.
use Rattle.std.proofs.Common.{◌≡◌, ℕ, ◌+◌, List, [], ◌∷◌, ◌++◌, subst, arith}
use Rattle.bds_code.specs.declared.unit.Unit.{Unit as CodeUnit}
use Rattle.bds_gen_expr.specs.Marks.{Mark, does, label, slot, count}
use Rattle.bds_sim_terms.specs.steps.Stands.{Source, Lined}

module _ (o : Source) (u : CodeUnit) (function : ℕ) where
  -- each instruction with its line stands where it is written
  abbrev pub Has : List Mark → ℕ → Type 0
  Has [] pc = Unit {0}
  Has (does i at ∷ ms) pc = Lined o u function pc i at × Has ms (pc + 1)
  Has (label ts ∷ ms) pc = Has ms pc
  Has (slot t ∷ ms) pc = Has ms pc

  pub has_both : (xs ys : List Mark) (pc : ℕ) → Has (xs ++ ys) pc → Has xs pc × Has ys (pc + count xs)
  has_both [] ys pc h = (tt, subst (Has ys) (let q : pc ≡ pc + 0 = omega arith in q) h)
  has_both (does i at ∷ xs) ys pc h =
      let r = has_both xs ys (pc + 1) h.1 in
      ((h.0, r.0), subst (Has ys) (let q : pc + 1 + count xs ≡ pc + count (does i at ∷ xs) = omega arith in q) r.1)
  has_both (label ts ∷ xs) ys pc h = has_both xs ys pc h
  has_both (slot t ∷ xs) ys pc h = has_both xs ys pc h

  -- with their number
  pub has_cut : (xs ys : List Mark) (pc n : ℕ) → count xs ≡ n → Has (xs ++ ys) pc → Has xs pc × Has ys (pc + n)
  has_cut xs ys pc n e h = let r = has_both xs ys pc h in (r.0, subst (λ m. Has ys (pc + m)) e r.1)
