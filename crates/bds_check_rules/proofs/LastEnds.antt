-- The last statement of a list.
use Rattle.std.proofs.Common.{◌≡◌, ℕ, zero, suc, ◌+◌, ◌-◌, ◌≤◌, List, [], ◌∷◌, length, get_or, arith, ap}
use Rattle.bds_tree.specs.declared.stmt.Stmt.{Stmt}
use Rattle.bds_tree.specs.StmtView.{stmt_of, stmts_of}
use Rattle.bds_check_rules.specs.Ends.{ends, last_ends}

no_item : (n : ℕ) → 0 ≡ n + 1 → ⊥
no_item n h = omega (arith, h)

one_more : (n : ℕ) → suc 0 ≡ suc n + 1 → ⊥
one_more n h = omega (arith, h)

not_one : (n : ℕ) → suc (suc n) ≡ 0 + 1 → ⊥
not_one n h = omega (arith, h)

below : (m n : ℕ) → suc m ≡ suc n + 1 → m ≡ n + 1
below m n h = omega (arith, h)

at_last : (ss : List Stmt) (n : ℕ) (s : Stmt) → length ss ≡ n + 1 → s ≡ get_or ss n s → ends (stmt_of s) ≡ last_ends (stmts_of ss)
at_last [] n s len is = absurd (no_item n len)
at_last (r ∷ []) zero s len is = ap (λ x. ends (stmt_of x)) is
at_last (r ∷ []) (suc n) s len is = absurd (one_more n len)
at_last (r ∷ q ∷ qs) zero s len is = absurd (not_one (length qs) len)
at_last (r ∷ q ∷ qs) (suc n) s len is = at_last (q ∷ qs) n s (below (suc (length qs)) n len) is

pub last_ends_so : (ss : List Stmt) (s : Stmt) → 1 ≤ length ss → s ≡ get_or ss (length ss - 1) s → ends (stmt_of s) ≡ last_ends (stmts_of ss)
last_ends_so ss s some is = at_last ss (length ss - 1) s (omega (arith, some)) is
