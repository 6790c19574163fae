-- Statements and blocks, one level at a time.
use Rattle.std.proofs.Common.{◌≡◌, ◌≤◌, ◌-◌, ℕ, zero, suc, List, None, refl, sym, ap, arith}
use Rattle.bds_tree.specs.declared.token.Token.{Token}
use Rattle.bds_parse_stmt_parts.specs.Reading.{statement_by, block_by, reads, statement, block}

pub statement_none : (most : ℕ) (ts : List Token) → most ≡ 0 → statement most ts ≡ None
unfolding reads
statement_none zero ts e = refl
statement_none (suc most) ts e = absurd (omega arith)

pub block_none : (most : ℕ) (ts : List Token) → most ≡ 0 → block most ts ≡ None
unfolding reads
block_none zero ts e = refl
block_none (suc most) ts e = absurd (omega arith)

pub statement_step : (most : ℕ) (ts : List Token) → 1 ≤ most → statement most ts ≡ statement_by (most - 1) (block (most - 1)) (statement (most - 1)) ts
unfolding reads
statement_step zero ts h = absurd (omega arith)
statement_step (suc most) ts h = let same : suc most - 1 ≡ most = omega arith in ap (λ m. statement_by m (block m) (statement m) ts) (sym same)

pub block_step : (most : ℕ) (ts : List Token) → 1 ≤ most → block most ts ≡ block_by (statement (most - 1)) ts
unfolding reads
block_step zero ts h = absurd (omega arith)
block_step (suc most) ts h = let same : suc most - 1 ≡ most = omega arith in ap (λ m. block_by (statement m) ts) (sym same)
