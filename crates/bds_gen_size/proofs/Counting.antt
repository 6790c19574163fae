-- Statements counted one behind the other.
use Rattle.std.proofs.Common.{◌≡◌, ◌<◌, ◌≤◌, ◌+◌, ℕ, Option, List, [], ◌∷◌, length, get_or, drop, min, refl, sym, ap, ◌∙◌, arith}
use Rattle.std.proofs.lemmas.List.{drop_more}
use Rattle.bds_value.specs.declared.value.Ty.{Ty}
use Rattle.bds_tree.specs.declared.stmt.Stmt.{Stmt}
use Rattle.bds_tree.specs.declared.token.Piece.{Piece}
use Rattle.bds_tree.specs.StmtTree.{StmtTrees}
use Rattle.bds_tree.specs.StmtView.{stmt_of, stmts_of}
use Rattle.bds_check_size.specs.Parts.{joined_size, parts_of}
use Rattle.bds_check_size.specs.Known.{Known}
use Rattle.bds_check_size.specs.StmtSize.{stmt_size, stmts_size, known_behind}
use Rattle.bds_check_size.specs.ParSize.{pars_size, stmts_pars_size}
use Rattle.bds_gen_size.specs.Capped.{capped, whole_stmt, whole_stmts}
use Rattle.bds_gen_size.specs.PieceSize.{first_size}
use Rattle.bds_gen_size.proofs.PieceLaws.{parts-next}

pub from-item : {X : Type 0} (xs : List X) (i : ℕ) (x : X) → i < length xs → x ≡ get_or xs i x → drop i xs ≡ x ∷ drop (i + 1) xs
from-item xs i x h e = drop_more xs i x h ∙ ap (λ y. y ∷ drop (i + 1) xs) (sym e)

one-more : (sum n sum2 a p b q whole : ℕ) → n ≡ capped (a + p) → sum2 ≡ capped (sum + n) → capped (sum + (a + b + (p + q))) ≡ whole → capped (sum2 + (b + q)) ≡ whole
one-more sum n sum2 a p b q whole h e w = omega (arith, h, e, w)

pub stmts-next : (xs : List Stmt) (i : ℕ) (x : Stmt) (k k2 : Known) (sum n sum2 whole : ℕ) → i < length xs → x ≡ get_or xs i x → n ≡ capped (whole_stmt (stmt_of x) k) → sum2 ≡ capped (sum + n) → k2 ≡ known_behind (stmt_of x) k
    → capped (sum + whole_stmts (stmts_of (drop i xs)) k) ≡ whole → capped (sum2 + whole_stmts (stmts_of (drop (i + 1) xs)) k2) ≡ whole
stmts-next xs i x k k2 sum n sum2 whole h is en es ek inv =
    let rest = stmts_of (drop (i + 1) xs) in
    let behind = known_behind (stmt_of x) k in
    ap (λ k. capped (sum2 + whole_stmts rest k)) ek
    ∙ one-more sum n sum2 (stmt_size (stmt_of x) k) (pars_size (stmt_of x) k) (stmts_size rest behind) (stmts_pars_size rest behind) whole en es
    (ap (λ l. capped (sum + whole_stmts (stmts_of l) k)) (sym (from-item xs i x h is)) ∙ inv)

-- Pieces counted one behind the other
pub pieces-next : (types : List ℕ → Option Ty) (xs : List Piece) (i : ℕ) (x : Piece) (sum n sum1 sum2 whole : ℕ) → i < length xs → x ≡ get_or xs i x → n ≡ first_size types x → sum1 ≡ capped (sum + n) → sum2 ≡ capped (sum1 + 1)
    → capped (sum + joined_size (parts_of types (drop i xs))) ≡ whole → capped (sum2 + joined_size (parts_of types (drop (i + 1) xs))) ≡ whole
pieces-next types xs i x sum n sum1 sum2 whole h is en e1 e2 inv =
    let next = parts-next types x (drop (i + 1) xs) in
    let so_far : capped (sum + joined_size (parts_of types (x ∷ drop (i + 1) xs))) ≡ whole = ap (λ l. capped (sum + joined_size (parts_of types l))) (sym (from-item xs i x h is)) ∙ inv in
    omega (arith, next, so_far, en, e1, e2)
