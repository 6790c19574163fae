-- The size of a `for` with a head of three parts.
use Rattle.std.proofs.Common.{◌≡◌, ◌+◌, ℕ, Option, ap, ◌∙◌, arith}
use Rattle.bds_tree.specs.Tree.{Tree}
use Rattle.bds_tree.specs.StmtTree.{SmallTree, StmtTree, for}
use Rattle.bds_check_size.specs.Known.{Known, look}
use Rattle.bds_check_size.specs.StmtSize.{maybe_small_size, condition_size, stmt_size, form_stmt_size, known_behind_small}
use Rattle.bds_check_size.specs.ParSize.{pars_size, form_pars_size}
use Rattle.bds_gen_expr.specs.declared.scope.Scope.{Scope}
use Rattle.bds_gen_expr.specs.Scope.{known, types_in}
use Rattle.bds_gen_size.specs.Behind.{scope_behind_small}
use Rattle.bds_gen_size.specs.Capped.{capped, whole_stmt}
use Rattle.bds_gen_size.proofs.Behind.{known_small}

pub for-size : (first : Option SmallTree) (c : Option Tree) (next : Option SmallTree) (s : StmtTree) (sc sc1 sc2 : Scope) (n test body last sum : ℕ) → sc1 ≡ scope_behind_small first sc → sc2 ≡ sc1
    → n ≡ capped (maybe_small_size (types_in sc) first) → test ≡ capped (condition_size (types_in sc1) c) → body ≡ capped (whole_stmt s (known sc1)) → last ≡ capped (maybe_small_size (types_in sc2) next)
    → sum ≡ capped (n + test + body + last + 3) → sum ≡ capped (form_stmt_size (for first c next s) (known sc) + form_pars_size (for first c next s) (known sc))
for-size first c next s sc sc1 sc2 n test body last sum e1 e2 en et eb el es =
    let k = known_behind_small first (known sc) in
    let same : known sc1 ≡ k = ap known e1 ∙ known_small first sc in
    let a : test ≡ capped (condition_size (look k) c) = et ∙ ap (λ (k : Known). capped (condition_size (look k) c)) same in
    let b : body ≡ capped (stmt_size s k + pars_size s k) = eb ∙ ap (λ (k : Known). capped (whole_stmt s k)) same in
    let d : last ≡ capped (maybe_small_size (look k) next) = el ∙ ap (λ (k : Known). capped (maybe_small_size (look k) next)) (ap known e2 ∙ same) in
    omega (arith, en, a, b, d, es)
