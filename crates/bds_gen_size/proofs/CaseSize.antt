-- Cases counted one behind the other.
use Rattle.std.proofs.Common.{◌≡◌, ◌<◌, ◌+◌, ℕ, Option, List, ◌∷◌, length, get_or, drop, sym, ap, ap₂, ◌∙◌, arith}
use Rattle.std.specs.Option.{option_map}
use Rattle.bds_value.specs.declared.value.Ty.{Ty}
use Rattle.bds_tree.specs.declared.stmt.Case.{Case, out-Case, fold_out-Case}
use Rattle.bds_tree.specs.declared.stmt.Stmt.{Stmt}
use Rattle.bds_tree.specs.StmtTree.{StmtTree, StmtFormTree, LineTree, RightTree, ActTree, ActFormTree, BlockTree, CaseTree, a_case}
use Rattle.bds_tree.specs.StmtView.{act_form_step, line_step, right_step, stmt_form_step, act_step, block_step, case_step, stmt_step, case_of, cases_of, stmts_of}
use Rattle.bds_tree.specs.View.{tree_of}
use Rattle.bds_check_size.specs.Known.{Known}
use Rattle.bds_check_size.specs.StmtSize.{labels_size, label_size, cases_size, case_size}
use Rattle.bds_check_size.specs.ParSize.{cases_pars_size, case_pars_size}
use Rattle.bds_gen_expr.specs.declared.scope.Scope.{Scope}
use Rattle.bds_gen_expr.specs.Scope.{known}
use Rattle.bds_gen_size.specs.Capped.{capped, whole_case, whole_cases, whole_stmts}
use Rattle.bds_gen_size.proofs.Counting.{from-item}

pub case-view : (c : Case) → case_of c ≡ a_case (out-Case c).at (option_map tree_of (out-Case c).label) (stmts_of (out-Case c).stmts)
case-view c = fold_out-Case ActFormTree LineTree RightTree StmtFormTree ActTree BlockTree CaseTree StmtTree act_form_step line_step right_step stmt_form_step act_step block_step case_step stmt_step c

one-more : (sum n sum2 a p b q whole : ℕ) → n ≡ capped (a + p) → sum2 ≡ capped (sum + n) → capped (sum + (a + b + (p + q))) ≡ whole → capped (sum2 + (b + q)) ≡ whole
one-more sum n sum2 a p b q whole h e w = omega (arith, h, e, w)

pub cases-next : (xs : List Case) (i : ℕ) (x : Case) (ss : List Stmt) (sc sc1 : Scope) (sum n sum2 whole : ℕ) → i < length xs → x ≡ get_or xs i x → ss ≡ (out-Case x).stmts → sc ≡ sc1 → n ≡ capped (whole_stmts (stmts_of ss) (known sc)) → sum2 ≡ capped (sum + n)
    → capped (sum + whole_cases (cases_of (drop i xs)) (known sc1)) ≡ whole → capped (sum2 + whole_cases (cases_of (drop (i + 1) xs)) (known sc1)) ≡ whole
cases-next xs i x ss sc sc1 sum n sum2 whole h is es same en e inv =
    let k : Known = known sc1 in
    let rest = cases_of (drop (i + 1) xs) in
    let own : n ≡ capped (whole_case (case_of x) k) = en ∙ ap₂ (λ (l : List Stmt) (s : Scope). capped (whole_stmts (stmts_of l) (known s))) es same ∙ ap (λ (c : CaseTree). capped (whole_case c k)) (sym (case-view x)) in
    one-more sum n sum2 (case_size (case_of x) k) (case_pars_size (case_of x) k) (cases_size rest k) (cases_pars_size rest k) whole own e
    (ap (λ l. capped (sum + whole_cases (cases_of l) k)) (sym (from-item xs i x h is)) ∙ inv)

one-label : (sum n sum2 a b whole : ℕ) → n ≡ capped a → sum2 ≡ capped (sum + n) → capped (sum + (a + b)) ≡ whole → capped (sum2 + b) ≡ whole
one-label sum n sum2 a b whole h e w = omega (arith, h, e, w)

pub labels-next : (types : List ℕ → Option Ty) (xs : List Case) (i : ℕ) (x : Case) (sum n sum2 whole : ℕ) → i < length xs → x ≡ get_or xs i x → n ≡ capped (label_size types (case_of x)) → sum2 ≡ capped (sum + n)
    → capped (sum + labels_size types (cases_of (drop i xs))) ≡ whole → capped (sum2 + labels_size types (cases_of (drop (i + 1) xs))) ≡ whole
labels-next types xs i x sum n sum2 whole h is en e inv =
    one-label sum n sum2 (label_size types (case_of x)) (labels_size types (cases_of (drop (i + 1) xs))) whole en e (ap (λ l. capped (sum + labels_size types (cases_of l))) (sym (from-item xs i x h is)) ∙ inv)

-- a label
pub label-is : (types : List ℕ → Option Ty) (x : Case) (n : ℕ) → n ≡ capped (label_size types (a_case (out-Case x).at (option_map tree_of (out-Case x).label) (stmts_of (out-Case x).stmts))) → n ≡ capped (label_size types (case_of x))
label-is types x n e = e ∙ ap (λ c. capped (label_size types c)) (sym (case-view x))
