-- Operands behind each other, as the loops write them.
use Rattle.std.proofs.Common.{◌≡◌, ◌<◌, ◌+◌, ℕ, List, [], ◌∷◌, ◌++◌, length, get_or, take, drop, refl, sym, ap, ◌∙◌, arith}
use Rattle.std.proofs.lemmas.List.{drop_more}
use Rattle.bds_value.specs.declared.value.At.{At}
use Rattle.bds_value.specs.declared.value.Ty.{Ty}
use Rattle.bds_value.specs.declared.value.Ty.TheVariants as ty
use Rattle.bds_tree.specs.declared.expr.Expr.{Expr, fold_out-Expr}
use Rattle.bds_tree.specs.Tree.{Tree, FormTree, type_of}
use Rattle.bds_tree.specs.View.{form_step, expr_step, tree_of, trees_of, pairs_of}
use Rattle.bds_check_rules.specs.Typing.{count as tree_count}
use Rattle.bds_code.specs.declared.instr.Instr.TheVariants.{JumpUnless}
use Rattle.bds_code.specs.declared.unit.Function.{Function}
use Rattle.bds_gen_expr.specs.declared.scope.Scope.{Scope}
use Rattle.bds_gen_expr.specs.ExprCode.{pair_count}
use Rattle.bds_gen_expr.specs.Gen.{act, begin_other, end_at, gen, gen_all, gen_pairs}
use Rattle.bds_gen_expr.proofs.Growing.{grown_on, turned_on, length_grown}

pub count_is : (es : List Expr) → tree_count (trees_of es) ≡ length es
count_is [] = refl
count_is (e ∷ es) = let r = count_is es in omega (arith, r)

pub pair_count_is : (ps : List (Expr × Expr)) → pair_count (pairs_of ps) ≡ length ps
pair_count_is [] = refl
pair_count_is (p ∷ ps) = let r = pair_count_is ps in omega (arith, r)

pub type_is : (e : Expr) → type_of (tree_of e) ≡ e.ty
type_is e = ap type_of (fold_out-Expr FormTree Tree form_step expr_step e)

from-item : {X : Type 0} (xs : List X) (i : ℕ) (x : X) → i < length xs → x ≡ get_or xs i x → drop i xs ≡ x ∷ drop (i + 1) xs
from-item xs i x h e = drop_more xs i x h ∙ ap (λ y. y ∷ drop (i + 1) xs) (sym e)

-- one more operand
pub all-next : (xs : List Expr) (i : ℕ) (x : Expr) (sc : Scope) (shape s1 s2 : List Ty) (g g1 whole : Function) → i < length xs → x ≡ get_or xs i x → g1 ≡ gen (tree_of x) sc shape g → s1 ≡ shape → s2 ≡ s1 ++ x.ty ∷ []
    → gen_all (trees_of (drop i xs)) sc shape g ≡ whole → gen_all (trees_of (drop (i + 1) xs)) sc s2 g1 ≡ whole
all-next xs i x sc shape s1 s2 g g1 whole h is eg e1 e2 inv =
    ap (gen_all (trees_of (drop (i + 1) xs)) sc s2) eg
    ∙ ap (λ s. gen_all (trees_of (drop (i + 1) xs)) sc s (gen (tree_of x) sc shape g)) (e2 ∙ ap (λ s. s ++ x.ty ∷ []) e1 ∙ ap (λ t. shape ++ t ∷ []) (sym (type_is x)))
    ∙ sym (ap (λ l. gen_all (trees_of l) sc shape g) (from-item xs i x h is)) ∙ inv

-- one more pair
pub pairs-next : (ps : List (Expr × Expr)) (i : ℕ) (p : Expr × Expr) (sc : Scope) (shape s1 s2 s3 s4 : List Ty) (g g1 g2 whole : Function) → i < length ps → p ≡ get_or ps i p → g1 ≡ gen (tree_of p.0) sc shape g → s1 ≡ shape
    → s2 ≡ s1 ++ ty.Text ∷ [] → g2 ≡ gen (tree_of p.1) sc s2 g1 → s3 ≡ s2 → s4 ≡ s3 ++ p.1.ty ∷ [] → gen_pairs (pairs_of (drop i ps)) sc shape g ≡ whole → gen_pairs (pairs_of (drop (i + 1) ps)) sc s4 g2 ≡ whole
pairs-next ps i p sc shape s1 s2 s3 s4 g g1 g2 whole h is eg1 e1 e2 eg2 e3 e4 inv =
    let behind_key : s2 ≡ shape ++ ty.Text ∷ [] = e2 ∙ ap (λ s. s ++ ty.Text ∷ []) e1 in
    let behind : s4 ≡ (shape ++ ty.Text ∷ []) ++ type_of (tree_of p.1) ∷ [] = e4 ∙ ap (λ s. s ++ p.1.ty ∷ []) (e3 ∙ behind_key) ∙ ap (λ t. (shape ++ ty.Text ∷ []) ++ t ∷ []) (sym (type_is p.1)) in
    let code : g2 ≡ gen (tree_of p.1) sc (shape ++ ty.Text ∷ []) (gen (tree_of p.0) sc shape g) = eg2 ∙ ap (gen (tree_of p.1) sc s2) eg1 ∙ ap (λ s. gen (tree_of p.1) sc s (gen (tree_of p.0) sc shape g)) behind_key in
    ap (gen_pairs (pairs_of (drop (i + 1) ps)) sc s4) code
    ∙ ap (λ s. gen_pairs (pairs_of (drop (i + 1) ps)) sc s (gen (tree_of p.1) sc (shape ++ ty.Text ∷ []) (gen (tree_of p.0) sc shape g))) behind
    ∙ sym (ap (λ l. gen_pairs (pairs_of l) sc shape g) (from-item ps i p h is)) ∙ inv

-- the operands below stay
pub take-longer : (s0 xs ys zs : List Ty) → zs ≡ xs ++ ys → take (length s0) xs ≡ s0 → take (length s0) zs ≡ s0
take-longer s0 xs ys zs e h = ap (take (length s0)) e ∙ longer s0 xs h
  where
    tail-of : List Ty → List Ty
    tail-of [] = []
    tail-of (x ∷ l) = l

    head-same : (x a : Ty) (l k : List Ty) → x ∷ l ≡ a ∷ k → x ≡ a
    head-same x a l k h = cc

    longer : (s xs : List Ty) → take (length s) xs ≡ s → take (length s) (xs ++ ys) ≡ s
    longer [] xs h = refl
    longer (a ∷ s) [] h = absurd (cc)
    longer (a ∷ s) (x ∷ xs) h = ap (λ y. y ∷ take (length s) (xs ++ ys)) (head-same x a (take (length s) xs) s h) ∙ ap (λ l. a ∷ l) (longer s xs (ap tail-of h))

-- two ways, each of which writes something
pub two-ways : (f1 f2 f3 f4 f5 : Function) (test jump : ℕ) (at : At) (s : List Ty) (t : Ty) (P Q : Function → Function) → test ≡ length f1.code → f2 ≡ act f1 at (JumpUnless 0) → f3 ≡ P f2 → jump ≡ length f3.code
    → f4 ≡ begin_other f3 test at s → f5 ≡ Q f4
    → end_at f5 jump (s ++ t ∷ []) ≡ end_at (Q (begin_other (P (act f1 at (JumpUnless 0))) (length f1.code) at s)) (length (P (act f1 at (JumpUnless 0))).code) (s ++ t ∷ [])
two-ways f1 f2 f3 f4 f5 test jump at s t P Q e1 e2 e3 e4 e5 e6 =
    let way : f3 ≡ P (act f1 at (JumpUnless 0)) = e3 ∙ ap P e2 in
    ap (λ x. end_at x jump (s ++ t ∷ [])) (e6 ∙ ap Q (e5 ∙ ap (λ n. begin_other f3 n at s) e1)) ∙ ap (λ n. end_at (Q (begin_other f3 (length f1.code) at s)) n (s ++ t ∷ [])) e4
    ∙ ap (λ (x : Function). end_at (Q (begin_other x (length f1.code) at s)) (length x.code) (s ++ t ∷ [])) way

-- for functions that write operands
pub ruleset writing_rules = (grown_on, turned_on, length_grown, count_is, pair_count_is)
