-- Marks behind marks, with their places.
use Rattle.std.proofs.Common.{◌≡◌, ◌+◌, ℕ, List, [], ◌∷◌, ◌++◌, length, reverse, take, refl, sym, ◌∙◌, ap, arith}
use Rattle.bds_value.specs.declared.value.Ty.{Ty}
use Rattle.bds_tree.specs.Tree.{Tree}
use Rattle.bds_code.specs.declared.unit.Function.{Function}
use Rattle.bds_check_size.specs.ExprSize.{expr_size}
use Rattle.bds_gen_expr.specs.declared.scope.Scope.{Scope}
use Rattle.bds_gen_expr.specs.ExprCode.{expr_code}
use Rattle.bds_gen_expr.specs.Gen.{gen}
use Rattle.bds_gen_expr.specs.Marks.{Mark, count, written}
use Rattle.bds_gen_expr.specs.Scope.{types_in}
use Rattle.bds_gen_expr.proofs.Counts.{expr-count}
use Rattle.bds_gen_expr.proofs.GenLaws.{gen-is}
use Rattle.bds_gen_expr.proofs.Written.{written-append, length-written}

pub then_is : (g h k : Function) (ms ns : List Mark) → h ≡ written g ms → k ≡ written h ns → k ≡ written g (ms ++ ns)
then_is g h k ms ns a b = b ∙ ap (λ x. written x ns) a ∙ sym (written-append ms ns g)

pub place-is : (g h : Function) (ms : List Mark) (p n : ℕ) → h ≡ written g ms → length g.code ≡ p → count ms ≡ n → length h.code ≡ p + n
place-is g h ms p n e h1 c = let a = ap (λ (f : Function). length f.code) e in let l = length-written ms g in omega (arith, a, l, h1, c)

pub gen-place : (e : Tree) (sc : Scope) (shape : List Ty) (g : Function) (p : ℕ) (s : List Ty) → length g.code ≡ p → reverse shape ≡ s → length (gen e sc shape g).code ≡ p + expr_size (types_in sc) e
gen-place e sc shape g p s h r = place-is g (gen e sc shape g) (expr_code e sc p s) p (expr_size (types_in sc) e) (gen-is e sc shape g p s h r) h (expr-count e sc p s)

pub take-front : {X : Type 0} (xs ys : List X) → take (length xs) (xs ++ ys) ≡ xs
take-front [] ys = refl
take-front (x ∷ xs) ys = ap (λ l. x ∷ l) (take-front xs ys)
