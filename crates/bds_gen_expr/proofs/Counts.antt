-- The number of instructions in code is its size.
use Rattle.std.proofs.Common.{◌≡◌, ◌+◌, ℕ, zero, suc, List, [], ◌∷◌, ◌++◌, Option, Some, None, Bool, true, false, refl, arith, if◌then◌else◌}
use Rattle.bds_value.specs.declared.methods.Method.{Method}
use Rattle.bds_value.specs.declared.methods.Method.TheVariants as by
use Rattle.bds_value.specs.declared.value.At.{At}
use Rattle.bds_value.specs.declared.value.Ty.{Ty}
use Rattle.bds_value.specs.declared.value.Ty.TheVariants as ty
use Rattle.bds_value.specs.Methods.{signature_of}
use Rattle.bds_tree.specs.declared.expr.BinaryOp.TheVariants as op
use Rattle.bds_tree.specs.Tree.{Tree, FormTree, Trees, TreePairs, node, number, text, truth, name, call, group, list, mapping, item, key, method, prefix, binary, choice, dependency, none, more, no_pairs, more_pairs, type_of}
use Rattle.bds_code.specs.declared.instr.Instr.TheVariants.{Call, Concat, Item, Jump, JumpUnless, Key, MakeList, MakeMap, OutOfDate, PushBool}
use Rattle.bds_value.specs.Types.{same_ty, list_item, map_item}
use Rattle.bds_check_names.specs.Types.{or_void}
use Rattle.bds_check_rules.specs.Typing.{count as tree_count}
use Rattle.bds_check_size.specs.declared.sums.Sum.{Sum}
use Rattle.bds_check_size.specs.declared.sums.Sum.TheVariants as sums
use Rattle.bds_check_size.specs.Parts.{Part, says, shows, shows_at, shows_at_name, shows_key, shows_key_name, part_size, joined_size, parts_size, parts_of}
use Rattle.bds_check_size.specs.ExprSize.{sum_of, sum_size, method_size, listing_size, expr_size, form_size, trees_size, pairs_size}
use Rattle.bds_gen_expr.specs.Marks.{Mark, does, label, slot, count, one}
use Rattle.bds_gen_expr.specs.declared.scope.Scope.{Scope}
use Rattle.bds_gen_expr.specs.Scope.{types_in, function_number}
use Rattle.bds_gen_expr.specs.ExprCode.{part_code, joined_code, parts_code, sum_between, sum_behind, between_size, left_ty, operator, sign_of, pair_count, method_code, listing, expr_code, form_code, trees_code, pairs_code}

pub counts : (ms ns : List Mark) → count (ms ++ ns) ≡ count ms + count ns
counts [] ns = omega arith
counts (does i at ∷ ms) ns = let e = counts ms ns in omega (arith, e)
counts (label s ∷ ms) ns = counts ms ns
counts (slot t ∷ ms) ns = counts ms ns

-- one behind the other
pub two : (ms ns : List Mark) (n m k : ℕ) → count ms ≡ n → count ns ≡ m → n + m ≡ k → count (ms ++ ns) ≡ k
two ms ns n m k a b e = let c = counts ms ns in omega (arith, a, b, e, c)

part-count : (sc : Scope) (at : At) (p : Part) → count (part_code sc at p) ≡ part_size p
part-count sc at (says t) = refl
part-count sc at (shows x) = refl
part-count sc at (shows_at x n) = refl
part-count sc at (shows_at_name x y) = refl
part-count sc at (shows_key x t) = refl
part-count sc at (shows_key_name x y) = refl

joined-count : (sc : Scope) (at : At) (ps : List Part) → count (joined_code sc at ps) ≡ joined_size ps
joined-count sc at [] = refl
joined-count sc at (p ∷ ps) = let e = joined-count sc at ps in two (part_code sc at p) (does Concat at ∷ joined_code sc at ps) (part_size p) (suc (joined_size ps)) (part_size p + 1 + joined_size ps) (part-count sc at p) (omega (arith, e)) (omega arith)

pub parts-count : (sc : Scope) (at : At) (ps : List Part) → count (parts_code sc at ps) ≡ parts_size ps
parts-count sc at [] = refl
parts-count sc at (p ∷ ps) = two (part_code sc at p) (joined_code sc at ps) (part_size p) (joined_size ps) (part_size p + joined_size ps) (part-count sc at p) (joined-count sc at ps) refl

-- besides its operands
sum-count : (at : At) (sum : Sum) → count (sum_between at sum) + count (sum_behind at sum) ≡ sum_size sum
sum-count at sums.Numbers = refl
sum-count at sums.ItemAdded = refl
sum-count at sums.ListsJoined = refl
sum-count at sums.Texts = refl

pub method-count : (at : At) (m : Option Method) → count (method_code at m) ≡ method_size m
method-count at (Some (by.Plain n)) = refl
method-count at (Some (by.File zero)) = refl
method-count at (Some (by.File (suc zero))) = refl
method-count at (Some (by.File (suc (suc zero)))) = refl
method-count at (Some (by.File (suc (suc (suc zero))))) = refl
method-count at (Some (by.File (suc (suc (suc (suc n)))))) = refl
method-count at (Some (by.Change n)) = refl
method-count at None = refl

pub listing-count : (at : At) (t : Ty) → count (listing at t) ≡ listing_size t
listing-count at t = by (same_ty t ty.Text)
  where
    by : (b : Bool) → count (if b then one at (MakeList ty.Text 1) else []) ≡ (if b then 1 else 0)
    by true = refl
    by false = refl

straight : (a b : Tree) (sc : Scope) (p : ℕ) (t : Ty) (s : List Ty) (last : List Mark) (n : ℕ) → count last ≡ n → count (expr_code a sc p s) ≡ expr_size (types_in sc) a
    → count (expr_code b sc (p + expr_size (types_in sc) a) (t ∷ s)) ≡ expr_size (types_in sc) b
    → count (expr_code a sc p s ++ (expr_code b sc (p + expr_size (types_in sc) a) (t ∷ s) ++ last)) ≡ expr_size (types_in sc) a + expr_size (types_in sc) b + n
straight a b sc p t s last n l e1 e2 =
    let c1 = counts (expr_code a sc p s) (expr_code b sc (p + expr_size (types_in sc) a) (t ∷ s) ++ last) in
    let c2 = counts (expr_code b sc (p + expr_size (types_in sc) a) (t ∷ s)) last in
    omega (arith, l, e1, e2, c1, c2)

mutual
  pub expr-count : (e : Tree) (sc : Scope) (p : ℕ) (s : List Ty) → count (expr_code e sc p s) ≡ expr_size (types_in sc) e
  expr-count (node at t f) sc p s = form-count f at t sc p s

  pub form-count : (f : FormTree) (at : At) (t : Ty) (sc : Scope) (p : ℕ) (s : List Ty) → count (form_code f at t sc p s) ≡ form_size (types_in sc) f
  form-count (number v) at t sc p s = refl
  form-count (text ps) at t sc p s = parts-count sc at (parts_of (types_in sc) ps)
  form-count (truth b) at t sc p s = refl
  form-count (name x) at t sc p s = refl
  form-count (call f es) at t sc p s = two (trees_code es sc p s) (one at (Call (function_number sc f))) (trees_size (types_in sc) es) 1 (trees_size (types_in sc) es + 1) (trees-count es sc p s) refl refl
  form-count (group e) at t sc p s = expr-count e sc p s
  form-count (list es) at t sc p s = two (trees_code es sc p s) (one at (MakeList (or_void (list_item t)) (tree_count es))) (trees_size (types_in sc) es) 1 (trees_size (types_in sc) es + 1) (trees-count es sc p s) refl refl
  form-count (mapping ps) at t sc p s = two (pairs_code ps sc p s) (one at (MakeMap (or_void (map_item t)) (pair_count ps))) (pairs_size (types_in sc) ps) 1 (pairs_size (types_in sc) ps + 1) (pairs-count ps sc p s) refl refl
  form-count (item a i) at t sc p s = straight a i sc p (type_of a) s (one at Item) 1 refl (expr-count a sc p s) (expr-count i sc (p + expr_size (types_in sc) a) (type_of a ∷ s))
  form-count (key a i) at t sc p s = straight a i sc p (type_of a) s (one at Key) 1 refl (expr-count a sc p s) (expr-count i sc (p + expr_size (types_in sc) a) (type_of a ∷ s))
  form-count (method a m es) at t sc p s =
      let n = expr_size (types_in sc) a in
      let k = trees_size (types_in sc) es in
      let z = method_size (signature_of (type_of a) m (tree_count es)) in
      two (expr_code a sc p s) (trees_code es sc (p + n) (type_of a ∷ s) ++ method_code at (signature_of (type_of a) m (tree_count es))) n (k + z) (n + k + z) (expr-count a sc p s)
      (two (trees_code es sc (p + n) (type_of a ∷ s)) (method_code at (signature_of (type_of a) m (tree_count es))) k z (k + z) (trees-count es sc (p + n) (type_of a ∷ s)) (method-count at (signature_of (type_of a) m (tree_count es))) refl)
      (omega arith)
  form-count (prefix o a) at t sc p s = two (expr_code a sc p s) (one at (sign_of o)) (expr_size (types_in sc) a) 1 (expr_size (types_in sc) a + 1) (expr-count a sc p s) refl refl
  form-count (binary a op.And b) at t sc p s =
      let n = expr_size (types_in sc) a in
      let m = expr_size (types_in sc) b in
      let e1 = expr-count a sc p s in
      let e2 = expr-count b sc (p + n + 1) s in
      let c1 = counts (expr_code a sc p s) (does (JumpUnless (p + n + 1 + m + 1)) at ∷ (expr_code b sc (p + n + 1) s ++ (does (Jump (p + n + 1 + m + 1 + 1)) at ∷ label s ∷ does (PushBool false) at ∷ label (ty.Bool ∷ s) ∷ []))) in
      let c2 = counts (expr_code b sc (p + n + 1) s) (does (Jump (p + n + 1 + m + 1 + 1)) at ∷ label s ∷ does (PushBool false) at ∷ label (ty.Bool ∷ s) ∷ []) in
      omega (arith, e1, e2, c1, c2)
  form-count (binary a op.Or b) at t sc p s =
      let n = expr_size (types_in sc) a in
      let m = expr_size (types_in sc) b in
      let e1 = expr-count a sc p s in
      let e2 = expr-count b sc (p + n + 3) s in
      let c1 = counts (expr_code a sc p s) (does (JumpUnless (p + n + 3)) at ∷ does (PushBool true) at ∷ does (Jump (p + n + 3 + m)) at ∷ label s ∷ (expr_code b sc (p + n + 3) s ++ (label (ty.Bool ∷ s) ∷ []))) in
      let c2 = counts (expr_code b sc (p + n + 3) s) (label (ty.Bool ∷ s) ∷ []) in
      omega (arith, e1, e2, c1, c2)
  form-count (binary a op.Add b) at t sc p s =
      let sum = sum_of (type_of a) (type_of b) in
      let n = expr_size (types_in sc) a in
      let m = expr_size (types_in sc) b in
      let right = p + n + between_size sum in
      let e1 = expr-count a sc p s in
      let e2 = expr-count b sc right (left_ty sum (type_of a) ∷ s) in
      let e3 = sum-count at sum in
      let c1 = counts (expr_code a sc p s) (sum_between at sum ++ (expr_code b sc right (left_ty sum (type_of a) ∷ s) ++ sum_behind at sum)) in
      let c2 = counts (sum_between at sum) (expr_code b sc right (left_ty sum (type_of a) ∷ s) ++ sum_behind at sum) in
      let c3 = counts (expr_code b sc right (left_ty sum (type_of a) ∷ s)) (sum_behind at sum) in
      omega (arith, e1, e2, e3, c1, c2, c3)
  form-count (binary a o b) at t sc p s = straight a b sc p (type_of a) s (one at (operator o)) 1 refl (expr-count a sc p s) (expr-count b sc (p + expr_size (types_in sc) a) (type_of a ∷ s))
  form-count (choice c a b) at t sc p s =
      let n = expr_size (types_in sc) c in
      let m = expr_size (types_in sc) a in
      let k = expr_size (types_in sc) b in
      let then_place = p + n + 1 in
      let other = then_place + m + 1 in
      let e1 = expr-count c sc p s in
      let e2 = expr-count a sc then_place s in
      let e3 = expr-count b sc other s in
      let c1 = counts (expr_code c sc p s) (does (JumpUnless other) at ∷ (expr_code a sc then_place s ++ (does (Jump (other + k)) at ∷ label s ∷ (expr_code b sc other s ++ (label (t ∷ s) ∷ []))))) in
      let c2 = counts (expr_code a sc then_place s) (does (Jump (other + k)) at ∷ label s ∷ (expr_code b sc other s ++ (label (t ∷ s) ∷ []))) in
      let c3 = counts (expr_code b sc other s) (label (t ∷ s) ∷ []) in
      omega (arith, e1, e2, e3, c1, c2, c3)
  form-count (dependency a b) at t sc p s =
      let n = expr_size (types_in sc) a in
      let m = expr_size (types_in sc) b in
      let right = p + n + listing_size (type_of a) in
      let e1 = expr-count a sc p s in
      let e2 = expr-count b sc right (ty.List ty.Text ∷ s) in
      let l1 = listing-count at (type_of a) in
      let l2 = listing-count at (type_of b) in
      let c1 = counts (expr_code a sc p s) (listing at (type_of a) ++ (expr_code b sc right (ty.List ty.Text ∷ s) ++ (listing at (type_of b) ++ one at OutOfDate))) in
      let c2 = counts (listing at (type_of a)) (expr_code b sc right (ty.List ty.Text ∷ s) ++ (listing at (type_of b) ++ one at OutOfDate)) in
      let c3 = counts (expr_code b sc right (ty.List ty.Text ∷ s)) (listing at (type_of b) ++ one at OutOfDate) in
      let c4 = counts (listing at (type_of b)) (one at OutOfDate) in
      omega (arith, e1, e2, l1, l2, c1, c2, c3, c4)

  pub trees-count : (es : Trees) (sc : Scope) (p : ℕ) (s : List Ty) → count (trees_code es sc p s) ≡ trees_size (types_in sc) es
  trees-count none sc p s = refl
  trees-count (more e es) sc p s =
      two (expr_code e sc p s) (trees_code es sc (p + expr_size (types_in sc) e) (type_of e ∷ s)) (expr_size (types_in sc) e) (trees_size (types_in sc) es) (expr_size (types_in sc) e + trees_size (types_in sc) es)
      (expr-count e sc p s) (trees-count es sc (p + expr_size (types_in sc) e) (type_of e ∷ s)) refl

  pub pairs-count : (ps : TreePairs) (sc : Scope) (p : ℕ) (s : List Ty) → count (pairs_code ps sc p s) ≡ pairs_size (types_in sc) ps
  pairs-count no_pairs sc p s = refl
  pairs-count (more_pairs k v ps) sc p s =
      let n = expr_size (types_in sc) k in
      let m = expr_size (types_in sc) v in
      let z = pairs_size (types_in sc) ps in
      two (expr_code k sc p s) (expr_code v sc (p + n) (ty.Text ∷ s) ++ pairs_code ps sc (p + n + m) (type_of v ∷ ty.Text ∷ s)) n (m + z) (n + m + z) (expr-count k sc p s)
      (two (expr_code v sc (p + n) (ty.Text ∷ s)) (pairs_code ps sc (p + n + m) (type_of v ∷ ty.Text ∷ s)) m z (m + z) (expr-count v sc (p + n) (ty.Text ∷ s)) (pairs-count ps sc (p + n + m) (type_of v ∷ ty.Text ∷ s)) refl)
      (omega arith)
