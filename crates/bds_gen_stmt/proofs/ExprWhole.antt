-- The code of expressions is of such marks.
use Rattle.std.proofs.Common.{◌≡◌, ◌≤◌, ◌+◌, ℕ, zero, suc, List, [], ◌∷◌, ◌++◌, length, Option, Some, None, Bool, true, false, refl, ap, arith, if◌then◌else◌}
use Rattle.bds_value.specs.declared.methods.Method.{Method}
use Rattle.bds_value.specs.declared.methods.Method.TheVariants as by
use Rattle.bds_value.specs.declared.value.At.{At}
use Rattle.bds_value.specs.declared.value.Ty.{Ty}
use Rattle.bds_value.specs.declared.value.Ty.TheVariants as ty
use Rattle.bds_value.specs.Methods.{signature_of}
use Rattle.bds_value.specs.Types.{same_ty, list_item, map_item}
use Rattle.bds_tree.specs.declared.expr.PrefixOp.{PrefixOp}
use Rattle.bds_tree.specs.declared.expr.PrefixOp.TheVariants as sign
use Rattle.bds_tree.specs.declared.expr.BinaryOp.{BinaryOp}
use Rattle.bds_tree.specs.declared.expr.BinaryOp.TheVariants as op
use Rattle.bds_tree.specs.Tree.{Tree, FormTree, Trees, TreePairs, node, number, text, truth, name, call, group, list, mapping, item, key, method, prefix, binary, choice, dependency, none, more, no_pairs, more_pairs, type_of}
use Rattle.bds_code.specs.declared.instr.Instr.TheVariants.{PushBool, MakeList, MakeMap, Item, Key, Jump, JumpUnless, Call, OutOfDate, Concat}
use Rattle.bds_verify.specs.Whole.{is_value_ty}
use Rattle.bds_check_names.specs.Types.{or_void}
use Rattle.bds_check_rules.specs.Typing.{count as tree_count}
use Rattle.bds_check_size.specs.declared.sums.Sum.{Sum}
use Rattle.bds_check_size.specs.declared.sums.Sum.TheVariants as sums
use Rattle.bds_check_size.specs.Parts.{Part, says, shows, shows_at, shows_at_name, shows_key, shows_key_name, part_size, parts_size, parts_of}
use Rattle.bds_check_size.specs.ExprSize.{sum_of, listing_size, expr_size, form_size, trees_size, pairs_size}
use Rattle.bds_check_typing.specs.Proper.{IsInFile, IsProperExpr, IsProperForm, AreProperExprs, AreProperPairs}
use Rattle.bds_gen_expr.specs.Marks.{Mark, does, label, count, one}
use Rattle.bds_gen_expr.specs.declared.scope.Scope.{Scope}
use Rattle.bds_gen_expr.specs.Scope.{VariablePlace, in_slot, in_global, types_in, load_at, place_of, function_number}
use Rattle.bds_gen_expr.specs.ExprCode.{part_code, joined_code, parts_code, sum_between, sum_behind, between_size, left_ty, operator, sign_of, file_code, method_code, listing, expr_code, form_code, trees_code, pairs_code, pair_count, files_code}
use Rattle.bds_gen_expr.proofs.Counts.{expr-count, trees-count, pairs-count, listing-count}
use Rattle.bds_gen_stmt.proofs.Wholes.{IsWholeInstr, AreValueTys, AreWhole, whole-at, whole-then, bool-value, text-value, texts-value, text-item}
use Rattle.bds_gen_stmt.proofs.ShortParts.{IsShortPart, AreShortParts, parts-short}
use Rattle.bds_gen_stmt.proofs.ExprTypes.{HasTypes, HasFormTypes, HaveTypes, HavePairTypes, type-value}

-- Each expression has an instruction

part-positive : (p : Part) → 1 ≤ part_size p
part-positive (says t) = omega arith
part-positive (shows x) = omega arith
part-positive (shows_at x n) = omega arith
part-positive (shows_at_name x y) = omega arith
part-positive (shows_key x t) = omega arith
part-positive (shows_key_name x y) = omega arith

pub parts-positive : (ps : List Part) → 1 ≤ parts_size ps
parts-positive [] = omega arith
parts-positive (p ∷ ps) = let a = part-positive p in omega (arith, a)

mutual
  pub size-positive : (types : List ℕ → Option Ty) (e : Tree) → 1 ≤ expr_size types e
  size-positive types (node at t f) = form-positive types f

  form-positive : (types : List ℕ → Option Ty) (f : FormTree) → 1 ≤ form_size types f
  form-positive types (number v) = omega arith
  form-positive types (text ps) = parts-positive (parts_of types ps)
  form-positive types (truth b) = omega arith
  form-positive types (name x) = omega arith
  form-positive types (call f es) = omega arith
  form-positive types (group e) = size-positive types e
  form-positive types (list es) = omega arith
  form-positive types (mapping ps) = omega arith
  form-positive types (item a i) = omega arith
  form-positive types (key a i) = omega arith
  form-positive types (method a m es) = let h = size-positive types a in omega (arith, h)
  form-positive types (prefix o a) = omega arith
  form-positive types (binary a o b) = let h = size-positive types a in omega (arith, h)
  form-positive types (choice c a b) = omega arith
  form-positive types (dependency a b) = omega arith

-- one more operand, behind an expression
pub deeper : (sc : Scope) (e : Tree) (p : ℕ) (s : List Ty) → length s ≤ p → suc (length s) ≤ p + expr_size (types_in sc) e
deeper sc e p s l = let h = size-positive (types_in sc) e in omega (arith, l, h)

module _ (files : ℕ) where
  abbrev W : List Mark → ℕ → Type 0
  W = AreWhole files

  pub load-whole : (v : VariablePlace) (p : ℕ) → IsWholeInstr (load_at v) p
  load-whole (in_slot i) p = tt
  load-whole (in_global g) p = tt

  part-whole : (sc : Scope) (at : At) (x : Part) (p : ℕ) → IsInFile files at → IsShortPart x → W (part_code sc at x) p
  part-whole sc at (says t) p i h = (h, i, tt)
  part-whole sc at (shows x) p i h = (load-whole (place_of sc x) p, i, (tt, i, tt))
  part-whole sc at (shows_at x n) p i h = (load-whole (place_of sc x) p, i, (tt, i, (tt, i, (tt, i, tt))))
  part-whole sc at (shows_at_name x y) p i h = (load-whole (place_of sc x) p, i, (load-whole (place_of sc y) (suc p), i, (tt, i, (tt, i, tt))))
  part-whole sc at (shows_key x t) p i h = (load-whole (place_of sc x) p, i, (h, i, (tt, i, (tt, i, tt))))
  part-whole sc at (shows_key_name x y) p i h = (load-whole (place_of sc x) p, i, (load-whole (place_of sc y) (suc p), i, (tt, i, (tt, i, tt))))

  joined-whole : (sc : Scope) (at : At) (ps : List Part) (p : ℕ) → IsInFile files at → AreShortParts ps → W (joined_code sc at ps) p
  joined-whole sc at [] p i h = tt
  joined-whole sc at (x ∷ ps) p i h =
      let q : ℕ = p + count (part_code sc at x) in
      whole-then files (part_code sc at x) (does Concat at ∷ joined_code sc at ps) p q refl (part-whole sc at x p i h.0) (tt, i, joined-whole sc at ps (suc q) i h.1)

  pub parts-whole : (sc : Scope) (at : At) (ps : List Part) (p : ℕ) → IsInFile files at → AreShortParts ps → W (parts_code sc at ps) p
  parts-whole sc at [] p i h = (omega arith, i, tt)
  parts-whole sc at (x ∷ ps) p i h =
      let q : ℕ = p + count (part_code sc at x) in
      whole-then files (part_code sc at x) (joined_code sc at ps) p q refl (part-whole sc at x p i h.0) (joined-whole sc at ps q i h.1)

  between-count : (at : At) (s : Sum) → count (sum_between at s) ≡ between_size s
  between-count at sums.Numbers = refl
  between-count at sums.ItemAdded = refl
  between-count at sums.ListsJoined = refl
  between-count at sums.Texts = refl

  between-whole : (at : At) (s : Sum) (p : ℕ) → IsInFile files at → W (sum_between at s) p
  between-whole at sums.Numbers p i = tt
  between-whole at sums.ItemAdded p i = tt
  between-whole at sums.ListsJoined p i = tt
  between-whole at sums.Texts p i = (tt, i, tt)

  behind-whole : (at : At) (s : Sum) (p : ℕ) → IsInFile files at → W (sum_behind at s) p
  behind-whole at sums.Numbers p i = (tt, i, tt)
  behind-whole at sums.ItemAdded p i = (tt, i, tt)
  behind-whole at sums.ListsJoined p i = (tt, i, tt)
  behind-whole at sums.Texts p i = (tt, i, (tt, i, tt))

  left-value : (s : Sum) (t : Ty) → is_value_ty t ≡ true → is_value_ty (left_ty s t) ≡ true
  left-value sums.Numbers t h = h
  left-value sums.ItemAdded t h = h
  left-value sums.ListsJoined t h = h
  left-value sums.Texts t h = text-value

  operator-whole : (o : BinaryOp) (p : ℕ) → IsWholeInstr (operator o) p
  operator-whole op.Or p = tt
  operator-whole op.And p = tt
  operator-whole op.Equal p = tt
  operator-whole op.NotEqual p = tt
  operator-whole op.Less p = tt
  operator-whole op.AtMost p = tt
  operator-whole op.Greater p = tt
  operator-whole op.AtLeast p = tt
  operator-whole op.Add p = tt
  operator-whole op.Sub p = tt
  operator-whole op.Mul p = tt
  operator-whole op.Div p = tt
  operator-whole op.Rem p = tt

  sign-whole : (o : PrefixOp) (p : ℕ) → IsWholeInstr (sign_of o) p
  sign-whole sign.Neg p = tt
  sign-whole sign.Not p = tt

  file-whole : (at : At) (n p : ℕ) → IsInFile files at → W (file_code at n) p
  file-whole at zero p i = (tt, i, tt)
  file-whole at (suc zero) p i = (tt, i, (tt, i, tt))
  file-whole at (suc (suc zero)) p i = (tt, i, tt)
  file-whole at (suc (suc (suc zero))) p i = (tt, i, tt)
  file-whole at (suc (suc (suc (suc n)))) p i = (tt, i, tt)

  method-whole : (at : At) (m : Option Method) (p : ℕ) → IsInFile files at → W (method_code at m) p
  method-whole at (Some (by.Plain n)) p i = (tt, i, tt)
  method-whole at (Some (by.File n)) p i = file-whole at n p i
  method-whole at (Some (by.Change n)) p i = (tt, i, tt)
  method-whole at None p i = (tt, i, tt)

  pub listing-whole : (at : At) (t : Ty) (p : ℕ) → IsInFile files at → W (listing at t) p
  listing-whole at t p i = by_file (same_ty t ty.Text)
    where
      by_file : (b : Bool) → W (if b then one at (MakeList ty.Text 1) else []) p
      by_file true = (text-item, i, tt)
      by_file false = tt

  -- two operands and what comes behind them
  two-whole : (a b : Tree) (sc : Scope) (p : ℕ) (s : List Ty) (last : List Mark) → W (expr_code a sc p s) p → W (expr_code b sc (p + expr_size (types_in sc) a) (type_of a ∷ s)) (p + expr_size (types_in sc) a)
      → ((q : ℕ) → W last q) → W (expr_code a sc p s ++ (expr_code b sc (p + expr_size (types_in sc) a) (type_of a ∷ s) ++ last)) p
  two-whole a b sc p s last wa wb last_whole =
      let q : ℕ = p + expr_size (types_in sc) a in
      let z : ℕ = q + expr_size (types_in sc) b in
      whole-then files (expr_code a sc p s) (expr_code b sc q (type_of a ∷ s) ++ last) p q (ap (λ n. p + n) (expr-count a sc p s)) wa
      (whole-then files (expr_code b sc q (type_of a ∷ s)) last q z (ap (λ n. q + n) (expr-count b sc q (type_of a ∷ s))) wb (last_whole z))

  called : (f : List ℕ) (es : Trees) (at : At) (sc : Scope) (p : ℕ) (s : List Ty) → IsInFile files at → W (trees_code es sc p s) p → W (trees_code es sc p s ++ one at (Call (function_number sc f))) p
  called f es at sc p s i w = whole-then files (trees_code es sc p s) (one at (Call (function_number sc f))) p (p + trees_size (types_in sc) es) (ap (λ n. p + n) (trees-count es sc p s)) w (tt, i, tt)

  on-receiver : (a : Tree) (m : List ℕ) (es : Trees) (at : At) (sc : Scope) (p : ℕ) (s : List Ty) → IsInFile files at → W (expr_code a sc p s) p
      → W (trees_code es sc (p + expr_size (types_in sc) a) (type_of a ∷ s)) (p + expr_size (types_in sc) a)
      → W (expr_code a sc p s ++ (trees_code es sc (p + expr_size (types_in sc) a) (type_of a ∷ s) ++ method_code at (signature_of (type_of a) m (tree_count es)))) p
  on-receiver a m es at sc p s i wa we =
      let q : ℕ = p + expr_size (types_in sc) a in
      let z : ℕ = q + trees_size (types_in sc) es in
      let last : List Mark = method_code at (signature_of (type_of a) m (tree_count es)) in
      whole-then files (expr_code a sc p s) (trees_code es sc q (type_of a ∷ s) ++ last) p q (ap (λ n. p + n) (expr-count a sc p s)) wa
      (whole-then files (trees_code es sc q (type_of a ∷ s)) last q z (ap (λ n. q + n) (trees-count es sc q (type_of a ∷ s))) we
      (method-whole at (signature_of (type_of a) m (tree_count es)) z i))

  -- below are operands of such types, no more than instructions
  mutual
    pub expr-whole : (e : Tree) (sc : Scope) (p : ℕ) (s : List Ty) → IsProperExpr files e → HasTypes e → AreValueTys s → length s ≤ p → W (expr_code e sc p s) p
    expr-whole (node at t f) sc p s i h v l = form-whole f at t sc p s i.0 i.1 h.0 h.1 v l

    pub form-whole : (f : FormTree) (at : At) (t : Ty) (sc : Scope) (p : ℕ) (s : List Ty) → IsInFile files at → IsProperForm files f → is_value_ty t ≡ true → HasFormTypes f t → AreValueTys s → length s ≤ p → W (form_code f at t sc p s) p
    form-whole (number n) at t sc p s i pr tv h v l = (tt, i, tt)
    form-whole (text ps) at t sc p s i pr tv h v l = parts-whole sc at (parts_of (types_in sc) ps) p i (parts-short (types_in sc) ps pr)
    form-whole (truth b) at t sc p s i pr tv h v l = (tt, i, tt)
    form-whole (name x) at t sc p s i pr tv h v l = (load-whole (place_of sc x) p, i, tt)
    form-whole (call f es) at t sc p s i pr tv h v l = called f es at sc p s i (trees-whole es sc p s pr.1 h v l)
    form-whole (group e) at t sc p s i pr tv h v l = expr-whole e sc p s pr h v l
    form-whole (list es) at t sc p s i pr tv h v l =
        whole-then files (trees_code es sc p s) (one at (MakeList (or_void (list_item t)) (tree_count es))) p (p + trees_size (types_in sc) es) (ap (λ n. p + n) (trees-count es sc p s)) (trees-whole es sc p s pr h.1 v l) (h.0, i, tt)
    form-whole (mapping ps) at t sc p s i pr tv h v l =
        whole-then files (pairs_code ps sc p s) (one at (MakeMap (or_void (map_item t)) (pair_count ps))) p (p + pairs_size (types_in sc) ps) (ap (λ n. p + n) (pairs-count ps sc p s)) (pairs-whole ps sc p s pr h.1 v l) (h.0, i, tt)
    form-whole (item a x) at t sc p s i pr tv h v l = two-whole a x sc p s (one at Item) (expr-whole a sc p s pr.0 h.0 v l) (expr-whole x sc (p + expr_size (types_in sc) a) (type_of a ∷ s) pr.1 h.1 (type-value a h.0, v) (deeper sc a p s l)) (λ q. (tt, i, tt))
    form-whole (key a x) at t sc p s i pr tv h v l = two-whole a x sc p s (one at Key) (expr-whole a sc p s pr.0 h.0 v l) (expr-whole x sc (p + expr_size (types_in sc) a) (type_of a ∷ s) pr.1 h.1 (type-value a h.0, v) (deeper sc a p s l)) (λ q. (tt, i, tt))
    form-whole (method a m es) at t sc p s i pr tv h v l = on-receiver a m es at sc p s i (expr-whole a sc p s pr.1 h.0 v l) (trees-whole es sc (p + expr_size (types_in sc) a) (type_of a ∷ s) pr.2 h.1 (type-value a h.0, v) (deeper sc a p s l))
    form-whole (prefix o a) at t sc p s i pr tv h v l =
        let q : ℕ = p + expr_size (types_in sc) a in
        whole-then files (expr_code a sc p s) (one at (sign_of o)) p q (ap (λ n. p + n) (expr-count a sc p s)) (expr-whole a sc p s pr h v l) (sign-whole o q, i, tt)
    form-whole (binary a op.And b) at t sc p s i pr tv h v l =
        let q : ℕ = p + expr_size (types_in sc) a in
        let right : ℕ = q + 1 in
        let r : ℕ = right + expr_size (types_in sc) b in
        let other : ℕ = r + 1 in
        let last : List Mark = does (Jump (other + 1)) at ∷ label s ∷ does (PushBool false) at ∷ label (ty.Bool ∷ s) ∷ [] in
        let second : W (expr_code b sc right s ++ last) right =
        whole-then files (expr_code b sc right s) last right r (ap (λ n. right + n) (expr-count b sc right s)) (expr-whole b sc right s pr.1 h.1 v (omega (arith, l))) (tt, i, (v, omega (arith, l), (tt, i, ((bool-value, v), omega (arith, l), tt)))) in
        whole-then files (expr_code a sc p s) (does (JumpUnless other) at ∷ (expr_code b sc right s ++ last)) p q (ap (λ n. p + n) (expr-count a sc p s)) (expr-whole a sc p s pr.0 h.0 v l)
        (tt, i, whole-at files (expr_code b sc right s ++ last) right (suc q) (omega arith) second)
    form-whole (binary a op.Or b) at t sc p s i pr tv h v l =
        let q : ℕ = p + expr_size (types_in sc) a in
        let right : ℕ = q + 3 in
        let end : ℕ = right + expr_size (types_in sc) b in
        let second : W (expr_code b sc right s ++ (label (ty.Bool ∷ s) ∷ [])) right =
        whole-then files (expr_code b sc right s) (label (ty.Bool ∷ s) ∷ []) right end (ap (λ n. right + n) (expr-count b sc right s)) (expr-whole b sc right s pr.1 h.1 v (omega (arith, l))) ((bool-value, v), omega (arith, l), tt) in
        whole-then files (expr_code a sc p s) (does (JumpUnless right) at ∷ does (PushBool true) at ∷ does (Jump end) at ∷ label s ∷ (expr_code b sc right s ++ (label (ty.Bool ∷ s) ∷ []))) p q (ap (λ n. p + n) (expr-count a sc p s)) (expr-whole a sc p s pr.0 h.0 v l)
        (tt, i, (tt, i, (tt, i, (v, omega (arith, l), whole-at files (expr_code b sc right s ++ (label (ty.Bool ∷ s) ∷ [])) right (suc (suc (suc q))) (omega arith) second))))
    form-whole (binary a op.Add b) at t sc p s i pr tv h v l =
        let sum : Sum = sum_of (type_of a) (type_of b) in
        let q : ℕ = p + expr_size (types_in sc) a in
        let right : ℕ = q + between_size sum in
        let z : ℕ = right + expr_size (types_in sc) b in
        let below : List Ty = left_ty sum (type_of a) ∷ s in
        let pos = size-positive (types_in sc) a in
        whole-then files (expr_code a sc p s) (sum_between at sum ++ (expr_code b sc right below ++ sum_behind at sum)) p q (ap (λ n. p + n) (expr-count a sc p s)) (expr-whole a sc p s pr.0 h.0 v l)
        (whole-then files (sum_between at sum) (expr_code b sc right below ++ sum_behind at sum) q right (ap (λ n. q + n) (between-count at sum)) (between-whole at sum q i)
        (whole-then files (expr_code b sc right below) (sum_behind at sum) right z (ap (λ n. right + n) (expr-count b sc right below)) (expr-whole b sc right below pr.1 h.1 (left-value sum (type_of a) (type-value a h.0), v) (omega (arith, l, pos))) (behind-whole at sum z i)))
    form-whole (binary a o b) at t sc p s i pr tv h v l = two-whole a b sc p s (one at (operator o)) (expr-whole a sc p s pr.0 h.0 v l) (expr-whole b sc (p + expr_size (types_in sc) a) (type_of a ∷ s) pr.1 h.1 (type-value a h.0, v) (deeper sc a p s l)) (λ q. (operator-whole o q, i, tt))
    form-whole (choice c a b) at t sc p s i pr tv h v l =
        let q : ℕ = p + expr_size (types_in sc) c in
        let then_place : ℕ = q + 1 in
        let r : ℕ = then_place + expr_size (types_in sc) a in
        let other : ℕ = r + 1 in
        let end : ℕ = other + expr_size (types_in sc) b in
        let last : W (expr_code b sc other s ++ (label (t ∷ s) ∷ [])) other =
        whole-then files (expr_code b sc other s) (label (t ∷ s) ∷ []) other end (ap (λ n. other + n) (expr-count b sc other s)) (expr-whole b sc other s pr.2 h.2 v (omega (arith, l))) ((tv, v), omega (arith, l), tt) in
        let rest : List Mark = does (Jump end) at ∷ label s ∷ (expr_code b sc other s ++ (label (t ∷ s) ∷ [])) in
        let second : W (expr_code a sc then_place s ++ rest) then_place =
        whole-then files (expr_code a sc then_place s) rest then_place r (ap (λ n. then_place + n) (expr-count a sc then_place s)) (expr-whole a sc then_place s pr.1 h.1 v (omega (arith, l)))
        (tt, i, (v, omega (arith, l), whole-at files (expr_code b sc other s ++ (label (t ∷ s) ∷ [])) other (suc r) (omega arith) last)) in
        whole-then files (expr_code c sc p s) (does (JumpUnless other) at ∷ (expr_code a sc then_place s ++ rest)) p q (ap (λ n. p + n) (expr-count c sc p s)) (expr-whole c sc p s pr.0 h.0 v l)
        (tt, i, whole-at files (expr_code a sc then_place s ++ rest) then_place (suc q) (omega arith) second)
    form-whole (dependency a b) at t sc p s i pr tv h v l =
        let q : ℕ = p + expr_size (types_in sc) a in
        let right : ℕ = q + listing_size (type_of a) in
        let z : ℕ = right + expr_size (types_in sc) b in
        let y : ℕ = z + listing_size (type_of b) in
        let below : List Ty = ty.List ty.Text ∷ s in
        let pos = size-positive (types_in sc) a in
        whole-then files (expr_code a sc p s) (listing at (type_of a) ++ (expr_code b sc right below ++ (listing at (type_of b) ++ one at OutOfDate))) p q (ap (λ n. p + n) (expr-count a sc p s)) (expr-whole a sc p s pr.0 h.0 v l)
        (whole-then files (listing at (type_of a)) (expr_code b sc right below ++ (listing at (type_of b) ++ one at OutOfDate)) q right (ap (λ n. q + n) (listing-count at (type_of a))) (listing-whole at (type_of a) q i)
        (whole-then files (expr_code b sc right below) (listing at (type_of b) ++ one at OutOfDate) right z (ap (λ n. right + n) (expr-count b sc right below)) (expr-whole b sc right below pr.1 h.1 (texts-value, v) (omega (arith, l, pos)))
        (whole-then files (listing at (type_of b)) (one at OutOfDate) z y (ap (λ n. z + n) (listing-count at (type_of b))) (listing-whole at (type_of b) z i) (tt, i, tt))))

    pub trees-whole : (es : Trees) (sc : Scope) (p : ℕ) (s : List Ty) → AreProperExprs files es → HaveTypes es → AreValueTys s → length s ≤ p → W (trees_code es sc p s) p
    trees-whole none sc p s pr h v l = tt
    trees-whole (more e es) sc p s pr h v l =
        let q : ℕ = p + expr_size (types_in sc) e in
        let pos = size-positive (types_in sc) e in
        whole-then files (expr_code e sc p s) (trees_code es sc q (type_of e ∷ s)) p q (ap (λ n. p + n) (expr-count e sc p s)) (expr-whole e sc p s pr.0 h.0 v l) (trees-whole es sc q (type_of e ∷ s) pr.1 h.1 (type-value e h.0, v) (omega (arith, l, pos)))

    pairs-whole : (ps : TreePairs) (sc : Scope) (p : ℕ) (s : List Ty) → AreProperPairs files ps → HavePairTypes ps → AreValueTys s → length s ≤ p → W (pairs_code ps sc p s) p
    pairs-whole no_pairs sc p s pr h v l = tt
    pairs-whole (more_pairs k x ps) sc p s pr h v l =
        let q : ℕ = p + expr_size (types_in sc) k in
        let z : ℕ = q + expr_size (types_in sc) x in
        let pk = size-positive (types_in sc) k in
        let px = size-positive (types_in sc) x in
        whole-then files (expr_code k sc p s) (expr_code x sc q (ty.Text ∷ s) ++ pairs_code ps sc z (type_of x ∷ ty.Text ∷ s)) p q (ap (λ n. p + n) (expr-count k sc p s)) (expr-whole k sc p s pr.0 h.0 v l)
        (whole-then files (expr_code x sc q (ty.Text ∷ s)) (pairs_code ps sc z (type_of x ∷ ty.Text ∷ s)) q z (ap (λ n. q + n) (expr-count x sc q (ty.Text ∷ s))) (expr-whole x sc q (ty.Text ∷ s) pr.1 h.1 (text-value, v) (omega (arith, l, pk)))
        (pairs-whole ps sc z (type_of x ∷ ty.Text ∷ s) pr.2 h.2 (type-value x h.1, (text-value, v)) (omega (arith, l, pk, px))))

  pub call-whole : (f : List ℕ) (es : Trees) (at : At) (sc : Scope) (p : ℕ) (s : List Ty) → IsInFile files at → AreProperExprs files es → HaveTypes es → AreValueTys s → length s ≤ p → W (trees_code es sc p s ++ one at (Call (function_number sc f))) p
  call-whole f es at sc p s i pr h v l = called f es at sc p s i (trees-whole es sc p s pr h v l)

  pub called-whole : (a : Tree) (m : List ℕ) (es : Trees) (at : At) (sc : Scope) (p : ℕ) (s : List Ty) → IsInFile files at → IsProperExpr files a → AreProperExprs files es → HasTypes a → HaveTypes es → AreValueTys s → length s ≤ p
      → W (expr_code a sc p s ++ (trees_code es sc (p + expr_size (types_in sc) a) (type_of a ∷ s) ++ method_code at (signature_of (type_of a) m (tree_count es)))) p
  called-whole a m es at sc p s i pa pe ha he v l = on-receiver a m es at sc p s i (expr-whole a sc p s pa ha v l) (trees-whole es sc (p + expr_size (types_in sc) a) (type_of a ∷ s) pe he (type-value a ha, v) (deeper sc a p s l))

  pub files-whole : (e : Tree) (at : At) (sc : Scope) (p : ℕ) (s : List Ty) → IsInFile files at → IsProperExpr files e → HasTypes e → AreValueTys s → length s ≤ p → W (files_code e at sc p s) p
  files-whole e at sc p s i pr h v l =
      let q : ℕ = p + expr_size (types_in sc) e in
      whole-then files (expr_code e sc p s) (listing at (type_of e)) p q (ap (λ n. p + n) (expr-count e sc p s)) (expr-whole e sc p s pr h v l) (listing-whole at (type_of e) q i)
