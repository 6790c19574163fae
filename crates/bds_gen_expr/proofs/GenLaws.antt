-- What is written in order is what the marks of an expression write.
use Rattle.std.proofs.Common.{◌≡◌, ◌≤◌, ◌<◌, ◌+◌, ℕ, List, [], ◌∷◌, ◌++◌, length, length-append, reverse, refl, sym, ◌∙◌, ap, subst, arith, true, false, append_assoc}
use Rattle.std.proofs.lemmas.List.{reverse-append, reverse-reverse, length-set}
use Rattle.bds_value.specs.declared.value.At.{At}
use Rattle.bds_value.specs.declared.value.Ty.{Ty}
use Rattle.bds_value.specs.declared.value.Ty.TheVariants as ty
use Rattle.bds_value.specs.Methods.{signature_of}
use Rattle.bds_tree.specs.declared.expr.BinaryOp.TheVariants as op
use Rattle.bds_tree.specs.Tree.{Tree, FormTree, Trees, TreePairs, node, number, text, truth, name, call, group, list, mapping, item, key, method, prefix, binary, choice, dependency, none, more, no_pairs, more_pairs, type_of}
use Rattle.bds_code.specs.declared.instr.Instr.{Instr}
use Rattle.bds_code.specs.declared.instr.Instr.TheVariants.{PushBool, MakeList, MakeMap, Item, Key, Jump, JumpUnless, Call, OutOfDate}
use Rattle.bds_code.specs.declared.unit.Function.{Function}
use Rattle.bds_value.specs.Types.{list_item, map_item}
use Rattle.bds_check_names.specs.Types.{or_void}
use Rattle.bds_check_rules.specs.Typing.{count as tree_count}
use Rattle.bds_check_size.specs.declared.sums.Sum.{Sum}
use Rattle.bds_check_size.specs.declared.sums.Sum.TheVariants as sums
use Rattle.bds_check_size.specs.ExprSize.{sum_of, expr_size, listing_size}
use Rattle.bds_gen_expr.specs.Marks.{Mark, does, label, one, count, put, labelled, written}
use Rattle.bds_gen_expr.specs.declared.scope.Scope.{Scope}
use Rattle.bds_gen_expr.specs.Scope.{types_in, function_number}
use Rattle.bds_gen_expr.specs.ExprCode.{sum_between, sum_behind, between_size, left_ty, operator, sign_of, method_code, listing, pair_count, expr_code, form_code, trees_code, pairs_code}
use Rattle.bds_gen_expr.specs.Gen.{act, mark, patched, begin_other, end_at, gen, gen_form, gen_all, gen_pairs}
use Rattle.bds_gen_expr.proofs.Written.{written-append, length-written, patched-written, patched-act}
use Rattle.bds_gen_expr.proofs.Counts.{expr-count, listing-count}

-- the place behind an expression
behind : (e : Tree) (sc : Scope) (p : ℕ) (s : List Ty) (g : Function) → length g.code ≡ p → length (written g (expr_code e sc p s)).code ≡ p + expr_size (types_in sc) e
behind e sc p s g h = let a = length-written (expr_code e sc p s) g in let c = expr-count e sc p s in omega (arith, a, c, h)

pub mark-is : (g : Function) (shape : List Ty) → mark g shape ≡ put g (label (reverse shape))
mark-is g shape = ap (λ s. record_of s) (sym (reverse-reverse shape))
  where
    record_of : List Ty → Function
    record_of s = record g { labels = labelled g.labels (length g.code) s }

pub longer : (shape : List Ty) (t : Ty) → reverse (shape ++ t ∷ []) ≡ t ∷ reverse shape
longer shape t = reverse-append shape (t ∷ [])

sum-count : (at : At) (sum : Sum) → count (sum_between at sum) ≡ between_size sum
sum-count at sums.Numbers = refl
sum-count at sums.ItemAdded = refl
sum-count at sums.ListsJoined = refl
sum-count at sums.Texts = refl

-- what a function becomes by marks that stand from a place to another
pub record Wrote (g h : Function) (ms : List Mark) (p q : ℕ) : Type 0 where
  pub is : h ≡ written g ms
  pub to : length h.code ≡ q

wrote_then : (g h k : Function) (ms ns : List Mark) (p q r : ℕ) → Wrote g h ms p q → Wrote h k ns q r → Wrote g k (ms ++ ns) p r
wrote_then g h k ms ns p q r a b = record { is = b.is ∙ ap (λ x. written x ns) a.is ∙ sym (written-append ms ns g); to = b.to }

wrote : (g : Function) (ms : List Mark) (p q : ℕ) → length g.code ≡ p → p + count ms ≡ q → Wrote g (written g ms) ms p q
wrote g ms p q h e = record { is = refl; to = (let l = length-written ms g in omega (arith, l, h, e)) }

wrote-act : (g : Function) (at : At) (i j : Instr) (p q : ℕ) → length g.code ≡ p → p + 1 ≡ q → i ≡ j → Wrote g (act g at i) (one at j) p q
wrote-act g at i j p q h e same = record { is = ap (λ x. put g (does x at)) same; to = (let l = length-append g.code (i ∷ []) in omega (arith, l, h, e)) }

wrote-mark : (g : Function) (shape s : List Ty) (p : ℕ) → length g.code ≡ p → reverse shape ≡ s → Wrote g (mark g shape) (label s ∷ []) p p
wrote-mark g shape s p h r = record { is = mark-is g shape ∙ ap (λ x. put g (label x)) r; to = h }

wrote-end : (g h : Function) (ms : List Mark) (p q r : ℕ) → q ≡ r → Wrote g h ms p q → Wrote g h ms p r
wrote-end g h ms p q r e a = subst (Wrote g h ms p) e a

-- what was written behind a place stays as it is where the instruction there changes
turned : (g h : Function) (ms : List Mark) (n p q : ℕ) (i : Instr) → n < length g.code → Wrote g h ms p q → Wrote (patched g n i) (patched h n i) ms p q
turned g h ms n p q i l a = record {
  is = ap (λ (x : Function). patched x n i) a.is ∙ patched-written ms g n i l;
  to = length-set h.code n i ∙ a.to;
}

-- where it is the instruction that was written last
turned-act : (g h : Function) (at : At) (ms : List Mark) (n p q : ℕ) (j i : Instr) → n ≡ length g.code → Wrote (act g at j) h ms p q → Wrote (act g at i) (patched h n i) ms p q
turned-act g h at ms n p q j i e a =
    let l = length-append g.code (j ∷ []) in
    let before : n < length (act g at j).code = omega (arith, e, l) in
    subst (λ (x : Function). Wrote x (patched h n i) ms p q) (ap (λ k. patched (act g at j) k i) e ∙ patched-act g at j i) (turned (act g at j) h ms n p q i before a)

expr-wrote : (e : Tree) (sc : Scope) (shape : List Ty) (g : Function) (p : ℕ) (s : List Ty) → length g.code ≡ p → gen e sc shape g ≡ written g (expr_code e sc p s) → Wrote g (gen e sc shape g) (expr_code e sc p s) p (p + expr_size (types_in sc) e)
expr-wrote e sc shape g p s h is = record { is = is; to = ap (λ (x : Function). length x.code) is ∙ behind e sc p s g h }

-- where the second of two ways begins
pub other-place : (g : Function) (n : ℕ) (at : At) (shape : List Ty) (r2 other : ℕ) → length g.code ≡ r2 → r2 + 1 ≡ other → length (begin_other g n at shape).code ≡ other
other-place g n at shape r2 other h e = let a = length-set (g.code ++ Jump 0 ∷ []) n (JumpUnless (length g.code + 1)) in let b = length-append g.code (Jump 0 ∷ []) in omega (arith, a, b, h, e)

-- two ways, of which a test takes one
pub choice-wrote : (gb gy gn : Function) (at : At) (shape s : List Ty) (t : Ty) (way detour : List Mark) (q right r2 other end k : ℕ) → reverse shape ≡ s → q + 1 ≡ right → r2 + 1 ≡ other → other + k ≡ end → length gb.code ≡ q
    → Wrote (act gb at (JumpUnless 0)) gy way right r2 → right ≤ r2 → Wrote (begin_other gy (length gb.code) at shape) gn detour other end
    → Wrote gb (end_at gn (length gy.code) (shape ++ t ∷ [])) (does (JumpUnless other) at ∷ (way ++ (does (Jump end) at ∷ label s ∷ (detour ++ (label (t ∷ s) ∷ []))))) q end
choice-wrote gb gy gn at shape s t way detour q right r2 other end k r er eo ee to wy low wn =
    let n : ℕ = length gb.code in
    let m : ℕ = length gy.code in
    let to_y = wy.to in
    let to_n = wn.to in
    let same : m + 1 ≡ other = omega (arith, to_y, eo) in
    let last : length gn.code + 0 ≡ end = omega (arith, to_n) in
    let test : Instr = JumpUnless (m + 1) in
    let jump : Instr = Jump (length gn.code + 0) in
    let g3 : Function = act gy at (Jump 0) in
    let g4 : Function = mark g3 shape in
    let w3 = wrote-act gy at (Jump 0) (Jump 0) r2 other wy.to eo refl in
    let w4 = wrote-mark g3 shape s other w3.to r in
    let w34 = wrote_then gy g3 g4 (one at (Jump 0)) (label s ∷ []) r2 other other w3 w4 in
    let before : n < length gy.code = omega (arith, to, to_y, er, low) in
    let k1 : Function = act gb at test in
    let k2 : Function = patched gy n test in
    let k4 : Function = patched g4 n test in
    let v1 = wrote-act gb at test (JumpUnless other) q right to er (ap (λ x. JumpUnless x) same) in
    let v2 = turned-act gb gy at way n right r2 (JumpUnless 0) test refl wy in
    let v34 = turned gy g4 (does (Jump 0) at ∷ label s ∷ []) n r2 other test before w34 in
    let both = wrote_then k2 k4 gn (does (Jump 0) at ∷ label s ∷ []) detour r2 other end v34 wn in
    let behind_jump : Wrote (act k2 at (Jump 0)) gn (label s ∷ detour) other end = record { is = both.is; to = wn.to } in
    let at_jump : m ≡ length k2.code = sym (length-set gy.code n test) in
    let further : m < length gn.code = omega (arith, to_y, to_n, eo, ee) in
    let l3 : Function = act k2 at jump in
    let l5 : Function = patched gn m jump in
    let x3 = wrote-act k2 at jump (Jump end) r2 other v2.to eo (ap (λ x. Jump x) last) in
    let x5 = turned-act k2 gn at (label s ∷ detour) m other end (Jump 0) jump at_jump behind_jump in
    let l6 : Function = mark gn (shape ++ t ∷ []) in
    let w6 = wrote-mark gn (shape ++ t ∷ []) (t ∷ s) end wn.to (longer shape t ∙ ap (λ x. t ∷ x) r) in
    let l7 : Function = patched l6 m jump in
    let x6 = turned gn l6 (label (t ∷ s) ∷ []) m end end jump further w6 in
    wrote_then gb k1 l7 (one at (JumpUnless other)) _ q right end v1
    (wrote_then k1 k2 l7 way _ right r2 end v2
    (wrote_then k2 l3 l7 (one at (Jump end)) _ r2 other end x3
    (wrote_then l3 l5 l7 (label s ∷ detour) (label (t ∷ s) ∷ []) other end end x5 x6)))

straight-is : (a b : Tree) (last : List Mark) (sc : Scope) (shape : List Ty) (g : Function) (p : ℕ) (s : List Ty) → Wrote g (gen a sc shape g) (expr_code a sc p s) p (p + expr_size (types_in sc) a) → reverse shape ≡ s
    → ((q : ℕ) (s2 : List Ty) → length (gen a sc shape g).code ≡ q → reverse (shape ++ type_of a ∷ []) ≡ s2 → gen b sc (shape ++ type_of a ∷ []) (gen a sc shape g) ≡ written (gen a sc shape g) (expr_code b sc q s2))
    → written (gen b sc (shape ++ type_of a ∷ []) (gen a sc shape g)) last ≡ written g (expr_code a sc p s ++ (expr_code b sc (p + expr_size (types_in sc) a) (type_of a ∷ s) ++ last))
straight-is a b last sc shape g p s first r second =
    let q : ℕ = p + expr_size (types_in sc) a in
    let ga : Function = gen a sc shape g in
    let is = second q (type_of a ∷ s) first.to (longer shape (type_of a) ∙ ap (λ x. type_of a ∷ x) r) in
    ap (λ x. written x last) is ∙ sym (written-append (expr_code b sc q (type_of a ∷ s)) last ga) ∙ ap (λ x. written x (expr_code b sc q (type_of a ∷ s) ++ last)) first.is
    ∙ sym (written-append (expr_code a sc p s) (expr_code b sc q (type_of a ∷ s) ++ last) g)

mutual
  pub gen-is : (e : Tree) (sc : Scope) (shape : List Ty) (g : Function) (p : ℕ) (s : List Ty) → length g.code ≡ p → reverse shape ≡ s → gen e sc shape g ≡ written g (expr_code e sc p s)
  gen-is (node at t f) sc shape g p s h r = form-is f at t sc shape g p s h r

  form-is : (f : FormTree) (at : At) (t : Ty) (sc : Scope) (shape : List Ty) (g : Function) (p : ℕ) (s : List Ty) → length g.code ≡ p → reverse shape ≡ s → gen_form f at t sc shape g ≡ written g (form_code f at t sc p s)
  form-is (number v) at t sc shape g p s h r = refl
  form-is (text ps) at t sc shape g p s h r = refl
  form-is (truth b) at t sc shape g p s h r = refl
  form-is (name x) at t sc shape g p s h r = refl
  form-is (call f es) at t sc shape g p s h r = ap (λ x. put x (does (Call (function_number sc f)) at)) (all-is es sc shape g p s h r) ∙ sym (written-append (trees_code es sc p s) (one at (Call (function_number sc f))) g)
  form-is (group e) at t sc shape g p s h r = gen-is e sc shape g p s h r
  form-is (list es) at t sc shape g p s h r = ap (λ x. put x (does (MakeList (or_void (list_item t)) (tree_count es)) at)) (all-is es sc shape g p s h r) ∙ sym (written-append (trees_code es sc p s) (one at (MakeList (or_void (list_item t)) (tree_count es))) g)
  form-is (mapping ps) at t sc shape g p s h r = ap (λ x. put x (does (MakeMap (or_void (map_item t)) (pair_count ps)) at)) (pairs-are ps sc shape g p s h r) ∙ sym (written-append (pairs_code ps sc p s) (one at (MakeMap (or_void (map_item t)) (pair_count ps))) g)
  form-is (item a i) at t sc shape g p s h r = straight-is a i (one at Item) sc shape g p s (expr-wrote a sc shape g p s h (gen-is a sc shape g p s h r)) r (gen-is i sc (shape ++ type_of a ∷ []) (gen a sc shape g))
  form-is (key a k) at t sc shape g p s h r = straight-is a k (one at Key) sc shape g p s (expr-wrote a sc shape g p s h (gen-is a sc shape g p s h r)) r (gen-is k sc (shape ++ type_of a ∷ []) (gen a sc shape g))
  form-is (method a m es) at t sc shape g p s h r =
      let q : ℕ = p + expr_size (types_in sc) a in
      let ga : Function = gen a sc shape g in
      let first = expr-wrote a sc shape g p s h (gen-is a sc shape g p s h r) in
      let last : List Mark = method_code at (signature_of (type_of a) m (tree_count es)) in
      let args = all-is es sc (shape ++ type_of a ∷ []) ga q (type_of a ∷ s) first.to (longer shape (type_of a) ∙ ap (λ x. type_of a ∷ x) r) in
      ap (λ x. written x last) args ∙ sym (written-append (trees_code es sc q (type_of a ∷ s)) last ga) ∙ ap (λ x. written x (trees_code es sc q (type_of a ∷ s) ++ last)) first.is
      ∙ sym (written-append (expr_code a sc p s) (trees_code es sc q (type_of a ∷ s) ++ last) g)
  form-is (prefix o a) at t sc shape g p s h r = ap (λ x. put x (does (sign_of o) at)) (gen-is a sc shape g p s h r) ∙ sym (written-append (expr_code a sc p s) (one at (sign_of o)) g)
  form-is (binary a op.And b) at t sc shape g p s h r =
      let first = expr-wrote a sc shape g p s h (gen-is a sc shape g p s h r) in
      let q : ℕ = p + expr_size (types_in sc) a in
      let right : ℕ = q + 1 in
      let r2 : ℕ = right + expr_size (types_in sc) b in
      let other : ℕ = r2 + 1 in
      let end : ℕ = other + 1 in
      let ga : Function = gen a sc shape g in
      let g1 : Function = act ga at (JumpUnless 0) in
      let w1 = wrote-act ga at (JumpUnless 0) (JumpUnless 0) q right first.to refl refl in
      let g2 : Function = gen b sc shape g1 in
      let w2 = expr-wrote b sc shape g1 right s w1.to (gen-is b sc shape g1 right s w1.to r) in
      let g3 : Function = begin_other g2 (length ga.code) at shape in
      let g4 : Function = act g3 at (PushBool false) in
      let w4 = wrote-act g3 at (PushBool false) (PushBool false) other end (other-place g2 (length ga.code) at shape r2 other w2.to refl) refl refl in
      (wrote_then g ga (end_at g4 (length g2.code) (shape ++ ty.Bool ∷ [])) (expr_code a sc p s) _ p q end first
      (choice-wrote ga g2 g4 at shape s ty.Bool (expr_code b sc right s) (one at (PushBool false)) q right r2 other end 1 r refl refl refl first.to w2 (omega arith) w4)).is
  form-is (binary a op.Or b) at t sc shape g p s h r =
      let first = expr-wrote a sc shape g p s h (gen-is a sc shape g p s h r) in
      let q : ℕ = p + expr_size (types_in sc) a in
      let other : ℕ = q + 3 in
      let end : ℕ = other + expr_size (types_in sc) b in
      let ga : Function = gen a sc shape g in
      let g1 : Function = act ga at (JumpUnless 0) in
      let w1 = wrote-act ga at (JumpUnless 0) (JumpUnless 0) q (q + 1) first.to refl refl in
      let g2 : Function = act g1 at (PushBool true) in
      let w2 = wrote-act g1 at (PushBool true) (PushBool true) (q + 1) (q + 2) w1.to (omega arith) refl in
      let g3 : Function = begin_other g2 (length ga.code) at shape in
      let there : length g3.code ≡ other = other-place g2 (length ga.code) at shape (q + 2) other w2.to (omega arith) in
      let g4 : Function = gen b sc shape g3 in
      let w4 = expr-wrote b sc shape g3 other s there (gen-is b sc shape g3 other s there r) in
      (wrote_then g ga (end_at g4 (length g2.code) (shape ++ ty.Bool ∷ [])) (expr_code a sc p s) _ p q end first
      (choice-wrote ga g2 g4 at shape s ty.Bool (one at (PushBool true)) (expr_code b sc other s) q (q + 1) (q + 2) other end (expr_size (types_in sc) b) r refl (omega arith) refl first.to w2 (omega arith) w4)).is
  form-is (binary a op.Add b) at t sc shape g p s h r =
      let sum : Sum = sum_of (type_of a) (type_of b) in
      let q : ℕ = p + expr_size (types_in sc) a in
      let right : ℕ = q + between_size sum in
      let end : ℕ = right + expr_size (types_in sc) b in
      let ga : Function = gen a sc shape g in
      let first = expr-wrote a sc shape g p s h (gen-is a sc shape g p s h r) in
      let g1 : Function = written ga (sum_between at sum) in
      let w1 = wrote ga (sum_between at sum) q right first.to (ap (λ n. q + n) (sum-count at sum)) in
      let g2 : Function = gen b sc (shape ++ left_ty sum (type_of a) ∷ []) g1 in
      let w2 = expr-wrote b sc (shape ++ left_ty sum (type_of a) ∷ []) g1 right (left_ty sum (type_of a) ∷ s) w1.to (gen-is b sc (shape ++ left_ty sum (type_of a) ∷ []) g1 right (left_ty sum (type_of a) ∷ s) w1.to (longer shape (left_ty sum (type_of a)) ∙ ap (λ x. left_ty sum (type_of a) ∷ x) r)) in
      let w3 = wrote g2 (sum_behind at sum) end (end + count (sum_behind at sum)) w2.to refl in
      (wrote_then g ga (written g2 (sum_behind at sum)) (expr_code a sc p s) _ p q (end + count (sum_behind at sum)) first
      (wrote_then ga g1 (written g2 (sum_behind at sum)) (sum_between at sum) _ q right (end + count (sum_behind at sum)) w1
      (wrote_then g1 g2 (written g2 (sum_behind at sum)) (expr_code b sc right (left_ty sum (type_of a) ∷ s)) (sum_behind at sum) right end (end + count (sum_behind at sum)) w2 w3))).is
  form-is (binary a o b) at t sc shape g p s h r = straight-is a b (one at (operator o)) sc shape g p s (expr-wrote a sc shape g p s h (gen-is a sc shape g p s h r)) r (gen-is b sc (shape ++ type_of a ∷ []) (gen a sc shape g))
  form-is (choice c a b) at t sc shape g p s h r =
      let first = expr-wrote c sc shape g p s h (gen-is c sc shape g p s h r) in
      let q : ℕ = p + expr_size (types_in sc) c in
      let right : ℕ = q + 1 in
      let r2 : ℕ = right + expr_size (types_in sc) a in
      let other : ℕ = r2 + 1 in
      let end : ℕ = other + expr_size (types_in sc) b in
      let gc : Function = gen c sc shape g in
      let g1 : Function = act gc at (JumpUnless 0) in
      let w1 = wrote-act gc at (JumpUnless 0) (JumpUnless 0) q right first.to refl refl in
      let g2 : Function = gen a sc shape g1 in
      let w2 = expr-wrote a sc shape g1 right s w1.to (gen-is a sc shape g1 right s w1.to r) in
      let g3 : Function = begin_other g2 (length gc.code) at shape in
      let there : length g3.code ≡ other = other-place g2 (length gc.code) at shape r2 other w2.to refl in
      let g4 : Function = gen b sc shape g3 in
      let w4 = expr-wrote b sc shape g3 other s there (gen-is b sc shape g3 other s there r) in
      (wrote_then g gc (end_at g4 (length g2.code) (shape ++ t ∷ [])) (expr_code c sc p s) _ p q end first
      (choice-wrote gc g2 g4 at shape s t (expr_code a sc right s) (expr_code b sc other s) q right r2 other end (expr_size (types_in sc) b) r refl refl refl first.to w2 (omega arith) w4)).is
  form-is (dependency a b) at t sc shape g p s h r =
      let q : ℕ = p + expr_size (types_in sc) a in
      let right : ℕ = q + listing_size (type_of a) in
      let end : ℕ = right + expr_size (types_in sc) b in
      let ga : Function = gen a sc shape g in
      let first = expr-wrote a sc shape g p s h (gen-is a sc shape g p s h r) in
      let g1 : Function = written ga (listing at (type_of a)) in
      let w1 = wrote ga (listing at (type_of a)) q right first.to (ap (λ n. q + n) (listing-count at (type_of a))) in
      let g2 : Function = gen b sc (shape ++ ty.List ty.Text ∷ []) g1 in
      let w2 = expr-wrote b sc (shape ++ ty.List ty.Text ∷ []) g1 right (ty.List ty.Text ∷ s) w1.to (gen-is b sc (shape ++ ty.List ty.Text ∷ []) g1 right (ty.List ty.Text ∷ s) w1.to (longer shape (ty.List ty.Text) ∙ ap (λ x. ty.List ty.Text ∷ x) r)) in
      let g3 : Function = written g2 (listing at (type_of b)) in
      let z : ℕ = end + listing_size (type_of b) in
      let w3 = wrote g2 (listing at (type_of b)) end z w2.to (ap (λ n. end + n) (listing-count at (type_of b))) in
      let w4 = wrote-act g3 at OutOfDate OutOfDate z (z + 1) w3.to refl refl in
      let last : Function = act g3 at OutOfDate in
      (wrote_then g ga last (expr_code a sc p s) _ p q (z + 1) first
      (wrote_then ga g1 last (listing at (type_of a)) _ q right (z + 1) w1
      (wrote_then g1 g2 last (expr_code b sc right (ty.List ty.Text ∷ s)) _ right end (z + 1) w2
      (wrote_then g2 g3 last (listing at (type_of b)) (one at OutOfDate) end z (z + 1) w3 w4)))).is

  pub all-is : (es : Trees) (sc : Scope) (shape : List Ty) (g : Function) (p : ℕ) (s : List Ty) → length g.code ≡ p → reverse shape ≡ s → gen_all es sc shape g ≡ written g (trees_code es sc p s)
  all-is none sc shape g p s h r = refl
  all-is (more e es) sc shape g p s h r =
      let q : ℕ = p + expr_size (types_in sc) e in
      let first = gen-is e sc shape g p s h r in
      let place : length (gen e sc shape g).code ≡ q = ap (λ (x : Function). length x.code) first ∙ behind e sc p s g h in
      all-is es sc (shape ++ type_of e ∷ []) (gen e sc shape g) q (type_of e ∷ s) place (longer shape (type_of e) ∙ ap (λ x. type_of e ∷ x) r)
      ∙ ap (λ x. written x (trees_code es sc q (type_of e ∷ s))) first ∙ sym (written-append (expr_code e sc p s) (trees_code es sc q (type_of e ∷ s)) g)

  pairs-are : (ps : TreePairs) (sc : Scope) (shape : List Ty) (g : Function) (p : ℕ) (s : List Ty) → length g.code ≡ p → reverse shape ≡ s → gen_pairs ps sc shape g ≡ written g (pairs_code ps sc p s)
  pairs-are no_pairs sc shape g p s h r = refl
  pairs-are (more_pairs k v ps) sc shape g p s h r =
      let q : ℕ = p + expr_size (types_in sc) k in
      let z : ℕ = q + expr_size (types_in sc) v in
      let first = expr-wrote k sc shape g p s h (gen-is k sc shape g p s h r) in
      let g1 : Function = gen k sc shape g in
      let behind_key : reverse (shape ++ ty.Text ∷ []) ≡ ty.Text ∷ s = longer shape ty.Text ∙ ap (λ x. ty.Text ∷ x) r in
      let second = expr-wrote v sc (shape ++ ty.Text ∷ []) g1 q (ty.Text ∷ s) first.to (gen-is v sc (shape ++ ty.Text ∷ []) g1 q (ty.Text ∷ s) first.to behind_key) in
      let g2 : Function = gen v sc (shape ++ ty.Text ∷ []) g1 in
      let rest = pairs-are ps sc ((shape ++ ty.Text ∷ []) ++ type_of v ∷ []) g2 z (type_of v ∷ ty.Text ∷ s) second.to (longer (shape ++ ty.Text ∷ []) (type_of v) ∙ ap (λ x. type_of v ∷ x) behind_key) in
      let both = wrote_then g g1 g2 (expr_code k sc p s) (expr_code v sc q (ty.Text ∷ s)) p q z first second in
      rest ∙ ap (λ x. written x (pairs_code ps sc z (type_of v ∷ ty.Text ∷ s))) both.is
      ∙ sym (written-append (expr_code k sc p s ++ expr_code v sc q (ty.Text ∷ s)) (pairs_code ps sc z (type_of v ∷ ty.Text ∷ s)) g)
      ∙ ap (written g) (append_assoc (expr_code k sc p s) (expr_code v sc q (ty.Text ∷ s)) (pairs_code ps sc z (type_of v ∷ ty.Text ∷ s)))
