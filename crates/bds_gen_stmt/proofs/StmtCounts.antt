-- How many instructions and slots the code of statements has. The forms that are shown here are those of `IsStmtHere`.
use Rattle.std.proofs.Common.{◌≡◌, ◌+◌, ℕ, zero, suc, List, [], ◌∷◌, ◌++◌, Option, Some, None, Bool, true, false, refl, ◌∙◌, ap, arith, if◌then◌else◌}
use Rattle.std.specs.Prelude.{length}
use Rattle.bds_value.specs.declared.value.At.{At}
use Rattle.bds_value.specs.declared.methods.Method.{Method}
use Rattle.bds_value.specs.declared.methods.Method.TheVariants as by
use Rattle.bds_value.specs.Methods.{signature_of}
use Rattle.bds_value.specs.declared.value.Ty.{Ty}
use Rattle.bds_value.specs.declared.value.Ty.TheVariants as ty
use Rattle.bds_tree.specs.declared.expr.BinaryOp.TheVariants as op
use Rattle.bds_tree.specs.Tree.{Tree, FormTree, Trees, TreePairs, node, number, text, truth, name, call, group, list, mapping, item, key, method, prefix, binary, choice, dependency, none, more, no_pairs, more_pairs, type_of}
use Rattle.bds_tree.specs.StmtTree.{StmtTree, LineTree, stmt, line, declare, infer}
use Rattle.bds_code.specs.declared.instr.Instr.TheVariants.{MakeList, MakeMap, Key, OutOfDate, Add, ListAdd, ListCat, Item, Call, PushBool, StoreGlobal, Store, Drop, JumpUnless, Jump, Tick, Show, Concat}
use Rattle.bds_check_names.specs.declared.names.Variable.{Variable}
use Rattle.bds_value.specs.Types.{same_ty, list_item, map_item}
use Rattle.bds_check_names.specs.Types.{or_void}
use Rattle.bds_check_rules.specs.Typing.{count as tree_count}
use Rattle.bds_check_names.specs.Slots.{line_slots}
use Rattle.bds_check_rules.specs.StmtBreaks.{right_type}
use Rattle.bds_check_size.specs.StmtSize.{known_behind}
use Rattle.bds_check_size.specs.Parts.{Part, says, shows, shows_at, shows_at_name, shows_key, shows_key_name, parts_of}
use Rattle.bds_check_size.specs.ExprSize.{listing_size, sum_of, expr_size}
use Rattle.bds_check_size.specs.declared.sums.Sum.{Sum}
use Rattle.bds_check_size.specs.declared.sums.Sum.TheVariants as sums
use Rattle.bds_check_size.specs.Known.{Known, look}
use Rattle.bds_gen_expr.specs.Marks.{Mark, does, label, slot, count, slot_count, one}
use Rattle.bds_gen_expr.specs.declared.scope.Numbered.{Numbered}
use Rattle.bds_gen_expr.specs.declared.scope.Scope.{Scope}
use Rattle.bds_gen_expr.specs.Numbers.{variables_of, numbered}
use Rattle.bds_gen_expr.specs.Scope.{known, with_one_global, function_number}
use Rattle.bds_gen_expr.specs.ExprCode.{method_code, file_code, pairs_code, pair_count, part_code, joined_code, parts_code, listing, expr_code, form_code, trees_code, sum_between, sum_behind, between_size, left_ty, operator, sign_of}
use Rattle.bds_gen_stmt.specs.Spots.{Spot, Loop, declared_local, store_new}
use Rattle.bds_gen_stmt.specs.StmtCode.{leap, behind_line, behind}
use Rattle.bds_gen_expr.proofs.Counts.{counts}

-- Names behind

pub map-end : (ls : List Numbered) (l : Numbered) → variables_of (ls ++ l ∷ []) ≡ variables_of ls ++ l.variable ∷ []
map-end [] l = refl
map-end (k ∷ ls) l = ap (λ vs. k.variable ∷ vs) (map-end ls l)

declared-known : (b : Bool) (sp : Spot) (x : List ℕ) (t : Ty) → b ≡ false → known (if b then record sp { scope = with_one_global sp.scope x t (length sp.scope.globals) } else declared_local sp x t).scope ≡ record { locals = variables_of sp.scope.locals ++ record { name = x; ty = t } ∷ []; globals = variables_of sp.scope.globals }
declared-known true sp x t e = absurd (cc)
declared-known false sp x t e =
    ap (λ vs. record_of vs (variables_of sp.scope.globals)) (map-end sp.scope.locals (numbered x t sp.next))
  where
    record_of : List Variable → List Variable → Known
    record_of vs gs = record { locals = vs; globals = gs }

pub behind-known : (s : StmtTree) (sp : Spot) → sp.at_top ≡ false → known (behind s sp).scope ≡ known_behind s (known sp.scope)
behind-known (stmt at (line (declare t x r))) sp e = declared-known sp.at_top sp x t e
behind-known (stmt at (line (infer x r))) sp e = declared-known sp.at_top sp x (right_type r) e
behind-known (stmt at (line l)) sp e = refl
behind-known (stmt at f) sp e = refl

declared-low : (b : Bool) (sp : Spot) (x : List ℕ) (t : Ty) → b ≡ false → (if b then record sp { scope = with_one_global sp.scope x t (length sp.scope.globals) } else declared_local sp x t).at_top ≡ sp.at_top
declared-low true sp x t e = refl
declared-low false sp x t e = refl

pub behind-low : (s : StmtTree) (sp : Spot) → sp.at_top ≡ false → (behind s sp).at_top ≡ false
behind-low (stmt at (line (declare t x r))) sp e = declared-low sp.at_top sp x t e ∙ e
behind-low (stmt at (line (infer x r))) sp e = declared-low sp.at_top sp x (right_type r) e ∙ e
behind-low (stmt at (line l)) sp e = e
behind-low (stmt at f) sp e = e

-- Instructions

stored-count : (b : Bool) (g i : ℕ) (at : At) (t : Ty) → count (if b then one at (StoreGlobal g) else slot t ∷ does (Store i) at ∷ []) ≡ 1
stored-count true g i at t = refl
stored-count false g i at t = refl

pub store-count : (sp : Spot) (at : At) (t : Ty) → count (store_new sp at t) ≡ 1
store-count sp at t = stored-count sp.at_top (length sp.scope.globals) sp.next at t

pub leap-count : (at : At) (l : Option Loop) (to : Loop → ℕ) → count (leap at l to) ≡ 1
leap-count at None to = refl
leap-count at (Some l) to = refl

pub drop-count : (b : Bool) (at : At) → count (if b then [] else one at Drop) ≡ (if b then 0 else 1)
drop-count true at = refl
drop-count false at = refl

pub branch-count : (at : At) (test a b : List Mark) (other end n m k : ℕ) → count test ≡ n → count a ≡ m → count b ≡ k → count (test ++ (does (JumpUnless other) at ∷ (a ++ (does (Jump end) at ∷ label [] ∷ (b ++ (label [] ∷ [])))))) ≡ n + 1 + m + 1 + k
branch-count at test a b other end n m k e1 e2 e3 =
    let c1 = counts test (does (JumpUnless other) at ∷ (a ++ (does (Jump end) at ∷ label [] ∷ (b ++ (label [] ∷ []))))) in
    let c2 = counts a (does (Jump end) at ∷ label [] ∷ (b ++ (label [] ∷ []))) in
    let c3 = counts b (label [] ∷ []) in
    omega (arith, e1, e2, e3, c1, c2, c3)

pub if-count : (at : At) (test a : List Mark) (end n m : ℕ) → count test ≡ n → count a ≡ m → count (test ++ (does (JumpUnless end) at ∷ (a ++ (label [] ∷ [])))) ≡ n + 1 + m
if-count at test a end n m e1 e2 =
    let c1 = counts test (does (JumpUnless end) at ∷ (a ++ (label [] ∷ []))) in
    let c2 = counts a (label [] ∷ []) in
    omega (arith, e1, e2, c1, c2)

pub loop-count : (at : At) (test a : List Mark) (top end n m : ℕ) → count test ≡ n → count a ≡ m → count (label [] ∷ does Tick at ∷ (test ++ (does (JumpUnless end) at ∷ (a ++ (does (Jump top) at ∷ label [] ∷ []))))) ≡ 1 + n + 1 + m + 1
loop-count at test a top end n m e1 e2 =
    let c1 = counts test (does (JumpUnless end) at ∷ (a ++ (does (Jump top) at ∷ label [] ∷ []))) in
    let c2 = counts a (does (Jump top) at ∷ label [] ∷ []) in
    omega (arith, e1, e2, c1, c2)

-- Slots

pub slot_counts : (ms ns : List Mark) → slot_count (ms ++ ns) ≡ slot_count ms + slot_count ns
slot_counts [] ns = omega arith
slot_counts (does i at ∷ ms) ns = slot_counts ms ns
slot_counts (label s ∷ ms) ns = slot_counts ms ns
slot_counts (slot t ∷ ms) ns = let e = slot_counts ms ns in omega (arith, e)

pub no_slots : (ms ns : List Mark) → slot_count ms ≡ 0 → slot_count ns ≡ 0 → slot_count (ms ++ ns) ≡ 0
no_slots ms ns a b = let e = slot_counts ms ns in omega (arith, e, a, b)

part-slots : (sc : Scope) (at : At) (x : Part) → slot_count (part_code sc at x) ≡ 0
part-slots sc at (says t) = refl
part-slots sc at (shows x) = refl
part-slots sc at (shows_at x n) = refl
part-slots sc at (shows_at_name x y) = refl
part-slots sc at (shows_key x t) = refl
part-slots sc at (shows_key_name x y) = refl

joined-slots : (sc : Scope) (at : At) (ps : List Part) → slot_count (joined_code sc at ps) ≡ 0
joined-slots sc at [] = refl
joined-slots sc at (x ∷ ps) = no_slots (part_code sc at x) (does Concat at ∷ joined_code sc at ps) (part-slots sc at x) (joined-slots sc at ps)

pub parts-slots : (sc : Scope) (at : At) (ps : List Part) → slot_count (parts_code sc at ps) ≡ 0
parts-slots sc at [] = refl
parts-slots sc at (x ∷ ps) = no_slots (part_code sc at x) (joined_code sc at ps) (part-slots sc at x) (joined-slots sc at ps)

pub listing-slots : (at : At) (t : Ty) → slot_count (listing at t) ≡ 0
listing-slots at t = by (same_ty t ty.Text)
  where
    by : (b : Bool) → slot_count (if b then one at (MakeList ty.Text 1) else []) ≡ 0
    by true = refl
    by false = refl

sum-slots : (at : At) (sum : Sum) (ms : List Mark) → slot_count ms ≡ 0 → slot_count (sum_between at sum ++ (ms ++ sum_behind at sum)) ≡ 0
sum-slots at sums.Numbers ms h = no_slots ms (one at Add) h refl
sum-slots at sums.ItemAdded ms h = no_slots ms (one at ListAdd) h refl
sum-slots at sums.ListsJoined ms h = no_slots ms (one at ListCat) h refl
sum-slots at sums.Texts ms h = no_slots ms (does Show at ∷ does Concat at ∷ []) h refl

file-slots : (at : At) (n : ℕ) → slot_count (file_code at n) ≡ 0
file-slots at zero = refl
file-slots at (suc zero) = refl
file-slots at (suc (suc zero)) = refl
file-slots at (suc (suc (suc zero))) = refl
file-slots at (suc (suc (suc (suc n)))) = refl

method-slots : (at : At) (m : Option Method) → slot_count (method_code at m) ≡ 0
method-slots at (Some (by.Plain n)) = refl
method-slots at (Some (by.File n)) = file-slots at n
method-slots at (Some (by.Change n)) = refl
method-slots at None = refl

mutual
  pub expr-no-slots : (e : Tree) (sc : Scope) (p : ℕ) (s : List Ty) → slot_count (expr_code e sc p s) ≡ 0
  expr-no-slots (node at t f) sc p s = form-no-slots f at t sc p s

  form-no-slots : (f : FormTree) (at : At) (t : Ty) (sc : Scope) (p : ℕ) (s : List Ty) → slot_count (form_code f at t sc p s) ≡ 0
  form-no-slots (number v) at t sc p s = refl
  form-no-slots (truth b) at t sc p s = refl
  form-no-slots (name x) at t sc p s = refl
  form-no-slots (call f es) at t sc p s = no_slots (trees_code es sc p s) (one at (Call (function_number sc f))) (trees-no-slots es sc p s) refl
  form-no-slots (group e) at t sc p s = expr-no-slots e sc p s
  form-no-slots (item a i) at t sc p s =
      let q : ℕ = p + expr_size (look (known sc)) a in
      no_slots (expr_code a sc p s) (expr_code i sc q (type_of a ∷ s) ++ one at Item) (expr-no-slots a sc p s) (no_slots (expr_code i sc q (type_of a ∷ s)) (one at Item) (expr-no-slots i sc q (type_of a ∷ s)) refl)
  form-no-slots (text ps) at t sc p s = parts-slots sc at (parts_of (look (known sc)) ps)
  form-no-slots (mapping ps) at t sc p s = no_slots (pairs_code ps sc p s) (one at (MakeMap (or_void (map_item t)) (pair_count ps))) (pairs-no-slots ps sc p s) refl
  form-no-slots (list es) at t sc p s = no_slots (trees_code es sc p s) (one at (MakeList (or_void (list_item t)) (tree_count es))) (trees-no-slots es sc p s) refl
  form-no-slots (key a i) at t sc p s =
      let q : ℕ = p + expr_size (look (known sc)) a in
      no_slots (expr_code a sc p s) (expr_code i sc q (type_of a ∷ s) ++ one at Key) (expr-no-slots a sc p s) (no_slots (expr_code i sc q (type_of a ∷ s)) (one at Key) (expr-no-slots i sc q (type_of a ∷ s)) refl)
  form-no-slots (dependency a b) at t sc p s =
      let right : ℕ = p + expr_size (look (known sc)) a + listing_size (type_of a) in
      no_slots (expr_code a sc p s) (listing at (type_of a) ++ (expr_code b sc right (ty.List ty.Text ∷ s) ++ (listing at (type_of b) ++ one at OutOfDate))) (expr-no-slots a sc p s)
      (no_slots (listing at (type_of a)) (expr_code b sc right (ty.List ty.Text ∷ s) ++ (listing at (type_of b) ++ one at OutOfDate)) (listing-slots at (type_of a))
      (no_slots (expr_code b sc right (ty.List ty.Text ∷ s)) (listing at (type_of b) ++ one at OutOfDate) (expr-no-slots b sc right (ty.List ty.Text ∷ s)) (no_slots (listing at (type_of b)) (one at OutOfDate) (listing-slots at (type_of b)) refl)))
  form-no-slots (prefix o a) at t sc p s = no_slots (expr_code a sc p s) (one at (sign_of o)) (expr-no-slots a sc p s) refl
  form-no-slots (binary a op.And b) at t sc p s =
      let right : ℕ = p + expr_size (look (known sc)) a + 1 in
      let other : ℕ = right + expr_size (look (known sc)) b + 1 in
      no_slots (expr_code a sc p s) (does (JumpUnless other) at ∷ (expr_code b sc right s ++ (does (Jump (other + 1)) at ∷ label s ∷ does (PushBool false) at ∷ label (ty.Bool ∷ s) ∷ []))) (expr-no-slots a sc p s)
      (no_slots (expr_code b sc right s) (does (Jump (other + 1)) at ∷ label s ∷ does (PushBool false) at ∷ label (ty.Bool ∷ s) ∷ []) (expr-no-slots b sc right s) refl)
  form-no-slots (binary a op.Or b) at t sc p s =
      let right : ℕ = p + expr_size (look (known sc)) a + 3 in
      let end : ℕ = right + expr_size (look (known sc)) b in
      no_slots (expr_code a sc p s) (does (JumpUnless right) at ∷ does (PushBool true) at ∷ does (Jump end) at ∷ label s ∷ (expr_code b sc right s ++ (label (ty.Bool ∷ s) ∷ []))) (expr-no-slots a sc p s)
      (no_slots (expr_code b sc right s) (label (ty.Bool ∷ s) ∷ []) (expr-no-slots b sc right s) refl)
  form-no-slots (binary a op.Add b) at t sc p s =
      let sum : Sum = sum_of (type_of a) (type_of b) in
      let right : ℕ = p + expr_size (look (known sc)) a + between_size sum in
      no_slots (expr_code a sc p s) (sum_between at sum ++ (expr_code b sc right (left_ty sum (type_of a) ∷ s) ++ sum_behind at sum)) (expr-no-slots a sc p s)
      (sum-slots at sum (expr_code b sc right (left_ty sum (type_of a) ∷ s)) (expr-no-slots b sc right (left_ty sum (type_of a) ∷ s)))
  form-no-slots (binary a o b) at t sc p s =
      let q : ℕ = p + expr_size (look (known sc)) a in
      no_slots (expr_code a sc p s) (expr_code b sc q (type_of a ∷ s) ++ one at (operator o)) (expr-no-slots a sc p s) (no_slots (expr_code b sc q (type_of a ∷ s)) (one at (operator o)) (expr-no-slots b sc q (type_of a ∷ s)) refl)
  form-no-slots (choice c a b) at t sc p s =
      let then_place : ℕ = p + expr_size (look (known sc)) c + 1 in
      let other : ℕ = then_place + expr_size (look (known sc)) a + 1 in
      let end : ℕ = other + expr_size (look (known sc)) b in
      no_slots (expr_code c sc p s) (does (JumpUnless other) at ∷ (expr_code a sc then_place s ++ (does (Jump end) at ∷ label s ∷ (expr_code b sc other s ++ (label (t ∷ s) ∷ []))))) (expr-no-slots c sc p s)
      (no_slots (expr_code a sc then_place s) (does (Jump end) at ∷ label s ∷ (expr_code b sc other s ++ (label (t ∷ s) ∷ []))) (expr-no-slots a sc then_place s)
      (no_slots (expr_code b sc other s) (label (t ∷ s) ∷ []) (expr-no-slots b sc other s) refl))
  form-no-slots (method a m es) at t sc p s =
      let q : ℕ = p + expr_size (look (known sc)) a in
      let last : List Mark = method_code at (signature_of (type_of a) m (tree_count es)) in
      no_slots (expr_code a sc p s) (trees_code es sc q (type_of a ∷ s) ++ last) (expr-no-slots a sc p s)
      (no_slots (trees_code es sc q (type_of a ∷ s)) last (trees-no-slots es sc q (type_of a ∷ s)) (method-slots at (signature_of (type_of a) m (tree_count es))))

  pub trees-no-slots : (es : Trees) (sc : Scope) (p : ℕ) (s : List Ty) → slot_count (trees_code es sc p s) ≡ 0
  trees-no-slots none sc p s = refl
  trees-no-slots (more e es) sc p s =
      no_slots (expr_code e sc p s) (trees_code es sc (p + expr_size (look (known sc)) e) (type_of e ∷ s)) (expr-no-slots e sc p s) (trees-no-slots es sc (p + expr_size (look (known sc)) e) (type_of e ∷ s))

  pairs-no-slots : (ps : TreePairs) (sc : Scope) (p : ℕ) (s : List Ty) → slot_count (pairs_code ps sc p s) ≡ 0
  pairs-no-slots no_pairs sc p s = refl
  pairs-no-slots (more_pairs k v ps) sc p s =
      let q : ℕ = p + expr_size (look (known sc)) k in
      let z : ℕ = q + expr_size (look (known sc)) v in
      no_slots (expr_code k sc p s) (expr_code v sc q (ty.Text ∷ s) ++ pairs_code ps sc z (type_of v ∷ ty.Text ∷ s)) (expr-no-slots k sc p s)
      (no_slots (expr_code v sc q (ty.Text ∷ s)) (pairs_code ps sc z (type_of v ∷ ty.Text ∷ s)) (expr-no-slots v sc q (ty.Text ∷ s)) (pairs-no-slots ps sc z (type_of v ∷ ty.Text ∷ s)))

-- the slots that a declaration here takes
abbrev pub new_slots : Bool → ℕ
new_slots at_top = if at_top then 0 else 1

pub stored-slots : (b : Bool) (g i : ℕ) (at : At) (t : Ty) → slot_count (if b then one at (StoreGlobal g) else slot t ∷ does (Store i) at ∷ []) ≡ new_slots b
stored-slots true g i at t = refl
stored-slots false g i at t = refl

pub declared-next : (b : Bool) (sp : Spot) (x : List ℕ) (t : Ty) → (if b then record sp { scope = with_one_global sp.scope x t (length sp.scope.globals) } else declared_local sp x t).next ≡ sp.next + new_slots b
declared-next true sp x t = omega arith
declared-next false sp x t = refl

-- what a line takes below the top
pub line-takes : (l : LineTree) (sp : Spot) → sp.at_top ≡ false → (behind_line l sp).next ≡ sp.next + line_slots l
line-takes (declare t x r) sp low = declared-next sp.at_top sp x t ∙ ap (λ b. sp.next + new_slots b) low
line-takes (infer x r) sp low = declared-next sp.at_top sp x (right_type r) ∙ ap (λ b. sp.next + new_slots b) low
line-takes l sp low = omega arith
