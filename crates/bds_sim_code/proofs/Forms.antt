-- The code of each form of expression begins its term.
use Rattle.std.proofs.Common.{◌≡◌, ℕ, ◌+◌, true, false, List, [], ◌∷◌, ◌++◌, Option, None, refl, sym, ap, ◌∙◌, subst, arith}
use Rattle.bds_value.specs.declared.value.At.{At}
use Rattle.bds_value.specs.declared.value.Op.TheVariants as vop
use Rattle.bds_value.specs.declared.value.Ty.{Ty}
use Rattle.bds_value.specs.declared.value.Ty.TheVariants as ty
use Rattle.bds_value.specs.declared.value.Value.TheVariants as value
use Rattle.bds_value.specs.Methods.{signature_of}
use Rattle.bds_value.specs.Types.{list_item, map_item}
use Rattle.bds_tree.specs.declared.expr.BinaryOp.TheVariants as op
use Rattle.bds_tree.specs.declared.expr.PrefixOp.{PrefixOp}
use Rattle.bds_tree.specs.declared.expr.PrefixOp.TheVariants as sign
use Rattle.bds_tree.specs.Tree.{Tree, FormTree, Trees, TreePairs, node, number, text, truth, name, call, group, list, mapping, item, key, method, prefix, binary, choice, dependency, none, more, no_pairs, more_pairs, type_of}
use Rattle.bds_code.specs.declared.instr.Instr.{Instr}
use Rattle.bds_code.specs.declared.instr.Instr.TheVariants as instr
use Rattle.bds_code.specs.declared.unit.Unit.{Unit as CodeUnit}
use Rattle.bds_check_names.specs.declared.names.Names.{Names as Checked}
use Rattle.bds_check_names.specs.Types.{or_void}
use Rattle.bds_check_rules.specs.Typing.{count}
use Rattle.bds_check_size.specs.declared.sums.Sum.{Sum}
use Rattle.bds_check_size.specs.declared.sums.Sum.TheVariants as sums
use Rattle.bds_check_size.specs.ExprSize.{sum_of, sum_size, method_size, listing_size, expr_size, form_size, trees_size, pairs_size}
use Rattle.bds_gen_expr.specs.Marks.{Mark, does, label, one as one_mark, count as marks}
use Rattle.bds_gen_expr.specs.Scope.{types_in, function_number}
use Rattle.bds_gen_expr.specs.declared.scope.Scope.{Scope}
use Rattle.bds_gen_expr.specs.ExprCode.{sum_between, sum_behind, operator, between_size, left_ty, sign_of, method_code, listing, expr_code, form_code, trees_code, pairs_code, pair_count}
use Rattle.bds_gen_expr.proofs.Counts.{expr-count, trees-count, pairs-count, listing-count, method-count}
use Rattle.bds_meaning.specs.OpeningExpressions.{operated, files_if, method_term, term_of, form_term, terms_of, pairs_terms, count as tree_count}
use Rattle.bds_meaning.specs.OpeningTexts.{two}
use Rattle.bds_meaning.specs.Term.{Computation, Prefixed, Operated, ItemTaken, KeyTaken, ListMade, MapMade, Compared, Term, Constant, Compute, More}
use Rattle.bds_sim_terms.specs.steps.Stands.{Source, Names, Loop, IsCode, sign_code, results, Lined, Comes}
use Rattle.bds_sim_code.proofs.Blocks.{Part, Form, comes_here, comes_jump, nothing_begins, more_begins, compute_begins, does_begins, choose_begins, call_begins}
use Rattle.bds_sim_code.proofs.Exprs.{goes_from, has_at, as_kind, computed_one, computed_two, two_parts, pushed, loaded, summed, files_begin, with_arguments, method_begins, pieces_begin}
use Rattle.bds_sim_code.proofs.Agree.{Agrees}
use Rattle.bds_sim_code.specs.Here.{Here, HereForm, AllHere, PairsHere}
use Rattle.bds_sim_code.proofs.Marked.{Has, has_both}
use Rattle.bds_sim_code.proofs.Sums.{sum_is}

pub same_count : (es : Trees) → tree_count es ≡ count es
same_count none = refl
same_count (more e es) = ap (λ n. n + 1) (same_count es)

between_marks : (at : At) (sum : Sum) → marks (sum_between at sum) ≡ between_size sum
between_marks at sums.Numbers = refl
between_marks at sums.ItemAdded = refl
between_marks at sums.ListsJoined = refl
between_marks at sums.Texts = refl

behind_marks : (at : At) (sum : Sum) → between_size sum + marks (sum_behind at sum) ≡ sum_size sum
behind_marks at sums.Numbers = refl
behind_marks at sums.ItemAdded = refl
behind_marks at sums.ListsJoined = refl
behind_marks at sums.Texts = refl

sign_is : (s : PrefixOp) → sign_of s ≡ sign_code s
sign_is sign.Neg = refl
sign_is sign.Not = refl

module _ (o : Source) (u : CodeUnit) (fn : ℕ) (held : List ℕ) (slots : Names) (names : Checked) (sc : Scope) (agrees : Agrees o u names sc slots) where
  abbrev P : Term → ℕ → ℕ → ℕ → Type 0
  P t pc exit kind = Part o u fn held slots t pc exit kind

  abbrev F : Option Loop → Term → ℕ → ℕ → ℕ → Type 0
  F loop t pc exit kind = Form o u fn held slots loop t pc exit kind

  abbrev H : List Mark → ℕ → Type 0
  H ms pc = Has o u fn ms pc

  abbrev C : ℕ → ℕ → Type 0
  C pc to = Comes o u fn pc to

  abbrev T : List ℕ → Option Ty
  T = types_in sc

  -- wherever it is done
  abbrev pub Whole : Term → ℕ → ℕ → ℕ → Type 0
  Whole t pc end k = (loop : Option Loop) (exit : ℕ) → C end exit → F loop t pc exit k

  pub split : (xs ys : List Mark) (pc n : ℕ) → marks xs ≡ n → H (xs ++ ys) pc → H xs pc × H ys (pc + n)
  split xs ys pc n e h = let r = has_both o u fn xs ys pc h in (r.0, has_at o u fn held slots names sc agrees ys (pc + marks xs) (pc + n) (ap (λ m. pc + m) e) r.1)

  goes : (a b to : ℕ) → a ≡ b → C a to → C b to
  goes a b to e c = goes_from o u fn held slots names sc agrees a b to e c

  moved : (ms : List Mark) (a b : ℕ) → a ≡ b → H ms a → H ms b
  moved ms a b e h = has_at o u fn held slots names sc agrees ms a b e h

  -- a part of a larger form
  pub as_part : (t : Term) (pc end k : ℕ) → k ≡ 1 → Whole t pc end k → P t pc end 1
  as_part t pc end k e h = subst (P t pc end) e (h None end (comes_here o u fn end))

  of_one : (loop : Option Loop) (t : Term) (pc exit k j : ℕ) → k ≡ 1 → j ≡ 1 → F loop t pc exit k → F loop t pc exit j
  of_one loop t pc exit k j e f h = subst (F loop t pc exit) (e ∙ sym f) h

  -- two operands and one instruction behind them
  operands_begin : (comp : Computation) (i : Instr) (at : At) (a b : Term) (ca cb : List Mark) (pc na nb ka kb : ℕ) → IsCode comp 2 i → ka ≡ 1 → kb ≡ 1 → marks ca ≡ na → marks cb ≡ nb
      → (H ca pc → Whole a pc (pc + na) ka) → (H cb (pc + na) → Whole b (pc + na) (pc + na + nb) kb) → H (ca ++ (cb ++ one_mark at i)) pc → Whole (Compute comp at (two a b)) pc (pc + (na + nb + 1)) 1
  operands_begin comp i at a b ca cb pc na nb ka kb code ea eb ma mb ha hb h loop exit c =
      let r = split ca (cb ++ one_mark at i) pc na ma h in
      let r2 = split cb (one_mark at i) (pc + na) nb mb r.1 in
      computed_two o u fn held slots names sc agrees loop comp i at a b pc (pc + na) (pc + na + nb) exit code (as_part a pc (pc + na) ka ea (ha r.0)) (as_part b (pc + na) (pc + na + nb) kb eb (hb r2.0)) r2.1.0 (goes (pc + (na + nb + 1)) (pc + na + nb + 1) exit (omega arith) c)

  mutual
    pub expr_begins : (e : Tree) (s : List Ty) (pc : ℕ) → Here o u names sc e → H (expr_code e sc pc s) pc → Whole (term_of names e) pc (pc + expr_size T e) (results (type_of e))
    expr_begins (node at t f) s pc here h = form_begins f at t s pc here h

    pub form_begins : (f : FormTree) (at : At) (t : Ty) (s : List Ty) (pc : ℕ) → HereForm o u names sc f t → H (form_code f at t sc pc s) pc → Whole (form_term names at t f) pc (pc + form_size T f) (results t)
    form_begins (number v) at t s pc here h loop exit c = as_kind o u fn held slots names sc agrees loop (Constant (value.Int v)) pc exit (results t) here (pushed o u fn held slots names sc agrees loop (instr.PushInt v) (value.Int v) at pc exit refl h.0 c)
    form_begins (truth b) at t s pc here h loop exit c = as_kind o u fn held slots names sc agrees loop (Constant (value.Bool b)) pc exit (results t) here (pushed o u fn held slots names sc agrees loop (instr.PushBool b) (value.Bool b) at pc exit refl h.0 c)
    form_begins (text ps) at t s pc here h loop exit c = as_kind o u fn held slots names sc agrees loop (form_term names at t (text ps)) pc exit (results t) here.0 (pieces_begin o u fn held slots names sc agrees ps at pc here.1 h loop exit c)
    form_begins (name x) at t s pc here h loop exit c = as_kind o u fn held slots names sc agrees loop (form_term names at t (name x)) pc exit (results t) here.0 (loaded o u fn held slots names sc agrees loop x at pc exit here.1 h.0 c)
    form_begins (call f es) at t s pc here h loop exit c =
        let callable = here.0 in
        let n = trees_size T es in
        let r = split (trees_code es sc pc s) (one_mark at (instr.Call (function_number sc f))) pc n (trees-count es sc pc s) h in
        call_begins o u fn held slots loop f (terms_of names es) at pc (pc + n) exit (results t) (record { f = callable.f; there = callable.there; gives = callable.gives })
        (subst (P (terms_of names es) pc (pc + n)) (sym callable.takes) (trees_begin es s pc here.1 r.0))
        (subst (λ k. Lined o u fn (pc + n) (instr.Call k) at) (agrees.functions f callable.f callable.there) r.1.0)
        (goes (pc + (n + 1)) (pc + n + 1) exit (omega arith) c)
    form_begins (group e) at t s pc here h loop exit c = subst (λ k. F loop (term_of names e) pc exit (results k)) here.0 (expr_begins e s pc here.1 h loop exit c)
    form_begins (list es) at t s pc here h loop exit c =
        let n = trees_size T es in
        let item = or_void (list_item t) in
        let r = split (trees_code es sc pc s) (one_mark at (instr.MakeList item (count es))) pc n (trees-count es sc pc s) h in
        as_kind o u fn held slots names sc agrees loop (form_term names at t (list es)) pc exit (results t) here.0
        (compute_begins o u fn held slots loop (ListMade item) (count es) (instr.MakeList item (count es)) (terms_of names es) at pc (pc + n) exit refl (trees_begin es s pc here.1 r.0) r.1.0 (goes (pc + (n + 1)) (pc + n + 1) exit (omega arith) c))
    form_begins (mapping ps) at t s pc here h loop exit c =
        let n = pairs_size T ps in
        let item = or_void (map_item t) in
        let r = split (pairs_code ps sc pc s) (one_mark at (instr.MakeMap item (pair_count ps))) pc n (pairs-count ps sc pc s) h in
        as_kind o u fn held slots names sc agrees loop (form_term names at t (mapping ps)) pc exit (results t) here.0
        (compute_begins o u fn held slots loop (MapMade item) (pair_count ps + pair_count ps) (instr.MakeMap item (pair_count ps)) (pairs_terms names ps) at pc (pc + n) exit (pair_count ps, refl, refl) (pairs_begin ps s pc here.1 r.0) r.1.0 (goes (pc + (n + 1)) (pc + n + 1) exit (omega arith) c))
    form_begins (item a i) at t s pc here h loop exit c =
        as_kind o u fn held slots names sc agrees loop (form_term names at t (item a i)) pc exit (results t) here.0 (operands_begin ItemTaken instr.Item at (term_of names a) (term_of names i) (expr_code a sc pc s) (expr_code i sc (pc + expr_size T a) (type_of a ∷ s)) pc (expr_size T a) (expr_size T i) (results (type_of a)) (results (type_of i)) (refl, refl) here.1 here.3
        (expr-count a sc pc s) (expr-count i sc (pc + expr_size T a) (type_of a ∷ s)) (expr_begins a s pc here.2) (expr_begins i (type_of a ∷ s) (pc + expr_size T a) here.4) h loop exit c)
    form_begins (key a k) at t s pc here h loop exit c =
        as_kind o u fn held slots names sc agrees loop (form_term names at t (key a k)) pc exit (results t) here.0 (operands_begin KeyTaken instr.Key at (term_of names a) (term_of names k) (expr_code a sc pc s) (expr_code k sc (pc + expr_size T a) (type_of a ∷ s)) pc (expr_size T a) (expr_size T k) (results (type_of a)) (results (type_of k)) (refl, refl) here.1 here.3
        (expr-count a sc pc s) (expr-count k sc (pc + expr_size T a) (type_of a ∷ s)) (expr_begins a s pc here.2) (expr_begins k (type_of a ∷ s) (pc + expr_size T a) here.4) h loop exit c)
    form_begins (method a m es) at t s pc here h loop exit c =
        let na = expr_size T a in
        let n = trees_size T es in
        let kind = signature_of (type_of a) m (count es) in
        let r = split (expr_code a sc pc s) (trees_code es sc (pc + na) (type_of a ∷ s) ++ method_code at kind) pc na (expr-count a sc pc s) h in
        let r2 = split (trees_code es sc (pc + na) (type_of a ∷ s)) (method_code at kind) (pc + na) n (trees-count es sc (pc + na) (type_of a ∷ s)) r.1 in
        let size = method-count at kind in
        subst (λ k. F loop (method_term (signature_of (type_of a) m k) at (More (term_of names a) (terms_of names es))) pc exit (results t)) (sym (same_count es))
        (method_begins o u fn held slots names sc agrees kind (count es) (results t) loop at (More (term_of names a) (terms_of names es)) pc (pc + na + n) exit here.0
        (with_arguments o u fn held slots names sc agrees (term_of names a) (terms_of names es) (count es) pc (pc + na) (pc + na + n) (as_part (term_of names a) pc (pc + na) (results (type_of a)) here.1 (expr_begins a s pc here.2 r.0)) (trees_begin es (type_of a ∷ s) (pc + na) here.3 r2.0))
        r2.1 (goes (pc + (na + n + method_size kind)) (pc + na + n + marks (method_code at kind)) exit (omega (arith, size)) c))
    form_begins (prefix x a) at t s pc here h loop exit c =
        let na = expr_size T a in
        let r = split (expr_code a sc pc s) (one_mark at (sign_of x)) pc na (expr-count a sc pc s) h in
        as_kind o u fn held slots names sc agrees loop (form_term names at t (prefix x a)) pc exit (results t) here.0
        (computed_one o u fn held slots names sc agrees loop (Prefixed x) (sign_of x) at (term_of names a) pc (pc + na) exit (refl, sign_is x) (as_part (term_of names a) pc (pc + na) (results (type_of a)) here.1 (expr_begins a s pc here.2 r.0)) r.1.0 (goes (pc + (na + 1)) (pc + na + 1) exit (omega arith) c))
    form_begins (binary a op.And b) at t s pc here h loop exit c =
        let na = expr_size T a in
        let nb = expr_size T b in
        let right = pc + na + 1 in
        let other = right + nb + 1 in
        let r = split (expr_code a sc pc s) (does (instr.JumpUnless other) at ∷ (expr_code b sc right s ++ (does (instr.Jump (other + 1)) at ∷ label s ∷ does (instr.PushBool false) at ∷ label (ty.Bool ∷ s) ∷ []))) pc na (expr-count a sc pc s) h in
        let r2 = split (expr_code b sc right s) (does (instr.Jump (other + 1)) at ∷ label s ∷ does (instr.PushBool false) at ∷ label (ty.Bool ∷ s) ∷ []) right nb (expr-count b sc right s) r.1.1 in
        let c' = goes (pc + (na + nb + 3)) (other + 1) exit (omega arith) c in
        choose_begins o u fn held slots loop (term_of names a) (term_of names b) (Constant (value.Bool false)) pc (pc + na) other exit (results t) (as_part (term_of names a) pc (pc + na) (results (type_of a)) here.1 (expr_begins a s pc here.2 r.0)) r.1.0.is
        (of_one loop (term_of names b) right exit (results (type_of b)) (results t) here.3 here.0 (expr_begins b s right here.4 r2.0 loop exit (comes_jump o u fn (right + nb) (other + 1) exit r2.1.0.is c')))
        (as_kind o u fn held slots names sc agrees loop (Constant (value.Bool false)) other exit (results t) here.0 (pushed o u fn held slots names sc agrees loop (instr.PushBool false) (value.Bool false) at other exit refl r2.1.1.0 c'))
    form_begins (binary a op.Or b) at t s pc here h loop exit c =
        let na = expr_size T a in
        let nb = expr_size T b in
        let mid = pc + na in
        let right = mid + 3 in
        let end = right + nb in
        let r = split (expr_code a sc pc s) (does (instr.JumpUnless right) at ∷ does (instr.PushBool true) at ∷ does (instr.Jump end) at ∷ label s ∷ (expr_code b sc right s ++ (label (ty.Bool ∷ s) ∷ []))) pc na (expr-count a sc pc s) h in
        let r2 = split (expr_code b sc right s) (label (ty.Bool ∷ s) ∷ []) right nb (expr-count b sc right s) (moved (expr_code b sc right s ++ (label (ty.Bool ∷ s) ∷ [])) (mid + 1 + 1 + 1) right (omega arith) r.1.1.1.1) in
        let c' = goes (pc + (na + nb + 3)) end exit (omega arith) c in
        choose_begins o u fn held slots loop (term_of names a) (Constant (value.Bool true)) (term_of names b) pc mid right exit (results t) (as_part (term_of names a) pc mid (results (type_of a)) here.1 (expr_begins a s pc here.2 r.0)) r.1.0.is
        (as_kind o u fn held slots names sc agrees loop (Constant (value.Bool true)) (mid + 1) exit (results t) here.0 (pushed o u fn held slots names sc agrees loop (instr.PushBool true) (value.Bool true) at (mid + 1) exit refl r.1.1.0 (comes_jump o u fn (mid + 1 + 1) end exit r.1.1.1.0.is c')))
        (of_one loop (term_of names b) right exit (results (type_of b)) (results t) here.3 here.0 (expr_begins b s right here.4 r2.0 loop exit c'))
    form_begins (binary a op.Add b) at t s pc here h loop exit c =
        let na = expr_size T a in
        let nb = expr_size T b in
        let sum = sum_of (type_of a) (type_of b) in
        let right = pc + na + between_size sum in
        let below = left_ty sum (type_of a) ∷ s in
        let r = split (expr_code a sc pc s) (sum_between at sum ++ (expr_code b sc right below ++ sum_behind at sum)) pc na (expr-count a sc pc s) h in
        let r2 = split (sum_between at sum) (expr_code b sc right below ++ sum_behind at sum) (pc + na) (between_size sum) (between_marks at sum) r.1 in
        let r3 = split (expr_code b sc right below) (sum_behind at sum) right nb (expr-count b sc right below) r2.1 in
        let size = behind_marks at sum in
        as_kind o u fn held slots names sc agrees loop (form_term names at t (binary a op.Add b)) pc exit (results t) here.0
        (subst (λ x. F loop x pc exit 1) (sym (sum_is (type_of a) (type_of b) at (term_of names a) (term_of names b)))
        (summed o u fn held slots names sc agrees sum loop at (term_of names a) (term_of names b) pc (pc + na) right (right + nb) exit (as_part (term_of names a) pc (pc + na) (results (type_of a)) here.1 (expr_begins a s pc here.2 r.0)) r2.0 refl
        (as_part (term_of names b) right (right + nb) (results (type_of b)) here.3 (expr_begins b below right here.4 r3.0)) r3.1 (goes (pc + (na + nb + sum_size sum)) (right + nb + marks (sum_behind at sum)) exit (omega (arith, size)) c)))
    form_begins (binary a op.Equal b) at t s pc here h loop exit c =
        as_kind o u fn held slots names sc agrees loop (operated vop.Equal at (term_of names a) (term_of names b)) pc exit (results t) here.0 (operands_begin (Operated vop.Equal) (operator op.Equal) at (term_of names a) (term_of names b) (expr_code a sc pc s) (expr_code b sc (pc + expr_size T a) (type_of a ∷ s)) pc (expr_size T a) (expr_size T b) (results (type_of a)) (results (type_of b)) (refl, refl) here.1 here.3
        (expr-count a sc pc s) (expr-count b sc (pc + expr_size T a) (type_of a ∷ s)) (expr_begins a s pc here.2) (expr_begins b (type_of a ∷ s) (pc + expr_size T a) here.4) h loop exit c)
    form_begins (binary a op.NotEqual b) at t s pc here h loop exit c =
        as_kind o u fn held slots names sc agrees loop (operated vop.NotEqual at (term_of names a) (term_of names b)) pc exit (results t) here.0 (operands_begin (Operated vop.NotEqual) (operator op.NotEqual) at (term_of names a) (term_of names b) (expr_code a sc pc s) (expr_code b sc (pc + expr_size T a) (type_of a ∷ s)) pc (expr_size T a) (expr_size T b) (results (type_of a)) (results (type_of b)) (refl, refl) here.1 here.3
        (expr-count a sc pc s) (expr-count b sc (pc + expr_size T a) (type_of a ∷ s)) (expr_begins a s pc here.2) (expr_begins b (type_of a ∷ s) (pc + expr_size T a) here.4) h loop exit c)
    form_begins (binary a op.Less b) at t s pc here h loop exit c =
        as_kind o u fn held slots names sc agrees loop (operated vop.Less at (term_of names a) (term_of names b)) pc exit (results t) here.0 (operands_begin (Operated vop.Less) (operator op.Less) at (term_of names a) (term_of names b) (expr_code a sc pc s) (expr_code b sc (pc + expr_size T a) (type_of a ∷ s)) pc (expr_size T a) (expr_size T b) (results (type_of a)) (results (type_of b)) (refl, refl) here.1 here.3
        (expr-count a sc pc s) (expr-count b sc (pc + expr_size T a) (type_of a ∷ s)) (expr_begins a s pc here.2) (expr_begins b (type_of a ∷ s) (pc + expr_size T a) here.4) h loop exit c)
    form_begins (binary a op.AtMost b) at t s pc here h loop exit c =
        as_kind o u fn held slots names sc agrees loop (operated vop.LessEqual at (term_of names a) (term_of names b)) pc exit (results t) here.0 (operands_begin (Operated vop.LessEqual) (operator op.AtMost) at (term_of names a) (term_of names b) (expr_code a sc pc s) (expr_code b sc (pc + expr_size T a) (type_of a ∷ s)) pc (expr_size T a) (expr_size T b) (results (type_of a)) (results (type_of b)) (refl, refl) here.1 here.3
        (expr-count a sc pc s) (expr-count b sc (pc + expr_size T a) (type_of a ∷ s)) (expr_begins a s pc here.2) (expr_begins b (type_of a ∷ s) (pc + expr_size T a) here.4) h loop exit c)
    form_begins (binary a op.Greater b) at t s pc here h loop exit c =
        as_kind o u fn held slots names sc agrees loop (operated vop.Greater at (term_of names a) (term_of names b)) pc exit (results t) here.0 (operands_begin (Operated vop.Greater) (operator op.Greater) at (term_of names a) (term_of names b) (expr_code a sc pc s) (expr_code b sc (pc + expr_size T a) (type_of a ∷ s)) pc (expr_size T a) (expr_size T b) (results (type_of a)) (results (type_of b)) (refl, refl) here.1 here.3
        (expr-count a sc pc s) (expr-count b sc (pc + expr_size T a) (type_of a ∷ s)) (expr_begins a s pc here.2) (expr_begins b (type_of a ∷ s) (pc + expr_size T a) here.4) h loop exit c)
    form_begins (binary a op.AtLeast b) at t s pc here h loop exit c =
        as_kind o u fn held slots names sc agrees loop (operated vop.GreaterEqual at (term_of names a) (term_of names b)) pc exit (results t) here.0 (operands_begin (Operated vop.GreaterEqual) (operator op.AtLeast) at (term_of names a) (term_of names b) (expr_code a sc pc s) (expr_code b sc (pc + expr_size T a) (type_of a ∷ s)) pc (expr_size T a) (expr_size T b) (results (type_of a)) (results (type_of b)) (refl, refl) here.1 here.3
        (expr-count a sc pc s) (expr-count b sc (pc + expr_size T a) (type_of a ∷ s)) (expr_begins a s pc here.2) (expr_begins b (type_of a ∷ s) (pc + expr_size T a) here.4) h loop exit c)
    form_begins (binary a op.Sub b) at t s pc here h loop exit c =
        as_kind o u fn held slots names sc agrees loop (operated vop.Sub at (term_of names a) (term_of names b)) pc exit (results t) here.0 (operands_begin (Operated vop.Sub) (operator op.Sub) at (term_of names a) (term_of names b) (expr_code a sc pc s) (expr_code b sc (pc + expr_size T a) (type_of a ∷ s)) pc (expr_size T a) (expr_size T b) (results (type_of a)) (results (type_of b)) (refl, refl) here.1 here.3
        (expr-count a sc pc s) (expr-count b sc (pc + expr_size T a) (type_of a ∷ s)) (expr_begins a s pc here.2) (expr_begins b (type_of a ∷ s) (pc + expr_size T a) here.4) h loop exit c)
    form_begins (binary a op.Mul b) at t s pc here h loop exit c =
        as_kind o u fn held slots names sc agrees loop (operated vop.Mul at (term_of names a) (term_of names b)) pc exit (results t) here.0 (operands_begin (Operated vop.Mul) (operator op.Mul) at (term_of names a) (term_of names b) (expr_code a sc pc s) (expr_code b sc (pc + expr_size T a) (type_of a ∷ s)) pc (expr_size T a) (expr_size T b) (results (type_of a)) (results (type_of b)) (refl, refl) here.1 here.3
        (expr-count a sc pc s) (expr-count b sc (pc + expr_size T a) (type_of a ∷ s)) (expr_begins a s pc here.2) (expr_begins b (type_of a ∷ s) (pc + expr_size T a) here.4) h loop exit c)
    form_begins (binary a op.Div b) at t s pc here h loop exit c =
        as_kind o u fn held slots names sc agrees loop (operated vop.Div at (term_of names a) (term_of names b)) pc exit (results t) here.0 (operands_begin (Operated vop.Div) (operator op.Div) at (term_of names a) (term_of names b) (expr_code a sc pc s) (expr_code b sc (pc + expr_size T a) (type_of a ∷ s)) pc (expr_size T a) (expr_size T b) (results (type_of a)) (results (type_of b)) (refl, refl) here.1 here.3
        (expr-count a sc pc s) (expr-count b sc (pc + expr_size T a) (type_of a ∷ s)) (expr_begins a s pc here.2) (expr_begins b (type_of a ∷ s) (pc + expr_size T a) here.4) h loop exit c)
    form_begins (binary a op.Rem b) at t s pc here h loop exit c =
        as_kind o u fn held slots names sc agrees loop (operated vop.Rem at (term_of names a) (term_of names b)) pc exit (results t) here.0 (operands_begin (Operated vop.Rem) (operator op.Rem) at (term_of names a) (term_of names b) (expr_code a sc pc s) (expr_code b sc (pc + expr_size T a) (type_of a ∷ s)) pc (expr_size T a) (expr_size T b) (results (type_of a)) (results (type_of b)) (refl, refl) here.1 here.3
        (expr-count a sc pc s) (expr-count b sc (pc + expr_size T a) (type_of a ∷ s)) (expr_begins a s pc here.2) (expr_begins b (type_of a ∷ s) (pc + expr_size T a) here.4) h loop exit c)
    form_begins (choice b x y) at t s pc here h loop exit c =
        let nc = expr_size T b in
        let nx = expr_size T x in
        let ny = expr_size T y in
        let mid = pc + nc in
        let first = mid + 1 in
        let other = first + nx + 1 in
        let end = other + ny in
        let r = split (expr_code b sc pc s) (does (instr.JumpUnless other) at ∷ (expr_code x sc first s ++ (does (instr.Jump end) at ∷ label s ∷ (expr_code y sc other s ++ (label (t ∷ s) ∷ []))))) pc nc (expr-count b sc pc s) h in
        let r2 = split (expr_code x sc first s) (does (instr.Jump end) at ∷ label s ∷ (expr_code y sc other s ++ (label (t ∷ s) ∷ []))) first nx (expr-count x sc first s) r.1.1 in
        let r3 = split (expr_code y sc other s) (label (t ∷ s) ∷ []) other ny (expr-count y sc other s) r2.1.1 in
        let c' = goes (pc + (nc + 1 + nx + 1 + ny)) end exit (omega arith) c in
        choose_begins o u fn held slots loop (term_of names b) (term_of names x) (term_of names y) pc mid other exit (results t) (as_part (term_of names b) pc mid (results (type_of b)) here.1 (expr_begins b s pc here.2 r.0)) r.1.0.is
        (of_one loop (term_of names x) first exit (results (type_of x)) (results t) here.3 here.0 (expr_begins x s first here.4 r2.0 loop exit (comes_jump o u fn (first + nx) end exit r2.1.0.is c')))
        (of_one loop (term_of names y) other exit (results (type_of y)) (results t) here.5 here.0 (expr_begins y s other here.6 r3.0 loop exit c'))
    form_begins (dependency a b) at t s pc here h loop exit c =
        let na = expr_size T a in
        let la = listing_size (type_of a) in
        let right = pc + na + la in
        let nb = expr_size T b in
        let lb = listing_size (type_of b) in
        let below = ty.List ty.Text ∷ s in
        let r = split (expr_code a sc pc s) (listing at (type_of a) ++ (expr_code b sc right below ++ (listing at (type_of b) ++ one_mark at instr.OutOfDate))) pc na (expr-count a sc pc s) h in
        let r2 = split (listing at (type_of a)) (expr_code b sc right below ++ (listing at (type_of b) ++ one_mark at instr.OutOfDate)) (pc + na) la (listing-count at (type_of a)) r.1 in
        let r3 = split (expr_code b sc right below) (listing at (type_of b) ++ one_mark at instr.OutOfDate) right nb (expr-count b sc right below) r2.1 in
        let r4 = split (listing at (type_of b)) (one_mark at instr.OutOfDate) (right + nb) lb (listing-count at (type_of b)) r3.1 in
        let fa = files_begin o u fn held slots names sc agrees (type_of a) at (term_of names a) pc (pc + na) right (as_part (term_of names a) pc (pc + na) (results (type_of a)) here.1 (expr_begins a s pc here.2 r.0)) r2.0 refl in
        let fb = files_begin o u fn held slots names sc agrees (type_of b) at (term_of names b) right (right + nb) (right + nb + lb) (as_part (term_of names b) right (right + nb) (results (type_of b)) here.3 (expr_begins b below right here.4 r3.0)) r4.0 refl in
        as_kind o u fn held slots names sc agrees loop (form_term names at t (dependency a b)) pc exit (results t) here.0
        (does_begins o u fn held slots loop Compared (two (files_if (type_of a) at (term_of names a)) (files_if (type_of b) at (term_of names b))) at pc (right + nb + lb) exit
        (two_parts o u fn held slots names sc agrees (files_if (type_of a) at (term_of names a)) (files_if (type_of b) at (term_of names b)) pc right (right + nb + lb) fa fb) r4.1.0 (goes (pc + (na + la + (nb + lb) + 1)) (right + nb + lb + 1) exit (omega arith) c))

    pub trees_begin : (es : Trees) (s : List Ty) (pc : ℕ) → AllHere o u names sc es → H (trees_code es sc pc s) pc → P (terms_of names es) pc (pc + trees_size T es) (count es)
    trees_begin none s pc here h = nothing_begins o u fn held slots None pc (pc + 0) (goes (pc + 0) pc (pc + 0) (omega arith) (comes_here o u fn (pc + 0)))
    trees_begin (more e es) s pc here h =
        let ne = expr_size T e in
        let n = trees_size T es in
        let r = split (expr_code e sc pc s) (trees_code es sc (pc + ne) (type_of e ∷ s)) pc ne (expr-count e sc pc s) h in
        more_begins o u fn held slots None (term_of names e) (terms_of names es) pc (pc + ne) (pc + ne + n) (pc + (ne + n)) 1 (count es) (count (more e es)) (as_part (term_of names e) pc (pc + ne) (results (type_of e)) here.0 (expr_begins e s pc here.1 r.0)) (trees_begin es (type_of e ∷ s) (pc + ne) here.2 r.1)
        (goes (pc + (ne + n)) (pc + ne + n) (pc + (ne + n)) (omega arith) (comes_here o u fn (pc + (ne + n)))) refl

    pub pairs_begin : (ps : TreePairs) (s : List Ty) (pc : ℕ) → PairsHere o u names sc ps → H (pairs_code ps sc pc s) pc → P (pairs_terms names ps) pc (pc + pairs_size T ps) (pair_count ps + pair_count ps)
    pairs_begin no_pairs s pc here h = nothing_begins o u fn held slots None pc (pc + 0) (goes (pc + 0) pc (pc + 0) (omega arith) (comes_here o u fn (pc + 0)))
    pairs_begin (more_pairs k v ps) s pc here h =
        let nk = expr_size T k in
        let nv = expr_size T v in
        let n = pairs_size T ps in
        let m = pair_count ps in
        let mid = pc + nk in
        let end = pc + (nk + nv + n) in
        let r = split (expr_code k sc pc s) (expr_code v sc mid (ty.Text ∷ s) ++ pairs_code ps sc (mid + nv) (type_of v ∷ ty.Text ∷ s)) pc nk (expr-count k sc pc s) h in
        let r2 = split (expr_code v sc mid (ty.Text ∷ s)) (pairs_code ps sc (mid + nv) (type_of v ∷ ty.Text ∷ s)) mid nv (expr-count v sc mid (ty.Text ∷ s)) r.1 in
        let rest = more_begins o u fn held slots None (term_of names v) (pairs_terms names ps) mid (mid + nv) (mid + nv + n) end 1 (m + m) (m + m + 1) (as_part (term_of names v) mid (mid + nv) (results (type_of v)) here.2 (expr_begins v (ty.Text ∷ s) mid here.3 r2.0)) (pairs_begin ps (type_of v ∷ ty.Text ∷ s) (mid + nv) here.4 r2.1)
        (goes end (mid + nv + n) end (omega arith) (comes_here o u fn end)) refl in
        more_begins o u fn held slots None (term_of names k) (More (term_of names v) (pairs_terms names ps)) pc mid end end 1 (m + m + 1) (pair_count (more_pairs k v ps) + pair_count (more_pairs k v ps)) (as_part (term_of names k) pc mid (results (type_of k)) here.0 (expr_begins k s pc here.1 r.0)) rest (comes_here o u fn end) (omega arith)
