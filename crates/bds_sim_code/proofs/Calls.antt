-- The code of a call that stands alone begins its term: of a method that changes its receiver, and of any other call, whose result is dropped.
use Rattle.std.proofs.Common.{◌≡◌, ℕ, suc, ◌+◌, Bool, true, false, not, List, [], ◌∷◌, ◌++◌, map, length, Option, Some, None, IsSome, slice_get, refl, sym, ◌∙◌, subst, arith, append_assoc, append-nil, if◌then◌else◌}
use Rattle.std.specs.Prelude.{cond}
use Rattle.bds_value.specs.declared.methods.Method.{Method}
use Rattle.bds_value.specs.declared.methods.Method.TheVariants as by
use Rattle.bds_value.specs.declared.value.At.{At}
use Rattle.bds_value.specs.declared.value.Ty.{Ty, out-Ty}
use Rattle.bds_value.specs.declared.value.Ty.TheOpen.{Ty-F}
use Rattle.bds_value.specs.Methods.{signature_of}
use Rattle.bds_value.specs.Types.{is_void_at}
use Rattle.bds_tree.specs.Tree.{Tree, FormTree, Trees, node, name, item, key, method, type_of}
use Rattle.bds_code.specs.declared.instr.Instr.TheVariants as instr
use Rattle.bds_code.specs.declared.unit.Unit.{Unit as CodeUnit}
use Rattle.bds_check_names.specs.declared.names.Names.{Names as Checked}
use Rattle.bds_check_names.specs.Types.{is_known, known_at}
use Rattle.bds_check_rules.specs.Typing.{count}
use Rattle.bds_check_size.specs.ExprSize.{expr_size, trees_size}
use Rattle.bds_check_size.specs.StmtSize.{steps_size, form_steps_size, dropped_size, changed_size, call_size}
use Rattle.bds_gen_expr.specs.ExprCode.{expr_code, trees_code}
use Rattle.bds_gen_expr.specs.Marks.{Mark, one as one_mark}
use Rattle.bds_gen_expr.specs.Scope.{types_in}
use Rattle.bds_gen_expr.specs.declared.scope.Scope.{Scope}
use Rattle.bds_gen_expr.proofs.Counts.{expr-count, trees-count}
use Rattle.bds_gen_stmt.specs.PlaceCode.{steps_below, changes_place, steps_code, form_steps_code, steps_of as kinds_to, form_steps_of, variable_of, form_variable_of, dropped_code, changed_code, call_code}
use Rattle.bds_gen_stmt.proofs.ActCounts.{steps-count}
use Rattle.bds_machine_values.specs.Updates.{operand_counts}
use Rattle.bds_meaning.specs.OpeningExpressions.{term_of, terms_of}
use Rattle.bds_meaning.specs.OpeningPlaces.{root_of, root_in, intos_of, intos_in, steps_of, steps_in, mutated, method_alone, call_term}
use Rattle.bds_meaning.specs.Term.{Mutated, Into, by_index, by_key, Term, More}
use Rattle.bds_sim_terms.specs.steps.Stands.{Source, Names, Loop, IsMutation, is_key, results, Comes, Drops}
use Rattle.bds_sim_code.proofs.Blocks.{Part, Form, comes_here, more_begins}
use Rattle.bds_sim_code.proofs.Exprs.{goes_from}
use Rattle.bds_sim_code.proofs.Forms.{same_count, expr_begins, trees_begin}
use Rattle.bds_sim_code.proofs.Agree.{Agrees}
use Rattle.bds_sim_code.specs.Here.{Here, AllHere}
use Rattle.bds_sim_code.proofs.Marked.{Has}
use Rattle.bds_sim_code.proofs.Places.{cut, part_from, part_gives, changed, value_begins}
use Rattle.bds_sim_code.proofs.StmtBlocks.{Done, done_run}
use Rattle.bds_sim_code.specs.StmtHere.{Value, StepsHere, StepsHereForm, MethodHere, CallHere}

-- a result is dropped where there is one

abbrev pub kept_one : Bool → ℕ
kept_one known = if not known then 0 else 1

pub void_is : (f : Ty-F Ty) → kept_one (known_at f) ≡ cond (is_void_at f) 0 1
void_is Ty-F.Void = refl
void_is Ty-F.Bool = refl
void_is Ty-F.Int = refl
void_is Ty-F.Text = refl
void_is (Ty-F.List t) = refl
void_is (Ty-F.Map t) = refl

-- how many steps lead to a place that is written as an expression
abbrev mutual
  depth : Tree → ℕ
  depth (node at t f) = form_depth f

  form_depth : FormTree → ℕ
  form_depth (item a i) = depth a + 1
  form_depth (key a k) = depth a + 1
  form_depth _ = 0

mutual
  same_root : (a : Tree) → root_of a ≡ variable_of a
  same_root (node at t f) = same_form_root f

  same_form_root : (f : FormTree) → root_in f ≡ form_variable_of f
  same_form_root (name x) = refl
  same_form_root (item a i) = same_root a
  same_form_root (key a k) = same_root a
  same_form_root _ = refl

mutual
  many_intos : (a : Tree) (is : List Into) → length (intos_of a is) ≡ depth a + length is
  many_intos (node at t f) is = many_form_intos f is

  many_form_intos : (f : FormTree) (is : List Into) → length (intos_in f is) ≡ form_depth f + length is
  many_form_intos (item a i) is = let e = many_intos a (by_index ∷ is) in e ∙ (let f : depth a + suc (length is) ≡ depth a + 1 + length is = omega arith in f)
  many_form_intos (key a k) is = let e = many_intos a (by_key ∷ is) in e ∙ (let f : depth a + suc (length is) ≡ depth a + 1 + length is = omega arith in f)
  many_form_intos _ is = let e : length is ≡ 0 + length is = omega arith in e

mutual
  same_intos : (a : Tree) (is : List Into) → map is_key (intos_of a is) ≡ kinds_to a ++ map is_key is
  same_intos (node at t f) is = same_form_intos f is

  same_form_intos : (f : FormTree) (is : List Into) → map is_key (intos_in f is) ≡ form_steps_of f ++ map is_key is
  same_form_intos (item a i) is = same_intos a (by_index ∷ is) ∙ sym (append_assoc (kinds_to a) (false ∷ []) (map is_key is))
  same_form_intos (key a k) is = same_intos a (by_key ∷ is) ∙ sym (append_assoc (kinds_to a) (true ∷ []) (map is_key is))
  same_form_intos _ is = refl

module _ (o : Source) (u : CodeUnit) (fn : ℕ) (held : List ℕ) (ns : Names) (names : Checked) (sc : Scope) (agrees : Agrees o u names sc ns) where
  abbrev P : Term → ℕ → ℕ → ℕ → Type 0
  P t pc exit kind = Part o u fn held ns t pc exit kind

  abbrev H : List Mark → ℕ → Type 0
  H ms pc = Has o u fn ms pc

  abbrev C : ℕ → ℕ → Type 0
  C pc to = Comes o u fn pc to

  abbrev T : List ℕ → Option Ty
  T = types_in sc

  mutual
    known_root : (a : Tree) → StepsHere o u names sc a → IsSome (T (root_of a))
    known_root (node at t f) here = known_form_root f here

    known_form_root : (f : FormTree) → StepsHereForm o u names sc f → IsSome (T (root_in f))
    known_form_root (name x) here = here
    known_form_root (item a i) here = known_root a here.0
    known_form_root (key a k) here = known_root a here.0
    known_form_root _ here = absurd here

  -- one more step, behind those to the place
  further : (a i : Tree) (t : Term) (s : List Ty) (pc end k n : ℕ) → Value o u names sc i → H (expr_code i sc (pc + n) s) (pc + n) → P t (pc + (n + expr_size T i)) end k → P (More (term_of names i) t) (pc + n) end (k + 1)
  further a i t s pc end k n here h ht =
      let m = expr_size T i in
      more_begins o u fn held ns None (term_of names i) t (pc + n) (pc + n + m) end end 1 k (k + 1) (value_begins o u fn held ns names sc agrees i s (pc + n) here h)
      (part_from o u fn held ns names sc agrees t (pc + (n + m)) (pc + n + m) end k (omega arith) ht) (comes_here o u fn end) refl

  mutual
    steps_begin : (a : Tree) (t : Term) (s : List Ty) (pc end k : ℕ) → StepsHere o u names sc a → H (steps_code a sc pc s) pc → P t (pc + steps_size T a) end k → P (steps_of names a t) pc end (k + depth a)
    steps_begin (node at ty f) t s pc end k here h ht = form_steps_begin f t s pc end k here h ht

    form_steps_begin : (f : FormTree) (t : Term) (s : List Ty) (pc end k : ℕ) → StepsHereForm o u names sc f → H (form_steps_code f sc pc s) pc → P t (pc + form_steps_size T f) end k → P (steps_in names f t) pc end (k + form_depth f)
    form_steps_begin (name x) t s pc end k here h ht = part_gives o u fn held ns names sc agrees t pc end k (k + 0) (omega arith) (part_from o u fn held ns names sc agrees t (pc + 0) pc end k (omega arith) ht)
    form_steps_begin (item a i) t s pc end k here h ht =
        let n = steps_size T a in
        let r = cut o u fn held ns names sc agrees (steps_code a sc pc s) (expr_code i sc (pc + n) (steps_below (kinds_to a) s)) pc n (steps-count a sc pc s) h in
        part_gives o u fn held ns names sc agrees (steps_in names (item a i) t) pc end (k + 1 + depth a) (k + (depth a + 1)) (omega arith)
        (steps_begin a (More (term_of names i) t) s pc end (k + 1) here.0 r.0 (further a i t (steps_below (kinds_to a) s) pc end k n here.1 r.1 ht))
    form_steps_begin (key a i) t s pc end k here h ht =
        let n = steps_size T a in
        let r = cut o u fn held ns names sc agrees (steps_code a sc pc s) (expr_code i sc (pc + n) (steps_below (kinds_to a) s)) pc n (steps-count a sc pc s) h in
        part_gives o u fn held ns names sc agrees (steps_in names (key a i) t) pc end (k + 1 + depth a) (k + (depth a + 1)) (omega arith)
        (steps_begin a (More (term_of names i) t) s pc end (k + 1) here.0 r.0 (further a i t (steps_below (kinds_to a) s) pc end k n here.1 r.1 ht))
    form_steps_begin _ t s pc end k here h ht = absurd here

  module _ (loop : Option Loop) where
    abbrev D : Term → ℕ → ℕ → Type 0
    D t pc exit = Done o u fn held loop ns t pc ns exit

    mutated_begins : (a : Tree) (es : Trees) (m : ℕ) (at : At) (pc exit : ℕ) → IsMutation m → slice_get operand_counts m ≡ Some (count es) → StepsHere o u names sc a → AllHere o u names sc es
        → H (steps_code a sc pc [] ++ (trees_code es sc (pc + steps_size T a) (steps_below (kinds_to a) []) ++ changes_place sc at (variable_of a) (kinds_to a) m)) pc → C (pc + (steps_size T a + trees_size T es + 1)) exit → D (mutated names at a m (terms_of names es)) pc exit
    mutated_begins a es m at pc exit mutation counted here all h c =
        let n = steps_size T a in
        let k = trees_size T es in
        let s = steps_below (kinds_to a) [] in
        let r = cut o u fn held ns names sc agrees (steps_code a sc pc []) (trees_code es sc (pc + n) s ++ changes_place sc at (variable_of a) (kinds_to a) m) pc n (steps-count a sc pc []) h in
        let r2 = cut o u fn held ns names sc agrees (trees_code es sc (pc + n) s) (changes_place sc at (variable_of a) (kinds_to a) m) (pc + n) k (trees-count es sc (pc + n) s) r.1 in
        let many = many_intos a [] in
        done_run o u fn held loop ns ns (mutated names at a m (terms_of names es)) pc exit
        (changed o u fn held ns names sc agrees loop at (root_of a) (intos_of a []) (kinds_to a) (Mutated m) m (count es) (steps_of names a (terms_of names es)) pc (pc + n + k) exit (same_intos a [] ∙ append-nil (kinds_to a)) (known_root a here) (refl, mutation, counted)
        (part_gives o u fn held ns names sc agrees (steps_of names a (terms_of names es)) pc (pc + n + k) (count es + depth a) (count es + length (intos_of a [])) (omega (arith, many))
        (steps_begin a (terms_of names es) [] pc (pc + n + k) (count es) here r.0 (trees_begin o u fn held ns names sc agrees es s (pc + n) all r2.0)))
        (subst (λ x. H (changes_place sc at x (kinds_to a) m) (pc + n + k)) (sym (same_root a)) r2.1)
        (goes_from o u fn held ns names sc agrees (pc + (n + k + 1)) (pc + n + k + 1) exit (omega arith) c))

    -- a result is dropped
    dropped : (known : Bool) (t : Term) (at : At) (k pc end exit : ℕ) → kept_one known ≡ k → Form o u fn held ns loop t pc end k → H (if not known then [] else one_mark at instr.Drop) end → C (end + kept_one known) exit → D t pc exit
    dropped true t at k pc end exit e ht h c = record { kind = k; end = end; begins = ht; drops = subst (λ n. Drops o u fn n end exit) e (h.0.is, c) }
    dropped false t at k pc end exit e ht h c = record { kind = k; end = end; begins = ht; drops = subst (λ n. Drops o u fn n end exit) e (goes_from o u fn held ns names sc agrees (end + 0) end exit (omega arith) c) }

    pub dropped_begins : (e : Tree) (at : At) (pc exit : ℕ) → Here o u names sc e → H (dropped_code e at sc pc) pc → C (pc + dropped_size T e) exit → D (term_of names e) pc exit
    dropped_begins e at pc exit here h c =
        let n = expr_size T e in
        let known = is_known (type_of e) in
        let r = cut o u fn held ns names sc agrees (expr_code e sc pc []) (if not known then [] else one_mark at instr.Drop) pc n (expr-count e sc pc []) h in
        dropped known (term_of names e) at (results (type_of e)) pc (pc + n) exit (void_is (out-Ty (type_of e))) (expr_begins o u fn held ns names sc agrees e [] pc here r.0 loop (pc + n) (comes_here o u fn (pc + n))) r.1
        (goes_from o u fn held ns names sc agrees (pc + dropped_size T e) (pc + n + kept_one known) exit (omega arith) c)

    method_alone_begins : (m : Option Method) (e a : Tree) (es : Trees) (at : At) (pc exit : ℕ) → MethodHere o u names sc m e a es → H (changed_code m e a es at sc pc) pc → C (pc + changed_size T m e a es) exit → D (method_alone names at m a (terms_of names es) (term_of names e)) pc exit
    method_alone_begins (Some (by.Change m)) e a es at pc exit here h c = mutated_begins a es m at pc exit here.0 here.1 here.2 here.3 h c
    method_alone_begins (Some (by.Plain m)) e a es at pc exit here h c = dropped_begins e at pc exit here h c
    method_alone_begins (Some (by.File m)) e a es at pc exit here h c = dropped_begins e at pc exit here h c
    method_alone_begins None e a es at pc exit here h c = dropped_begins e at pc exit here h c

    pub call_alone_begins : (e : Tree) (at : At) (pc exit : ℕ) → CallHere o u names sc e → H (call_code e at sc pc) pc → C (pc + call_size T e) exit → D (call_term names at e) pc exit
    call_alone_begins (node place t (method a m es)) at pc exit here h c =
        let e = node place t (method a m es) in
        subst (λ k. D (method_alone names at (signature_of (type_of a) m k) a (terms_of names es) (term_of names e)) pc exit) (sym (same_count es)) (method_alone_begins (signature_of (type_of a) m (count es)) e a es at pc exit here h c)
    call_alone_begins (node place t f) at pc exit here h c = dropped_begins (node place t f) at pc exit here h c
