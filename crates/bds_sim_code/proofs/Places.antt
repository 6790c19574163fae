-- The code of a change begins its term: the steps to the part come first, then what it takes. And that of a call whose result is dropped.
use Rattle.std.proofs.Common.{◌≡◌, ℕ, suc, ◌+◌, pos, Bool, true, false, not, List, [], ◌∷◌, ◌++◌, map, length, Option, None, IsSome, refl, sym, ap, ◌∙◌, subst, arith}
use Rattle.bds_value.specs.declared.value.At.{At}
use Rattle.bds_value.specs.declared.value.Op.TheVariants as vop
use Rattle.bds_value.specs.declared.value.Ty.{Ty}
use Rattle.bds_value.specs.declared.value.Ty.TheOpen.{Ty-F}
use Rattle.bds_value.specs.declared.value.Value.TheVariants as value
use Rattle.bds_value.specs.Types.{is_void_at}
use Rattle.bds_tree.specs.declared.stmt.StepOp.TheVariants as step_op
use Rattle.bds_tree.specs.declared.stmt.UpdateOp.{UpdateOp}
use Rattle.bds_tree.specs.declared.stmt.UpdateOp.TheVariants as update_op
use Rattle.bds_tree.specs.StmtTree.{SuffixTree, at_index, at_key, PlaceTree, StepTree, step_after, step_before}
use Rattle.bds_tree.specs.Tree.{Tree, type_of}
use Rattle.bds_code.specs.declared.instr.Instr.{Instr}
use Rattle.bds_code.specs.declared.instr.Instr.TheVariants as instr
use Rattle.bds_code.specs.declared.unit.Unit.{Unit as CodeUnit}
use Rattle.bds_code.specs.UpdateRows.{step_ty}
use Rattle.bds_check_names.specs.declared.names.Names.{Names as Checked}
use Rattle.bds_check_names.specs.Types.{known_at}
use Rattle.bds_check_rules.specs.StmtBreaks.{stepped}
use Rattle.bds_check_size.specs.ExprSize.{expr_size}
use Rattle.bds_check_size.specs.StmtSize.{suffix_size, suffixes_size}
use Rattle.bds_gen_expr.specs.ExprCode.{expr_code}
use Rattle.bds_gen_expr.specs.Marks.{Mark, does, one as one_mark, count as marks}
use Rattle.bds_gen_expr.specs.Scope.{VariablePlace, in_slot, in_global, place_of, load_at, is_global_at, number_at, types_in}
use Rattle.bds_gen_expr.specs.declared.scope.Scope.{Scope}
use Rattle.bds_gen_stmt.specs.PlaceCode.{kind_of, suffix_code, suffixes_code, changes_place, kinds_of, change_number, step_code}
use Rattle.bds_gen_stmt.proofs.ActCounts.{suffix-count, suffixes-count}
use Rattle.bds_meaning.specs.OpeningExpressions.{term_of}
use Rattle.bds_meaning.specs.OpeningPlaces.{into_of, suffix_term, steps_then, place_term, change_of, step_term}
use Rattle.bds_meaning.specs.OpeningTexts.{scope_of, one}
use Rattle.bds_meaning.specs.Term.{Change, Increased, Reckoned, Into, Term, Constant, Update}
use Rattle.bds_meaning.specs.Variables.{Scope as Reach, local, global}
use Rattle.bds_sim_terms.specs.steps.Stands.{Source, Names, Loop, IsChange, is_global, is_key, load_code, results, Lined, Comes}
use Rattle.bds_sim_code.proofs.Blocks.{Part, Form, comes_here, more_begins}
use Rattle.bds_sim_code.proofs.Exprs.{goes_from, one_part, pushed}
use Rattle.bds_sim_code.proofs.Forms.{split, as_part, expr_begins}
use Rattle.bds_sim_code.proofs.Agree.{Agrees}
use Rattle.bds_sim_code.proofs.Marked.{Has}
use Rattle.bds_sim_code.proofs.StmtBlocks.{update_begins}
use Rattle.bds_sim_code.specs.StmtHere.{Value, SuffixHere, SuffixesHere, PlaceHere}

-- an instruction tells which variable it loads

abbrev reaches_global : Instr → Bool
reaches_global (instr.LoadGlobal n) = true
reaches_global _ = false

abbrev loaded_number : Instr → ℕ
loaded_number (instr.Load n) = n
loaded_number (instr.LoadGlobal n) = n
loaded_number _ = 0

update_is : (p : VariablePlace) (s : Reach) (n : ℕ) (kinds : List Bool) (what : ℕ) → load_at p ≡ load_code s n → instr.Update (is_global_at p) (number_at p) kinds what ≡ instr.Update (is_global s) n kinds what
update_is (in_slot i) local n kinds what e = ap (λ k. instr.Update false k kinds what) (ap loaded_number e)
update_is (in_slot i) global n kinds what e = absurd (let bad : false ≡ true = ap reaches_global e in cc)
update_is (in_global i) local n kinds what e = absurd (let bad : true ≡ false = ap reaches_global e in cc)
update_is (in_global i) global n kinds what e = ap (λ k. instr.Update true k kinds what) (ap loaded_number e)

same_kind : (x : SuffixTree) → is_key (into_of x) ≡ kind_of x
same_kind (at_index e) = refl
same_kind (at_key e) = refl

same_kinds : (xs : List SuffixTree) → map is_key (map into_of xs) ≡ map kind_of xs
same_kinds [] = refl
same_kinds (x ∷ xs) = ap (λ k. k ∷ map is_key (map into_of xs)) (same_kind x) ∙ ap (λ ks. kind_of x ∷ ks) (same_kinds xs)

-- a result is dropped where there is one
gives_one : (f : Ty-F Ty) → known_at f ≡ not (is_void_at f)
gives_one Ty-F.Void = refl
gives_one Ty-F.Bool = refl
gives_one Ty-F.Int = refl
gives_one Ty-F.Text = refl
gives_one (Ty-F.List t) = refl
gives_one (Ty-F.Map t) = refl

module _ (o : Source) (u : CodeUnit) (fn : ℕ) (held : List ℕ) (ns : Names) (names : Checked) (sc : Scope) (agrees : Agrees o u names sc ns) where
  abbrev P : Term → ℕ → ℕ → ℕ → Type 0
  P t pc exit kind = Part o u fn held ns t pc exit kind

  abbrev F : Option Loop → Term → ℕ → ℕ → ℕ → Type 0
  F loop t pc exit kind = Form o u fn held ns loop t pc exit kind

  abbrev H : List Mark → ℕ → Type 0
  H ms pc = Has o u fn ms pc

  abbrev C : ℕ → ℕ → Type 0
  C pc to = Comes o u fn pc to

  abbrev T : List ℕ → Option Ty
  T = types_in sc

  pub cut : (xs ys : List Mark) (pc n : ℕ) → marks xs ≡ n → H (xs ++ ys) pc → H xs pc × H ys (pc + n)
  cut xs ys pc n e h = split o u fn held ns names sc agrees xs ys pc n e h

  pub part_from : (t : Term) (a b exit k : ℕ) → a ≡ b → P t a exit k → P t b exit k
  part_from t a b exit k e h = subst (λ n. P t n exit k) e h

  pub part_gives : (t : Term) (pc exit a b : ℕ) → a ≡ b → P t pc exit a → P t pc exit b
  part_gives t pc exit a b e h = subst (P t pc exit) e h

  pub value_begins : (e : Tree) (s : List Ty) (pc : ℕ) → Value o u names sc e → H (expr_code e sc pc s) pc → P (term_of names e) pc (pc + expr_size T e) 1
  value_begins e s pc here h = as_part o u fn held ns names sc agrees (term_of names e) pc (pc + expr_size T e) (results (type_of e)) here.0 (expr_begins o u fn held ns names sc agrees e s pc here.1 h)

  suffix_begins : (x : SuffixTree) (s : List Ty) (pc : ℕ) → SuffixHere o u names sc x → H (suffix_code x sc pc s) pc → P (suffix_term names x) pc (pc + suffix_size T x) 1
  suffix_begins (at_index e) s pc here h = value_begins e s pc here h
  suffix_begins (at_key e) s pc here h = value_begins e s pc here h

  pub suffixes_begin : (xs : List SuffixTree) (s : List Ty) (pc end k : ℕ) (args : Term) → SuffixesHere o u names sc xs → H (suffixes_code xs sc pc s) pc → P args (pc + suffixes_size T xs) end k → P (steps_then names xs args) pc end (k + length (map into_of xs))
  suffixes_begin [] s pc end k args here h ha = part_gives args pc end k (k + 0) (omega arith) (part_from args (pc + 0) pc end k (omega arith) ha)
  suffixes_begin (x ∷ xs) s pc end k args here h ha =
      let n = suffix_size T x in
      let r = cut (suffix_code x sc pc s) (suffixes_code xs sc (pc + n) (step_ty (kind_of x) ∷ s)) pc n (suffix-count x sc pc s) h in
      let j = length (map into_of xs) in
      more_begins o u fn held ns None (suffix_term names x) (steps_then names xs args) pc (pc + n) end end 1 (k + j) (k + suc j) (suffix_begins x s pc here.0 r.0)
      (suffixes_begin xs (step_ty (kind_of x) ∷ s) (pc + n) end k args here.1 r.1 (part_from args (pc + suffixes_size T (x ∷ xs)) (pc + n + suffixes_size T xs) end k (omega arith) ha)) (comes_here o u fn end) (omega arith)

  -- the instruction of a change behind its operands
  pub changed : (loop : Option Loop) (at : At) (x : List ℕ) (into : List Into) (kinds : List Bool) (change : Change) (what k : ℕ) (a : Term) (pc mid exit : ℕ) → map is_key into ≡ kinds → IsSome (T x) → IsChange change what k → P a pc mid (k + length into) → H (changes_place sc at x kinds what) mid → C (mid + 1) exit
      → F loop (Update at (scope_of names x) x into change a) pc exit 0
  changed loop at x into kinds change what k a pc mid exit e known is_change ha h c =
      let n = agrees.variables x known in
      let same = update_is (place_of sc x) (scope_of names x) n.number kinds what n.code in
      update_begins o u fn held loop ns at (scope_of names x) x into change n.number what k a pc mid exit n.is is_change ha
      (subst (λ ks. Lined o u fn mid (instr.Update (is_global (scope_of names x)) n.number ks what) at) (sym e) (subst (λ i. Lined o u fn mid i at) same h.0)) c

  -- a change of a place by one value
  pub place_begins : (loop : Option Loop) (at : At) (q : PlaceTree) (change : Change) (what : ℕ) (code : List Mark) (a : Term) (pc n exit : ℕ) → PlaceHere o u names sc q → IsChange change what 1 → marks code ≡ n
      → (H code (pc + suffixes_size T q.suffixes) → P a (pc + suffixes_size T q.suffixes) (pc + suffixes_size T q.suffixes + n) 1)
      → H (suffixes_code q.suffixes sc pc [] ++ (code ++ changes_place sc at q.name (kinds_of q) what)) pc → C (pc + (suffixes_size T q.suffixes + n + 1)) exit → F loop (place_term names at q change (one a)) pc exit 0
  place_begins loop at q change what code a pc n exit here is_change size ha h c =
      let m = suffixes_size T q.suffixes in
      let r = cut (suffixes_code q.suffixes sc pc []) (code ++ changes_place sc at q.name (kinds_of q) what) pc m (suffixes-count q.suffixes sc pc []) h in
      let r2 = cut code (changes_place sc at q.name (kinds_of q) what) (pc + m) n size r.1 in
      changed loop at q.name (map into_of q.suffixes) (kinds_of q) change what 1 (steps_then names q.suffixes (one a)) pc (pc + m + n) exit (same_kinds q.suffixes) here.0 is_change
      (suffixes_begin q.suffixes [] pc (pc + m + n) 1 (one a) here.1 r.0 (one_part o u fn held ns names sc agrees a (pc + m) (pc + m + n) (ha r2.0))) r2.1
      (goes_from o u fn held ns names sc agrees (pc + (m + n + 1)) (pc + m + n + 1) exit (omega arith) c)

  pub is_change_of : (op : UpdateOp) → IsChange (change_of op) (change_number op) 1
  is_change_of update_op.Add = (refl, refl)
  is_change_of update_op.Sub = (refl, refl)
  is_change_of update_op.Mul = (refl, refl)
  is_change_of update_op.Div = (refl, refl)
  is_change_of update_op.Rem = (refl, refl)

  unit_begins : (loop : Option Loop) (at : At) (q : PlaceTree) (change : Change) (what pc exit : ℕ) → PlaceHere o u names sc q → IsChange change what 1 → H (suffixes_code q.suffixes sc pc [] ++ (does (instr.PushInt (pos 1)) at ∷ changes_place sc at q.name (kinds_of q) what)) pc → C (pc + (suffixes_size T q.suffixes + 2)) exit
      → F loop (place_term names at q change (one (Constant (value.Int (pos 1))))) pc exit 0
  unit_begins loop at q change what pc exit here is_change h c =
      let m = pc + suffixes_size T q.suffixes in
      place_begins loop at q change what (one_mark at (instr.PushInt (pos 1))) (Constant (value.Int (pos 1))) pc 1 exit here is_change refl
      (λ k. pushed o u fn held ns names sc agrees None (instr.PushInt (pos 1)) (value.Int (pos 1)) at m (m + 1) refl k.0 (comes_here o u fn (m + 1))) h
      (goes_from o u fn held ns names sc agrees (pc + (suffixes_size T q.suffixes + 2)) (pc + (suffixes_size T q.suffixes + 1 + 1)) exit (omega arith) c)

  pub step_begins : (loop : Option Loop) (x : StepTree) (at : At) (pc exit : ℕ) → PlaceHere o u names sc (stepped x) → H (step_code x at sc pc) pc → C (pc + (suffixes_size T (stepped x).suffixes + 2)) exit → F loop (step_term names at x) pc exit 0
  step_begins loop (step_after q step_op.Increment) at pc exit here h c = unit_begins loop at q Increased 1 pc exit here (refl, refl) h c
  step_begins loop (step_after q step_op.Decrement) at pc exit here h c = unit_begins loop at q (Reckoned vop.Sub) 2 pc exit here (refl, refl) h c
  step_begins loop (step_before step_op.Increment q) at pc exit here h c = unit_begins loop at q Increased 1 pc exit here (refl, refl) h c
  step_begins loop (step_before step_op.Decrement q) at pc exit here h c = unit_begins loop at q (Reckoned vop.Sub) 2 pc exit here (refl, refl) h c
