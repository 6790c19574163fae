-- The code of the parts of the head of a `for` begins their terms.
use Rattle.std.proofs.Common.{◌≡◌, ℕ, ◌+◌, Bool, true, List, [], ◌∷◌, ◌++◌, Option, Some, None, refl, arith}
use Rattle.bds_value.specs.declared.change_numbers.TheConstants.{ASSIGN}
use Rattle.bds_value.specs.declared.value.At.{At}
use Rattle.bds_value.specs.declared.value.Ty.{Ty}
use Rattle.bds_value.specs.declared.value.Value.TheVariants as value
use Rattle.bds_value.specs.Value.{default_of}
use Rattle.bds_tree.specs.StmtTree.{SmallFormTree, small_declare, small_infer, small_assign, small_update, small_step, small_call, SmallTree}
use Rattle.bds_tree.specs.Tree.{Tree, type_of}
use Rattle.bds_code.specs.declared.instr.Instr.TheVariants as instr
use Rattle.bds_code.specs.declared.unit.Unit.{Unit as CodeUnit}
use Rattle.bds_check_names.specs.declared.names.Names.{Names as Checked}
use Rattle.bds_check_names.specs.declared.names.Site.{Site}
use Rattle.bds_check_names.specs.declared.names.Variable.{Variable}
use Rattle.bds_check_names.specs.Slots.{small_form_slots, small_slots}
use Rattle.bds_check_rules.specs.Declarations.{declared_by_small, declared_by_small_form, names_with}
use Rattle.bds_check_size.specs.ExprSize.{expr_size}
use Rattle.bds_check_size.specs.StmtSize.{suffixes_size, small_form_size, maybe_small_size, condition_size}
use Rattle.bds_gen_expr.specs.ExprCode.{expr_code}
use Rattle.bds_gen_expr.specs.Marks.{Mark}
use Rattle.bds_gen_expr.specs.Scope.{types_in}
use Rattle.bds_gen_expr.proofs.Counts.{expr-count}
use Rattle.bds_gen_stmt.specs.PlaceCode.{steps_below, kinds_of, change_number, small_form_code, small_code, behind_small_form, behind_small}
use Rattle.bds_gen_stmt.specs.Spots.{Spot, local_with, store_new}
use Rattle.bds_gen_stmt.specs.StmtCode.{condition_code}
use Rattle.bds_meaning.specs.OpeningExpressions.{term_of}
use Rattle.bds_meaning.specs.OpeningPlaces.{change_of}
use Rattle.bds_meaning.specs.OpeningStatements.{small_form_term, small_term, test_term, behind_small as names_behind}
use Rattle.bds_meaning.specs.Term.{Replaced, Term, Constant, Declare}
use Rattle.bds_meaning.specs.Variables.{local}
use Rattle.bds_sim_terms.specs.steps.Stands.{Source, Names, Loop, Comes}
use Rattle.bds_sim_code.proofs.Around.{Around, free_above, unheld_above}
use Rattle.bds_sim_code.proofs.Blocks.{Part, Form, comes_here, nothing_begins}
use Rattle.bds_sim_code.proofs.Calls.{call_alone_begins}
use Rattle.bds_sim_code.proofs.Declared.{around_declared}
use Rattle.bds_sim_code.proofs.Exprs.{goes_from, pushed}
use Rattle.bds_sim_code.proofs.Lines.{stored}
use Rattle.bds_sim_code.proofs.Marked.{Has}
use Rattle.bds_sim_code.proofs.Places.{cut, value_begins, place_begins, is_change_of, step_begins}
use Rattle.bds_sim_code.proofs.StmtBlocks.{Done, done_run, local_begins}
use Rattle.bds_sim_code.specs.StmtHere.{Leaps, Value, SmallFormHere, SmallHere, TestHere, scope_with, small_scope}
use Rattle.bds_sim_code.proofs.Added.{small_form_names, small_names}

module _ (o : Source) (u : CodeUnit) (fn : ℕ) (held : List ℕ) (loop : Option Loop) (names : Checked) (sp : Spot) (loops : Leaps) (ns : Names) (here : Around o u held loop names sp loops ns) where
  abbrev P : Term → ℕ → ℕ → ℕ → Type 0
  P t pc exit kind = Part o u fn held ns t pc exit kind

  abbrev H : List Mark → ℕ → Type 0
  H ms pc = Has o u fn ms pc

  abbrev C : ℕ → ℕ → Type 0
  C pc to = Comes o u fn pc to

  abbrev T : List ℕ → Option Ty
  T = types_in sp.scope

  goes : (a b to : ℕ) → a ≡ b → C a to → C b to
  goes a b to e c = goes_from o u fn held ns names sp.scope here.agrees a b to e c

  done : (t : Term) (pc to : ℕ) → Form o u fn held ns loop t pc to 0 → Done o u fn held loop ns t pc ns to
  done t pc to h = done_run o u fn held loop ns ns t pc to h

  opened : (at : At) (x : List ℕ) (ty : Ty) (t : Term) (pc mid to : ℕ) → P t pc mid 1 → H (store_new sp at ty) mid → C (mid + 1) to → Done o u fn held loop ns (Declare local x t) pc ((x, Some sp.next) ∷ ns) to
  opened at x ty t pc mid to ht h c =
      done_run o u fn held loop ns ((x, Some sp.next) ∷ ns) (Declare local x t) pc to
      (local_begins o u fn held loop ns x sp.next t pc mid to (free_above sp.next sp.next ns here.under (omega arith)) (unheld_above sp.next sp.next held here.held_under (omega arith)) ht (stored o u fn held sp.at_top at ty _ sp.next mid here.low h) c)

  opened_value : (at : At) (x : List ℕ) (ty : Ty) (e : Tree) (pc to : ℕ) → Value o u names sp.scope e → H (expr_code e sp.scope pc [] ++ store_new sp at ty) pc → C (pc + (expr_size T e + 1)) to → Done o u fn held loop ns (Declare local x (term_of names e)) pc ((x, Some sp.next) ∷ ns) to
  opened_value at x ty e pc to v h c =
      let k = expr_size T e in
      let r = cut o u fn held ns names sp.scope here.agrees (expr_code e sp.scope pc []) (store_new sp at ty) pc k (expr-count e sp.scope pc []) h in
      opened at x ty (term_of names e) pc (pc + k) to (value_begins o u fn held ns names sp.scope here.agrees e [] pc v r.0) r.1 (goes (pc + (k + 1)) (pc + k + 1) to (omega arith) c)

  small_form_begins : (f : SmallFormTree) (site : Site) (at : At) (pc to : ℕ) → SmallFormHere o u names sp.scope site f → H (small_form_code f at sp pc) pc → C (pc + small_form_size T f) to → Done o u fn held loop ns (small_form_term names at f) pc (small_form_names f sp.next ++ ns) to
  small_form_begins (small_declare t x None) site at pc to asks h c =
      opened at x t (Constant (default_of t)) pc (pc + 1) to (pushed o u fn held ns names sp.scope here.agrees None (instr.PushDefault t) (default_of t) at pc (pc + 1) refl h.0 (comes_here o u fn (pc + 1))) h.1 (goes (pc + 2) (pc + 1 + 1) to (omega arith) c)
  small_form_begins (small_declare t x (Some e)) site at pc to asks h c = opened_value at x t e pc to asks.1 h c
  small_form_begins (small_infer x e) site at pc to asks h c = opened_value at x (type_of e) e pc to asks.1 h c
  small_form_begins (small_assign q e) site at pc to asks h c =
      let m = pc + suffixes_size T q.suffixes in
      let s = steps_below (kinds_of q) [] in
      done (small_form_term names at (small_assign q e)) pc to (place_begins o u fn held ns names sp.scope here.agrees loop at q Replaced ASSIGN (expr_code e sp.scope m s) (term_of names e) pc (expr_size T e) to asks.0 (refl, refl)
      (expr-count e sp.scope m s) (value_begins o u fn held ns names sp.scope here.agrees e s m asks.1) h c)
  small_form_begins (small_update q op e) site at pc to asks h c =
      let m = pc + suffixes_size T q.suffixes in
      let s = steps_below (kinds_of q) [] in
      done (small_form_term names at (small_update q op e)) pc to (place_begins o u fn held ns names sp.scope here.agrees loop at q (change_of op) (change_number op) (expr_code e sp.scope m s) (term_of names e) pc (expr_size T e) to asks.0 (is_change_of o u fn held ns names sp.scope here.agrees op)
      (expr-count e sp.scope m s) (value_begins o u fn held ns names sp.scope here.agrees e s m asks.1) h c)
  small_form_begins (small_step x) site at pc to asks h c = done (small_form_term names at (small_step x)) pc to (step_begins o u fn held ns names sp.scope here.agrees loop x at pc to asks h c)
  small_form_begins (small_call e) site at pc to asks h c = call_alone_begins o u fn held ns names sp.scope here.agrees loop e at pc to asks h c

  pub small_begins : (s : Option SmallTree) (site : Site) (pc to : ℕ) → SmallHere o u names sp.scope site s → H (small_code s sp pc) pc → C (pc + maybe_small_size T s) to → Done o u fn held loop ns (small_term names s) pc (small_names s sp.next ++ ns) to
  small_begins None site pc to asks h c = done (small_term names None) pc to (nothing_begins o u fn held ns loop pc to (goes (pc + 0) pc to (omega arith) c))
  small_begins (Some s) site pc to asks h c = small_form_begins s.form site s.at pc to asks h c

  pub test_begins : (e : Option Tree) (at : At) (pc : ℕ) → TestHere o u names sp.scope e → H (condition_code e at sp.scope pc) pc → P (test_term names e) pc (pc + condition_size T e) 1
  test_begins None at pc asks h = pushed o u fn held ns names sp.scope here.agrees None (instr.PushBool true) (value.Bool true) at pc (pc + 1) refl h.0 (comes_here o u fn (pc + 1))
  test_begins (Some e) at pc asks h = value_begins o u fn held ns names sp.scope here.agrees e [] pc asks h

  around_small_form : (f : SmallFormTree) (site : Site) → SmallFormHere o u names sp.scope site f → Around o u held loop (names_with names site (declared_by_small_form f)) (behind_small_form f sp) loops (small_form_names f sp.next ++ ns)
  around_small_form (small_declare t x None) site asks = around_declared o u held loop names sp loops ns here site x t asks
  around_small_form (small_declare t x (Some e)) site asks = around_declared o u held loop names sp loops ns here site x t asks.0
  around_small_form (small_infer x e) site asks = around_declared o u held loop names sp loops ns here site x (type_of e) asks.0
  around_small_form _ site asks = here

  pub around_small : (s : Option SmallTree) (site : Site) → SmallHere o u names sp.scope site s → Around o u held loop (names_behind names site s) (behind_small s sp) loops (small_names s sp.next ++ ns)
  around_small None site asks = here
  around_small (Some s) site asks = around_small_form s.form site asks

-- the scope and the next slot behind the first part

local_scope_is : (v : Option Variable) (sp : Spot) → (local_with sp v).scope ≡ scope_with sp.scope sp.next v
local_scope_is None sp = refl
local_scope_is (Some v) sp = refl

pub small_scope_is : (s : Option SmallTree) (sp : Spot) → (behind_small s sp).scope ≡ small_scope s sp.scope sp.next
small_scope_is s sp = local_scope_is (declared_by_small s) sp

small_form_next_is : (f : SmallFormTree) (sp : Spot) → (behind_small_form f sp).next ≡ sp.next + small_form_slots f
small_form_next_is (small_declare t x e) sp = refl
small_form_next_is (small_infer x e) sp = refl
small_form_next_is _ sp = omega arith

pub small_next_is : (s : Option SmallTree) (sp : Spot) → (behind_small s sp).next ≡ sp.next + small_slots s
small_next_is None sp = omega arith
small_next_is (Some s) sp = small_form_next_is s.form sp
