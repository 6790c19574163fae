-- The code of each form of line begins its term, which puts the names in force that the line adds.
use Rattle.std.proofs.Common.{◌≡◌, ℕ, ◌+◌, Bool, true, false, List, [], ◌∷◌, ◌++◌, length, Option, Some, None, refl, sym, ◌∙◌, subst, arith, if◌then◌else◌}
use Rattle.std.specs.Prelude.{codes, ⊤}
use Rattle.bds_value.specs.declared.change_numbers.TheConstants.{ASSIGN}
use Rattle.bds_value.specs.declared.value.At.{At}
use Rattle.bds_value.specs.declared.value.Op.TheVariants as vop
use Rattle.bds_value.specs.declared.value.Ty.{Ty}
use Rattle.bds_value.specs.declared.value.Value.TheVariants as value
use Rattle.bds_value.specs.Value.{default_of}
use Rattle.bds_tree.specs.StmtTree.{LineTree, RightTree, ActFormTree, declare, infer, assign, update, step, call_line, print, println, error, exit, break, continue, return, wait, checkpoint, act_line, right_expr, right_act, act, SettingTree, sys, task, dep, goal, par_call, par_block, no_right, a_right}
use Rattle.bds_tree.specs.Tree.{Tree, type_of}
use Rattle.bds_code.specs.declared.instr.Instr.TheVariants as instr
use Rattle.bds_code.specs.declared.unit.Unit.{Unit as CodeUnit}
use Rattle.bds_check_names.specs.declared.names.Names.{Names as Checked}
use Rattle.bds_check_names.specs.declared.names.Site.{Site}
use Rattle.bds_check_rules.specs.StmtBreaks.{right_type}
use Rattle.bds_check_size.specs.ExprSize.{expr_size, trees_size, files_size}
use Rattle.bds_check_size.specs.Parts.{parts_of}
use Rattle.bds_check_size.specs.StmtSize.{pieces_size, suffixes_size, maybe_settings, line_size, right_size, act_form_size}
use Rattle.bds_gen_expr.specs.ExprCode.{pieces_code, expr_code, trees_code, files_code, listing}
use Rattle.bds_gen_expr.specs.Marks.{Mark, does, label, slot, one as one_mark, count as marks}
use Rattle.bds_gen_expr.specs.Scope.{known, types_in, function_number}
use Rattle.bds_gen_expr.proofs.Counts.{expr-count, trees-count, parts-count}
use Rattle.bds_gen_stmt.specs.PlaceCode.{steps_below, kinds_of, change_number}
use Rattle.bds_gen_stmt.proofs.ActCounts.{files-count}
use Rattle.bds_gen_stmt.specs.Spots.{Loop as Written, Spot, store_new}
use Rattle.bds_gen_stmt.specs.StmtCode.{leap, line_code, right_code, act_form_code}
use Rattle.bds_gen_stmt.proofs.WholeCounts.{right-count, act-form-count}
use Rattle.bds_meaning.specs.OpeningActs.{making_term, some_settings}
use Rattle.bds_meaning.specs.OpeningExpressions.{term_of, terms_of, files_term, shown}
use Rattle.bds_meaning.specs.OpeningPlaces.{change_of}
use Rattle.bds_meaning.specs.OpeningStatements.{scope_at, set_at, unless_set, line_term, right_term, act_form_term}
use Rattle.bds_meaning.specs.OpeningTexts.{one, plain, joined, text_term}
use Rattle.bds_meaning.specs.Term.{Operated, Shown, Printed, CommandRun, Achieved, IdsAwaited, AllAwaited, Saved, SavedHere, Replaced, Term, Constant, Nothing, Declare, Break, Continue, as_task}
use Rattle.bds_meaning.specs.Variables.{Bindings, local, global}
use Rattle.bds_sim_terms.specs.steps.Stands.{Source, Names, Target, out_of, again_of, Loop, Is, Lined, Comes}
use Rattle.bds_sim_code.proofs.Around.{Reaches, WhereTrue, Around, IsAround, free_above, unheld_above}
use Rattle.bds_sim_code.proofs.Blocks.{Part, Form, comes_here, comes_jump, nothing_begins, does_begins}
use Rattle.bds_sim_code.proofs.Calls.{call_alone_begins}
use Rattle.bds_sim_code.proofs.Exprs.{goes_from, one_part, computed_one, computed_two, pushed, files_begin, pieces_begin}
use Rattle.bds_sim_code.proofs.Forms.{trees_begin}
use Rattle.bds_sim_code.proofs.Marked.{Has}
use Rattle.bds_sim_code.proofs.ParBlocks.{FormBegun, RightBegun, LineBegun, spawn_block_begins}
use Rattle.bds_sim_code.proofs.Places.{cut, value_begins, place_begins, is_change_of, step_begins}
use Rattle.bds_sim_code.proofs.StmtBlocks.{Done, done_run, local_begins, break_begins, continue_begins, return_begins, error_begins, exit_begins, spawn_begins}
use Rattle.bds_sim_code.proofs.Tasks.{task_begins, rule_begins}
use Rattle.bds_sim_code.specs.StmtHere.{Leaps, Returning, ReturnsHere, ReturnsTo, Value, ActHere, RightHere, LineHere}
use Rattle.bds_sim_code.proofs.Added.{line_names}

-- a declaration in a block takes no value that is set before the run
local_is : (top : Bool) (settings : Bindings) (x : List ℕ) (t : Term) → top ≡ false → Declare (if top then global else local) x (unless_set (set_at top settings x) t) ≡ Declare local x t
local_is true settings x t e = absurd (cc)
local_is false settings x t e = refl

module _ (o : Source) (u : CodeUnit) (fn : ℕ) (held : List ℕ) where
  pub stored : (top : Bool) (at : At) (t : Ty) (g next pc : ℕ) → top ≡ false → Has o u fn (if top then one_mark at (instr.StoreGlobal g) else slot t ∷ does (instr.Store next) at ∷ []) pc → Is o u fn pc (instr.Store next)
  stored true at t g next pc e h = absurd (cc)
  stored false at t g next pc e h = h.0.is

  break_line : (b : Bool) (w : Option Written) (l : Option Loop) (to : Option Target) (ns : Names) (at : At) (pc behind : ℕ) → b ≡ true → out_of l ≡ to → WhereTrue b (Reaches w (λ k. k.end) to ns) → Has o u fn (leap at w (λ k. k.end)) pc → Form o u fn held ns l Break pc behind 0
  break_line true (Some w) l (Some to) ns at pc behind e is around h =
      break_begins o u fn held l ns around.1.0 to pc behind is (comes_jump o u fn pc to.place to.place (subst (λ place. Is o u fn pc (instr.Jump place)) around.0 h.0.is) (comes_here o u fn to.place)) around.1.1
  break_line true (Some w) l None ns at pc behind e is around h = absurd around
  break_line true None l to ns at pc behind e is around h = absurd around
  break_line false w l to ns at pc behind e is around h = absurd (cc)

  continue_line : (b : Bool) (w : Option Written) (l : Option Loop) (to : Option Target) (ns : Names) (at : At) (pc behind : ℕ) → b ≡ true → again_of l ≡ to → WhereTrue b (Reaches w (λ k. k.again) to ns) → Has o u fn (leap at w (λ k. k.again)) pc → Form o u fn held ns l Continue pc behind 0
  continue_line true (Some w) l (Some to) ns at pc behind e is around h =
      continue_begins o u fn held l ns around.1.0 to pc behind is (comes_jump o u fn pc to.place to.place (subst (λ place. Is o u fn pc (instr.Jump place)) around.0 h.0.is) (comes_here o u fn to.place)) around.1.1
  continue_line true (Some w) l None ns at pc behind e is around h = absurd around
  continue_line true None l to ns at pc behind e is around h = absurd around
  continue_line false w l to ns at pc behind e is around h = absurd (cc)

returning : (o : Source) (u : CodeUnit) (fn : ℕ) (r : Option Ty) (k : ℕ) → ReturnsTo o u fn r → ReturnsHere r k → Returning o u fn k
returning o u fn None k gives asks = absurd asks
returning o u fn (Some t) k gives asks = λ f there. gives f there ∙ asks

-- options that aren't there are none
some_is : (os : Option (List SettingTree)) → some_settings os ≡ maybe_settings os
some_is None = refl
some_is (Some os) = refl

-- a line that leaves no value and no name
abbrev IsQuiet : LineTree → Type 0
IsQuiet (declare t x r) = ⊥
IsQuiet (infer x r) = ⊥
IsQuiet (call_line e) = ⊥
IsQuiet (act_line a) = ⊥
IsQuiet _ = ⊤

module _ (o : Source) (u : CodeUnit) (fn : ℕ) (held : List ℕ) (loop : Option Loop) (settings : Bindings) (names : Checked) (sp : Spot) (loops : Leaps) (ns : Names) (here : Around o u held loop names sp loops ns) where
  abbrev P : Term → ℕ → ℕ → ℕ → Type 0
  P t pc to kind = Part o u fn held ns t pc to kind

  abbrev H : List Mark → ℕ → Type 0
  H ms pc = Has o u fn ms pc

  abbrev C : ℕ → ℕ → Type 0
  C pc to = Comes o u fn pc to

  abbrev T : List ℕ → Option Ty
  T = types_in sp.scope

  abbrev D : Term → ℕ → ℕ → Type 0
  D t pc to = Done o u fn held loop ns t pc ns to

  split_at : (xs ys : List Mark) (pc n : ℕ) → marks xs ≡ n → H (xs ++ ys) pc → H xs pc × H ys (pc + n)
  split_at xs ys pc n e h = cut o u fn held ns names sp.scope here.agrees xs ys pc n e h

  goes : (a b to : ℕ) → a ≡ b → C a to → C b to
  goes a b to e c = goes_from o u fn held ns names sp.scope here.agrees a b to e c

  one_of : (a : Term) (pc end : ℕ) → P a pc end 1 → P (one a) pc end 1
  one_of a pc end h = one_part o u fn held ns names sp.scope here.agrees a pc end h

  abbrev V : Tree → Type 0
  V e = Value o u names sp.scope e

  value_at : (e : Tree) (s : List Ty) (pc : ℕ) → V e → H (expr_code e sp.scope pc s) pc → P (term_of names e) pc (pc + expr_size T e) 1
  value_at e s pc v h = value_begins o u fn held ns names sp.scope here.agrees e s pc v h

  files_at : (e : Tree) (at : At) (s : List Ty) (pc : ℕ) → V e → H (files_code e at sp.scope pc s) pc → P (files_term names at e) pc (pc + files_size T e) 1
  files_at e at s pc v h =
      let n = expr_size T e in
      let r = split_at (expr_code e sp.scope pc s) (listing at (type_of e)) pc n (expr-count e sp.scope pc s) h in
      files_begin o u fn held ns names sp.scope here.agrees (type_of e) at (term_of names e) pc (pc + n) (pc + files_size T e) (value_at e s pc v r.0) r.1 (omega arith)

  files_marks : (e : Tree) (at : At) (s : List Ty) (pc : ℕ) → marks (files_code e at sp.scope pc s) ≡ files_size T e
  files_marks e at s pc = files-count e at sp.scope pc s

  -- a value of the text of an expression, and a line end
  shown_at : (e : Tree) (at : At) (pc : ℕ) → V e → H (expr_code e sp.scope pc []) pc → Lined o u fn (pc + expr_size T e) instr.Show at → P (shown at (term_of names e)) pc (pc + expr_size T e + 1) 1
  shown_at e at pc v h is = computed_one o u fn held ns names sp.scope here.agrees None Shown instr.Show at (term_of names e) pc (pc + expr_size T e) (pc + expr_size T e + 1) (refl, refl) (value_at e [] pc v h) is (comes_here o u fn (pc + expr_size T e + 1))

  line_end : (at : At) (pc : ℕ) → Lined o u fn pc (instr.PushText (10 ∷ [])) at → P (plain (codes "\n")) pc (pc + 1) 1
  line_end at pc is = pushed o u fn held ns names sp.scope here.agrees None (instr.PushText (10 ∷ [])) (value.Text (10 ∷ [])) at pc (pc + 1) refl is (comes_here o u fn (pc + 1))

  -- Acts

  pub act_begins : (f : ActFormTree) (at : At) (n : ℕ) (s : List Ty) (l : Option Loop) (pc to : ℕ) → ActHere o u names sp.scope f → FormBegun o u settings names sp.scope ns f n → H (act_form_code f at sp n pc s) pc → C (pc + act_form_size f (known sp.scope)) to → Form o u fn held ns l (act_form_term settings names at f) pc to 1
  act_begins (sys ps) at n s l pc to asks begun h c =
      let k = pieces_size T ps in
      let r = split_at (pieces_code sp.scope at ps) (one_mark at instr.Sys) pc k (parts-count sp.scope at (parts_of T ps)) h in
      does_begins o u fn held ns l CommandRun (one (text_term names at ps)) at pc (pc + k) to (one_of (text_term names at ps) pc (pc + k) (pieces_begin o u fn held ns names sp.scope here.agrees ps at pc asks r.0 None (pc + k) (comes_here o u fn (pc + k)))) r.1.0 (goes (pc + (k + 1)) (pc + k + 1) to (omega arith) c)
  act_begins (goal e) at n s l pc to asks begun h c =
      let k = files_size T e in
      let r = split_at (files_code e at sp.scope pc s) (one_mark at instr.Goal) pc k (files_marks e at s pc) h in
      does_begins o u fn held ns l Achieved (one (files_term names at e)) at pc (pc + k) to (one_of (files_term names at e) pc (pc + k) (files_at e at s pc asks r.0)) r.1.0 (goes (pc + (k + 1)) (pc + k + 1) to (omega arith) c)
  act_begins (par_call f es) at n s l pc to asks begun h c =
      let k = trees_size T es in
      let r = split_at (trees_code es sp.scope pc s) (one_mark at (instr.Spawn (function_number sp.scope f))) pc k (trees-count es sp.scope pc s) h in
      spawn_begins o u fn held l ns f at asks.0.f (terms_of names es) pc (pc + k) to asks.0.there (subst (P (terms_of names es) pc (pc + k)) (sym asks.0.takes) (trees_begin o u fn held ns names sp.scope here.agrees es s pc asks.1 r.0))
      (subst (λ m. Lined o u fn (pc + k) (instr.Spawn m) at) (here.agrees.functions f asks.0.f asks.0.there) r.1.0) (goes (pc + (k + 1)) (pc + k + 1) to (omega arith) c)
  act_begins (task os b) at n s l pc to asks begun h c =
      subst (λ os. Form o u fn held ns l (making_term names at as_task os b) pc to 1) (sym (some_is os))
      (task_begins o u fn held ns names sp.scope here.agrees sp.first here.spare l (maybe_settings os) b at s pc to asks.0 asks.1 h c)
  act_begins (dep os b) at n s l pc to asks begun h c = absurd asks
  act_begins (par_block b) at n s l pc to asks begun h c = spawn_block_begins o u settings names sp.scope ns fn held l b at n pc to begun h c

  pub right_begins : (r : RightTree) (n : ℕ) (s : List Ty) (pc : ℕ) → RightHere o u names sp.scope r → RightBegun o u settings names sp.scope ns r n → H (right_code r sp n pc s) pc → P (right_term settings names r) pc (pc + right_size r (known sp.scope)) 1
  right_begins (right_expr e) n s pc asks begun h = value_at e s pc asks h
  right_begins (right_act (act at f)) n s pc asks begun h = act_begins f at n s None pc (pc + act_form_size f (known sp.scope)) asks begun h (comes_here o u fn (pc + act_form_size f (known sp.scope)))

  -- an act whose value is dropped
  act_dropped : (f : ActFormTree) (place at : At) (n pc to : ℕ) → ActHere o u names sp.scope f → FormBegun o u settings names sp.scope ns f n → H (act_form_code f place sp n pc [] ++ one_mark at instr.Drop) pc → C (pc + (act_form_size f (known sp.scope) + 1)) to → D (act_form_term settings names place f) pc to
  act_dropped f place at n pc to asks begun h c =
      let k = act_form_size f (known sp.scope) in
      let r = split_at (act_form_code f place sp n pc []) (one_mark at instr.Drop) pc k (act-form-count f place sp n pc []) h in
      record { kind = 1; end = pc + k; begins = act_begins f place n [] loop pc (pc + k) asks begun r.0 (comes_here o u fn (pc + k)); drops = (r.1.0.is, goes (pc + (k + 1)) (pc + k + 1) to (omega arith) c) }

  -- Lines

  done : (t : Term) (pc to : ℕ) → Form o u fn held ns loop t pc to 0 → D t pc to
  done t pc to h = done_run o u fn held loop ns ns t pc to h

  -- a new local of a value
  opened : (site : Site) (at : At) (x : List ℕ) (ty : Ty) (t : Term) (pc mid to : ℕ) → site.at_top ≡ false → P t pc mid 1 → H (store_new sp at ty) mid → C (mid + 1) to
      → Done o u fn held loop ns (Declare (scope_at site) x (unless_set (set_at site.at_top settings x) t)) pc ((x, Some sp.next) ∷ ns) to
  opened site at x ty t pc mid to e ht h c =
      subst (λ d. Done o u fn held loop ns d pc ((x, Some sp.next) ∷ ns) to) (sym (local_is site.at_top settings x t e))
      (done_run o u fn held loop ns ((x, Some sp.next) ∷ ns) (Declare local x t) pc to
      (local_begins o u fn held loop ns x sp.next t pc mid to (free_above sp.next sp.next ns here.under (omega arith)) (unheld_above sp.next sp.next held here.held_under (omega arith)) ht (stored o u fn held sp.at_top at ty (length sp.scope.globals) sp.next mid here.low h) c))

  line_runs : (l : LineTree) → IsQuiet l → (site : Site) (at : At) (n pc to : ℕ) → LineHere o u names sp.scope site loops l → ReturnsTo o u fn site.returns → LineBegun o u settings names sp.scope ns l n → H (line_code l at sp n pc) pc → C (pc + line_size l (known sp.scope)) to → Form o u fn held ns loop (line_term settings names site at l) pc to 0
  line_runs (assign q r) quiet site at n pc to asks gives begun h c =
      let m = pc + suffixes_size T q.suffixes in
      place_begins o u fn held ns names sp.scope here.agrees loop at q Replaced ASSIGN (right_code r sp n m (steps_below (kinds_of q) [])) (right_term settings names r) pc (right_size r (known sp.scope)) to asks.0 (refl, refl)
      (right-count r sp n m (steps_below (kinds_of q) [])) (right_begins r n (steps_below (kinds_of q) []) m asks.1 begun) h c
  line_runs (update q op r) quiet site at n pc to asks gives begun h c =
      let m = pc + suffixes_size T q.suffixes in
      place_begins o u fn held ns names sp.scope here.agrees loop at q (change_of op) (change_number op) (right_code r sp n m (steps_below (kinds_of q) [])) (right_term settings names r) pc (right_size r (known sp.scope)) to asks.0 (is_change_of o u fn held ns names sp.scope here.agrees op)
      (right-count r sp n m (steps_below (kinds_of q) [])) (right_begins r n (steps_below (kinds_of q) []) m asks.1 begun) h c
  line_runs (step x) quiet site at n pc to asks gives begun h c = step_begins o u fn held ns names sp.scope here.agrees loop x at pc to asks h c
  line_runs (print e) quiet site at n pc to asks gives begun h c =
      let k = expr_size T e in
      let r = split_at (expr_code e sp.scope pc []) (does instr.Show at ∷ does instr.Out at ∷ []) pc k (expr-count e sp.scope pc []) h in
      does_begins o u fn held ns loop Printed (one (shown at (term_of names e))) at pc (pc + k + 1) to (one_of (shown at (term_of names e)) pc (pc + k + 1) (shown_at e at pc asks r.0 r.1.0)) r.1.1.0 (goes (pc + (k + 2)) (pc + k + 1 + 1) to (omega arith) c)
  line_runs (println None) quiet site at n pc to asks gives begun h c =
      does_begins o u fn held ns loop Printed (one (plain (codes "\n"))) at pc (pc + 1) to (one_of (plain (codes "\n")) pc (pc + 1) (line_end at pc h.0)) h.1.0 (goes (pc + 2) (pc + 1 + 1) to (omega arith) c)
  line_runs (println (Some e)) quiet site at n pc to asks gives begun h c =
      let k = expr_size T e in
      let a = shown at (term_of names e) in
      let r = split_at (expr_code e sp.scope pc []) (does instr.Show at ∷ does (instr.PushText (10 ∷ [])) at ∷ does instr.Concat at ∷ does instr.Out at ∷ []) pc k (expr-count e sp.scope pc []) h in
      does_begins o u fn held ns loop Printed (one (joined at a (plain (codes "\n")))) at pc (pc + k + 1 + 1 + 1) to
      (one_of (joined at a (plain (codes "\n"))) pc (pc + k + 1 + 1 + 1) (computed_two o u fn held ns names sp.scope here.agrees None (Operated vop.Concat) instr.Concat at a (plain (codes "\n")) pc (pc + k + 1) (pc + k + 1 + 1) (pc + k + 1 + 1 + 1) (refl, refl) (shown_at e at pc asks r.0 r.1.0) (line_end at (pc + k + 1) r.1.1.0) r.1.1.1.0 (comes_here o u fn (pc + k + 1 + 1 + 1))))
      r.1.1.1.1.0 (goes (pc + (k + 4)) (pc + k + 1 + 1 + 1 + 1) to (omega arith) c)
  line_runs (error e) quiet site at n pc to asks gives begun h c =
      let k = expr_size T e in
      let r = split_at (expr_code e sp.scope pc []) (does instr.Stop at ∷ label [] ∷ []) pc k (expr-count e sp.scope pc []) h in
      error_begins o u fn held loop ns at (term_of names e) pc (pc + k) to (value_at e [] pc asks r.0) r.1.0
  line_runs (exit e) quiet site at n pc to asks gives begun h c =
      let k = expr_size T e in
      let r = split_at (expr_code e sp.scope pc []) (does instr.Exit at ∷ label [] ∷ []) pc k (expr-count e sp.scope pc []) h in
      exit_begins o u fn held loop ns (term_of names e) pc (pc + k) to (value_at e [] pc asks r.0) r.1.0.is
  line_runs break quiet site at n pc to asks gives begun h c = break_line o u fn held loops.breaks sp.loop loop (out_of loop) ns at pc to asks refl here.around.breaks h
  line_runs continue quiet site at n pc to asks gives begun h c = continue_line o u fn held loops.continues sp.loop loop (again_of loop) ns at pc to asks refl here.around.continues h
  line_runs (return no_right) quiet site at n pc to asks gives begun h c =
      let is = h.0.is in
      return_begins o u fn held loop ns Nothing pc pc to is (subst (P Nothing pc pc) (sym (returning o u fn site.returns 0 gives asks is.f is.there)) (nothing_begins o u fn held ns None pc pc (comes_here o u fn pc)))
  line_runs (return (a_right r)) quiet site at n pc to asks gives begun h c =
      let k = right_size r (known sp.scope) in
      let q = split_at (right_code r sp n pc []) (does instr.Return at ∷ label [] ∷ []) pc k (right-count r sp n pc []) h in
      let is = q.1.0.is in
      return_begins o u fn held loop ns (right_term settings names r) pc (pc + k) to is (subst (P (right_term settings names r) pc (pc + k)) (sym (returning o u fn site.returns 1 gives asks.0 is.f is.there)) (right_begins r n [] pc asks.1 begun q.0))
  line_runs (wait None) quiet site at n pc to asks gives begun h c =
      does_begins o u fn held ns loop AllAwaited Nothing at pc pc to (nothing_begins o u fn held ns None pc pc (comes_here o u fn pc)) h.0 c
  line_runs (wait (Some e)) quiet site at n pc to asks gives begun h c =
      let k = files_size T e in
      let r = split_at (files_code e at sp.scope pc []) (one_mark at instr.Wait) pc k (files_marks e at [] pc) h in
      does_begins o u fn held ns loop IdsAwaited (one (files_term names at e)) at pc (pc + k) to (one_of (files_term names at e) pc (pc + k) (files_at e at [] pc asks r.0)) r.1.0 (goes (pc + (k + 1)) (pc + k + 1) to (omega arith) c)
  line_runs (checkpoint None) quiet site at n pc to asks gives begun h c =
      does_begins o u fn held ns loop SavedHere Nothing at pc pc to (nothing_begins o u fn held ns None pc pc (comes_here o u fn pc)) h.0 c
  line_runs (checkpoint (Some e)) quiet site at n pc to asks gives begun h c =
      let k = expr_size T e in
      let r = split_at (expr_code e sp.scope pc []) (one_mark at instr.Save) pc k (expr-count e sp.scope pc []) h in
      does_begins o u fn held ns loop Saved (one (term_of names e)) at pc (pc + k) to (one_of (term_of names e) pc (pc + k) (value_at e [] pc asks r.0)) r.1.0 (goes (pc + (k + 1)) (pc + k + 1) to (omega arith) c)
  line_runs (declare t x r) quiet site at n pc to asks gives begun h c = absurd quiet
  line_runs (infer x r) quiet site at n pc to asks gives begun h c = absurd quiet
  line_runs (call_line e) quiet site at n pc to asks gives begun h c = absurd quiet
  line_runs (act_line a) quiet site at n pc to asks gives begun h c = absurd quiet

  pub line_begins : (l : LineTree) (site : Site) (at : At) (n pc to : ℕ) → LineHere o u names sp.scope site loops l → ReturnsTo o u fn site.returns → LineBegun o u settings names sp.scope ns l n → H (line_code l at sp n pc) pc → C (pc + line_size l (known sp.scope)) to → Done o u fn held loop ns (line_term settings names site at l) pc (line_names l sp.next ++ ns) to
  line_begins (declare t x no_right) site at n pc to asks gives begun h c =
      opened site at x t (Constant (default_of t)) pc (pc + 1) to asks.0 (pushed o u fn held ns names sp.scope here.agrees None (instr.PushDefault t) (default_of t) at pc (pc + 1) refl h.0 (comes_here o u fn (pc + 1))) h.1 (goes (pc + 2) (pc + 1 + 1) to (omega arith) c)
  line_begins (declare t x (a_right r)) site at n pc to asks gives begun h c =
      let k = right_size r (known sp.scope) in
      let q = split_at (right_code r sp n pc []) (store_new sp at t) pc k (right-count r sp n pc []) h in
      opened site at x t (right_term settings names r) pc (pc + k) to asks.0.0 (right_begins r n [] pc asks.1 begun q.0) q.1 (goes (pc + (k + 1)) (pc + k + 1) to (omega arith) c)
  line_begins (infer x r) site at n pc to asks gives begun h c =
      let k = right_size r (known sp.scope) in
      let q = split_at (right_code r sp n pc []) (store_new sp at (right_type r)) pc k (right-count r sp n pc []) h in
      opened site at x (right_type r) (right_term settings names r) pc (pc + k) to asks.0.0 (right_begins r n [] pc asks.1 begun q.0) q.1 (goes (pc + (k + 1)) (pc + k + 1) to (omega arith) c)
  line_begins (call_line e) site at n pc to asks gives begun h c = call_alone_begins o u fn held ns names sp.scope here.agrees loop e at pc to asks h c
  line_begins (act_line (act place (sys ps))) site at n pc to asks gives begun h c = act_dropped (sys ps) place at n pc to asks begun h c
  line_begins (act_line (act place (goal e))) site at n pc to asks gives begun h c = act_dropped (goal e) place at n pc to asks begun h c
  line_begins (act_line (act place (par_call f es))) site at n pc to asks gives begun h c = act_dropped (par_call f es) place at n pc to asks begun h c
  line_begins (act_line (act place (task os b))) site at n pc to asks gives begun h c = act_dropped (task os b) place at n pc to asks begun h c
  line_begins (act_line (act place (dep os b))) site at n pc to asks gives begun h c =
      let k = act_form_size (dep os b) (known sp.scope) in
      let r = split_at (act_form_code (dep os b) place sp n pc []) [] pc k (act-form-count (dep os b) place sp n pc []) h in
      done (act_form_term settings names place (dep os b)) pc to (rule_begins o u fn held ns names sp.scope here.agrees sp.first here.spare loop os b place [] pc to asks.0 asks.1 r.0 (goes (pc + (k + 0)) (pc + k) to (omega arith) c))
  line_begins (act_line (act place (par_block b))) site at n pc to asks gives begun h c = act_dropped (par_block b) place at n pc to asks begun h c
  line_begins l site at n pc to asks gives begun h c = done (line_term settings names site at l) pc to (line_runs l tt site at n pc to asks gives begun h c)
