-- The code of each form of statement begins its term, and that of a block too: names in force change along it, and are those of before behind it.
use Rattle.std.proofs.Common.{◌≡◌, ℕ, ◌+◌, ◌<◌, pos, Bool, true, false, List, [], ◌∷◌, ◌++◌, Option, Some, None, refl, sym, ap, ◌∙◌, subst, arith, append_assoc}
use Rattle.std.specs.Prelude.{⊤}
use Rattle.bds_value.specs.declared.value.At.{At}
use Rattle.bds_value.specs.declared.value.Ty.TheVariants as ty
use Rattle.bds_tree.specs.StmtTree.{StmtTree, StmtFormTree, LineTree, RightTree, ActTree, ActFormTree, BlockTree, StmtTrees, stmt, inner_block, empty, line, when, while, for, each, declare, infer, assign, update, return, act_line, right_expr, right_act, act, par_block, block, no_stmts, more_stmts, no_stmt, a_stmt, no_right, a_right, switch, CaseTrees, no_cases, more_cases, a_case}
use Rattle.bds_code.specs.declared.instr.Instr.TheVariants as instr
use Rattle.bds_code.specs.declared.unit.Unit.{Unit as CodeUnit}
use Rattle.bds_check_names.specs.declared.names.Names.{Names as Checked}
use Rattle.bds_check_names.specs.declared.names.Site.{Site}
use Rattle.bds_check_names.specs.Scopes.{inner as inner_site, apart as apart_site, with_local}
use Rattle.bds_check_names.specs.Slots.{slots, small_slots, stmts_slots}
use Rattle.bds_check_rules.specs.StmtBreaks.{right_type}
use Rattle.bds_check_size.specs.ExprSize.{expr_size}
use Rattle.bds_check_size.specs.Known.{Known, look, with_known}
use Rattle.bds_check_size.specs.StmtSize.{maybe_small_size, condition_size, stmt_size, form_stmt_size, block_size, stmts_size, labels_size, cases_size, known_behind, known_behind_small}
use Rattle.bds_gen_expr.specs.ExprCode.{expr_code}
use Rattle.bds_gen_expr.specs.Marks.{Mark, does, label, slot, one as one_mark}
use Rattle.bds_gen_expr.specs.Numbers.{visible_locals}
use Rattle.bds_gen_expr.specs.Scope.{known, types_in}
use Rattle.bds_gen_expr.specs.declared.scope.Scope.{Scope}
use Rattle.bds_tree.specs.Tree.{type_of}
use Rattle.bds_gen_expr.proofs.Counts.{expr-count}
use Rattle.bds_gen_stmt.specs.FunctionCode.{opening, at_of_block}
use Rattle.bds_gen_stmt.specs.Spots.{Loop as Written, Spot, again_of as written_again, inner, in_loop, in_switch, behind_slots, declared_local}
use Rattle.bds_gen_stmt.specs.PlaceCode.{small_code, behind_small}
use Rattle.bds_gen_stmt.specs.StmtCode.{condition_code, behind as spot_behind, pars, block_pars, stmts_pars, default_place, labels_code, label_code, cases_code, stmt_code, form_stmt_code, block_code, stmts_code}
use Rattle.bds_gen_stmt.proofs.StmtCounts.{behind-known}
use Rattle.bds_gen_stmt.proofs.WholeCounts.{small-count, condition-count, known-small, known-local, whole-stmt-count, whole-block-count, whole-stmts-count, labels-count, label-count, cases-count}
use Rattle.bds_meaning.specs.OpeningExpressions.{term_of}
use Rattle.bds_meaning.specs.OpeningStatements.{behind, behind_small as names_behind, small_term, test_term, stmt_term, stmt_form_term, cases_term, block_term, stmts_term}
use Rattle.bds_meaning.specs.Term.{Nothing, Block, Then, While}
use Rattle.bds_meaning.specs.Variables.{Bindings}
use Rattle.bds_sim_terms.specs.steps.Stands.{Source, Names, Target, Loop, loop_at, again_of, switch_at, Comes, LoopAt, EachAt, CaseAt, CasesRun, CasesTried, DefaultRuns, Stands}
use Rattle.bds_sim_code.proofs.Around.{Around, Reaches, WhereTrue, free_above, unheld_above, all_under_more, held_under_more, spare_local, spare_held}
use Rattle.bds_sim_code.proofs.Agree.{Agrees}
use Rattle.bds_sim_code.proofs.Blocks.{Part, Form, comes_here, comes_jump, nothing_begins, choose_begins}
use Rattle.bds_sim_code.proofs.Declared.{agrees_local, around_slots, around_inner, around_declared}
use Rattle.bds_sim_code.proofs.Exprs.{goes_from}
use Rattle.bds_sim_code.proofs.Lines.{line_begins}
use Rattle.bds_sim_code.proofs.Marked.{Has, has_cut}
use Rattle.bds_gen_stmt.proofs.Loops.{quiet}
use Rattle.bds_gen_stmt.proofs.Pars.{ParsThere, FormParsThere, CasesParsThere, LineParsThere, RightParsThere, ActParsThere, ActFormParsThere, BlockParsThere, StmtsParsThere, both-there, case-there, stmt-there, stmts-there, head-there, own-there}
use Rattle.bds_sim_code.proofs.OwnFunctions.{declared_low, behind_scope, behind_next}
use Rattle.bds_sim_code.proofs.ParBlocks.{FormBegun, ActBegun, RightBegun, LineBegun, own_marks, own_end}
use Rattle.bds_sim_code.proofs.Passing.{names_passed, are_passed, around_passed}
use Rattle.bds_sim_code.proofs.Places.{cut, value_begins}
use Rattle.bds_sim_code.proofs.Smalls.{small_begins, test_begins, around_small, small_scope_is, small_next_is}
use Rattle.bds_sim_code.proofs.StmtBlocks.{Done, Run, done_run, then_begins, block_begins, while_begins, each_begins, switch_begins}
use Rattle.bds_sim_code.specs.StmtHere.{Leaps, no_leaps, in_loop as in_any_loop, in_switch as in_any_switch, CasesHere, SmallHere, TestHere, ReturnsTo, StmtHere, FormHere, ParsHere, RightParsHere, ActParsHere, FormParsHere, BlockHere, StmtsHere, next_behind}
use Rattle.bds_sim_code.proofs.Added.{small_names, added_by, all_added}

-- no line
abbrev IsWhole : StmtFormTree → Type 0
IsWhole (line l) = ⊥
IsWhole _ = ⊤

apart : (i j : ℕ) → i < j → i ≡ j → ⊥
apart i j less e = absurd (omega (arith, less, e))

-- within a `switch` `continue` leads where it led around it
reaches_again : (w : Option Written) (to : Option Target) (end : ℕ) (ns : Names) → Reaches w (λ k. k.again) to ns → Reaches (Some (record { again = written_again w; end = end })) (λ k. k.again) to ns
reaches_again (Some w) (Some to) end ns h = h
reaches_again (Some w) None end ns h = absurd h
reaches_again None to end ns h = absurd h

where_again : (b : Bool) (w : Option Written) (to : Option Target) (end : ℕ) (ns : Names) → WhereTrue b (Reaches w (λ k. k.again) to ns) → WhereTrue b (Reaches (Some (record { again = written_again w; end = end })) (λ k. k.again) to ns)
where_again true w to end ns h = reaches_again w to end ns h
where_again false w to end ns h = tt

module _ (o : Source) (u : CodeUnit) (settings : Bindings) where
  abbrev H : ℕ → List Mark → ℕ → Type 0
  H fn ms pc = Has o u fn ms pc

  abbrev C : ℕ → ℕ → ℕ → Type 0
  C fn pc to = Comes o u fn pc to

  -- behind a statement the names agree again
  around_behind : (s : StmtTree) (held : List ℕ) (loop : Option Loop) (names : Checked) (sp : Spot) (site : Site) (loops : Leaps) (ns : Names) → Around o u held loop names sp loops ns → StmtHere o u s names site sp.scope sp.next loops
      → Around o u held loop (behind names site s) (spot_behind s sp) loops (added_by s sp.next ++ ns)
  around_behind (stmt at (line (declare t x no_right))) held loop names sp site loops ns here asks =
      subst (λ k. Around o u held loop (behind names site (stmt at (line (declare t x no_right)))) k loops ((x, Some sp.next) ∷ ns)) (sym (declared_low sp.at_top sp _ (declared_local sp x t) here.low)) (around_declared o u held loop names sp loops ns here site x t asks.0)
  around_behind (stmt at (line (declare t x (a_right r)))) held loop names sp site loops ns here asks =
      subst (λ k. Around o u held loop (behind names site (stmt at (line (declare t x (a_right r))))) k loops ((x, Some sp.next) ∷ ns)) (sym (declared_low sp.at_top sp _ (declared_local sp x t) here.low)) (around_declared o u held loop names sp loops ns here site x t asks.0.0)
  around_behind (stmt at (line (infer x r))) held loop names sp site loops ns here asks =
      subst (λ k. Around o u held loop (behind names site (stmt at (line (infer x r)))) k loops ((x, Some sp.next) ∷ ns)) (sym (declared_low sp.at_top sp _ (declared_local sp x (right_type r)) here.low)) (around_declared o u held loop names sp loops ns here site x (right_type r) asks.0.0)
  around_behind (stmt at (line l)) held loop names sp site loops ns here asks = here
  around_behind (stmt at f) held loop names sp site loops ns here asks = around_slots o u held loop names sp loops ns here (slots (stmt at f))

  -- the statements of cases stand at these places, each before those of the next
  abbrev Placed : ℕ → List ℕ → Loop → Checked → Site → Names → Known → CaseTrees → ℕ → Type 0
  Placed fn held own names site ns k no_cases pc = C fn pc own.out.place
  Placed fn held own names site ns k (more_cases (a_case place l ss) cs) pc =
      CaseAt o u (Stands o u (Block (stmts_term settings names (inner_site names site) ss))) fn own held ns pc (pc + stmts_size ss k) × Placed fn held own names site ns k cs (pc + stmts_size ss k)

  cases_run : (cs : CaseTrees) (fn : ℕ) (held : List ℕ) (own : Loop) (names : Checked) (site : Site) (ns : Names) (k : Known) (pc : ℕ) → Placed fn held own names site ns k cs pc → CasesRun o u (cases_term settings names site cs) fn own held ns pc
  cases_run no_cases fn held own names site ns k pc p = p
  cases_run (more_cases (a_case place None ss) cs) fn held own names site ns k pc p = (pc + stmts_size ss k, p.0, cases_run cs fn held own names site ns k (pc + stmts_size ss k) p.1)
  cases_run (more_cases (a_case place (Some e) ss) cs) fn held own names site ns k pc p = (pc + stmts_size ss k, p.0, cases_run cs fn held own names site ns k (pc + stmts_size ss k) p.1)

  default_runs : (cs : CaseTrees) (fn : ℕ) (held : List ℕ) (own : Loop) (names : Checked) (site : Site) (ns : Names) (k : Known) (pc : ℕ) → Placed fn held own names site ns k cs pc → DefaultRuns o u (cases_term settings names site cs) fn own held ns (default_place cs k pc)
  default_runs no_cases fn held own names site ns k pc p = p
  default_runs (more_cases (a_case place None ss) cs) fn held own names site ns k pc p = (pc + stmts_size ss k, p.0, cases_run cs fn held own names site ns k (pc + stmts_size ss k) p.1)
  default_runs (more_cases (a_case place (Some e) ss) cs) fn held own names site ns k pc p = default_runs cs fn held own names site ns k (pc + stmts_size ss k) p.1

  abbrev LabelsHere : CaseTrees → Checked → Scope → Type 0
  LabelsHere no_cases names sc = ⊤
  LabelsHere (more_cases (a_case place l ss) cs) names sc = TestHere o u names sc l × LabelsHere cs names sc

  labels_here : (cs : CaseTrees) (names : Checked) (site : Site) (sc : Scope) (next : ℕ) (loops : Leaps) → CasesHere o u cs names site sc next loops → LabelsHere cs names sc
  labels_here no_cases names site sc next loops asks = tt
  labels_here (more_cases (a_case place l ss) cs) names site sc next loops asks = (asks.0.0, labels_here cs names site sc (next + stmts_slots ss) loops asks.1)

  -- the labels, while the slot of the value is held
  cases_tried : (cs : CaseTrees) (at : At) (fn : ℕ) (held : List ℕ) (own : Loop) (names : Checked) (sp : Spot) (site : Site) (ns : Names) (pc case other : ℕ) → Agrees o u names sp.scope ns → LabelsHere cs names sp.scope → Placed fn held own names site ns (known sp.scope) cs case
      → H fn (labels_code cs at sp.scope sp.next pc case) pc → C fn (pc + labels_size (types_in sp.scope) cs) other → CasesTried o u (cases_term settings names site cs) fn sp.next own held ns pc other
  cases_tried no_cases at fn held own names sp site ns pc case other agrees asks p h c = goes_from o u fn held ns names sp.scope agrees (pc + 0) pc other (omega arith) c
  cases_tried (more_cases (a_case place None ss) cs) at fn held own names sp site ns pc case other agrees asks p h c =
      let same : pc + 0 ≡ pc = omega arith in
      let k = labels_size (types_in sp.scope) cs in
      subst (λ q. CasesTried o u (cases_term settings names site cs) fn sp.next own held ns q other) same
      (cases_tried cs at fn held own names sp site ns (pc + 0) (case + stmts_size ss (known sp.scope)) other agrees asks.1 p.1 (subst (H fn (labels_code cs at sp.scope sp.next (pc + 0) (case + stmts_size ss (known sp.scope)))) (sym same) h) (goes_from o u fn held ns names sp.scope agrees (pc + (0 + k)) (pc + 0 + k) other (omega arith) c))
  cases_tried (more_cases (a_case place (Some e) ss) cs) at fn held own names sp site ns pc case other agrees asks p h c =
      let k = expr_size (types_in sp.scope) e in
      let next = pc + (k + 4) in
      let behind = case + stmts_size ss (known sp.scope) in
      let rest = labels_code cs at sp.scope sp.next next behind in
      let more = labels_size (types_in sp.scope) cs in
      let tests = does (instr.Load sp.next) at ∷ does instr.Equal at ∷ does (instr.JumpUnless next) at ∷ does (instr.Jump case) at ∷ label [] ∷ [] in
      let r = cut o u fn held ns names sp.scope agrees (label_code (a_case place (Some e) ss) at sp.scope sp.next pc case) rest pc (k + 4) (label-count (a_case place (Some e) ss) at sp pc case) h in
      let r2 = cut o u fn held ns names sp.scope agrees (expr_code e sp.scope pc []) tests pc k (expr-count e sp.scope pc []) r.0 in
      let w = r2.1 in (
        case,
        next,
        behind,
        record {
          test = pc + k;
          begins = value_begins o u fn (sp.next ∷ held) ns names sp.scope agrees e [] pc asks.0 r2.0;
          tested = record { branch = pc + k + 1 + 1; compares = (w.0.is, (w.1.0.is, refl)); other = w.1.1.0.is; equal = comes_jump o u fn (pc + k + 1 + 1 + 1) case case w.1.1.1.0.is (comes_here o u fn case) };
        },
        p.0,
        cases_run cs fn held own names site ns (known sp.scope) behind p.1,
        cases_tried cs at fn held own names sp site ns next behind other agrees asks.1 p.1 r.1 (goes_from o u fn held ns names sp.scope agrees (pc + (k + 4 + more)) (next + more) other (omega arith) c),
      )

  mutual
    pub stmt_begins : (s : StmtTree) (fn : ℕ) (held : List ℕ) (loop : Option Loop) (names : Checked) (sp : Spot) (site : Site) (loops : Leaps) (ns : Names) (n pc to : ℕ) → Around o u held loop names sp loops ns → StmtHere o u s names site sp.scope sp.next loops → ReturnsTo o u fn site.returns → ParsThere u s sp n → H fn (stmt_code s sp n pc) pc → C fn (pc + stmt_size s (known sp.scope)) to
        → Done o u fn held loop ns (stmt_term settings names site s) pc (added_by s sp.next ++ ns) to
    stmt_begins (stmt at (line l)) fn held loop names sp site loops ns n pc to here asks gives owned h c = line_begins o u fn held loop settings names sp loops ns here l site at n pc to asks.0 gives (line_begun l held loop names sp loops ns n here asks.1 owned) h c
    stmt_begins (stmt at f) fn held loop names sp site loops ns n pc to here asks gives owned h c = done_run o u fn held loop ns ns _ pc to (form_begins f at fn held loop names sp site loops ns n pc to tt here asks gives owned h c)

    -- a statement that is no line leaves no value and no name
    pub form_begins : (f : StmtFormTree) (at : At) (fn : ℕ) (held : List ℕ) (loop : Option Loop) (names : Checked) (sp : Spot) (site : Site) (loops : Leaps) (ns : Names) (n pc to : ℕ) → IsWhole f → Around o u held loop names sp loops ns → FormHere o u f names site sp.scope sp.next loops → ReturnsTo o u fn site.returns → FormParsThere u f sp n → H fn (form_stmt_code f at sp n pc) pc → C fn (pc + form_stmt_size f (known sp.scope)) to
        → Form o u fn held ns loop (stmt_form_term settings names site at f) pc to 0
    form_begins (line l) at fn held loop names sp site loops ns n pc to whole here asks gives owned h c = absurd whole
    form_begins empty at fn held loop names sp site loops ns n pc to whole here asks gives owned h c = nothing_begins o u fn held ns loop pc to (goes_from o u fn held ns names sp.scope here.agrees (pc + 0) pc to (omega arith) c)
    form_begins (inner_block b) at fn held loop names sp site loops ns n pc to whole here asks gives owned h c = block_form_begins b fn held loop names (inner sp) (inner_site names site) loops ns n pc to (around_inner o u held loop names sp loops ns here) asks gives owned h c
    form_begins (when e a no_stmt) at fn held loop names sp site loops ns n pc to whole here asks gives owned h c =
        let k = expr_size (types_in sp.scope) e in
        let m = stmt_size a (known sp.scope) in
        let right = pc + k + 1 in
        let end = right + m in
        let low = around_inner o u held loop names sp loops ns here in
        let r = cut o u fn held ns names sp.scope here.agrees (expr_code e sp.scope pc []) (does (instr.JumpUnless end) at ∷ (stmt_code a (inner sp) n right ++ (label [] ∷ []))) pc k (expr-count e sp.scope pc []) h in
        let r2 = cut o u fn held ns names sp.scope here.agrees (stmt_code a (inner sp) n right) (label [] ∷ []) right m (whole-stmt-count a (inner sp) n right) r.1.1 in
        let c2 = goes_from o u fn held ns names sp.scope here.agrees (pc + (k + 1 + m)) end to (omega arith) c in
        let ta = stmt_term settings names (inner_site names site) a in
        choose_begins o u fn held ns loop (term_of names e) (Block ta) Nothing pc (pc + k) end to 0 (value_begins o u fn held ns names sp.scope here.agrees e [] pc asks.0 r.0) r.1.0.is
        (block_begins o u fn held loop ns (added_by a sp.next) ta right to (stmt_begins a fn held loop names (inner sp) (inner_site names site) loops ns n right to low asks.1 gives owned r2.0 c2)) (nothing_begins o u fn held ns loop end to c2)
    form_begins (when e a (a_stmt b)) at fn held loop names sp site loops ns n pc to whole here asks gives owned h c =
        let k = expr_size (types_in sp.scope) e in
        let m = stmt_size a (known sp.scope) in
        let j = stmt_size b (known sp.scope) in
        let right = pc + k + 1 in
        let other = right + m + 1 in
        let end = other + j in
        let sb = behind_slots (inner sp) (slots a) in
        let low = around_inner o u held loop names sp loops ns here in
        let low_b = around_slots o u held loop names (inner sp) loops ns low (slots a) in
        let code_b = stmt_code b sb (n + pars a) other in
        let r = cut o u fn held ns names sp.scope here.agrees (expr_code e sp.scope pc []) (does (instr.JumpUnless other) at ∷ (stmt_code a (inner sp) n right ++ (does (instr.Jump end) at ∷ label [] ∷ (code_b ++ (label [] ∷ []))))) pc k (expr-count e sp.scope pc []) h in
        let r2 = cut o u fn held ns names sp.scope here.agrees (stmt_code a (inner sp) n right) (does (instr.Jump end) at ∷ label [] ∷ (code_b ++ (label [] ∷ []))) right m (whole-stmt-count a (inner sp) n right) r.1.1 in
        let r3 = cut o u fn held ns names sp.scope here.agrees code_b (label [] ∷ []) other j (whole-stmt-count b sb (n + pars a) other) r2.1.1 in
        let c2 = goes_from o u fn held ns names sp.scope here.agrees (pc + (k + 1 + m + 1 + j)) end to (omega arith) c in
        let ta = stmt_term settings names (inner_site names site) a in
        let tb = stmt_term settings names (inner_site names site) b in
        choose_begins o u fn held ns loop (term_of names e) (Block ta) (Block tb) pc (pc + k) other to 0 (value_begins o u fn held ns names sp.scope here.agrees e [] pc asks.0 r.0) r.1.0.is
        (block_begins o u fn held loop ns (added_by a sp.next) ta right to (stmt_begins a fn held loop names (inner sp) (inner_site names site) loops ns n right to low asks.1 gives (both-there u a b (quiet sp) n owned).0 r2.0 (comes_jump o u fn (right + m) end to r2.1.0.is c2)))
        (block_begins o u fn held loop ns (added_by b sb.next) tb other to (stmt_begins b fn held loop names sb (inner_site names site) loops ns (n + pars a) other to low_b asks.2 gives (both-there u a b (quiet sp) n owned).1 r3.0 c2))
    form_begins (while e a) at fn held loop names sp site loops ns n pc to whole here asks gives owned h c =
        let k = expr_size (types_in sp.scope) e in
        let m = stmt_size a (known sp.scope) in
        let body = pc + 1 + k + 1 in
        let end = body + m + 1 in
        let sb = in_loop sp pc end in
        let own : Loop = loop_at end pc ns in
        let r = cut o u fn held ns names sp.scope here.agrees (expr_code e sp.scope (pc + 1) []) (does (instr.JumpUnless end) at ∷ (stmt_code a sb n body ++ (does (instr.Jump pc) at ∷ label [] ∷ []))) (pc + 1) k (expr-count e sp.scope (pc + 1) []) h.1 in
        let r2 = cut o u fn held ns names sp.scope here.agrees (stmt_code a sb n body) (does (instr.Jump pc) at ∷ label [] ∷ []) body m (whole-stmt-count a sb n body) r.1.1 in
        let ta = stmt_term settings names (inner_site names site) a in
        let low : Around o u held (Some own) names sb in_any_loop ns = record { agrees = here.agrees; low = refl; under = here.under; held_under = here.held_under; around = record { breaks = (refl, ([], refl)); continues = (refl, ([], refl)) }; spare = here.spare; room = here.room } in
        while_begins o u fn held loop ns (term_of names e) (Block ta) Nothing pc to
        (record {
          test = pc + 1 + k;
          again = pc;
          back = pc;
          out = end;
          tick = h.0.is;
          begin_test = value_begins o u fn held ns names sp.scope here.agrees e [] (pc + 1) asks.0 r.0;
          branch = r.1.0.is;
          begin_body = block_begins o u fn held (Some own) ns (added_by a sp.next) ta body pc (stmt_begins a fn held (Some own) names sb (inner_site names site) in_any_loop ns n body pc low asks.1 gives owned r2.0 (comes_jump o u fn (body + m) pc pc r2.1.0.is (comes_here o u fn pc)));
          begin_next = nothing_begins o u fn held ns loop pc pc (comes_here o u fn pc);
          turns = comes_here o u fn pc;
          done = goes_from o u fn held ns names sp.scope here.agrees (pc + (1 + k + 1 + m + 1)) end to (omega arith) c;
        })
    form_begins (for f e l a) at fn held loop names sp site loops ns n pc to whole here asks gives owned h c =
        let k : Known = known_behind_small f (known sp.scope) in
        let head = behind_small f (inner sp) in
        let within = names_behind names (inner_site names site) f in
        let more = small_names f sp.next in
        let mf = maybe_small_size (types_in sp.scope) f in
        let mc = condition_size (look k) e in
        let ma = stmt_size a k in
        let ml = maybe_small_size (look k) l in
        let top = pc + mf in
        let test = top + 1 + mc in
        let body = test + 1 in
        let again = body + ma in
        let end = again + ml + 1 in
        let sb = in_loop head again end in
        let sl = behind_slots head (slots a) in
        let same : known head.scope ≡ k = known-small f (inner sp) in
        let own : Loop = loop_at end again (more ++ ns) in
        let low = around_inner o u held loop names sp loops ns here in
        let low_head : Around o u held loop within head loops (more ++ ns) = around_small o u fn held loop names (inner sp) loops ns low f (inner_site names site) asks.0 in
        let low_body : Around o u held (Some own) within sb in_any_loop (more ++ ns) = record { agrees = low_head.agrees; low = refl; under = low_head.under; held_under = low_head.held_under; around = record { breaks = (refl, ([], refl)); continues = (refl, ([], refl)) }; spare = low_head.spare; room = low_head.room } in
        let low_last : Around o u held loop within sl loops (more ++ ns) = around_slots o u held loop within head loops (more ++ ns) low_head (slots a) in
        let code_f = small_code f (inner sp) pc in
        let code_c = condition_code e at head.scope (top + 1) in
        let code_a = stmt_code a sb n body in
        let code_l = small_code l sl again in
        let rest_l = does (instr.Jump top) at ∷ label [] ∷ [] in
        let rest_a = label [] ∷ (code_l ++ rest_l) in
        let rest_c = does (instr.JumpUnless end) at ∷ (code_a ++ rest_a) in
        let r = cut o u fn held ns names sp.scope here.agrees code_f (label [] ∷ does instr.Tick at ∷ (code_c ++ rest_c)) pc mf (small-count f (inner sp) pc) h in
        let r2 = cut o u fn held ns names sp.scope here.agrees code_c rest_c (top + 1) mc (condition-count e at head.scope (top + 1) ∙ ap (λ x. condition_size (look x) e) same) r.1.1 in
        let r3 = cut o u fn held ns names sp.scope here.agrees code_a rest_a body ma (whole-stmt-count a sb n body ∙ ap (stmt_size a) same) r2.1.1 in
        let r4 = cut o u fn held ns names sp.scope here.agrees code_l rest_l again ml (small-count l sl again ∙ ap (λ x. maybe_small_size (look x) l) same) r3.1 in
        let scope_same = small_scope_is f (inner sp) in
        let next_same = small_next_is f (inner sp) in
        let asks_test = subst (λ x. TestHere o u within x e) (sym scope_same) asks.1 in
        let asks_body = subst (λ i. StmtHere o u a within (inner_site within site) head.scope i in_any_loop) (sym next_same) (subst (λ x. StmtHere o u a within (inner_site within site) x (sp.next + small_slots f) in_any_loop) (sym scope_same) asks.2) in
        let own_body = head-there u f a sp n owned in
        let asks_last = subst (λ x. SmallHere o u within x (inner_site within site) l) (sym scope_same) asks.3 in
        let ta = stmt_term settings within (inner_site within site) a in
        let tl = small_term within l in
        let loop_code : LoopAt o u (Stands o u (test_term within e)) (Stands o u (Block ta)) (Stands o u (Block tl)) fn loop held (more ++ ns) to top = record {
          test = test;
          again = again;
          back = again + ml;
          out = end;
          tick = r.1.0.is;
          begin_test = subst (λ x. Part o u fn held (more ++ ns) (test_term within e) (top + 1) (top + 1 + condition_size (look x) e) 1) same (test_begins o u fn held loop within head loops (more ++ ns) low_head e at (top + 1) asks_test r2.0);
          branch = r2.1.0.is;
          begin_body = block_begins o u fn held (Some own) (more ++ ns) (added_by a head.next) ta body again (stmt_begins a fn held (Some own) within sb (inner_site within site) in_any_loop (more ++ ns) n body again low_body asks_body gives own_body r3.0 (subst (λ x. C fn (body + stmt_size a x) again) (sym same) (comes_here o u fn again)));
          begin_next = block_begins o u fn held loop (more ++ ns) (small_names l sl.next) tl again (again + ml) (small_begins o u fn held loop within sl loops (more ++ ns) low_last l (inner_site within site) again (again + ml) asks_last r4.0 (subst (λ x. C fn (again + maybe_small_size (look x) l) (again + ml)) (sym same) (comes_here o u fn (again + ml))));
          turns = comes_jump o u fn (again + ml) top top r4.1.0.is (comes_here o u fn top);
          done = goes_from o u fn held ns names sp.scope here.agrees (pc + (mf + 1 + mc + 1 + ma + ml + 1)) end to (omega arith) c;
        } in
        let first = small_begins o u fn held loop names (inner sp) loops ns low f (inner_site names site) pc top asks.0 r.0 (comes_here o u fn top) in
        let turns = while_begins o u fn held loop (more ++ ns) (test_term within e) (Block ta) (Block tl) top to loop_code in
        block_begins o u fn held loop ns more (Then (small_term names f) (While (test_term within e) (Block ta) (Block tl))) pc to
        (done_run o u fn held loop ns (more ++ ns) (Then (small_term names f) (While (test_term within e) (Block ta) (Block tl))) pc to (then_begins o u fn held loop ns (more ++ ns) (more ++ ns) (small_term names f) (While (test_term within e) (Block ta) (Block tl)) pc top to first turns))
    form_begins (each t x e a) at fn held loop names sp site loops ns n pc to whole here asks gives owned h c =
        let list = sp.next in
        let count = sp.next + 1 in
        let item = sp.next + 2 in
        let own = declared_local (behind_slots (inner sp) 2) x t in
        let within = with_local names x t in
        let inside : Names = (x, Some item) ∷ ns in
        let more : List ℕ = count ∷ list ∷ held in
        let k = expr_size (types_in sp.scope) e in
        let ma = stmt_size a (known own.scope) in
        let top = pc + k + 3 in
        let test = top + 1 + 1 + 1 + 1 + 1 in
        let body = top + 10 in
        let again = body + ma in
        let end = again + 3 in
        let sb = in_loop own again end in
        let code_a = stmt_code a sb n body in
        let rest_a = label [] ∷ does (instr.PushInt (pos 1)) at ∷ does (instr.Update false count [] 1) at ∷ does (instr.Jump top) at ∷ label [] ∷ [] in
        let looks = label [] ∷ does instr.Tick at ∷ does (instr.Load count) at ∷ does (instr.Load list) at ∷ does (instr.Method 17) at ∷ does instr.Less at ∷ does (instr.JumpUnless end) at
        ∷ does (instr.Load list) at ∷ does (instr.Load count) at ∷ does instr.Item at ∷ slot t ∷ does (instr.Store item) at ∷ (code_a ++ rest_a) in
        let r = cut o u fn held ns names sp.scope here.agrees (expr_code e sp.scope pc []) (slot (ty.List t) ∷ does (instr.Store list) at ∷ does (instr.PushInt (pos 0)) at ∷ slot ty.Int ∷ does (instr.Store count) at ∷ looks) pc k (expr-count e sp.scope pc []) h in
        let s = subst (H fn looks) (let q : pc + k + 1 + 1 + 1 ≡ top = omega arith in q) r.1.1.1.1 in
        let s2 = s.1.1.1.1.1.1 in
        let place : test + 1 + 1 + 1 + 1 + 1 ≡ body = omega arith in
        let r2 = cut o u fn held ns names sp.scope here.agrees code_a rest_a body ma (whole-stmt-count a sb n body) (subst (H fn (code_a ++ rest_a)) place s2.1.1.1.1) in
        let room = here.room in
        let own_loop : Loop = loop_at end again ns in
        let low : Around o u more (Some own_loop) within sb in_any_loop inside = record {
          agrees = agrees_local o u names sp.scope ns here.agrees x t item;
          low = refl;
          under = (omega arith, all_under_more sp.next (sp.next + 2 + 1) ns here.under (omega arith));
          held_under = (omega arith, (omega arith, held_under_more sp.next (sp.next + 2 + 1) held here.held_under (omega arith)));
          around = record { breaks = (refl, ((x, Some item) ∷ [], refl)); continues = (refl, ((x, Some item) ∷ [], refl)) };
          spare = spare_local o u sp.first x item ns more (omega (arith, room)) (spare_held o u sp.first count ns (list ∷ held) (omega (arith, room)) (spare_held o u sp.first list ns held room here.spare));
          room = omega (arith, room);
        } in
        let ta = stmt_term settings within (inner_site within site) a in
        let same : known own.scope ≡ with_known (known sp.scope) x t = known-local (behind_slots (inner sp) 2) x t in
        let code : EachAt o u (Stands o u (Block ta)) fn held ns to x = record {
          list = list;
          count = count;
          item = item;
          top = top;
          again = again;
          out = end;
          free_list = free_above sp.next list ns here.under (omega arith);
          free_count = free_above sp.next count ns here.under (omega arith);
          free_item = free_above sp.next item ns here.under (omega arith);
          unheld_list = unheld_above sp.next list held here.held_under (omega arith);
          unheld_count = (apart list count (omega arith), unheld_above sp.next count held here.held_under (omega arith));
          unheld_item = (apart count item (omega arith), (apart list item (omega arith), unheld_above sp.next item held here.held_under (omega arith)));
          test = test;
          body = body;
          back = again + 1 + 1;
          looks = (s.0.is, (s.1.0.is, (s.1.1.0.is, (s.1.1.1.0.is, (s.1.1.1.1.0.is, refl)))));
          branch = s.1.1.1.1.1.0.is;
          takes = (s2.0.is, (s2.1.0.is, (s2.1.1.0.is, (s2.1.1.1.0.is, place))));
          begin_body = block_begins o u fn more (Some own_loop) inside (added_by a own.next) ta body again (stmt_begins a fn more (Some own_loop) within sb (inner_site within site) in_any_loop inside n body again low asks.1 gives owned r2.0 (comes_here o u fn again));
          counts = (r2.1.0.is, (r2.1.1.0.is, refl));
          turns = comes_jump o u fn (again + 1 + 1) top top r2.1.1.1.0.is (comes_here o u fn top);
          done = goes_from o u fn held ns names sp.scope here.agrees (pc + (k + 13 + ma + 3)) end to (omega arith) (subst (λ j. C fn (pc + (k + 13 + stmt_size a j + 3)) to) (sym same) c);
        } in
        each_begins o u fn held loop ns x (term_of names e) (Block ta) pc (pc + k) top to code (value_begins o u fn held ns names sp.scope here.agrees e [] pc asks.0 r.0) (r.1.0.is, (r.1.1.0.is, (r.1.1.1.0.is, (let q : pc + k + 1 + 1 + 1 ≡ top = omega arith in q)))) (comes_here o u fn top)
    form_begins (switch e cs) at fn held loop names sp site loops ns n pc to whole here asks gives owned h c =
        let k = expr_size (types_in sp.scope) e in
        let tests = pc + k + 1 in
        let nl = labels_size (types_in sp.scope) cs in
        let cases = tests + nl + 1 in
        let nc = cases_size cs (known sp.scope) in
        let end = cases + nc in
        let other = default_place cs (known sp.scope) cases in
        let sb = in_switch sp end in
        let own : Loop = switch_at loop end ns in
        let code_l = labels_code cs at sp.scope sp.next tests cases in
        let code_c = cases_code cs sb n cases in
        let rest = does (instr.Jump other) at ∷ (code_c ++ (label [] ∷ [])) in
        let r = cut o u fn held ns names sp.scope here.agrees (expr_code e sp.scope pc []) (slot (type_of e) ∷ does (instr.Store sp.next) at ∷ (code_l ++ rest)) pc k (expr-count e sp.scope pc []) h in
        let r2 = cut o u fn held ns names sp.scope here.agrees code_l rest tests nl (labels-count cs at sp tests cases) r.1.1 in
        let r3 = cut o u fn held ns names sp.scope here.agrees code_c (label [] ∷ []) cases nc (cases-count cs sb n cases refl) r2.1.1 in
        let low : Around o u held (Some own) names sb (in_any_switch loops) ns = record {
          agrees = here.agrees;
          low = refl;
          under = all_under_more sp.next (sp.next + 1) ns here.under (omega arith);
          held_under = held_under_more sp.next (sp.next + 1) held here.held_under (omega arith);
          around = record { breaks = (refl, ([], refl)); continues = where_again loops.continues sp.loop (again_of loop) end ns here.around.continues };
          spare = here.spare;
          room = let room = here.room in omega (arith, room);
        } in
        let placed = cases_placed cs fn held own names sb site (in_any_switch loops) ns n cases low asks.1 gives owned r3.0 (comes_here o u fn end) in
        switch_begins o u fn held loop ns (term_of names e) (cases_term settings names site cs) sp.next pc (pc + k) other end to (free_above sp.next sp.next ns here.under (omega arith)) (unheld_above sp.next sp.next held here.held_under (omega arith))
        (value_begins o u fn held ns names sp.scope here.agrees e [] pc asks.0 r.0) r.1.0.is (cases_tried cs at fn held own names sp site ns tests cases other here.agrees (labels_here cs names site sp.scope (sp.next + 1) (in_any_switch loops) asks.1) placed r2.0 (comes_jump o u fn (tests + nl) other other r2.1.0.is (comes_here o u fn other)))
        (default_runs cs fn held own names site ns (known sp.scope) cases placed) (goes_from o u fn held ns names sp.scope here.agrees (pc + (k + 2 + nl + nc)) end to (omega arith) c)

    -- the statements of each case, where the code of the others stands behind them
    pub cases_placed : (cs : CaseTrees) (fn : ℕ) (held : List ℕ) (own : Loop) (names : Checked) (sp : Spot) (site : Site) (loops : Leaps) (ns : Names) (n pc : ℕ) → Around o u held (Some own) names sp loops ns → CasesHere o u cs names site sp.scope sp.next loops → ReturnsTo o u fn site.returns → CasesParsThere u cs sp n → H fn (cases_code cs sp n pc) pc
        → C fn (pc + cases_size cs (known sp.scope)) own.out.place → Placed fn held own names site ns (known sp.scope) cs pc
    cases_placed no_cases fn held own names sp site loops ns n pc here asks gives owned h c = goes_from o u fn held ns names sp.scope here.agrees (pc + 0) pc own.out.place (omega arith) c
    cases_placed (more_cases (a_case place l ss) cs) fn held own names sp site loops ns n pc here asks gives owned h c =
        let k = stmts_size ss (known sp.scope) in
        let next = pc + k in
        let more = all_added ss sp.next in
        let sb = behind_slots sp (stmts_slots ss) in
        let code = stmts_code ss sp n pc in
        let rest = cases_code cs sb (n + stmts_pars ss) next in
        let r = cut o u fn held ns names sp.scope here.agrees code rest pc k (whole-stmts-count ss sp n pc here.low) h in
        let run = stmts_begin ss fn held (Some own) names sp (inner_site names site) loops ns n pc next here asks.0.1 gives (case-there u (a_case place l ss) cs (quiet sp) n owned).0 r.0 (comes_here o u fn next) in
        let t = stmts_term settings names (inner_site names site) ss in (
          record { end = next; begins = block_begins o u fn held (Some own) ns more t pc next (done_run o u fn held (Some own) ns (more ++ ns) t pc next run); on = comes_here o u fn next },
          cases_placed cs fn held own names sb site loops ns (n + stmts_pars ss) next (around_slots o u held (Some own) names sp loops ns here (stmts_slots ss)) asks.1 gives (case-there u (a_case place l ss) cs (quiet sp) n owned).1 r.1 (goes_from o u fn held ns names sp.scope here.agrees (pc + (k + cases_size cs (known sp.scope))) (next + cases_size cs (known sp.scope)) own.out.place (omega arith) c),
        )

    pub block_form_begins : (b : BlockTree) (fn : ℕ) (held : List ℕ) (loop : Option Loop) (names : Checked) (sp : Spot) (site : Site) (loops : Leaps) (ns : Names) (n pc to : ℕ) → Around o u held loop names sp loops ns → BlockHere o u b names site sp.scope sp.next loops → ReturnsTo o u fn site.returns → BlockParsThere u b sp n → H fn (block_code b sp n pc) pc → C fn (pc + block_size b (known sp.scope)) to
        → Form o u fn held ns loop (Block (block_term settings names site b)) pc to 0
    block_form_begins (block at ss) fn held loop names sp site loops ns n pc to here asks gives owned h c =
        let more = all_added ss sp.next in
        block_begins o u fn held loop ns more (stmts_term settings names site ss) pc to (done_run o u fn held loop ns (more ++ ns) (stmts_term settings names site ss) pc to (stmts_begin ss fn held loop names sp site loops ns n pc to here asks gives owned h c))

    pub stmts_begin : (ss : StmtTrees) (fn : ℕ) (held : List ℕ) (loop : Option Loop) (names : Checked) (sp : Spot) (site : Site) (loops : Leaps) (ns : Names) (n pc to : ℕ) → Around o u held loop names sp loops ns → StmtsHere o u ss names site sp.scope sp.next loops → ReturnsTo o u fn site.returns → StmtsParsThere u ss sp n → H fn (stmts_code ss sp n pc) pc → C fn (pc + stmts_size ss (known sp.scope)) to
        → Run o u fn held loop ns (stmts_term settings names site ss) pc (all_added ss sp.next ++ ns) to
    stmts_begin no_stmts fn held loop names sp site loops ns n pc to here asks gives owned h c = nothing_begins o u fn held ns loop pc to (goes_from o u fn held ns names sp.scope here.agrees (pc + 0) pc to (omega arith) c)
    stmts_begin (more_stmts s ss) fn held loop names sp site loops ns n pc to here asks gives owned h c =
        let k = stmt_size s (known sp.scope) in
        let r = cut o u fn held ns names sp.scope here.agrees (stmt_code s sp n pc) (stmts_code ss (spot_behind s sp) (n + pars s) (pc + k)) pc k (whole-stmt-count s sp n pc) h in
        let first = stmt_begins s fn held loop names sp site loops ns n pc (pc + k) here asks.0 gives (stmt-there u s ss (quiet sp) n owned).0 r.0 (comes_here o u fn (pc + k)) in
        let asks2 = subst (λ i. StmtsHere o u ss (behind names site s) site (spot_behind s sp).scope i loops) (sym (behind_next s sp here.low))
        (subst (λ x. StmtsHere o u ss (behind names site s) site x (next_behind s sp.next) loops) (sym (behind_scope s sp here.low)) asks.1) in
        let c2 = subst (λ j. C fn (pc + k + stmts_size ss j) to) (sym (behind-known s sp here.low)) (goes_from o u fn held ns names sp.scope here.agrees (pc + (k + stmts_size ss (known_behind s (known sp.scope)))) (pc + k + stmts_size ss (known_behind s (known sp.scope))) to (omega arith) c) in
        let rest = stmts_begin ss fn held loop (behind names site s) (spot_behind s sp) site loops (added_by s sp.next ++ ns) (n + pars s) (pc + k) to (around_behind s held loop names sp site loops ns here asks.0) asks2 gives (stmts-there u s ss sp n owned) r.1 c2 in
        let same : all_added ss (spot_behind s sp).next ++ (added_by s sp.next ++ ns) ≡ all_added (more_stmts s ss) sp.next ++ ns = ap (λ i. all_added ss i ++ (added_by s sp.next ++ ns)) (behind_next s sp here.low) ∙ sym (append_assoc (all_added ss (next_behind s sp.next)) (added_by s sp.next) ns) in
        then_begins o u fn held loop ns (added_by s sp.next ++ ns) (all_added (more_stmts s ss) sp.next ++ ns) (stmt_term settings names site s) (stmts_term settings (behind names site s) site ss) pc (pc + k) to first
        (subst (λ l. Run o u fn held loop (added_by s sp.next ++ ns) (stmts_term settings (behind names site s) site ss) (pc + k) l to) same rest)

    -- the `par` blocks of a line: the block's function begins the block's term

    pub line_begun : (l : LineTree) (held : List ℕ) (loop : Option Loop) (names : Checked) (sp : Spot) (loops : Leaps) (ns : Names) (n : ℕ) → Around o u held loop names sp loops ns → ParsHere o u l names sp.scope → LineParsThere u l sp n → LineBegun o u settings names sp.scope ns l n
    line_begun (declare t x (a_right r)) held loop names sp loops ns n here asks owned = right_begun r held loop names sp loops ns n here asks owned
    line_begun (infer x r) held loop names sp loops ns n here asks owned = right_begun r held loop names sp loops ns n here asks owned
    line_begun (assign q r) held loop names sp loops ns n here asks owned = right_begun r held loop names sp loops ns n here asks owned
    line_begun (update q op r) held loop names sp loops ns n here asks owned = right_begun r held loop names sp loops ns n here asks owned
    line_begun (return (a_right r)) held loop names sp loops ns n here asks owned = right_begun r held loop names sp loops ns n here asks owned
    line_begun (act_line a) held loop names sp loops ns n here asks owned = act_begun a held loop names sp loops ns n here asks owned
    line_begun _ held loop names sp loops ns n here asks owned = tt

    pub right_begun : (r : RightTree) (held : List ℕ) (loop : Option Loop) (names : Checked) (sp : Spot) (loops : Leaps) (ns : Names) (n : ℕ) → Around o u held loop names sp loops ns → RightParsHere o u r names sp.scope → RightParsThere u r sp n → RightBegun o u settings names sp.scope ns r n
    right_begun (right_expr e) held loop names sp loops ns n here asks owned = tt
    right_begun (right_act a) held loop names sp loops ns n here asks owned = act_begun a held loop names sp loops ns n here asks owned

    act_begun : (a : ActTree) (held : List ℕ) (loop : Option Loop) (names : Checked) (sp : Spot) (loops : Leaps) (ns : Names) (n : ℕ) → Around o u held loop names sp loops ns → ActParsHere o u a names sp.scope → ActParsThere u a sp n → ActBegun o u settings names sp.scope ns a n
    act_begun (act at f) held loop names sp loops ns n here asks owned = form_begun f held loop names sp loops ns n here asks owned

    form_begun : (f : ActFormTree) (held : List ℕ) (loop : Option Loop) (names : Checked) (sp : Spot) (loops : Leaps) (ns : Names) (n : ℕ) → Around o u held loop names sp loops ns → FormParsHere o u f names sp.scope → ActFormParsThere u f sp n → FormBegun o u settings names sp.scope ns f n
    form_begun (par_block b) held loop names sp loops ns n here asks owned =
        let fn = n + block_pars b in
        let inside = opening sp.scope (visible_locals sp.scope.locals) in
        let k = block_size b (known inside.scope) in
        let ns2 = names_passed sp.scope.locals ns in
        let own = own-there u b (quiet sp) n owned in
        let r = has_cut o u fn (block_code b inside n 0) (one_mark (at_of_block b) instr.Return) 0 k (whole-block-count b inside n 0 refl) (own_marks o u settings names sp.scope ns b n own.1) in
        record {
          names_in = ns2;
          exit = 0 + k;
          there = own.1;
          passed = are_passed sp.scope.locals ns;
          begins = block_form_begins b fn [] None names inside (apart_site names) no_leaps ns2 n 0 (0 + k) (around_passed o u names sp.scope ns here.agrees) asks tt own.0 r.0 (comes_here o u fn (0 + k));
          ends = own_end o u settings names sp.scope ns b n (0 + k) own.1 r.1.0.is;
        }
    form_begun _ held loop names sp loops ns n here asks owned = tt
