-- The functions of `par` blocks are verified.
use Rattle.std.proofs.Common.{◌≡◌, ◌+◌, ℕ, List, [], ◌∷◌, ◌++◌, Option, Some, None, Bool, true, false, refl, sym, ◌∙◌, ap, subst, if◌then◌else◌}
use Rattle.std.specs.Prelude.{drop, length}
use Rattle.std.specs.List.{AllByRecursion}
use Rattle.bds_value.specs.declared.value.Ty.{Ty}
use Rattle.bds_value.specs.declared.value.Ty.TheVariants as ty
use Rattle.bds_value.specs.Fields.{is_solid}
use Rattle.bds_tree.specs.StmtTree.{SmallFormTree, small_declare, small_infer, small_assign, small_update, small_step, small_call, SmallTree, StmtTree, LineTree, RightTree, ActFormTree, BlockTree, StmtTrees, stmt, inner_block, empty, line, when, while, for, each, declare, infer, assign, update, return, act_line, right_expr, right_act, act, sys, task, dep, goal, par_call, par_block, block, no_stmts, more_stmts, no_stmt, a_stmt, no_right, a_right, switch, CaseTrees, CaseTree, no_cases, more_cases, a_case}
use Rattle.bds_tree.specs.Tree.{type_of}
use Rattle.bds_code.specs.declared.unit.Function.{Function}
use Rattle.bds_code.specs.declared.unit.Unit.{Unit as CodeUnit}
use Rattle.bds_verify.specs.Verified.{IsVerified}
use Rattle.bds_verify.specs.Whole.{is_whole}
use Rattle.bds_check_names.specs.declared.names.Names.{Names}
use Rattle.bds_check_names.specs.declared.names.Site.{Site}
use Rattle.bds_check_names.specs.declared.names.Asked.{Asked}
use Rattle.bds_check_names.specs.declared.names.Asked.TheVariants.{Value, This}
use Rattle.bds_check_names.specs.Scopes.{last_type, with_local, variable, any_named, declare_in, with_locals, with_globals, is_declared, apart, inner as inner_site, in_loop as loop_site, in_switch as switch_site}
use Rattle.bds_check_names.specs.Slots.{slots, case_slots}
use Rattle.bds_check_rules.specs.Declarations.{declared_by_small_form, names_with}
use Rattle.bds_check_rules.specs.declared.rules.Rule.{Rule}
use Rattle.bds_check_rules.specs.declared.rules.Rule.TheVariants as rule
use Rattle.bds_check_rules.specs.StmtBreaks.{small_breaks, right_type, given_rule, twice_rule, place_ty}
use Rattle.bds_check_typing.specs.StmtParts.{returned}
use Rattle.bds_check_typing.specs.WellTypedParts.{IsWellTypedSmall, names_behind_small}
use Rattle.bds_check_typing.specs.WellTypedStmts.{IsWellTypedStmt, IsWellTypedLine, IsWellTypedRight, IsWellTypedActForm, IsWellTypedBlock, AreWellTypedStmts, names_behind, AreWellTypedCases, IsWellTypedCase}
use Rattle.bds_check_typing.specs.Known.{AreVariablesWritten, IsSmallFormWritten, IsStmtWritten, IsLineWritten, IsRightWritten, IsActFormWritten, IsBlockWritten, AreStmtsWritten, IsSmallWritten, AreCasesWritten, IsCaseWritten}
use Rattle.bds_gen_expr.specs.Marks.{Mark}
use Rattle.bds_gen_expr.specs.declared.scope.Numbered.{Numbered}
use Rattle.bds_gen_expr.specs.declared.scope.Scope.{Scope}
use Rattle.bds_gen_expr.specs.Numbers.{visible_locals}
use Rattle.bds_gen_expr.specs.Scope.{with_one_global}
use Rattle.bds_gen_expr.proofs.Written.{ret-is, params-is}
use Rattle.bds_gen_flow.proofs.ExprParts.{written-type, when-none}
use Rattle.bds_gen_stmt.specs.Spots.{Spot, inner, behind_slots, declared_local}
use Rattle.bds_gen_stmt.specs.PlaceCode.{behind_small, behind_small_form}
use Rattle.bds_gen_stmt.specs.StmtCode.{behind, block_code, pars, case_pars}
use Rattle.bds_gen_stmt.specs.FunctionCode.{fresh, eight, ending, at_of_block, opening, types_of, function_of, par_functions, line_par_functions, right_par_functions, act_form_par_functions, block_par_functions, stmts_par_functions, cases_par_functions, case_par_functions}
use Rattle.bds_check_typing.specs.Proper.{IsProperStmt, IsProperLine, IsProperRight, IsProperActForm, IsProperBlock, AreProperStmts, AreProperCases, IsProperCase}
use Rattle.bds_gen_stmt.proofs.StmtCounts.{behind-low}
use Rattle.bds_gen_stmt.proofs.Visible.{renumbered-variables, last-visible, visible-written}
use Rattle.bds_gen_stmt.proofs.Matched.{Agrees, Matches, local-agrees, declared-agrees}
use Rattle.bds_gen_stmt.proofs.Parameters.{parameters-in}
use Rattle.bds_gen_stmt.proofs.Pars.{StandAt, own-there, both-there, case-there, stmt-there}
use Rattle.bds_gen_stmt.proofs.FunctionFlow.{function-verified, tasks_there}

right-solid : (r : RightTree) → IsRightWritten r → is_solid (right_type r) ≡ true
right-solid (right_expr e) k = written-type e k
right-solid (right_act (act at f)) k = k.0

module _ (u : CodeUnit) where
  abbrev pub VerifiedIfWhole : Function → Type 0
  VerifiedIfWhole f = is_whole u f ≡ true → IsVerified u f

  abbrev pub AllVerified : List Function → Type 0
  AllVerified fs = AllByRecursion VerifiedIfWhole fs

  pub all-append : (fs gs : List Function) → AllVerified fs → AllVerified gs → AllVerified (fs ++ gs)
  all-append [] gs h k = k
  all-append (f ∷ fs) gs h k = (h.0, all-append fs gs h.1 k)

  -- where a function begins
  pub opening-matches : (x : List ℕ) (ls : List Numbered) (ret : Ty) (sc : Scope) (b : BlockTree) (n : ℕ) (names : Names) (site : Site) → Agrees u names (opening sc ls).scope → site.at_top ≡ false → ((t : Ty) → site.returns ≡ Some t → ret ≡ t)
      → Matches u (function_of x ls ret sc b n) names site (opening sc ls)
  opening-matches x ls ret sc b n names site a low r =
      let F : Function = function_of x ls ret sc b n in
      let marks : List Mark = eight ++ (block_code b (opening sc ls) n 0 ++ ending ret (at_of_block b)) in
      record {
        agrees = a;
        slots = parameters-in F ls [] F.locals 0 (ap (λ ts. ts ++ F.locals) (params-is marks (fresh x (types_of ls) ret))) refl;
        top = sym low;
        returns = λ t e. ret-is marks (fresh x (types_of ls) ret) ∙ r t e;
        tasks = tasks_there u x ls ret sc b n;
      }

  pub visible-agrees : (names : Names) (sc : Scope) → Agrees u names sc → Agrees u names (opening sc (visible_locals sc.locals)).scope
  visible-agrees names sc a =
      let same = renumbered-variables (visible_locals sc.locals) 0 in
      record {
        locals = λ x. a.locals x ∙ sym (last-visible x sc.locals None) ∙ ap (λ vs. last_type x vs None) (sym same);
        globals = a.globals;
        typed_globals = a.typed_globals;
        locals_written = subst AreVariablesWritten (sym same) (visible-written sc.locals a.locals_written);
        globals_written = a.globals_written;
        calls = a.calls;
        parameters = a.parameters;
      }

  -- The names behind a statement of a block

  declared-by : (b c : Bool) (names : Names) (site : Site) (sp : Spot) (x : List ℕ) (t : Ty) → Agrees u names sp.scope → b ≡ false → c ≡ false → (if c then any_named x names.globals else any_named x (drop site.start names.locals)) ≡ false → is_solid t ≡ true
      → Agrees u (if c then with_globals names (declare_in 0 (variable x t) names.globals) else with_locals names (declare_in site.start (variable x t) names.locals))
      (if b then record sp { scope = with_one_global sp.scope x t (length sp.scope.globals) } else declared_local sp x t).scope
  declared-by false false names site sp x t a p q d w = declared-agrees u names site sp.scope x t sp.next a d w
  declared-by true c names site sp x t a p q d w = absurd (cc)
  declared-by false true names site sp x t a p q d w = absurd (cc)

  pub is-new : (names : Names) (site : Site) (x : List ℕ) (others : Option Rule) → twice_rule names site x others ≡ None → is_declared names site x ≡ false
  is-new names site x others q = (when-none (is_declared names site x) rule.TwiceDeclared others q).0

  pub stmt-agrees : (s : StmtTree) (sp : Spot) (names : Names) (site : Site) → Agrees u names sp.scope → sp.at_top ≡ false → site.at_top ≡ false → IsWellTypedStmt s names site → IsStmtWritten s → Agrees u (names_behind s names site) (behind s sp).scope
  stmt-agrees (stmt at (line (declare t x no_right))) sp names site a p q w k = declared-by sp.at_top site.at_top names site sp x t a p q (is-new names site x None w.1) k.0
  stmt-agrees (stmt at (line (declare t x (a_right r)))) sp names site a p q w k = declared-by sp.at_top site.at_top names site sp x t a p q (is-new names site x (given_rule t (Some (right_type r))) w.1) k.0
  stmt-agrees (stmt at (line (infer x r))) sp names site a p q w k = declared-by sp.at_top site.at_top names site sp x (right_type r) a p q (is-new names site x None w.1) (right-solid r k)
  stmt-agrees (stmt at (line _)) sp names site a p q w k = a
  stmt-agrees (stmt at _) sp names site a p q w k = a

  -- behind the first part of the head of a `for`
  pub small-agrees : (x : Option SmallTree) (sp : Spot) (names : Names) (site : Site) → Agrees u names sp.scope → IsWellTypedSmall x names (inner_site names site) → IsSmallWritten x → Agrees u (names_behind_small x names (inner_site names site)) (behind_small x sp).scope
  small-agrees None sp names site a w k = a
  small-agrees (Some s) sp names site a w k = by_form s.form w.1 k
    where
      by_form : (f : SmallFormTree) → small_breaks names (inner_site names site) f ≡ None → IsSmallFormWritten f → Agrees u (names_with names (inner_site names site) (declared_by_small_form f)) (behind_small_form f sp).scope
      by_form (small_declare t x None) b k = declared-agrees u names (inner_site names site) sp.scope x t sp.next a (is-new names (inner_site names site) x None b) k.0
      by_form (small_declare t x (Some e)) b k = declared-agrees u names (inner_site names site) sp.scope x t sp.next a (is-new names (inner_site names site) x (given_rule t (Some (type_of e))) b) k.0
      by_form (small_infer x e) b k = declared-agrees u names (inner_site names site) sp.scope x (type_of e) sp.next a (is-new names (inner_site names site) x None b) (written-type e k)
      by_form (small_assign q e) b k = a
      by_form (small_update q o e) b k = a
      by_form (small_step x) b k = a
      by_form (small_call e) b k = a

  -- `par` blocks in statements

  mutual
    pub stmt-pars : (s : StmtTree) (sp : Spot) (names : Names) (site : Site) (n : ℕ) → Agrees u names sp.scope → IsProperStmt (length u.files) s → IsWellTypedStmt s names site → IsStmtWritten s → StandAt u (par_functions s sp n) n → AllVerified (par_functions s sp n)
    stmt-pars (stmt at (inner_block b)) sp names site n a h w k st = block-pars b (inner sp) names (inner_site names site) n a refl refl h.1 w.0 k st
    stmt-pars (stmt at empty) sp names site n a h w k st = tt
    stmt-pars (stmt at (line l)) sp names site n a h w k st = line-pars l sp names site n a h.1 w.0 k st
    stmt-pars (stmt at (when c x no_stmt)) sp names site n a h w k st = stmt-pars x (inner sp) names (inner_site names site) n a h.1.1 w.0.1 k.1 st
    stmt-pars (stmt at (when c x (a_stmt y))) sp names site n a h w k st =
        let sp2 : Spot = behind_slots (inner sp) (slots x) in
        let both = both-there u x y sp n st in
        all-append (par_functions x (inner sp) n) (par_functions y sp2 (n + pars x)) (stmt-pars x (inner sp) names (inner_site names site) n a h.1.1 w.0.1 k.1 both.0)
        (stmt-pars y sp2 names (inner_site names site) (n + pars x) a h.1.2 w.0.2 k.2 both.1)
    stmt-pars (stmt at (while c b)) sp names site n a h w k st = stmt-pars b (inner sp) names (loop_site names site) n a h.1.1 w.0.1 k.1 st
    stmt-pars (stmt at (for first c next b)) sp names site n a h w k st =
        let names1 : Names = names_behind_small first names (inner_site names site) in
        stmt-pars b (behind_small first (inner sp)) names1 (loop_site names1 site) n (small-agrees first (inner sp) names site a w.0.0 k.0) h.1.3 w.0.3 k.3 st
    stmt-pars (stmt at (each t x e b)) sp names site n a h w k st =
        let names1 : Names = with_local names x t in
        stmt-pars b (declared_local (behind_slots (inner sp) 2) x t) names1 (loop_site names1 site) n (local-agrees u names sp.scope x t (sp.next + 2) a k.0) h.1.3 w.0.1 k.2 st
    stmt-pars (stmt at (switch e cs)) sp names site n a h w k st = cases-pars cs (behind_slots (inner sp) 1) names site n a refl h.1.1 w.0.1 k.1 st

    cases-pars : (cs : CaseTrees) (sp : Spot) (names : Names) (site : Site) (n : ℕ) → Agrees u names sp.scope → sp.at_top ≡ false → AreProperCases (length u.files) cs → AreWellTypedCases cs names site → AreCasesWritten cs → StandAt u (cases_par_functions cs sp n) n
        → AllVerified (cases_par_functions cs sp n)
    cases-pars no_cases sp names site n a p h w k st = tt
    cases-pars (more_cases c cs) sp names site n a p h w k st =
        let sp2 : Spot = behind_slots sp (case_slots c) in
        let both = case-there u c cs sp n st in
        all-append (case_par_functions c sp n) (cases_par_functions cs sp2 (n + case_pars c)) (case-pars c sp names site n a p h.0 w.0 k.0 both.0) (cases-pars cs sp2 names site (n + case_pars c) a p h.1 w.1 k.1 both.1)

    case-pars : (c : CaseTree) (sp : Spot) (names : Names) (site : Site) (n : ℕ) → Agrees u names sp.scope → sp.at_top ≡ false → IsProperCase (length u.files) c → IsWellTypedCase c names site → IsCaseWritten c → StandAt u (case_par_functions c sp n) n
        → AllVerified (case_par_functions c sp n)
    case-pars (a_case at l ss) sp names site n a p h w k st = stmts-pars ss sp names (switch_site names site) n a p refl h.2 w.1 k.1 st

    line-pars : (l : LineTree) (sp : Spot) (names : Names) (site : Site) (n : ℕ) → Agrees u names sp.scope → IsProperLine (length u.files) l → IsWellTypedLine l names site → IsLineWritten l → StandAt u (line_par_functions l sp n) n → AllVerified (line_par_functions l sp n)
    line-pars (declare t x no_right) sp names site n a h w k st = tt
    line-pars (declare t x (a_right r)) sp names site n a h w k st = right-pars r (This t) sp names n a h.2 w k.1 st
    line-pars (infer x r) sp names site n a h w k st = right-pars r Value sp names n a h.1 w k st
    line-pars (assign q r) sp names site n a h w k st = right-pars r (This (place_ty names q)) sp names n a h.1 w.1 k.1 st
    line-pars (update q o r) sp names site n a h w k st = right-pars r Value sp names n a h.1 w.1 k.1 st
    line-pars (return (a_right r)) sp names site n a h w k st = right-pars r (returned site.returns) sp names n a h w k st
    line-pars (act_line (act at f)) sp names site n a h w k st = act-pars f sp names n a h.1 w.0 k st
    line-pars _ sp names site n a h w k st = tt

    right-pars : (r : RightTree) (asked : Asked) (sp : Spot) (names : Names) (n : ℕ) → Agrees u names sp.scope → IsProperRight (length u.files) r → IsWellTypedRight r names asked → IsRightWritten r → StandAt u (right_par_functions r sp n) n → AllVerified (right_par_functions r sp n)
    right-pars (right_expr e) asked sp names n a h w k st = tt
    right-pars (right_act (act at f)) asked sp names n a h w k st = act-pars f sp names n a h.1 w.0 k.1 st

    act-pars : (f : ActFormTree) (sp : Spot) (names : Names) (n : ℕ) → Agrees u names sp.scope → IsProperActForm (length u.files) f → IsWellTypedActForm f names → IsActFormWritten f → StandAt u (act_form_par_functions f sp n) n → AllVerified (act_form_par_functions f sp n)
    act-pars (par_block b) sp names n a h w k st =
        let ls : List Numbered = visible_locals sp.scope.locals in
        let sp2 : Spot = opening sp.scope ls in
        let F : Function = function_of [] ls ty.Void sp.scope b n in
        let a2 : Agrees u names sp2.scope = visible-agrees names sp.scope a in
        let both = own-there u b sp n st in
        let m : Matches u F names (apart names) sp2 = opening-matches [] ls ty.Void sp.scope b n names (apart names) a2 refl (λ t e. absurd (cc)) in
        all-append (block_par_functions b sp2 n) (F ∷ []) (block-pars b sp2 names (apart names) n a2 refl refl h w.0 k both.0)
        (λ whole. function-verified u [] ls ty.Void sp.scope b n names (apart names) m refl refl h w.0 k both.0 whole, tt)
    act-pars (sys ps) sp names n a h w k st = tt
    act-pars (task os b) sp names n a h w k st = tt
    act-pars (dep os b) sp names n a h w k st = tt
    act-pars (goal e) sp names n a h w k st = tt
    act-pars (par_call f es) sp names n a h w k st = tt

    pub block-pars : (b : BlockTree) (sp : Spot) (names : Names) (site : Site) (n : ℕ) → Agrees u names sp.scope → sp.at_top ≡ false → site.at_top ≡ false → IsProperBlock (length u.files) b → IsWellTypedBlock b names site → IsBlockWritten b → StandAt u (block_par_functions b sp n) n
        → AllVerified (block_par_functions b sp n)
    block-pars (block at ss) sp names site n a p q h w k st = stmts-pars ss sp names site n a p q h.1 w k st

    stmts-pars : (ss : StmtTrees) (sp : Spot) (names : Names) (site : Site) (n : ℕ) → Agrees u names sp.scope → sp.at_top ≡ false → site.at_top ≡ false → AreProperStmts (length u.files) ss → AreWellTypedStmts ss names site → AreStmtsWritten ss → StandAt u (stmts_par_functions ss sp n) n
        → AllVerified (stmts_par_functions ss sp n)
    stmts-pars no_stmts sp names site n a p q h w k st = tt
    stmts-pars (more_stmts s ss) sp names site n a p q h w k st =
        let sp2 : Spot = behind s sp in
        let both = stmt-there u s ss sp n st in
        all-append (par_functions s sp n) (stmts_par_functions ss sp2 (n + pars s)) (stmt-pars s sp names site n a h.0 w.0 k.0 both.0)
        (stmts-pars ss sp2 (names_behind s names site) site (n + pars s) (stmt-agrees s sp names site a p q w.0 k.0) (behind-low s sp p) q h.1 w.1 k.1 both.1)
