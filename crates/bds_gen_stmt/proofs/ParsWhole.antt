-- The functions of `par` blocks are whole, where their code isn't too long.
use Rattle.std.proofs.Common.{◌≡◌, ◌+◌, ◌||◌, ℕ, suc, List, [], ◌∷◌, ◌++◌, length, Option, Some, None, is_some, Bool, true, false, refl, sym, ◌∙◌, ap, subst, arith, rules, if◌then◌else◌}
use Rattle.std.specs.Prelude.{drop}
use Rattle.std.specs.List.{AllByRecursion}
use Rattle.std.specs.Str.{bytes_eq}
use Rattle.std.proofs.lemmas.Slice.Eq.{bytes_eq-Decides}
use Rattle.bds_value.specs.declared.value.Ty.{Ty}
use Rattle.bds_value.specs.declared.value.Ty.TheVariants as ty
use Rattle.bds_value.specs.Types.{is_void, is_void_at}
use Rattle.bds_tree.specs.StmtTree.{SmallFormTree, small_declare, small_infer, small_assign, small_update, small_step, small_call, SmallTree, StmtTree, LineTree, RightTree, ActFormTree, BlockTree, StmtTrees, stmt, inner_block, empty, line, when, while, for, each, declare, infer, assign, update, return, act_line, right_expr, right_act, act, sys, task, dep, goal, par_call, par_block, block, no_stmts, more_stmts, no_stmt, a_stmt, no_right, a_right, switch, CaseTrees, CaseTree, no_cases, more_cases, a_case}
use Rattle.bds_tree.specs.Tree.{type_of}
use Rattle.bds_code.specs.declared.unit.Function.{Function}
use Rattle.bds_code.specs.declared.unit.Unit.{Unit as CodeUnit}
use Rattle.bds_verify.specs.Whole.{is_value_ty}
use Rattle.bds_check_names.specs.declared.names.Names.{Names}
use Rattle.bds_check_names.specs.declared.names.Site.{Site}
use Rattle.bds_check_names.specs.declared.names.Variable.{Variable}
use Rattle.bds_check_names.specs.declared.names.Asked.{Asked}
use Rattle.bds_check_names.specs.declared.names.Asked.TheVariants.{Value, This}
use Rattle.bds_check_names.specs.Scopes.{last_type, any_named, variable, declare_in, with_locals, with_globals, with_local, apart, inner as inner_site, in_loop as loop_site, in_switch as switch_site}
use Rattle.bds_check_names.specs.Slots.{slots, block_slots, visible, are_too_many, case_slots}
use Rattle.bds_check_rules.specs.Declarations.{declared_by_small_form, names_with}
use Rattle.bds_check_rules.specs.declared.rules.Rule.TheVariants as rule
use Rattle.bds_check_rules.specs.StmtBreaks.{small_breaks, right_type, given_rule, place_ty}
use Rattle.bds_check_typing.specs.StmtParts.{returned}
use Rattle.bds_check_typing.specs.WellTypedParts.{IsWellTypedSmall, IsWellTypedSmallForm, names_behind_small}
use Rattle.bds_check_typing.specs.WellTypedStmts.{IsWellTypedStmt, IsWellTypedLine, IsWellTypedRight, IsWellTypedActForm, IsWellTypedBlock, AreWellTypedStmts, names_behind, AreWellTypedCases, IsWellTypedCase}
use Rattle.bds_check_typing.specs.Known.{IsSmallFormWritten, IsSmallWritten, IsStmtWritten, IsLineWritten, IsRightWritten, IsActFormWritten, IsBlockWritten, AreStmtsWritten, AreCasesWritten, IsCaseWritten}
use Rattle.bds_check_typing.specs.Proper.{IsProperSmall, IsProperSmallForm, IsProperStmt, IsProperLine, IsProperRight, IsProperActForm, IsProperBlock, AreProperStmts, AreProperCases, IsProperCase}
use Rattle.bds_check_typing.proofs.Written.{void-unknown}
use Rattle.bds_gen_expr.specs.declared.scope.Numbered.{Numbered}
use Rattle.bds_gen_expr.specs.declared.scope.Scope.{Scope}
use Rattle.bds_gen_expr.specs.Numbers.{variables_of, visible_locals}
use Rattle.bds_gen_expr.specs.Scope.{with_one_global}
use Rattle.bds_gen_flow.proofs.ExprParts.{when-none}
use Rattle.bds_gen_stmt.specs.Spots.{Spot, inner, behind_slots, declared_local}
use Rattle.bds_gen_stmt.specs.PlaceCode.{behind_small, behind_small_form}
use Rattle.bds_gen_stmt.specs.StmtCode.{behind, pars, case_pars}
use Rattle.bds_gen_stmt.specs.FunctionCode.{opening, renumbered, types_of, function_of, par_functions, line_par_functions, right_par_functions, act_form_par_functions, block_par_functions, stmts_par_functions, cases_par_functions, case_par_functions}
use Rattle.bds_gen_stmt.proofs.StmtCounts.{behind-low, map-end}
use Rattle.bds_gen_stmt.proofs.Visible.{renumbered-variables, last-visible}
use Rattle.bds_gen_stmt.proofs.Matched.{Agrees, local-agrees}
use Rattle.bds_gen_stmt.proofs.Pars.{visible-count}
use Rattle.bds_gen_stmt.proofs.ParsFlow.{visible-agrees, stmt-agrees, small-agrees, is-new}
use Rattle.bds_gen_stmt.proofs.Wholes.{AreValueTys, written-value}
use Rattle.bds_gen_stmt.proofs.Written.{all-behind}
use Rattle.bds_gen_stmt.proofs.ExprTypes.{type-value, expr-types}
use Rattle.bds_gen_stmt.proofs.ActWhole.{right-value}
use Rattle.bds_gen_stmt.proofs.FunctionWhole.{IsWholeIfSmall, room, function-whole}

-- How many variables are visible

-- one is found where one has the name
found-named : (x : List ℕ) (vs : List Variable) (o : Option Ty) → is_some (last_type x vs o) ≡ (any_named x vs || is_some o)
found-named x [] o = refl
found-named x (v ∷ vs) o = by (bytes_eq x v.name) (found-named x vs)
  where
    by : (b : Bool) → ((p : Option Ty) → is_some (last_type x vs p) ≡ (any_named x vs || is_some p)) → is_some (last_type x vs (if b then Some v.ty else o)) ≡ ((b || any_named x vs) || is_some o)
    by true rest = rest (Some v.ty) ∙ or-true (any_named x vs)
      where
        or-true : (a : Bool) → (a || true) ≡ true
        or-true true = refl
        or-true false = refl
    by false rest = rest o

or-false : (a : Bool) → (a || false) ≡ a
or-false true = refl
or-false false = refl

named-is : (x : List ℕ) (vs : List Variable) → any_named x vs ≡ is_some (last_type x vs None)
named-is x vs = sym (found-named x vs None ∙ or-false (any_named x vs))

pub named-behind : (x : List ℕ) (vs : List Variable) (v : Variable) → any_named x (vs ++ v ∷ []) ≡ (any_named x vs || bytes_eq x v.name)
named-behind x [] v = or-false (bytes_eq x v.name)
named-behind x (w ∷ vs) v = ap (λ b. bytes_eq x w.name || b) (named-behind x vs v) ∙ turn (bytes_eq x w.name) (any_named x vs) (bytes_eq x v.name)
  where
    turn : (a b c : Bool) → (a || (b || c)) ≡ ((a || b) || c)
    turn true b c = refl
    turn false b c = refl

-- compared the other way
pub turned : (x y : List ℕ) (b : Bool) → bytes_eq x y ≡ b → bytes_eq y x ≡ b
turned x y true e = let same : x ≡ y = (bytes_eq-Decides x y).0 e in subst (λ z. bytes_eq z x ≡ true) same ((bytes_eq-Decides x x).1 refl)
turned x y false e = no (bytes_eq y x) refl
  where
    no : (c : Bool) → bytes_eq y x ≡ c → bytes_eq y x ≡ false
    no false q = q
    no true q = let same : y ≡ x = (bytes_eq-Decides y x).0 q in absurd (let yes : bytes_eq x y ≡ true = (bytes_eq-Decides x y).1 (sym same) in search (rules, sym e ∙ yes))

-- one more variable hides those of its name
visible-behind : (vs : List Variable) (v : Variable) → visible (vs ++ v ∷ []) ≡ (if any_named v.name vs then visible vs else visible vs + 1)
visible-behind [] v = refl
visible-behind (w ∷ vs) v =
    ap (λ b. if b then visible (vs ++ v ∷ []) else visible (vs ++ v ∷ []) + 1) (named-behind w.name vs v)
    ∙ ap (λ n. if any_named w.name vs || bytes_eq w.name v.name then n else n + 1) (visible-behind vs v)
    ∙ by (bytes_eq w.name v.name) refl
  where
    Goal : Bool → Bool → Bool → Bool → Type 0
    Goal a b c d = (if a || b then (if c then visible vs else visible vs + 1) else (if c then visible vs else visible vs + 1) + 1) ≡ (if d || c then (if a then visible vs else visible vs + 1) else (if a then visible vs else visible vs + 1) + 1)

    same-name : (a : Bool) → Goal a true a true
    same-name true = refl
    same-name false = refl

    other-name : (a c : Bool) → Goal a false c false
    other-name true true = refl
    other-name true false = refl
    other-name false true = refl
    other-name false false = refl

    by : (b : Bool) → bytes_eq w.name v.name ≡ b → Goal (any_named w.name vs) (bytes_eq w.name v.name) (any_named v.name vs) (bytes_eq v.name w.name)
    by true e =
        let same : w.name ≡ v.name = (bytes_eq-Decides w.name v.name).0 e in
        subst (λ b. Goal (any_named w.name vs) b (any_named v.name vs) (bytes_eq v.name w.name)) (sym e)
        (subst (λ d. Goal (any_named w.name vs) true (any_named v.name vs) d) (sym (turned w.name v.name true e))
        (subst (λ x. Goal (any_named w.name vs) true (any_named x vs) true) same (same-name (any_named w.name vs))))
    by false e =
        subst (λ b. Goal (any_named w.name vs) b (any_named v.name vs) (bytes_eq v.name w.name)) (sym e)
        (subst (λ d. Goal (any_named w.name vs) false (any_named v.name vs) d) (sym (turned w.name v.name false e)) (other-name (any_named w.name vs) (any_named v.name vs)))

-- all that are visible are visible among themselves
visible-again : (ls : List Numbered) → visible (variables_of (visible_locals ls)) ≡ visible (variables_of ls)
visible-again [] = refl
visible-again (l ∷ ls) = by_hidden (any_named l.variable.name (variables_of ls)) refl (visible-again ls)
  where
    same_named : any_named l.variable.name (variables_of (visible_locals ls)) ≡ any_named l.variable.name (variables_of ls)
    same_named = named-is l.variable.name (variables_of (visible_locals ls)) ∙ ap is_some (last-visible l.variable.name ls None) ∙ sym (named-is l.variable.name (variables_of ls))

    by_hidden : (b : Bool) → any_named l.variable.name (variables_of ls) ≡ b → visible (variables_of (visible_locals ls)) ≡ visible (variables_of ls) → visible (variables_of (if b then visible_locals ls else l ∷ visible_locals ls)) ≡ (if b then visible (variables_of ls) else visible (variables_of ls) + 1)
    by_hidden true e rest = rest
    by_hidden false e rest = ap (λ b. if b then visible (variables_of (visible_locals ls)) else visible (variables_of (visible_locals ls)) + 1) (same_named ∙ e) ∙ ap (λ n. n + 1) rest

-- Types of locals

values-of-visible : (ls : List Numbered) → AreValueTys (types_of ls) → AreValueTys (types_of (visible_locals ls))
values-of-visible [] h = tt
values-of-visible (l ∷ ls) h = by_hidden (any_named l.variable.name (variables_of ls)) (values-of-visible ls h.1)
  where
    by_hidden : (b : Bool) → AreValueTys (types_of (visible_locals ls)) → AreValueTys (types_of (if b then visible_locals ls else l ∷ visible_locals ls))
    by_hidden true k = k
    by_hidden false k = (h.0, k)

pub types-renumbered : (ls : List Numbered) (n : ℕ) → types_of (renumbered ls n) ≡ types_of ls
types-renumbered [] n = refl
types-renumbered (l ∷ ls) n = ap (λ ts. l.variable.ty ∷ ts) (types-renumbered ls (suc n))

types-behind : (ls : List Numbered) (l : Numbered) → types_of (ls ++ l ∷ []) ≡ types_of ls ++ l.variable.ty ∷ []
types-behind [] l = refl
types-behind (k ∷ ls) l = ap (λ ts. k.variable.ty ∷ ts) (types-behind ls l)

pub types-many : (ls : List Numbered) → length (types_of ls) ≡ length ls
types-many [] = refl
types-many (l ∷ ls) = let e = types-many ls in omega (arith, e)

pub void-here : (is_void ty.Void || is_value_ty ty.Void) ≡ true
void-here = ap (λ b. b || is_value_ty ty.Void) (ap is_void_at ty.outs-Void)

module _ (u : CodeUnit) where
  abbrev files : ℕ
  files = length u.files

  -- what is in force where a `par` block may stand
  pub record Good (names : Names) (sc : Scope) : Type 0 where
    pub agrees : Agrees u names sc
    pub alike : visible names.locals ≡ visible (variables_of sc.locals)
    pub values : AreValueTys (types_of sc.locals)

  abbrev pub AllWhole : List Function → Type 0
  AllWhole fs = AllByRecursion (IsWholeIfSmall u) fs

  pub all-whole : (fs gs : List Function) → AllWhole fs → AllWhole gs → AllWhole (fs ++ gs)
  all-whole fs gs h k = all-behind (IsWholeIfSmall u) fs gs h k

  -- one more local
  grown-alike : (names : Names) (sc : Scope) (l : Numbered) → Good names sc → visible (names.locals ++ l.variable ∷ []) ≡ visible (variables_of (sc.locals ++ l ∷ []))
  grown-alike names sc l g =
      let x : List ℕ = l.variable.name in
      let same : any_named x names.locals ≡ any_named x (variables_of sc.locals) = named-is x names.locals ∙ ap is_some (g.agrees.locals x) ∙ sym (named-is x (variables_of sc.locals)) in
      visible-behind names.locals l.variable
      ∙ ap (λ b. if b then visible names.locals else visible names.locals + 1) same
      ∙ ap (λ n. if any_named x (variables_of sc.locals) then n else n + 1) g.alike
      ∙ sym (visible-behind (variables_of sc.locals) l.variable)
      ∙ ap visible (sym (map-end sc.locals l))

  grown-values : (ls : List Numbered) (l : Numbered) → AreValueTys (types_of ls) → is_value_ty l.variable.ty ≡ true → AreValueTys (types_of (ls ++ l ∷ []))
  grown-values ls l h v = subst AreValueTys (sym (types-behind ls l)) (all-behind (λ t. is_value_ty t ≡ true) (types_of ls) (l.variable.ty ∷ []) h (v, tt))

  par-good : (names : Names) (sc : Scope) → Good names sc → Good names (opening sc (visible_locals sc.locals)).scope
  par-good names sc g =
      let ls : List Numbered = visible_locals sc.locals in
      record {
        agrees = visible-agrees u names sc g.agrees;
        alike = g.alike ∙ sym (visible-again sc.locals) ∙ ap visible (sym (renumbered-variables ls 0));
        values = subst AreValueTys (sym (types-renumbered ls 0)) (values-of-visible sc.locals g.values);
      }

  declared-alike : (b c : Bool) (names : Names) (site : Site) (sp : Spot) (x : List ℕ) (t : Ty) → Good names sp.scope → b ≡ false → c ≡ false → (if c then any_named x names.globals else any_named x (drop site.start names.locals)) ≡ false → is_value_ty t ≡ true
      → (visible (if c then with_globals names (declare_in 0 (variable x t) names.globals) else with_locals names (declare_in site.start (variable x t) names.locals)).locals
      ≡ visible (variables_of (if b then record sp { scope = with_one_global sp.scope x t (length sp.scope.globals) } else declared_local sp x t).scope.locals))
      × AreValueTys (types_of (if b then record sp { scope = with_one_global sp.scope x t (length sp.scope.globals) } else declared_local sp x t).scope.locals)
  declared-alike false false names site sp x t g p q d v =
      let l : Numbered = record { variable = variable x t; number = sp.next } in
      (ap (λ b. visible (if b then names.locals else names.locals ++ variable x t ∷ [])) d ∙ grown-alike names sp.scope l g, grown-values sp.scope.locals l g.values v)
  declared-alike true c names site sp x t g p q d v = absurd (cc)
  declared-alike false true names site sp x t g p q d v = absurd (cc)

  stmt-good : (s : StmtTree) (sp : Spot) (names : Names) (site : Site) → Good names sp.scope → sp.at_top ≡ false → site.at_top ≡ false → IsProperStmt files s → IsWellTypedStmt s names site → IsStmtWritten s → Good (names_behind s names site) (behind s sp).scope
  stmt-good s sp names site g p q pr w k = by s pr w k (stmt-agrees u s sp names site g.agrees p q w k)
    where
      by : (s : StmtTree) → IsProperStmt files s → IsWellTypedStmt s names site → IsStmtWritten s → Agrees u (names_behind s names site) (behind s sp).scope → Good (names_behind s names site) (behind s sp).scope
      by (stmt at (line (declare t x no_right))) pr w k a =
          let h = declared-alike sp.at_top site.at_top names site sp x t g p q (is-new u names site x None w.1) (written-value t pr.1.0.0 pr.1.0.1) in record { agrees = a; alike = h.0; values = h.1 }
      by (stmt at (line (declare t x (a_right r)))) pr w k a =
          let h = declared-alike sp.at_top site.at_top names site sp x t g p q (is-new u names site x (given_rule t (Some (right_type r))) w.1) (written-value t pr.1.0.0 pr.1.0.1) in record { agrees = a; alike = h.0; values = h.1 }
      by (stmt at (line (infer x r))) pr w k a =
          let h = declared-alike sp.at_top site.at_top names site sp x (right_type r) g p q (is-new u names site x None w.1) (right-value r names Value w.0 k) in record { agrees = a; alike = h.0; values = h.1 }
      by (stmt at (line _)) pr w k a = g
      by (stmt at _) pr w k a = g

  local-good : (names : Names) (sc : Scope) (x : List ℕ) (t : Ty) (n : ℕ) → Good names sc → Agrees u (with_local names x t) (record sc { locals = sc.locals ++ record { variable = variable x t; number = n } ∷ [] }) → is_value_ty t ≡ true
      → Good (with_local names x t) (record sc { locals = sc.locals ++ record { variable = variable x t; number = n } ∷ [] })
  local-good names sc x t n g a v =
      let l : Numbered = record { variable = variable x t; number = n } in
      record { agrees = a; alike = grown-alike names sc l g; values = grown-values sc.locals l g.values v }

  small-good : (x : Option SmallTree) (sp : Spot) (names : Names) (site : Site) → Good names sp.scope → IsProperSmall files x → IsWellTypedSmall x names (inner_site names site) → IsSmallWritten x → Good (names_behind_small x names (inner_site names site)) (behind_small x sp).scope
  small-good None sp names site g pr w k = g
  small-good (Some s) sp names site g pr w k = by s.form pr.1 w.0 w.1 k (small-agrees u (Some s) sp names site g.agrees w k)
    where
      by : (f : SmallFormTree) → IsProperSmallForm files f → IsWellTypedSmallForm f names → small_breaks names (inner_site names site) f ≡ None → IsSmallFormWritten f → Agrees u (names_with names (inner_site names site) (declared_by_small_form f)) (behind_small_form f sp).scope
          → Good (names_with names (inner_site names site) (declared_by_small_form f)) (behind_small_form f sp).scope
      by (small_declare t x None) pr w b k a =
          let h = declared-alike false false names (inner_site names site) sp x t g refl refl (is-new u names (inner_site names site) x None b) (written-value t pr.0.0 pr.0.1) in record { agrees = a; alike = h.0; values = h.1 }
      by (small_declare t x (Some e)) pr w b k a =
          let h = declared-alike false false names (inner_site names site) sp x t g refl refl (is-new u names (inner_site names site) x (given_rule t (Some (type_of e))) b) (written-value t pr.0.0 pr.0.1) in record { agrees = a; alike = h.0; values = h.1 }
      by (small_infer x e) pr w b k a =
          let h = declared-alike false false names (inner_site names site) sp x (type_of e) g refl refl (is-new u names (inner_site names site) x None b) (type-value e (expr-types e names Value w k)) in record { agrees = a; alike = h.0; values = h.1 }
      by (small_assign q e) pr w b k a = g
      by (small_update q o e) pr w b k a = g
      by (small_step x) pr w b k a = g
      by (small_call e) pr w b k a = g

  -- `par` blocks in statements

  mutual
    pub stmt-pars-whole : (s : StmtTree) (sp : Spot) (names : Names) (site : Site) (n : ℕ) → Good names sp.scope → IsProperStmt files s → IsWellTypedStmt s names site → IsStmtWritten s → AllWhole (par_functions s sp n)
    stmt-pars-whole (stmt at (inner_block b)) sp names site n g pr w k = block-pars-whole b (inner sp) names (inner_site names site) n g refl refl pr.1 w.0 k
    stmt-pars-whole (stmt at empty) sp names site n g pr w k = tt
    stmt-pars-whole (stmt at (line l)) sp names site n g pr w k = line-pars-whole l sp names site n g pr.1 w.0 k
    stmt-pars-whole (stmt at (when c x no_stmt)) sp names site n g pr w k = stmt-pars-whole x (inner sp) names (inner_site names site) n g pr.1.1 w.0.1 k.1
    stmt-pars-whole (stmt at (when c x (a_stmt y))) sp names site n g pr w k =
        let sp2 : Spot = behind_slots (inner sp) (slots x) in
        all-whole (par_functions x (inner sp) n) (par_functions y sp2 (n + pars x)) (stmt-pars-whole x (inner sp) names (inner_site names site) n g pr.1.1 w.0.1 k.1)
        (stmt-pars-whole y sp2 names (inner_site names site) (n + pars x) g pr.1.2 w.0.2 k.2)
    stmt-pars-whole (stmt at (while c b)) sp names site n g pr w k = stmt-pars-whole b (inner sp) names (loop_site names site) n g pr.1.1 w.0.1 k.1
    stmt-pars-whole (stmt at (for first c next b)) sp names site n g pr w k =
        let names1 : Names = names_behind_small first names (inner_site names site) in
        stmt-pars-whole b (behind_small first (inner sp)) names1 (loop_site names1 site) n (small-good first (inner sp) names site g pr.1.0 w.0.0 k.0) pr.1.3 w.0.3 k.3
    stmt-pars-whole (stmt at (each t x e b)) sp names site n g pr w k =
        let names1 : Names = with_local names x t in
        let sp2 : Spot = declared_local (behind_slots (inner sp) 2) x t in
        let v : is_value_ty t ≡ true = written-value t pr.1.0.0 pr.1.0.1 in
        stmt-pars-whole b sp2 names1 (loop_site names1 site) n (local-good names sp.scope x t (sp.next + 2) g (local-agrees u names sp.scope x t (sp.next + 2) g.agrees k.0) v) pr.1.3 w.0.1 k.2
    stmt-pars-whole (stmt at (switch e cs)) sp names site n g pr w k = cases-pars-whole cs (behind_slots (inner sp) 1) names site n g refl pr.1.1 w.0.1 k.1

    cases-pars-whole : (cs : CaseTrees) (sp : Spot) (names : Names) (site : Site) (n : ℕ) → Good names sp.scope → sp.at_top ≡ false → AreProperCases files cs → AreWellTypedCases cs names site → AreCasesWritten cs → AllWhole (cases_par_functions cs sp n)
    cases-pars-whole no_cases sp names site n g p pr w k = tt
    cases-pars-whole (more_cases c cs) sp names site n g p pr w k =
        let sp2 : Spot = behind_slots sp (case_slots c) in
        all-whole (case_par_functions c sp n) (cases_par_functions cs sp2 (n + case_pars c)) (case-pars-whole c sp names site n g p pr.0 w.0 k.0) (cases-pars-whole cs sp2 names site (n + case_pars c) g p pr.1 w.1 k.1)

    case-pars-whole : (c : CaseTree) (sp : Spot) (names : Names) (site : Site) (n : ℕ) → Good names sp.scope → sp.at_top ≡ false → IsProperCase files c → IsWellTypedCase c names site → IsCaseWritten c → AllWhole (case_par_functions c sp n)
    case-pars-whole (a_case at l ss) sp names site n g p pr w k = stmts-pars-whole ss sp names (switch_site names site) n g p refl pr.2 w.1 k.1

    line-pars-whole : (l : LineTree) (sp : Spot) (names : Names) (site : Site) (n : ℕ) → Good names sp.scope → IsProperLine files l → IsWellTypedLine l names site → IsLineWritten l → AllWhole (line_par_functions l sp n)
    line-pars-whole (declare t x no_right) sp names site n g pr w k = tt
    line-pars-whole (declare t x (a_right r)) sp names site n g pr w k = right-pars-whole r (This t) sp names n g pr.2 w k.1
    line-pars-whole (infer x r) sp names site n g pr w k = right-pars-whole r Value sp names n g pr.1 w k
    line-pars-whole (assign q r) sp names site n g pr w k = right-pars-whole r (This (place_ty names q)) sp names n g pr.1 w.1 k.1
    line-pars-whole (update q o r) sp names site n g pr w k = right-pars-whole r Value sp names n g pr.1 w.1 k.1
    line-pars-whole (return (a_right r)) sp names site n g pr w k = right-pars-whole r (returned site.returns) sp names n g pr w k
    line-pars-whole (act_line (act at f)) sp names site n g pr w k = act-pars-whole f sp names n g pr.1 w.0 k
    line-pars-whole _ sp names site n g pr w k = tt

    right-pars-whole : (r : RightTree) (asked : Asked) (sp : Spot) (names : Names) (n : ℕ) → Good names sp.scope → IsProperRight files r → IsWellTypedRight r names asked → IsRightWritten r → AllWhole (right_par_functions r sp n)
    right-pars-whole (right_expr e) asked sp names n g pr w k = tt
    right-pars-whole (right_act (act at f)) asked sp names n g pr w k = act-pars-whole f sp names n g pr.1 w.0 k.1

    act-pars-whole : (f : ActFormTree) (sp : Spot) (names : Names) (n : ℕ) → Good names sp.scope → IsProperActForm files f → IsWellTypedActForm f names → IsActFormWritten f → AllWhole (act_form_par_functions f sp n)
    act-pars-whole (par_block b) sp names n g pr w k =
        let ls : List Numbered = visible_locals sp.scope.locals in
        let sp2 : Spot = opening sp.scope ls in
        let F : Function = function_of [] ls ty.Void sp.scope b n in
        let g2 : Good names sp2.scope = par-good names sp.scope g in
        let seen : length ls ≡ visible names.locals = visible-count sp.scope.locals ∙ sym g.alike in
        let fits : are_too_many (visible names.locals + block_slots b) ≡ false = (when-none (are_too_many (visible names.locals + block_slots b)) rule.TooManyLocals None w.1).0 in
        let rule : are_too_many (length ls + block_slots b) ≡ false = subst (λ m. are_too_many (m + block_slots b) ≡ false) (sym seen) fits in
        let most = room u (length ls + block_slots b) rule in
        let as_many = types-many ls in
        all-whole (block_par_functions b sp2 n) (F ∷ []) (block-pars-whole b sp2 names (apart names) n g2 refl refl pr w.0 k)
        (function-whole u [] ls ty.Void sp.scope b n names (apart names) (omega arith) (values-of-visible sp.scope.locals g.values) (omega (arith, most, as_many)) void-here (λ e. absurd (search (rules, sym void-unknown ∙ e))) rule pr w.0 k, tt)
    act-pars-whole (sys ps) sp names n g pr w k = tt
    act-pars-whole (task os b) sp names n g pr w k = tt
    act-pars-whole (dep os b) sp names n g pr w k = tt
    act-pars-whole (goal e) sp names n g pr w k = tt
    act-pars-whole (par_call f es) sp names n g pr w k = tt

    pub block-pars-whole : (b : BlockTree) (sp : Spot) (names : Names) (site : Site) (n : ℕ) → Good names sp.scope → sp.at_top ≡ false → site.at_top ≡ false → IsProperBlock files b → IsWellTypedBlock b names site → IsBlockWritten b → AllWhole (block_par_functions b sp n)
    block-pars-whole (block at ss) sp names site n g p q pr w k = stmts-pars-whole ss sp names site n g p q pr.1 w k

    stmts-pars-whole : (ss : StmtTrees) (sp : Spot) (names : Names) (site : Site) (n : ℕ) → Good names sp.scope → sp.at_top ≡ false → site.at_top ≡ false → AreProperStmts files ss → AreWellTypedStmts ss names site → AreStmtsWritten ss → AllWhole (stmts_par_functions ss sp n)
    stmts-pars-whole no_stmts sp names site n g p q pr w k = tt
    stmts-pars-whole (more_stmts s ss) sp names site n g p q pr w k =
        let sp2 : Spot = behind s sp in
        all-whole (par_functions s sp n) (stmts_par_functions ss sp2 (n + pars s)) (stmt-pars-whole s sp names site n g pr.0 w.0 k.0)
        (stmts-pars-whole ss sp2 (names_behind s names site) site (n + pars s) (stmt-good s sp names site g p q pr.0 w.0 k.0) (behind-low s sp p) q pr.1 w.1 k.1)
