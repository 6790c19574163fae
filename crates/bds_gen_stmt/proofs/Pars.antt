-- The functions of `par` blocks stand in the unit under their numbers.
use Rattle.std.proofs.Common.{◌≡◌, ◌+◌, ℕ, suc, List, [], ◌∷◌, ◌++◌, length, length-append, slice_get, Option, Some, None, Bool, true, false, refl, ◌∙◌, ap, ap₂, subst, arith, if◌then◌else◌}
use Rattle.std.specs.Prelude.{⊤}
use Rattle.bds_value.specs.declared.value.Ty.TheVariants as ty
use Rattle.bds_tree.specs.StmtTree.{SmallTree, StmtTree, StmtFormTree, LineTree, RightTree, ActTree, ActFormTree, BlockTree, StmtTrees, stmt, inner_block, empty, line, when, while, for, each, declare, infer, assign, update, return, act_line, right_expr, right_act, act, par_block, block, no_stmts, more_stmts, no_stmt, a_stmt, a_right, switch, CaseTrees, CaseTree, no_cases, more_cases, a_case}
use Rattle.bds_code.specs.declared.unit.Function.{Function}
use Rattle.bds_code.specs.declared.unit.Unit.{Unit as CodeUnit}
use Rattle.bds_check_names.specs.Scopes.{any_named}
use Rattle.bds_check_names.specs.Slots.{slots, case_slots, visible}
use Rattle.bds_check_rules.specs.Declarations.{declared_by_small}
use Rattle.bds_gen_expr.specs.declared.scope.Numbered.{Numbered}
use Rattle.bds_gen_expr.specs.Numbers.{variables_of, visible_locals}
use Rattle.bds_gen_expr.specs.declared.scope.Scope.{Scope}
use Rattle.bds_gen_stmt.specs.Spots.{Spot, inner, behind_slots, declared_local}
use Rattle.bds_gen_stmt.specs.PlaceCode.{behind_small}
use Rattle.bds_gen_stmt.specs.StmtCode.{behind, block_code, pars, cases_pars, case_pars, line_pars, right_pars, act_pars, block_pars, stmts_pars}
use Rattle.bds_gen_stmt.specs.FunctionCode.{opening, types_of, function_of, fresh, eight, ending, at_of_block, par_functions, cases_par_functions, case_par_functions, line_par_functions, right_par_functions, act_par_functions, act_form_par_functions, block_par_functions, stmts_par_functions, form_par_functions}
use Rattle.bds_gen_expr.proofs.Written.{params-is}
use Rattle.bds_gen_stmt.proofs.Loops.{quiet, behind-loop, head-loop}

pub visible-count : (ls : List Numbered) → length (visible_locals ls) ≡ visible (variables_of ls)
visible-count [] = refl
visible-count (l ∷ ls) = by_hidden (any_named l.variable.name (variables_of ls)) (visible-count ls)
  where
    by_hidden : (b : Bool) → length (visible_locals ls) ≡ visible (variables_of ls) → length (if b then visible_locals ls else l ∷ visible_locals ls) ≡ (if b then visible (variables_of ls) else visible (variables_of ls) + 1)
    by_hidden true e = e
    by_hidden false e = omega (arith, e)

module _ (u : CodeUnit) where
  -- these functions from a number on
  abbrev pub StandAt : List Function → ℕ → Type 0
  StandAt [] n = ⊤
  StandAt (f ∷ fs) n = (slice_get u.functions n ≡ Some f) × StandAt fs (suc n)

  pub stand-append : (fs gs : List Function) (n k : ℕ) → n + length fs ≡ k → StandAt (fs ++ gs) n → StandAt fs n × StandAt gs k
  stand-append [] gs n k e h = (tt, let same : n ≡ k = omega (arith, e) in subst (StandAt gs) same h)
  stand-append (f ∷ fs) gs n k e h = let r : StandAt fs (suc n) × StandAt gs k = stand-append fs gs (suc n) k (omega (arith, e)) h.1 in ((h.0, r.0), r.1)

-- as many as are counted

mutual
  pub many : (s : StmtTree) (sp : Spot) (n : ℕ) → length (par_functions s sp n) ≡ pars s
  many (stmt at (inner_block b)) sp n = block-many b (inner sp) n
  many (stmt at empty) sp n = refl
  many (stmt at (line l)) sp n = line-many l sp n
  many (stmt at (when c a no_stmt)) sp n = many a (inner sp) n
  many (stmt at (when c a (a_stmt b))) sp n =
      length-append (par_functions a (inner sp) n) (par_functions b (behind_slots (inner sp) (slots a)) (n + pars a)) ∙ ap₂ (λ (x y : ℕ). x + y) (many a (inner sp) n) (many b (behind_slots (inner sp) (slots a)) (n + pars a))
  many (stmt at (while c s)) sp n = many s (inner sp) n
  many (stmt at (for first c next s)) sp n = many s (behind_small first (inner sp)) n
  many (stmt at (each t x e s)) sp n = many s (declared_local (behind_slots (inner sp) 2) x t) n
  many (stmt at (switch e cs)) sp n = cases-many cs (behind_slots (inner sp) 1) n

  cases-many : (cs : CaseTrees) (sp : Spot) (n : ℕ) → length (cases_par_functions cs sp n) ≡ cases_pars cs
  cases-many no_cases sp n = refl
  cases-many (more_cases c cs) sp n = length-append (case_par_functions c sp n) (cases_par_functions cs (behind_slots sp (case_slots c)) (n + case_pars c)) ∙ ap₂ (λ (x y : ℕ). x + y) (case-many c sp n) (cases-many cs (behind_slots sp (case_slots c)) (n + case_pars c))

  pub case-many : (c : CaseTree) (sp : Spot) (n : ℕ) → length (case_par_functions c sp n) ≡ case_pars c
  case-many (a_case at l ss) sp n = stmts-many ss sp n

  line-many : (l : LineTree) (sp : Spot) (n : ℕ) → length (line_par_functions l sp n) ≡ line_pars l
  line-many (declare t x (a_right r)) sp n = right-many r sp n
  line-many (infer x r) sp n = right-many r sp n
  line-many (assign p r) sp n = right-many r sp n
  line-many (update p o r) sp n = right-many r sp n
  line-many (return (a_right r)) sp n = right-many r sp n
  line-many (act_line a) sp n = act-many a sp n
  line-many _ sp n = refl

  right-many : (r : RightTree) (sp : Spot) (n : ℕ) → length (right_par_functions r sp n) ≡ right_pars r
  right-many (right_expr e) sp n = refl
  right-many (right_act a) sp n = act-many a sp n

  act-many : (a : ActTree) (sp : Spot) (n : ℕ) → length (act_par_functions a sp n) ≡ act_pars a
  act-many (act at (par_block b)) sp n =
      let ls : List Numbered = visible_locals sp.scope.locals in
      length-append (block_par_functions b (opening sp.scope ls) n) (function_of [] ls ty.Void sp.scope b n ∷ []) ∙ ap (λ k. k + 1) (block-many b (opening sp.scope ls) n)
  act-many (act at _) sp n = refl

  pub block-many : (b : BlockTree) (sp : Spot) (n : ℕ) → length (block_par_functions b sp n) ≡ block_pars b
  block-many (block at ss) sp n = stmts-many ss sp n

  pub stmts-many : (ss : StmtTrees) (sp : Spot) (n : ℕ) → length (stmts_par_functions ss sp n) ≡ stmts_pars ss
  stmts-many no_stmts sp n = refl
  stmts-many (more_stmts s ss) sp n = length-append (par_functions s sp n) (stmts_par_functions ss (behind s sp) (n + pars s)) ∙ ap₂ (λ (x y : ℕ). x + y) (many s sp n) (stmts-many ss (behind s sp) (n + pars s))

module _ (u : CodeUnit) where
  -- those of what stands in this spot, whatever loop is around: their numbers begin with this one

  abbrev pub ParsThere : StmtTree → Spot → ℕ → Type 0
  ParsThere s sp n = StandAt u (par_functions s (quiet sp) n) n

  abbrev pub FormParsThere : StmtFormTree → Spot → ℕ → Type 0
  FormParsThere f sp n = StandAt u (form_par_functions f (quiet sp) n) n

  abbrev pub CasesParsThere : CaseTrees → Spot → ℕ → Type 0
  CasesParsThere cs sp n = StandAt u (cases_par_functions cs (quiet sp) n) n

  abbrev pub LineParsThere : LineTree → Spot → ℕ → Type 0
  LineParsThere l sp n = StandAt u (line_par_functions l (quiet sp) n) n

  abbrev pub RightParsThere : RightTree → Spot → ℕ → Type 0
  RightParsThere r sp n = StandAt u (right_par_functions r (quiet sp) n) n

  abbrev pub ActParsThere : ActTree → Spot → ℕ → Type 0
  ActParsThere a sp n = StandAt u (act_par_functions a (quiet sp) n) n

  abbrev pub ActFormParsThere : ActFormTree → Spot → ℕ → Type 0
  ActFormParsThere f sp n = StandAt u (act_form_par_functions f (quiet sp) n) n

  abbrev pub BlockParsThere : BlockTree → Spot → ℕ → Type 0
  BlockParsThere b sp n = StandAt u (block_par_functions b (quiet sp) n) n

  abbrev pub StmtsParsThere : StmtTrees → Spot → ℕ → Type 0
  StmtsParsThere ss sp n = StandAt u (stmts_par_functions ss (quiet sp) n) n

  -- the parts of what has several

  pub both-there : (a b : StmtTree) (sp : Spot) (n : ℕ)
      → StandAt u (par_functions a (inner sp) n ++ par_functions b (behind_slots (inner sp) (slots a)) (n + pars a)) n
      → StandAt u (par_functions a (inner sp) n) n × StandAt u (par_functions b (behind_slots (inner sp) (slots a)) (n + pars a)) (n + pars a)
  both-there a b sp n h =
      stand-append u (par_functions a (inner sp) n) (par_functions b (behind_slots (inner sp) (slots a)) (n + pars a)) n (n + pars a)
      (ap (λ k. n + k) (many a (inner sp) n)) h

  pub case-there : (c : CaseTree) (cs : CaseTrees) (sp : Spot) (n : ℕ) → StandAt u (cases_par_functions (more_cases c cs) sp n) n
      → StandAt u (case_par_functions c sp n) n × StandAt u (cases_par_functions cs (behind_slots sp (case_slots c)) (n + case_pars c)) (n + case_pars c)
  case-there c cs sp n h =
      stand-append u (case_par_functions c sp n) (cases_par_functions cs (behind_slots sp (case_slots c)) (n + case_pars c)) n (n + case_pars c)
      (ap (λ k. n + k) (case-many c sp n)) h

  pub stmt-there : (s : StmtTree) (ss : StmtTrees) (sp : Spot) (n : ℕ) → StandAt u (stmts_par_functions (more_stmts s ss) sp n) n
      → StandAt u (par_functions s sp n) n × StandAt u (stmts_par_functions ss (behind s sp) (n + pars s)) (n + pars s)
  stmt-there s ss sp n h =
      stand-append u (par_functions s sp n) (stmts_par_functions ss (behind s sp) (n + pars s)) n (n + pars s)
      (ap (λ k. n + k) (many s sp n)) h

  pub stmts-there : (s : StmtTree) (ss : StmtTrees) (sp : Spot) (n : ℕ) → StmtsParsThere (more_stmts s ss) sp n → StmtsParsThere ss (behind s sp) (n + pars s)
  stmts-there s ss sp n h =
      subst (λ x. StandAt u (stmts_par_functions ss x (n + pars s)) (n + pars s)) (behind-loop s sp None) (stmt-there s ss (quiet sp) n h).1

  pub head-there : (first : Option SmallTree) (s : StmtTree) (sp : Spot) (n : ℕ)
      → StandAt u (par_functions s (behind_small first (inner (quiet sp))) n) n → ParsThere s (inner (behind_small first (inner sp))) n
  head-there first s sp n h = subst (λ x. StandAt u (par_functions s x n) n) (head-loop (declared_by_small first) sp) h

  -- a block's function behind those within it
  pub own-there : (b : BlockTree) (sp : Spot) (n : ℕ) → StandAt u (act_form_par_functions (par_block b) sp n) n
      → StandAt u (block_par_functions b (opening sp.scope (visible_locals sp.scope.locals)) n) n
      × (slice_get u.functions (n + block_pars b) ≡ Some (function_of [] (visible_locals sp.scope.locals) ty.Void sp.scope b n))
  own-there b sp n h =
      let ls : List Numbered = visible_locals sp.scope.locals in
      let r = stand-append u (block_par_functions b (opening sp.scope ls) n) (function_of [] ls ty.Void sp.scope b n ∷ []) n (n + block_pars b)
      (ap (λ k. n + k) (block-many b (opening sp.scope ls) n)) h in
      (r.0, r.1.0)

  -- a line at the top level has those that it has in a block

  pub right-inside : (r : RightTree) (sp : Spot) (n : ℕ) → RightParsThere r sp n → RightParsThere r (inner sp) n
  right-inside (right_expr e) sp n h = h
  right-inside (right_act (act at (par_block b))) sp n h = h
  right-inside (right_act (act at _)) sp n h = h

  pub line-inside : (l : LineTree) (sp : Spot) (n : ℕ) → LineParsThere l sp n → LineParsThere l (inner sp) n
  line-inside (declare t x (a_right r)) sp n h = right-inside r sp n h
  line-inside (infer x r) sp n h = right-inside r sp n h
  line-inside (assign q r) sp n h = right-inside r sp n h
  line-inside (update q o r) sp n h = right-inside r sp n h
  line-inside (return (a_right r)) sp n h = right-inside r sp n h
  line-inside (act_line (act at (par_block b))) sp n h = h
  line-inside (act_line (act at _)) sp n h = h
  line-inside _ sp n h = h

pub own-params : (b : BlockTree) (ls : List Numbered) (sc : Scope) (n : ℕ) → (function_of [] ls ty.Void sc b n).params ≡ types_of ls
own-params b ls sc n = params-is (eight ++ (block_code b (opening sc ls) n 0 ++ ending ty.Void (at_of_block b))) (fresh [] (types_of ls) ty.Void)
