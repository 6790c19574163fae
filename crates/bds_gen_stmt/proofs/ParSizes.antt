-- The functions of a script have as many instructions as the sum over its tree says.
use Rattle.std.proofs.Common.{◌≡◌, ◌+◌, ℕ, suc, List, [], ◌∷◌, ◌++◌, length, Bool, true, false, not, refl, ◌∙◌, ap, ap₂, Option, Some, None, arith, if◌then◌else◌}
use Rattle.bds_value.specs.declared.value.At.{At}
use Rattle.bds_value.specs.declared.value.Ty.{Ty}
use Rattle.bds_value.specs.declared.value.Ty.TheVariants as ty
use Rattle.bds_value.specs.declared.value.Value.{Value, out-Value}
use Rattle.bds_value.specs.declared.value.Value.TheOpen.{Value-F}
use Rattle.bds_check_names.specs.Types.{is_known}
use Rattle.bds_tree.specs.declared.stmt.Parameter.{Parameter}
use Rattle.bds_tree.specs.StmtTree.{StmtTree, LineTree, RightTree, ActTree, BlockTree, StmtTrees, stmt, inner_block, empty, line, when, while, for, each, declare, infer, assign, update, return, act_line, right_expr, right_act, act, par_block, block, no_stmts, more_stmts, no_stmt, a_stmt, a_right, PartTree, ScriptTree, a_function, an_include, a_statement, switch, CaseTrees, CaseTree, no_cases, more_cases, a_case}
use Rattle.bds_code.specs.declared.unit.Function.{Function}
use Rattle.bds_check_names.specs.declared.names.Variable.{Variable}
use Rattle.bds_check_names.specs.Scopes.{any_named, variable}
use Rattle.bds_check_names.specs.Slots.{slots, case_slots}
use Rattle.bds_check_size.specs.Known.{Known}
use Rattle.bds_check_size.specs.StmtSize.{block_size}
use Rattle.bds_check_size.specs.ParSize.{visible_variables, in_par, pars_size, line_pars_size, right_pars_size, act_pars_size, block_pars_size, stmts_pars_size, cases_pars_size, case_pars_size}
use Rattle.bds_check_size.specs.ScriptSize.{all_globals, Settings, set_for, declared_type, made_at, line_or_value_size, top_size, in_function, script_parts_size, ending_size, variables_from, program_size}
use Rattle.bds_gen_stmt.specs.Sizes.{codes_size}
use Rattle.bds_gen_expr.specs.declared.scope.Numbered.{Numbered}
use Rattle.bds_gen_expr.specs.declared.scope.Scope.{Scope}
use Rattle.bds_gen_expr.specs.Marks.{Mark, does, count, one}
use Rattle.bds_code.specs.declared.instr.Instr.TheVariants.{MakeList, StoreGlobal, PushDefault, Return}
use Rattle.bds_gen_expr.specs.Numbers.{variables_of, visible_locals}
use Rattle.bds_gen_expr.specs.Scope.{known}
use Rattle.bds_gen_stmt.specs.Spots.{Spot, inner, behind_slots, declared_local, store_new}
use Rattle.bds_gen_stmt.specs.PlaceCode.{behind_small}
use Rattle.bds_gen_stmt.specs.StmtCode.{behind, block_code, pars, block_pars, case_pars}
use Rattle.bds_gen_stmt.specs.FunctionCode.{types_of, at_of_block, opening, function_of, fresh, eight, ending, par_functions, line_par_functions, right_par_functions, act_par_functions, block_par_functions, stmts_par_functions, cases_par_functions, case_par_functions}
use Rattle.bds_gen_stmt.specs.UnitCode.{items_code, value_code_at, value_code, line_or_value_code, top_stmt_code, top_code, top_functions, further_functions, declared_functions, parameter_locals, texts_code, args_code, first_spot, first_par, top_pars, function_scope, top_function, unit_of}
use Rattle.bds_gen_expr.proofs.Counts.{counts}
use Rattle.bds_gen_expr.proofs.Written.{code-is, codes-count}
use Rattle.bds_check_typing.proofs.Written.{void-unknown}
use Rattle.bds_gen_stmt.proofs.StmtCounts.{store-count, behind-known, behind-low}
use Rattle.bds_gen_stmt.proofs.WholeCounts.{known-small, known-local, whole-stmt-count, whole-block-count}
use Rattle.bds_gen_stmt.proofs.Visible.{renumbered-variables}
use Rattle.bds_gen_stmt.proofs.TopNames.{IsTop, behind-top, behind-known-top, variables-in-order}

pub codes-append : (fs gs : List Function) → codes_size (fs ++ gs) ≡ codes_size fs + codes_size gs
codes-append [] gs = omega arith
codes-append (f ∷ fs) gs = let e = codes-append fs gs in omega (arith, e)

visible-same : (ls : List Numbered) → variables_of (visible_locals ls) ≡ visible_variables (variables_of ls)
visible-same [] = refl
visible-same (l ∷ ls) = by_hidden (any_named l.variable.name (variables_of ls)) (visible-same ls)
  where
    by_hidden : (b : Bool) → variables_of (visible_locals ls) ≡ visible_variables (variables_of ls) → variables_of (if b then visible_locals ls else l ∷ visible_locals ls) ≡ (if b then visible_variables (variables_of ls) else l.variable ∷ visible_variables (variables_of ls))
    by_hidden true e = e
    by_hidden false e = ap (λ vs. l.variable ∷ vs) e

abbrev seen : List Variable → List Variable → Known
seen gs vs = record { locals = vs; globals = gs }

in-par : (sc : Scope) → known (opening sc (visible_locals sc.locals)).scope ≡ in_par (known sc)
in-par sc = ap (λ vs. seen (variables_of sc.globals) vs) (renumbered-variables (visible_locals sc.locals) 0 ∙ visible-same sc.locals)

ending-count : (ret : Ty) (at : At) → count (ending ret at) ≡ ending_size ret
ending-count ret at = by_known (not (is_known ret))
  where
    by_known : (b : Bool) → count (if b then one at Return else does (PushDefault ret) at ∷ does Return at ∷ []) ≡ (if b then 1 else 2)
    by_known true = refl
    by_known false = refl

function-size : (x : List ℕ) (ls : List Numbered) (ret : Ty) (sc : Scope) (b : BlockTree) (n : ℕ) → length (function_of x ls ret sc b n).code ≡ block_size b (known (opening sc ls).scope) + ending_size ret
function-size x ls ret sc b n =
    let body : List Mark = block_code b (opening sc ls) n 0 in
    let last : List Mark = ending ret (at_of_block b) in
    let size = whole-block-count b (opening sc ls) n 0 refl in
    let end = ending-count ret (at_of_block b) in
    let both = counts body last in
    ap length (code-is (eight ++ (body ++ last)) (fresh x (types_of ls) ret)) ∙ codes-count (eight ++ (body ++ last)) ∙ (let e : count (eight ++ (body ++ last)) ≡ block_size b (known (opening sc ls).scope) + ending_size ret = omega (arith, both, size, end) in e)

void-ending : ending_size ty.Void ≡ 1
void-ending = ap (λ b. if not b then 1 else 2) void-unknown

mutual
  pub pars-size : (s : StmtTree) (sp : Spot) (n : ℕ) → codes_size (par_functions s sp n) ≡ pars_size s (known sp.scope)
  pars-size (stmt at (inner_block b)) sp n = block-pars-size b (inner sp) n refl
  pars-size (stmt at empty) sp n = refl
  pars-size (stmt at (line l)) sp n = line-pars-size l sp n
  pars-size (stmt at (when c a no_stmt)) sp n = pars-size a (inner sp) n
  pars-size (stmt at (when c a (a_stmt b))) sp n =
      codes-append (par_functions a (inner sp) n) (par_functions b (behind_slots (inner sp) (slots a)) (n + pars a)) ∙ ap₂ (λ (x y : ℕ). x + y) (pars-size a (inner sp) n) (pars-size b (behind_slots (inner sp) (slots a)) (n + pars a))
  pars-size (stmt at (while c s)) sp n = pars-size s (inner sp) n
  pars-size (stmt at (for first c next s)) sp n = pars-size s (behind_small first (inner sp)) n ∙ ap (pars_size s) (known-small first (inner sp))
  pars-size (stmt at (each t x e s)) sp n = pars-size s (declared_local (behind_slots (inner sp) 2) x t) n ∙ ap (pars_size s) (known-local (behind_slots (inner sp) 2) x t)
  pars-size (stmt at (switch e cs)) sp n = cases-pars-size cs (behind_slots (inner sp) 1) n refl

  cases-pars-size : (cs : CaseTrees) (sp : Spot) (n : ℕ) → sp.at_top ≡ false → codes_size (cases_par_functions cs sp n) ≡ cases_pars_size cs (known sp.scope)
  cases-pars-size no_cases sp n low = refl
  cases-pars-size (more_cases c cs) sp n low =
      codes-append (case_par_functions c sp n) (cases_par_functions cs (behind_slots sp (case_slots c)) (n + case_pars c))
      ∙ ap₂ (λ (x y : ℕ). x + y) (case-pars-size c sp n low) (cases-pars-size cs (behind_slots sp (case_slots c)) (n + case_pars c) low)

  case-pars-size : (c : CaseTree) (sp : Spot) (n : ℕ) → sp.at_top ≡ false → codes_size (case_par_functions c sp n) ≡ case_pars_size c (known sp.scope)
  case-pars-size (a_case at l ss) sp n low = stmts-pars-size ss sp n low

  line-pars-size : (l : LineTree) (sp : Spot) (n : ℕ) → codes_size (line_par_functions l sp n) ≡ line_pars_size l (known sp.scope)
  line-pars-size (declare t x (a_right r)) sp n = right-pars-size r sp n
  line-pars-size (infer x r) sp n = right-pars-size r sp n
  line-pars-size (assign p r) sp n = right-pars-size r sp n
  line-pars-size (update p o r) sp n = right-pars-size r sp n
  line-pars-size (return (a_right r)) sp n = right-pars-size r sp n
  line-pars-size (act_line a) sp n = act-pars-size a sp n
  line-pars-size _ sp n = refl

  right-pars-size : (r : RightTree) (sp : Spot) (n : ℕ) → codes_size (right_par_functions r sp n) ≡ right_pars_size r (known sp.scope)
  right-pars-size (right_expr e) sp n = refl
  right-pars-size (right_act a) sp n = act-pars-size a sp n

  act-pars-size : (a : ActTree) (sp : Spot) (n : ℕ) → codes_size (act_par_functions a sp n) ≡ act_pars_size a (known sp.scope)
  act-pars-size (act at (par_block b)) sp n =
      let ls : List Numbered = visible_locals sp.scope.locals in
      let F : Function = function_of [] ls ty.Void sp.scope b n in
      let k : Known = known (opening sp.scope ls).scope in
      let same : k ≡ in_par (known sp.scope) = in-par sp.scope in
      let c = codes-append (block_par_functions b (opening sp.scope ls) n) (F ∷ []) in
      let e1 : codes_size (block_par_functions b (opening sp.scope ls) n) ≡ block_pars_size b (in_par (known sp.scope)) = block-pars-size b (opening sp.scope ls) n refl ∙ ap (block_pars_size b) same in
      let e2 : length F.code ≡ block_size b (in_par (known sp.scope)) + ending_size ty.Void = function-size [] ls ty.Void sp.scope b n ∙ ap (λ x. block_size b x + ending_size ty.Void) same in
      let e3 = void-ending in
      omega (arith, c, e1, e2, e3)
  act-pars-size (act at _) sp n = refl

  pub block-pars-size : (b : BlockTree) (sp : Spot) (n : ℕ) → sp.at_top ≡ false → codes_size (block_par_functions b sp n) ≡ block_pars_size b (known sp.scope)
  block-pars-size (block at ss) sp n low = stmts-pars-size ss sp n low

  stmts-pars-size : (ss : StmtTrees) (sp : Spot) (n : ℕ) → sp.at_top ≡ false → codes_size (stmts_par_functions ss sp n) ≡ stmts_pars_size ss (known sp.scope)
  stmts-pars-size no_stmts sp n low = refl
  stmts-pars-size (more_stmts s ss) sp n low =
      codes-append (par_functions s sp n) (stmts_par_functions ss (behind s sp) (n + pars s))
      ∙ ap₂ (λ (x y : ℕ). x + y) (pars-size s sp n) (stmts-pars-size ss (behind s sp) (n + pars s) (behind-low s sp low) ∙ ap (stmts_pars_size ss) (behind-known s sp low))

-- The whole script

parameters-same : (ps : List Parameter) (n : ℕ) → variables_of (parameter_locals ps n) ≡ variables_from ps
parameters-same [] n = refl
parameters-same (p ∷ ps) n = ap (λ vs. variable p.name p.ty ∷ vs) (parameters-same ps (suc n))

in-function : (sc : Scope) (ps : List Parameter) → known (opening sc (parameter_locals ps 0)).scope ≡ in_function (variables_of sc.globals) ps
in-function sc ps = ap (λ vs. seen (variables_of sc.globals) vs) (renumbered-variables (parameter_locals ps 0) 0 ∙ parameters-same ps 0)

items-count : (at : At) (vs : List Value) → count (items_code at vs) ≡ length vs
items-count at [] = refl
items-count at (v ∷ vs) = let e = items-count at vs in omega (arith, e)

value-count : (at : At) (w : Value-F Value) → count (value_code_at at w) ≡ made_at w
value-count at (Value-F.List t vs) = let e = items-count at vs in let c = counts (items_code at vs) (one at (MakeList t (length vs))) in omega (arith, c, e)
value-count at (Value-F.Bool b) = refl
value-count at (Value-F.Int n) = refl
value-count at (Value-F.Text t) = refl
value-count at (Value-F.Map t ps) = refl

line-or-value-count : (o : Option Value) (l : LineTree) (at : At) (sp : Spot) (n p : ℕ) → count (line_or_value_code o l at sp n p) ≡ line_or_value_size o l (known sp.scope)
line-or-value-count None l at sp n p = whole-stmt-count (stmt at (line l)) sp n p
line-or-value-count (Some v) l at sp n p =
    let a = value-count at (out-Value v) in
    let b = store-count sp at (declared_type l) in
    let c = counts (value_code at v) (store_new sp at (declared_type l)) in
    omega (arith, a, b, c)

pub top-count : (ss : Settings) (s : StmtTree) (sp : Spot) (n p : ℕ) → count (top_stmt_code ss s sp n p) ≡ top_size ss s (known sp.scope)
top-count ss (stmt at (line l)) sp n p = line-or-value-count (set_for ss l) l at sp n p
top-count ss (stmt at f) sp n p = whole-stmt-count (stmt at f) sp n p

parts-are : (ss : Settings) (ps : List PartTree) (sp : Spot) (sc : Scope) (n j p : ℕ) → IsTop sp
    → count (top_code ss ps sp n p) + codes_size (declared_functions ps sc j) + codes_size (top_functions ps sp n) + codes_size (further_functions ps sc j) ≡ script_parts_size ss ps (variables_of sc.globals) (known sp.scope)
parts-are ss [] sp sc n j p h = refl
parts-are ss (a_function f ∷ ps) sp sc n j p h =
    let ls : List Numbered = parameter_locals f.parameters 0 in
    let gs : List Variable = variables_of sc.globals in
    let same = in-function sc f.parameters in
    let e1 : length (function_of f.name ls f.result sc f.body j).code ≡ block_size f.body (in_function gs f.parameters) + ending_size f.result = function-size f.name ls f.result sc f.body j ∙ ap (λ x. block_size f.body x + ending_size f.result) same in
    let e2 : codes_size (block_par_functions f.body (opening sc ls) j) ≡ block_pars_size f.body (in_function gs f.parameters) = block-pars-size f.body (opening sc ls) j refl ∙ ap (block_pars_size f.body) same in
    let c = codes-append (block_par_functions f.body (opening sc ls) j) (further_functions ps sc (j + block_pars f.body)) in
    let rest = parts-are ss ps sp sc n (j + block_pars f.body) p h in
    omega (arith, e1, e2, c, rest)
parts-are ss (an_include i ∷ ps) sp sc n j p h = parts-are ss ps sp sc n j p h
parts-are ss (a_statement s ∷ ps) sp sc n j p h =
    let q : ℕ = p + top_size ss s (known sp.scope) in
    let e1 = top-count ss s sp n p in
    let e2 = pars-size s sp n in
    let c1 = counts (top_stmt_code ss s sp n p) (top_code ss ps (behind s sp) (n + pars s) q) in
    let c2 = codes-append (par_functions s sp n) (top_functions ps (behind s sp) (n + pars s)) in
    let rest = parts-are ss ps (behind s sp) sc (n + pars s) j q (behind-top s sp h) ∙ ap (script_parts_size ss ps (variables_of sc.globals)) (behind-known-top s sp h.high) in
    omega (arith, e1, e2, c1, c2, rest)

pub texts-count : (at : At) (ts : List (List ℕ)) → count (texts_code at ts) ≡ length ts
texts-count at [] = refl
texts-count at (t ∷ ts) = let e = texts-count at ts in omega (arith, e)

-- the size of the program is the number of instructions of the unit
pub program-size : (ss : Settings) (args : List (List ℕ)) (s : ScriptTree) → codes_size (unit_of ss args s).functions ≡ program_size ss args s
program-size ss args s =
    let sp : Spot = first_spot s.parts in
    let sc : Scope = function_scope s.parts in
    let fp : ℕ = first_par s.parts in
    let j : ℕ = fp + top_pars s.parts in
    let place : ℕ = length args + 2 in
    let tops : List Mark = top_code ss s.parts sp fp place in
    let last : List Mark = ending ty.Void s.at in
    let head : List Mark = args_code s.at args in
    let all_marks : List Mark = eight ++ (head ++ (tops ++ last)) in
    let e0 : length (top_function ss args s).code ≡ count all_marks = ap length (code-is all_marks (fresh [] [] ty.Void)) ∙ codes-count all_marks in
    let c0 = counts head (tops ++ last) in
    let c1 = counts tops last in
    let e1 : count head ≡ length args + 2 = counts (texts_code s.at args) (args_end s.at args) ∙ (let t = texts-count s.at args in omega (arith, t)) in
    let e2 = ending-count ty.Void s.at in
    let e3 = void-ending in
    let a1 = codes-append (declared_functions s.parts sc j) (top_functions s.parts sp fp ++ further_functions s.parts sc j) in
    let a2 = codes-append (top_functions s.parts sp fp) (further_functions s.parts sc j) in
    let gs : script_parts_size ss s.parts (variables_of sc.globals) (known sp.scope) ≡ script_parts_size ss s.parts (all_globals s.parts) (known sp.scope) = ap (λ x. script_parts_size ss s.parts x (known sp.scope)) (variables-in-order (all_globals s.parts) 0) in
    let rest = parts-are ss s.parts sp sc fp j place (record { high = refl; ordered = refl }) ∙ gs in
    omega (arith, e0, c0, c1, e1, e2, e3, a1, a2, rest)
  where
    args_end : At → List (List ℕ) → List Mark
    args_end at args = does (MakeList ty.Text (length args)) at ∷ does (StoreGlobal 0) at ∷ []
