-- The functions of `par` blocks stand in the unit of a script: behind the declared ones those of the top level, and then those of functions.
use Rattle.std.proofs.Common.{◌≡◌, ℕ, suc, ◌+◌, List, [], ◌∷◌, ◌++◌, length, length-append, Some, slice_get, refl, sym, ap, ap₂, ◌∙◌, arith, append_assoc}
use Rattle.bds_tree.specs.StmtTree.{PartTree, ScriptTree, a_function, an_include, a_statement}
use Rattle.bds_code.specs.declared.unit.Function.{Function}
use Rattle.bds_code.specs.declared.unit.Unit.{Unit as CodeUnit}
use Rattle.bds_check_size.specs.ScriptSize.{Settings}
use Rattle.bds_gen_expr.specs.declared.scope.Scope.{Scope}
use Rattle.bds_gen_stmt.specs.FunctionCode.{par_functions}
use Rattle.bds_gen_stmt.specs.Spots.{Spot}
use Rattle.bds_gen_stmt.specs.StmtCode.{behind as spot_behind, pars, block_pars}
use Rattle.bds_gen_stmt.specs.UnitCode.{function_names, function_scope, first_spot, first_par, top_pars, top_function, top_functions, declared_functions, further_functions, unit_of}
use Rattle.bds_gen_stmt.proofs.Pars.{StandAt, stand-append, many}

joint : (xs : List Function) (x : Function) (ys : List Function) → slice_get (xs ++ x ∷ ys) (length xs) ≡ Some x
joint [] x ys = refl
joint (y ∷ xs) x ys = joint xs x ys

stands_behind : (u : CodeUnit) (front fs : List Function) (n : ℕ) → u.functions ≡ front ++ fs → length front ≡ n → StandAt u fs n
stands_behind u front [] n e l = tt
stands_behind u front (f ∷ fs) n e l =
    let long = length-append front (f ∷ []) in (
      ap (λ (gs : List Function). slice_get gs n) e ∙ ap (λ (i : ℕ). slice_get (front ++ f ∷ fs) i) (sym l) ∙ joint front f fs,
      stands_behind u (front ++ f ∷ []) fs (suc n) (e ∙ sym (append_assoc front (f ∷ []) fs)) (omega (arith, long, l)),
    )

many_declared : (ps : List PartTree) (sc : Scope) (n : ℕ) → length (declared_functions ps sc n) ≡ length (function_names ps)
many_declared [] sc n = refl
many_declared (a_function f ∷ ps) sc n = ap suc (many_declared ps sc (n + block_pars f.body))
many_declared (a_statement s ∷ ps) sc n = many_declared ps sc n
many_declared (an_include i ∷ ps) sc n = many_declared ps sc n

many_tops : (ps : List PartTree) (sp : Spot) (n : ℕ) → length (top_functions ps sp n) ≡ top_pars ps
many_tops [] sp n = refl
many_tops (a_statement s ∷ ps) sp n = length-append (par_functions s sp n) (top_functions ps (spot_behind s sp) (n + pars s)) ∙ ap₂ (λ (x y : ℕ). x + y) (many s sp n) (many_tops ps (spot_behind s sp) (n + pars s))
many_tops (a_function f ∷ ps) sp n = let e = many_tops ps sp n in omega (arith, e)
many_tops (an_include i ∷ ps) sp n = let e = many_tops ps sp n in omega (arith, e)

module _ (ss : Settings) (args : List (List ℕ)) (s : ScriptTree) where
  abbrev u : CodeUnit
  u = unit_of ss args s

  abbrev first : ℕ
  first = first_par s.parts

  abbrev pub next : ℕ
  next = first + top_pars s.parts

  abbrev tops : List Function
  tops = top_functions s.parts (first_spot s.parts) first

  abbrev further : List Function
  further = further_functions s.parts (function_scope s.parts) next

  pub functions_stand : StandAt u tops first × StandAt u further next
  functions_stand =
      let declared : List Function = declared_functions s.parts (function_scope s.parts) next in
      let e = many_declared s.parts (function_scope s.parts) next in
      let all = stands_behind u (top_function ss args s ∷ declared) (tops ++ further) first refl (omega (arith, e)) in
      stand-append u tops further first next (ap (λ (k : ℕ). first + k) (many_tops s.parts (first_spot s.parts) first)) all
