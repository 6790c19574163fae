-- A function that the checker finds by its name stands under the number of that name.
use Rattle.std.proofs.Common.{◌≡◌, ◌+◌, ℕ, suc, List, [], ◌∷◌, ◌++◌, map, slice_get, Option, Some, Bool, true, false, refl, ◌∙◌, ap, arith, if◌then◌else◌, subst}
use Rattle.std.specs.Prelude.{⊤}
use Rattle.std.specs.List.{AllByRecursion}
use Rattle.std.specs.Str.{bytes_eq}
use Rattle.bds_value.specs.Fields.{is_solid}
use Rattle.bds_tree.specs.declared.stmt.Parameter.{Parameter}
use Rattle.bds_tree.specs.StmtTree.{FunctionTree, PartTree, a_function, an_include, a_statement}
use Rattle.bds_code.specs.declared.unit.Function.{Function}
use Rattle.bds_check_names.specs.declared.names.Head.{Head}
use Rattle.bds_check_names.specs.Scopes.{function_named}
use Rattle.bds_check_typing.specs.Program.{head_of, heads_of}
use Rattle.bds_check_typing.specs.Known.{IsBlockWritten}
use Rattle.bds_check_typing.proofs.Written.{written-known}
use Rattle.bds_gen_expr.specs.Marks.{Mark}
use Rattle.bds_gen_expr.specs.declared.scope.Scope.{Scope}
use Rattle.bds_gen_expr.specs.Numbers.{first_callee, callees_from}
use Rattle.bds_gen_expr.proofs.Written.{ret-is, params-is}
use Rattle.bds_gen_flow.specs.Fits.{AreAllKnown}
use Rattle.bds_gen_stmt.specs.StmtCode.{block_code, block_pars}
use Rattle.bds_gen_stmt.specs.FunctionCode.{fresh, eight, ending, at_of_block, opening, types_of, function_of}
use Rattle.bds_gen_stmt.specs.UnitCode.{declared_functions, parameter_locals, function_names}

types-are : (ps : List Parameter) (n : ℕ) → types_of (parameter_locals ps n) ≡ map (λ p. p.ty) ps
types-are [] n = refl
types-are (p ∷ ps) n = ap (λ ts. p.ty ∷ ts) (types-are ps (suc n))

-- the function of a name, and its number among the declared ones
pub record Declared (x : List ℕ) (h : Head) (ps : List PartTree) (sc : Scope) (k n : ℕ) : Type 0 where
  pub index : ℕ
  pub function : Function
  pub number : first_callee x (callees_from k (function_names ps)) ≡ Some (k + index)
  pub there : slice_get (declared_functions ps sc n) index ≡ Some function
  pub params : function.params ≡ h.parameters
  pub ret : function.ret ≡ h.result

find-choice : (b : Bool) (x : List ℕ) (h : Head) (f : FunctionTree) (ps : List PartTree) (sc : Scope) (k n : ℕ) → bytes_eq x f.name ≡ b → (if b then Some (head_of f) else function_named x (heads_of ps)) ≡ Some h
    → (function_named x (heads_of ps) ≡ Some h → Declared x h ps sc (suc k) (n + block_pars f.body)) → Declared x h (a_function f ∷ ps) sc k n
find-choice true x h f ps sc k n e is rest =
    let same : head_of f ≡ h = cc in
    let F : Function = function_of f.name (parameter_locals f.parameters 0) f.result sc f.body n in
    let marks : List Mark = eight ++ (block_code f.body (opening sc (parameter_locals f.parameters 0)) n 0 ++ ending f.result (at_of_block f.body)) in
    let place : k ≡ k + 0 = omega arith in
    record {
      index = 0;
      function = F;
      number = ap (λ (b : Bool). if b then Some k else first_callee x (callees_from (suc k) (function_names ps))) e ∙ ap (λ i. Some i) place;
      there = refl;
      params = params-is marks (fresh f.name (types_of (parameter_locals f.parameters 0)) f.result) ∙ types-are f.parameters 0 ∙ ap (λ (y : Head). y.parameters) same;
      ret = ret-is marks (fresh f.name (types_of (parameter_locals f.parameters 0)) f.result) ∙ ap (λ (y : Head). y.result) same;
    }
find-choice false x h f ps sc k n e is rest =
    let r = rest is in
    let place : suc k + r.index ≡ k + suc r.index = omega arith in
    record {
      index = suc r.index;
      function = r.function;
      number = ap (λ (b : Bool). if b then Some k else first_callee x (callees_from (suc k) (function_names ps))) e ∙ r.number ∙ ap (λ i. Some i) place;
      there = r.there;
      params = r.params;
      ret = r.ret;
    }

pub find : (ps : List PartTree) (x : List ℕ) (h : Head) (sc : Scope) (k n : ℕ) → function_named x (heads_of ps) ≡ Some h → Declared x h ps sc k n
find [] x h sc k n e = absurd (cc)
find (a_function f ∷ ps) x h sc k n e = find-choice (bytes_eq x f.name) x h f ps sc k n refl e (λ q. find ps x h sc (suc k) (n + block_pars f.body) q)
find (a_statement s ∷ ps) x h sc k n e = let r = find ps x h sc k n e in record { index = r.index; function = r.function; number = r.number; there = r.there; params = r.params; ret = r.ret }
find (an_include i ∷ ps) x h sc k n e = let r = find ps x h sc k n e in record { index = r.index; function = r.function; number = r.number; there = r.there; params = r.params; ret = r.ret }

-- the types of parameters, and the bodies of functions
abbrev pub AreBodiesWritten : List PartTree → Type 0
AreBodiesWritten [] = ⊤
AreBodiesWritten (a_function f ∷ ps) = AllByRecursion (λ p. is_solid p.ty ≡ true) f.parameters × IsBlockWritten f.body × AreBodiesWritten ps
AreBodiesWritten (_ ∷ ps) = AreBodiesWritten ps

written-known-all : (ps : List Parameter) → AllByRecursion (λ p. is_solid p.ty ≡ true) ps → AreAllKnown (map (λ p. p.ty) ps)
written-known-all [] h = tt
written-known-all (p ∷ ps) h = (written-known p.ty h.0, written-known-all ps h.1)

known-choice : (b : Bool) (g h : Head) (o : Option Head) → AreAllKnown g.parameters → (o ≡ Some h → AreAllKnown h.parameters) → (if b then Some g else o) ≡ Some h → AreAllKnown h.parameters
known-choice true g h o k l e = (let same : g ≡ h = cc in subst (λ (y : Head). AreAllKnown y.parameters) same k)
known-choice false g h o k l e = l e

pub heads-known : (ps : List PartTree) (x : List ℕ) (h : Head) → AreBodiesWritten ps → function_named x (heads_of ps) ≡ Some h → AreAllKnown h.parameters
heads-known [] x h w e = absurd (cc)
heads-known (a_function f ∷ ps) x h w e = known-choice (bytes_eq x f.name) (head_of f) h (function_named x (heads_of ps)) (written-known-all f.parameters w.0) (λ q. heads-known ps x h w.2 q) e
heads-known (a_statement s ∷ ps) x h w e = heads-known ps x h w e
heads-known (an_include i ∷ ps) x h w e = heads-known ps x h w e
