-- The unit of a script is what is written of its parts.
use Rattle.std.proofs.Common.{◌≡◌, ◌+◌, ◌≤◌, ◌<◌, ℕ, suc, Bool, true, false, None, List, [], ◌∷◌, ◌++◌, length, length-append, map, refl, sym, ap, subst, ◌∙◌, arith, append_assoc}
use Rattle.bds_value.specs.declared.value.At.{At}
use Rattle.bds_value.specs.declared.value.Ty.{Ty}
use Rattle.bds_value.specs.declared.value.Ty.TheVariants as ty
use Rattle.bds_code.specs.declared.unit.Function.{Function}
use Rattle.bds_code.specs.declared.unit.Unit.{Unit as CodeUnit}
use Rattle.bds_tree.specs.declared.stmt.Part.{Part}
use Rattle.bds_tree.specs.declared.stmt.Script.{Script}
use Rattle.bds_tree.specs.StmtView.{part_of, script_of}
use Rattle.bds_check_typing.specs.declared.given.Given.{Given}
use Rattle.bds_check.specs.declared.checking.TypedScript.{TypedScript}
use Rattle.bds_check_typing.specs.GivenValues.{set_by}
use Rattle.bds_tree.specs.StmtTree.{StmtTree, PartTree, ScriptTree, stmt, line, declare, infer, a_function, an_include, a_statement}
use Rattle.bds_check_names.specs.declared.names.Variable.{Variable}
use Rattle.bds_check_rules.specs.StmtBreaks.{right_type}
use Rattle.bds_check_size.specs.ScriptSize.{Settings, all_globals}
use Rattle.bds_gen_expr.specs.declared.scope.Numbered.{Numbered}
use Rattle.bds_gen_expr.specs.declared.scope.Scope.{Scope}
use Rattle.bds_gen_expr.specs.Marks.{written}
use Rattle.bds_gen_expr.proofs.Written.{written-append, length-written, ret-is, params-is}
use Rattle.bds_gen_stmt.specs.FunctionCode.{fresh, eight, ending, par_functions}
use Rattle.bds_gen_stmt.specs.Spots.{Spot, declared}
use Rattle.bds_gen_stmt.specs.StmtCode.{behind, pars}
use Rattle.bds_gen_stmt.specs.UnitCode.{first_scope, function_scope, first_spot, behind_parts, in_order, function_names, top_code, args_code, top_pars, top_functions, declared_functions, further_functions, first_par, top_function, unit_of}
use Rattle.bds_gen_stmt.proofs.Pars.{many}
use Rattle.bds_gen_stmt.proofs.TopNames.{IsTop, parts-top}
use Rattle.bds_gen_stmt.proofs.TopFlow.{args-slots}
use Rattle.bds_gen_stmt.proofs.TopWhole.{args-count}
use Rattle.bds_gen_stmt_code.specs.Bodies.{spot_of, next_number, place_in, begun, with_function}
use Rattle.bds_gen_stmt_code.specs.declared.body.Unfinished.{Unfinished}
use Rattle.bds_gen_unit.specs.FunctionParts.{seen, sees, FunctionsWritten}
use Rattle.bds_gen_unit.specs.Tops.{CodeWritten, TopsWritten}
use Rattle.bds_gen_unit.specs.Begun.{AreParts, begins, unit_with}
use Rattle.bds_gen_unit.specs.Generated.{unit_for}
use Rattle.bds_gen_unit.proofs.SetLaws.{locals-many}

top-many : (ps : List PartTree) (sp : Spot) (n : ℕ) → length (top_functions ps sp n) ≡ top_pars ps
top-many [] sp n = refl
top-many (a_statement s ∷ ps) sp n =
    let a = length-append (par_functions s sp n) (top_functions ps (behind s sp) (n + pars s)) in
    let b = many s sp n in
    let c = top-many ps (behind s sp) (n + pars s) in
    omega (arith, a, b, c)
top-many (a_function f ∷ ps) sp n = let c = top-many ps sp n in omega (arith, c)
top-many (an_include i ∷ ps) sp n = let c = top-many ps sp n in omega (arith, c)

-- no statement changes the functions that names stand for
functions-stay : (s : StmtTree) (sp : Spot) → (behind s sp).scope.functions ≡ sp.scope.functions
functions-stay (stmt at (line (declare t x r))) sp = by sp.at_top
  where
    by : (b : Bool) → (declared (record sp { at_top = b }) x t).scope.functions ≡ sp.scope.functions
    by true = refl
    by false = refl
functions-stay (stmt at (line (infer x r))) sp = by sp.at_top
  where
    by : (b : Bool) → (declared (record sp { at_top = b }) x (right_type r)).scope.functions ≡ sp.scope.functions
    by true = refl
    by false = refl
functions-stay (stmt at (line _)) sp = refl
functions-stay (stmt at _) sp = refl

all-stay : (ps : List PartTree) (sp : Spot) → (behind_parts ps sp).scope.functions ≡ sp.scope.functions
all-stay [] sp = refl
all-stay (a_statement s ∷ ps) sp = all-stay ps (behind s sp) ∙ functions-stay s sp
all-stay (a_function f ∷ ps) sp = all-stay ps sp
all-stay (an_include i ∷ ps) sp = all-stay ps sp

types-in-order : (n : ℕ) (vs : List Variable) → map (λ g. g.variable.ty) (in_order n vs) ≡ map (λ v. v.ty) vs
types-in-order n [] = refl
types-in-order n (v ∷ vs) = ap (λ ts. v.ty ∷ ts) (types-in-order (suc n) vs)

-- behind all statements the globals are in the order of their numbers
module _ (ps : List PartTree) where
  globals-behind : (behind_parts ps (first_spot ps)).scope.globals ≡ in_order 0 (all_globals ps)
  globals-behind =
      let r = parts-top ps (first_spot ps) (record { high = refl; ordered = refl }) in
      r.0.ordered ∙ ap (λ k. in_order 0 k.globals) r.1

  scope-behind : seen (behind_parts ps (first_spot ps)).scope ≡ function_scope ps
  scope-behind = cc (globals-behind, all-stay ps (first_spot ps))

same-unit : (fs es : List (List ℕ)) (ts us : List Ty) (gs hs : List Function) → fs ≡ es → ts ≡ us → gs ≡ hs → unit_with fs ts gs ≡ unit_with es us hs
same-unit fs es ts us gs hs e1 e2 e3 = cc (e1, e2, e3)

module _ (ss : Settings) (args : List (List ℕ)) (s : ScriptTree) where
  spot-behind-args : spot_of (with_function (begins s.parts) (written (begun [] [] ty.Void) (args_code s.at args))).body ≡ first_spot s.parts
  spot-behind-args =
      let n = locals-many (args_code s.at args) (begun [] [] ty.Void) in
      let z = args-slots s.at args in
      let ps : (written (begun [] [] ty.Void) (args_code s.at args)).params ≡ [] = params-is (args_code s.at args) (begun [] [] ty.Void) in
      let e : length (written (begun [] [] ty.Void) (args_code s.at args)).params + length (written (begun [] [] ty.Void) (args_code s.at args)).locals ≡ 8 = ap (λ (ts : List Ty). length ts + length (written (begun [] [] ty.Void) (args_code s.at args)).locals) ps ∙ omega (arith, n, z) in
      ap (λ n. record { scope = first_scope s.parts; next = n; first = 0; loop = None; at_top = true }) e

  unit-written : (a b c d : Unfinished) (top : Function) (gs : List Function) (u : CodeUnit)
      → a ≡ with_function (begins s.parts) (written (begun [] [] ty.Void) (args_code s.at args)) → TopsWritten ss s.parts a b → top ≡ written b.body.function (ending b.body.function.ret s.at)
      → c.finished ≡ b.finished → c.first ≡ b.first → c.body.scope ≡ b.body.scope → FunctionsWritten s.parts c d (top ∷ []) gs
      → u.files ≡ s.files → u.globals ≡ map (λ g. g.variable.ty) d.body.scope.globals → u.functions ≡ gs ++ d.finished → u ≡ unit_of ss args s
  unit-written a b c d top gs u ea w et ef e1 es r files globals functions =
      let front = written (begun [] [] ty.Void) (args_code s.at args) in
      let first = first_par s.parts in
      let code = top_code ss s.parts (first_spot s.parts) first (length args + 2) in
      let spot : spot_of a.body ≡ first_spot s.parts = ap (λ (x : Unfinished). spot_of x.body) ea ∙ spot-behind-args in
      let number : next_number a ≡ first = ap next_number ea ∙ omega arith in
      let place : place_in a ≡ length args + 2 =
      ap place_in ea ∙ length-written (args_code s.at args) (begun [] [] ty.Void) ∙ (let n = args-count s.at args in omega (arith, n)) in
      let body : b.body.function ≡ written front code =
      w.function ∙ ap (λ (x : Unfinished). written x.body.function (top_code ss s.parts (spot_of a.body) (next_number a) (place_in a))) ea
      ∙ ap (λ sp. written front (top_code ss s.parts sp (next_number a) (place_in a))) spot
      ∙ ap (λ n. written front (top_code ss s.parts (first_spot s.parts) n (place_in a))) number
      ∙ ap (λ p. written front (top_code ss s.parts (first_spot s.parts) first p)) place in
      let ret : b.body.function.ret ≡ ty.Void = ap (λ (f : Function). f.ret) body ∙ ret-is code front ∙ ret-is (args_code s.at args) (begun [] [] ty.Void) in
      let the_top : top ≡ top_function ss args s =
      et ∙ ap (λ t. written b.body.function (ending t s.at)) ret ∙ ap (λ f. written f (ending ty.Void s.at)) body
      ∙ sym (written-append code (ending ty.Void s.at) front)
      ∙ sym (written-append (args_code s.at args) (code ++ ending ty.Void s.at) (begun [] [] ty.Void))
      ∙ sym (written-append eight (args_code s.at args ++ (code ++ ending ty.Void s.at)) (fresh [] [] ty.Void)) in
      let done : b.finished ≡ top_functions s.parts (first_spot s.parts) first =
      w.finished ∙ ap (λ (x : Unfinished). x.finished ++ top_functions s.parts (spot_of a.body) (next_number a)) ea
      ∙ ap (λ sp. top_functions s.parts sp (next_number a)) spot ∙ ap (top_functions s.parts (first_spot s.parts)) number in
      let scope : sees c ≡ function_scope s.parts =
      ap seen es ∙ ap (λ (sp : Spot). seen sp.scope) w.spot ∙ ap (λ sp. seen (behind_parts s.parts sp).scope) spot ∙ scope-behind s.parts in
      let next : next_number c ≡ first + top_pars s.parts =
      let long : length c.finished ≡ length (top_functions s.parts (first_spot s.parts) first) = ap length (ef ∙ done) in
      let many = top-many s.parts (first_spot s.parts) first in
      let f : c.first ≡ first = e1 ∙ w.first ∙ ap (λ (x : Unfinished). x.first) ea in
      omega (arith, long, many, f) in
      let declared : gs ≡ top_function ss args s ∷ declared_functions s.parts (function_scope s.parts) (first + top_pars s.parts) =
      r.functions ∙ ap (λ f. f ∷ declared_functions s.parts (sees c) (next_number c)) the_top
      ∙ ap (λ sc. top_function ss args s ∷ declared_functions s.parts sc (next_number c)) scope
      ∙ ap (λ n. top_function ss args s ∷ declared_functions s.parts (function_scope s.parts) n) next in
      let further : d.finished ≡ top_functions s.parts (first_spot s.parts) first ++ further_functions s.parts (function_scope s.parts) (first + top_pars s.parts) =
      r.finished ∙ ap (λ fs. fs ++ further_functions s.parts (sees c) (next_number c)) (ef ∙ done)
      ∙ ap (λ sc. top_functions s.parts (first_spot s.parts) first ++ further_functions s.parts sc (next_number c)) scope
      ∙ ap (λ n. top_functions s.parts (first_spot s.parts) first ++ further_functions s.parts (function_scope s.parts) n) next in
      let types : u.globals ≡ map (λ v. v.ty) (all_globals s.parts) =
      globals ∙ ap (λ (sc : Scope). map (λ (g : Numbered). g.variable.ty) sc.globals) (r.scope ∙ scope) ∙ types-in-order 0 (all_globals s.parts) in
      same-unit u.files s.files u.globals (map (λ v. v.ty) (all_globals s.parts)) u.functions (unit_of ss args s).functions files types
      (functions ∙ ap (λ fs. fs ++ d.finished) declared ∙ ap (λ fs. (top_function ss args s ∷ declared_functions s.parts (function_scope s.parts) (first + top_pars s.parts)) ++ fs) further)

  -- as the code goes: what is written at the top level, its function, the declared functions, and what is finished
  pub unit_done : (a b c d : Unfinished) (none fs gs : List Function) (shown : List Numbered) (u : CodeUnit)
      → a ≡ begins s.parts → CodeWritten ss args s.at s.parts a b → none ≡ [] → fs ≡ none ++ b.body.function ∷ [] → c ≡ with_function b c.body.function → FunctionsWritten s.parts c d fs gs
      → u.files ≡ s.files → shown ≡ d.body.scope.globals → u.globals ≡ map (λ g. g.variable.ty) shown → u.functions ≡ gs ++ d.finished → u ≡ unit_of ss args s
  unit_done a b c d none fs gs shown u ea w en es ec r files eg globals functions =
      let f = w.function in
      let top : Function = written w.above.body.function (ending w.above.body.function.ret s.at) in
      let ended : c ≡ with_function (with_function w.above top) c.body.function = ec ∙ ap (λ x. with_function x c.body.function) w.ended in
      unit-written (with_function a f) w.above c d top gs u
      (ap (λ x. with_function x f) ea ∙ ap (with_function (begins s.parts)) (w.args_is ∙ ap (λ (x : Unfinished). written x.body.function (args_code s.at args)) ea))
      w.tops refl
      (ap (λ (x : Unfinished). x.finished) ended) (ap (λ (x : Unfinished). x.first) ended) (ap (λ (x : Unfinished). x.body.scope) ended)
      (subst (λ l. FunctionsWritten s.parts c d l gs) (es ∙ ap (λ l. l ++ b.body.function ∷ []) en ∙ ap (λ (x : Unfinished). x.body.function ∷ []) w.ended) r)
      files (globals ∙ ap (map (λ (g : Numbered). g.variable.ty)) eg) functions

-- what is lent of a typed script
abbrev tree-with : At → List (List ℕ) → List Part → ScriptTree
tree-with at fs ps = record { at = at; files = fs; parts = map part_of ps }

pub unit_same : (u : CodeUnit) (t : TypedScript) (s : Script) (fs : List (List ℕ)) (ps : List Part) (gs : List Given) (args : List (List ℕ)) → u ≡ unit_of (set_by gs) args (record { at = s.at; files = fs; parts = map part_of ps })
    → s ≡ t.script → fs ≡ s.files → ps ≡ s.parts → gs ≡ t.settings → args ≡ t.args → u ≡ unit_for t
unit_same u t s fs ps gs args e es ef ep eg ea =
    e ∙ ap (λ l. unit_of (set_by l) args (tree-with s.at fs ps)) eg ∙ ap (λ l. unit_of (set_by t.settings) l (tree-with s.at fs ps)) ea
    ∙ ap (λ l. unit_of (set_by t.settings) t.args (tree-with s.at l ps)) ef ∙ ap (λ l. unit_of (set_by t.settings) t.args (tree-with s.at s.files l)) ep
    ∙ ap (λ x. unit_of (set_by t.settings) t.args (script_of x)) es
