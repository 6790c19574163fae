-- The statements of the top level and the functions of a typed script have what their terms ask, in its unit.
use Rattle.std.proofs.Common.{◌≡◌, ℕ, ◌+◌, List, [], ◌∷◌, ◌++◌, length, map, Option, Some, None, Bool, true, false, refl, sym, ◌∙◌, ap, subst, if◌then◌else◌}
use Rattle.std.specs.Option.{unwrap_or}
use Rattle.std.specs.List.{AllByRecursion}
use Rattle.std.specs.Str.{bytes_eq}
use Rattle.std.proofs.lemmas.List.{length-map}
use Rattle.std.proofs.lemmas.Slice.Eq.{bytes_eq-Decides}
use Rattle.bds_value.specs.declared.value.Ty.{Ty}
use Rattle.bds_value.specs.Fields.{is_solid}
use Rattle.bds_tree.specs.declared.stmt.Parameter.{Parameter}
use Rattle.bds_tree.specs.StmtTree.{StmtTree, LineTree, FunctionTree, PartTree, ScriptTree, stmt, line, declare, infer, no_right, a_right, a_function, an_include, a_statement}
use Rattle.bds_code.specs.declared.unit.Unit.{Unit as CodeUnit}
use Rattle.bds_check_names.specs.declared.names.Asked.TheVariants.{Value as AnyValue, This}
use Rattle.bds_check_names.specs.declared.names.Head.{Head}
use Rattle.bds_check_names.specs.declared.names.Names.{Names as Checked}
use Rattle.bds_check_names.specs.declared.names.Variable.{Variable}
use Rattle.bds_check_names.specs.Scopes.{any_named, declare_in, function_named, in_function, inner, is_declared, top, variable, with_globals, with_locals}
use Rattle.bds_check_rules.specs.declared.rules.Rule.{Rule}
use Rattle.bds_check_rules.specs.declared.rules.Rule.TheVariants as rule
use Rattle.bds_check_rules.specs.StmtBreaks.{given_rule, line_breaks, right_type, twice_rule}
use Rattle.bds_check_typing.specs.WellTypedStmts.{IsWellTypedStmt, IsWellTypedLine, names_behind}
use Rattle.bds_check_typing.specs.Known.{IsStmtWritten, IsLineWritten, IsBlockWritten}
use Rattle.bds_check_typing.specs.Program.{declare_parameters, head_of, heads_of, names_of, with_head, with_parameters}
use Rattle.bds_check_typing.specs.Typed.{IsTypedWith}
use Rattle.bds_check_typing.specs.WellTypedScripts.{AreWellTypedParts, IsWellTypedFunction, first_names, globals_in, names_behind_parts}
use Rattle.bds_check_size.specs.ScriptSize.{Settings}
use Rattle.bds_gen_expr.specs.declared.scope.Scope.{Scope}
use Rattle.bds_gen_expr.specs.Numbers.{numbered}
use Rattle.bds_gen_expr.specs.Scope.{with_one_global}
use Rattle.bds_gen_flow.proofs.ExprParts.{when-none}
use Rattle.bds_gen_stmt.specs.FunctionCode.{opening}
use Rattle.bds_gen_stmt.specs.Spots.{Spot, declared_local}
use Rattle.bds_gen_stmt.specs.StmtCode.{behind as spot_behind}
use Rattle.bds_gen_stmt.specs.UnitCode.{first_spot, function_scope, parameter_locals, unit_of}
use Rattle.bds_check_typing.specs.Proper.{IsProperStmt, IsProperLine, IsProperBlock, IsProperPart}
use Rattle.bds_gen_stmt.proofs.Callees.{AreBodiesWritten, find}
use Rattle.bds_gen_stmt.proofs.Matched.{Agrees, variables-end}
use Rattle.bds_gen_stmt.proofs.TopFlow.{ArePartsWritten}
use Rattle.bds_gen_stmt.proofs.TopNames.{IsTop, behind-top}
use Rattle.bds_gen_stmt.proofs.UnitFlow.{function-agrees, function-seen, once, written}
use Rattle.bds_meaning.specs.Step.{function_in}
use Rattle.bds_sim_terms.specs.steps.Stands.{Source}
use Rattle.bds_meaning.specs.Opening.{all_names, behind_parts, function_of, functions_of, parameters_of}
use Rattle.bds_sim_code.specs.ScriptHere.{FunctionHere, FunctionsHere, ScriptHere, TopLineHere, TopStmtHere, TopsHere, source_of}
use Rattle.bds_meaning.specs.OpeningStatements.{behind}
use Rattle.bds_sim_code.specs.StmtHere.{BlockHere}
use Rattle.bds_sim_code.proofs.InForce.{InForce, HasCallees, in-force-of}
use Rattle.bds_sim_code.proofs.AcceptedStmts.{right-here, line-here, form-here, block-here, right-pars-here, pars-here}
use Rattle.bds_sim_code.specs.StmtHere.{no_leaps}
use Rattle.bds_sim_code.proofs.AcceptedStmts.{covered}

-- The functions of the program are those of the unit

bytes-same : (x y : List ℕ) → bytes_eq x y ≡ bytes_eq y x
bytes-same x y = by (bytes_eq x y) (bytes_eq y x) refl refl
  where
    by : (a b : Bool) → bytes_eq x y ≡ a → bytes_eq y x ≡ b → a ≡ b
    by true true p q = refl
    by false false p q = refl
    by true false p q = absurd (let there : bytes_eq y x ≡ true = (bytes_eq-Decides y x).1 (sym ((bytes_eq-Decides x y).0 p)) in let clash : true ≡ false = sym there ∙ q in cc)
    by false true p q = absurd (let there : bytes_eq x y ≡ true = (bytes_eq-Decides x y).1 (sym ((bytes_eq-Decides y x).0 q)) in let clash : true ≡ false = sym there ∙ p in cc)

takes-choice : (b : Bool) (x : List ℕ) (h : Head) (names : Checked) (f : FunctionTree) (ps : List PartTree) → bytes_eq f.name x ≡ b → (if b then Some (head_of f) else function_named x (heads_of ps)) ≡ Some h
    → (function_named x (heads_of ps) ≡ Some h → length (function_in (functions_of names ps) x).parameters ≡ length h.parameters)
    → length (function_in (functions_of names (a_function f ∷ ps)) x).parameters ≡ length h.parameters
takes-choice true x h names f ps e is rest =
    let same : head_of f ≡ h = cc in
    let first : length (function_in (functions_of names (a_function f ∷ ps)) x).parameters ≡ length (map (λ (p : Parameter). p.name) f.parameters) =
    ap (λ (b : Bool). length (if b then function_of names f else function_in (functions_of names ps) x).parameters) e in
    first ∙ length-map f.parameters (λ (p : Parameter). p.name) ∙ sym (length-map f.parameters (λ (p : Parameter). p.ty)) ∙ ap (λ (y : Head). length y.parameters) same
takes-choice false x h names f ps e is rest =
    ap (λ (b : Bool). length (if b then function_of names f else function_in (functions_of names ps) x).parameters) e ∙ rest is

pub program-takes : (ps : List PartTree) (names : Checked) (x : List ℕ) (h : Head) → function_named x (heads_of ps) ≡ Some h → length (function_in (functions_of names ps) x).parameters ≡ length h.parameters
program-takes [] names x h e = absurd (cc)
program-takes (a_function f ∷ ps) names x h e =
    takes-choice (bytes_eq f.name x) x h names f ps refl (ap (λ (b : Bool). if b then Some (head_of f) else function_named x (heads_of ps)) (bytes-same f.name x) ∙ e) (λ q. program-takes ps names x h q)
program-takes (a_statement s ∷ ps) names x h e = program-takes ps names x h e
program-takes (an_include i ∷ ps) names x h e = program-takes ps names x h e

-- The top level, where declarations make globals

same-top : (s : StmtTree) (names : Checked) → names_behind s names top ≡ behind names top s
same-top (stmt at (line (declare t x r))) names = refl
same-top (stmt at (line (infer x r))) names = refl
same-top (stmt at (line _)) names = refl
same-top (stmt at _) names = refl

module _ (o : Source) (u : CodeUnit) where
  global-in-force : (names : Checked) (sc : Scope) (x : List ℕ) (t : Ty) (n : ℕ) → InForce o u names sc → any_named x names.globals ≡ false → InForce o u (with_globals names (declare_in 0 (variable x t) names.globals)) (with_one_global sc x t n)
  global-in-force names sc x t n a d =
      let one : declare_in 0 (variable x t) names.globals ≡ names.globals ++ variable x t ∷ [] = ap (λ (b : Bool). if b then names.globals else names.globals ++ variable x t ∷ []) d in
      record {
        locals = a.locals;
        globals = one ∙ ap (λ gs. gs ++ variable x t ∷ []) a.globals ∙ sym (variables-end sc.globals (numbered x t n));
        calls = a.calls;
      }

  declared-scope : (b : Bool) (names : Checked) (sp : Spot) (x : List ℕ) (t : Ty) → b ≡ true → InForce o u names (with_one_global sp.scope x t (length sp.scope.globals))
      → InForce o u names (if b then record sp { scope = with_one_global sp.scope x t (length sp.scope.globals) } else declared_local sp x t).scope
  declared-scope true names sp x t e a = a
  declared-scope false names sp x t e a = absurd (cc)

  undeclared : (names : Checked) (x : List ℕ) (others : Option Rule) → twice_rule names top x others ≡ None → any_named x names.globals ≡ false
  undeclared names x others q = (when-none (is_declared names top x) rule.TwiceDeclared others q).0

  pub top-behind : (s : StmtTree) (names : Checked) (sp : Spot) → InForce o u names sp.scope → sp.at_top ≡ true → IsWellTypedStmt s names top → InForce o u (names_behind s names top) (spot_behind s sp).scope
  top-behind (stmt at (line (declare t x no_right))) names sp a e w = declared-scope sp.at_top (names_behind (stmt at (line (declare t x no_right))) names top) sp x t e (global-in-force names sp.scope x t (length sp.scope.globals) a (undeclared names x None w.1))
  top-behind (stmt at (line (declare t x (a_right r)))) names sp a e w =
      declared-scope sp.at_top (names_behind (stmt at (line (declare t x (a_right r)))) names top) sp x t e (global-in-force names sp.scope x t (length sp.scope.globals) a (undeclared names x (given_rule t (Some (right_type r))) w.1))
  top-behind (stmt at (line (infer x r))) names sp a e w = declared-scope sp.at_top (names_behind (stmt at (line (infer x r))) names top) sp x (right_type r) e (global-in-force names sp.scope x (right_type r) (length sp.scope.globals) a (undeclared names x None w.1))
  top-behind (stmt at (line _)) names sp a e w = a
  top-behind (stmt at _) names sp a e w = a

  top-line-here : (l : LineTree) (names : Checked) (sc : Scope) → InForce o u names sc → IsProperLine (length u.files) l → IsWellTypedLine l names top → line_breaks names top l ≡ None → IsLineWritten l → TopLineHere o u l names sc
  top-line-here (declare t x no_right) names sc a h w q k = undeclared names x None q
  top-line-here (declare t x (a_right r)) names sc a h w q k = (undeclared names x (given_rule t (Some (right_type r))) q, right-here o u names sc a r (This t) refl w k.1, right-pars-here o u r (This t) names sc a h.2 w k.1)
  top-line-here (infer x r) names sc a h w q k = (undeclared names x None q, right-here o u names sc a r AnyValue refl w k, right-pars-here o u r AnyValue names sc a h.1 w k)
  top-line-here l names sc a h w q k = (line-here o u names sc a (inner names top) no_leaps l no_leaps refl (covered no_leaps) h w q k, pars-here o u l names sc (inner names top) no_leaps a h w k)

  top-stmt-here : (s : StmtTree) (names : Checked) (sp : Spot) → InForce o u names sp.scope → IsProperStmt (length u.files) s → IsWellTypedStmt s names top → IsStmtWritten s → TopStmtHere o u s names sp
  top-stmt-here (stmt at (line l)) names sp a h w k = top-line-here l names sp.scope a h.1 w.0 w.1 k
  top-stmt-here (stmt at f) names sp a h w k = form-here o u f names top no_leaps sp.scope sp.next no_leaps a (covered no_leaps) tt h.1 w.0 k

  pub tops-here : (ps : List PartTree) (names all : Checked) (before : List Head) (sp : Spot) → InForce o u names sp.scope → IsTop sp → AllByRecursion (IsProperPart (length u.files)) ps → AreWellTypedParts ps all before names → ArePartsWritten ps → TopsHere o u ps names sp
  tops-here [] names all before sp a t h w k = tt
  tops-here (a_statement s ∷ ps) names all before sp a t h w k =
      let same = same-top s names in (
        top-stmt-here s names sp a h.0 w.0 k.0,
        tops-here ps (behind names top s) all (with_head before (a_statement s)) (spot_behind s sp) (subst (λ m. InForce o u m (spot_behind s sp).scope) same (top-behind s names sp a t.high w.0)) (behind-top s sp t) h.1
            (subst (λ m. AreWellTypedParts ps all (with_head before (a_statement s)) m) same w.1) k.1,
      )
  tops-here (a_function f ∷ ps) names all before sp a t h w k = tops-here ps names all (with_head before (a_function f)) sp a t h.1 w.1 k
  tops-here (an_include i ∷ ps) names all before sp a t h w k = tops-here ps names all (with_head before (an_include i)) sp a t h.1 w.1 k

  -- Functions, which see all globals

  module _ (all : Checked) (sc : Scope) (seen : Agrees u all sc) (callees : HasCallees o u all sc) (seen_by : Checked) (same_names : (ps : List Parameter) → with_parameters all ps ≡ with_locals seen_by (parameters_of [] ps)) where
    function-here : (f : FunctionTree) (before : List Head) → IsProperBlock (length u.files) f.body → IsWellTypedFunction f all before → AllByRecursion (λ p. is_solid p.ty ≡ true) f.parameters → IsBlockWritten f.body → FunctionHere o u f seen_by sc
    function-here f before h w p k =
        let own : Spot = opening sc (parameter_locals f.parameters 0) in
        let a : InForce o u (with_parameters all f.parameters) own.scope =
        in-force-of o u (with_parameters all f.parameters) own.scope (function-agrees u sc all seen f before w.1 p) (record { number = callees.number; takes = callees.takes }) in
        let body = block-here o u f.body (with_parameters all f.parameters) (in_function f.result) no_leaps own.scope own.next no_leaps a refl (covered no_leaps) h w.0 k in
        (once f before w.1, subst (λ m. BlockHere o u f.body m (in_function f.result) own.scope own.next no_leaps) (same_names f.parameters) body)

    pub functions-here : (ps : List PartTree) (names : Checked) (before : List Head) → AllByRecursion (IsProperPart (length u.files)) ps → AreWellTypedParts ps all before names → AreBodiesWritten ps → FunctionsHere o u ps seen_by sc
    functions-here [] names before h w k = tt
    functions-here (a_function f ∷ ps) names before h w k = (function-here f before h.0.4 w.0 k.0 k.1, functions-here ps names (with_head before (a_function f)) h.1 w.1 k.2)
    functions-here (a_statement s ∷ ps) names before h w k = functions-here ps (names_behind s names top) (with_head before (a_statement s)) h.1 w.1 k
    functions-here (an_include i ∷ ps) names before h w k = functions-here ps names (with_head before (an_include i)) h.1 w.1 k

-- The names that functions see

parameters-same : (ps : List Parameter) (vs : List Variable) → declare_parameters vs ps ≡ parameters_of vs ps
parameters-same [] vs = refl
parameters-same (p ∷ ps) vs = parameters-same ps (declare_in 0 (variable p.name p.ty) vs)

parts-same : (ps : List PartTree) (names : Checked) → names_behind_parts ps names ≡ behind_parts names ps
parts-same [] names = refl
parts-same (a_statement s ∷ ps) names = parts-same ps (names_behind s names top) ∙ ap (λ m. behind_parts m ps) (same-top s names)
parts-same (a_function f ∷ ps) names = parts-same ps names
parts-same (an_include i ∷ ps) names = parts-same ps names

-- the top level declares globals alone
record Kept (a b : Checked) : Type 0 where
  functions : a.functions ≡ b.functions
  finding : a.finding ≡ b.finding

kept : (s : StmtTree) (names : Checked) → Kept (names_behind s names top) names
kept (stmt at (line (declare t x r))) names = record { functions = refl; finding = refl }
kept (stmt at (line (infer x r))) names = record { functions = refl; finding = refl }
kept (stmt at (line _)) names = record { functions = refl; finding = refl }
kept (stmt at _) names = record { functions = refl; finding = refl }

all-kept : (ps : List PartTree) (names : Checked) → Kept (names_behind_parts ps names) names
all-kept [] names = record { functions = refl; finding = refl }
all-kept (a_statement s ∷ ps) names = let a = all-kept ps (names_behind s names top) in let b = kept s names in record { functions = a.functions ∙ b.functions; finding = a.finding ∙ b.finding }
all-kept (a_function f ∷ ps) names = all-kept ps names
all-kept (an_include i ∷ ps) names = all-kept ps names

function-names : (s : ScriptTree) (ps : List Parameter) → with_parameters (names_of (heads_of s.parts) (globals_in s)) ps ≡ with_locals (all_names s.parts) (parameters_of [] ps)
function-names s ps =
    let same = parts-same s.parts (first_names s.parts) in
    let k = all-kept s.parts (first_names s.parts) in
    let f : heads_of s.parts ≡ (all_names s.parts).functions = sym k.functions ∙ ap (λ (m : Checked). m.functions) same in
    let g : globals_in s ≡ (all_names s.parts).globals = ap (λ (m : Checked). m.globals) same in
    let d : false ≡ (all_names s.parts).finding = sym k.finding ∙ ap (λ (m : Checked). m.finding) same in
    let l : declare_parameters [] ps ≡ parameters_of [] ps = parameters-same ps [] in
    λ i. record { functions = f i; globals = g i; locals = l i; finding = d i }

-- Scripts

module _ (ss : Settings) (args : List (List ℕ)) (s : ScriptTree) (typed : IsTypedWith s ss args) where
  abbrev U : CodeUnit
  U = unit_of ss args s

  abbrev source : Source
  source = source_of s U

  abbrev all_in : Checked
  all_in = names_of (heads_of s.parts) (globals_in s)

  abbrev sc : Scope
  sc = function_scope s.parts

  parts_written : ArePartsWritten s.parts × AreBodiesWritten s.parts
  parts_written = written ss args s typed.globals typed.script.program.parts typed.script.types

  seen : Agrees U all_in sc
  seen = function-seen ss args s typed.globals typed.script.program.parts typed.script.types

  callees : HasCallees source U all_in sc
  callees = record {
    number = λ x h n. let d = find s.parts x h sc 1 0 n in ap (λ q. unwrap_or q (length U.functions)) d.number ∙ sym (ap (λ q. unwrap_or q 0) d.number);
    takes = λ x h n. program-takes s.parts (all_names s.parts) x h n;
  }

  top_in_force : InForce source U (first_names s.parts) (first_spot s.parts).scope
  top_in_force = let a = in-force-of source U all_in sc seen callees in record { locals = λ x. refl; globals = refl; calls = a.calls }

  pub script-here : ScriptHere ss args s
  script-here = record {
    tops = tops-here source U s.parts (first_names s.parts) all_in [] (first_spot s.parts) top_in_force (record { high = refl; ordered = refl }) typed.script.program.parts typed.script.types.0.parts parts_written.0;
    functions = functions-here source U all_in sc seen callees (all_names s.parts) (function-names s) s.parts (first_names s.parts) [] typed.script.program.parts typed.script.types.0.parts parts_written.1;
    globals = typed.globals;
    lists = typed.lists;
    words = typed.few;
  }
