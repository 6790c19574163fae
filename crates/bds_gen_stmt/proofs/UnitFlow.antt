-- The unit of a well-typed script is verified.
use Rattle.std.proofs.Common.{◌≡◌, ◌+◌, ℕ, zero, suc, List, [], ◌∷◌, ◌++◌, length, length-append, slice_get, Option, Some, None, is_some, true, false, not, ◌&&◌, nat_lt, refl, sym, ◌∙◌, ap, subst, arith, append_assoc}
use Rattle.std.specs.List.{AllByRecursion}
use Rattle.std.specs.Option.{unwrap_or}
use Rattle.bds_value.specs.declared.TheConstants.{MAX_PARAMETERS}
use Rattle.bds_value.specs.declared.value.Ty.{Ty}
use Rattle.bds_value.specs.Fields.{is_solid}
use Rattle.bds_tree.specs.StmtTree.{FunctionTree, PartTree, ScriptTree, a_function, an_include, a_statement}
use Rattle.bds_code.specs.declared.unit.Function.{Function}
use Rattle.bds_code.specs.declared.unit.Unit.{Unit as CodeUnit}
use Rattle.bds_verify.specs.Verified.{VerifiedUnit}
use Rattle.bds_verify.specs.Whole.{is_whole, is_whole_unit}
use Rattle.bds_check_names.specs.declared.names.Names.{Names}
use Rattle.bds_check_names.specs.declared.names.Head.{Head}
use Rattle.bds_check_rules.specs.declared.rules.Rule.{Rule}
use Rattle.bds_check_rules.specs.declared.rules.Rule.TheVariants as rule
use Rattle.bds_check_names.specs.Scopes.{last_type, top, in_function, function_named}
use Rattle.bds_check_rules.specs.Pieces.{when as broken_if}
use Rattle.bds_check_names.specs.Slots.{block_slots, are_too_many}
use Rattle.bds_check_names.specs.Types.{is_known}
use Rattle.bds_check_rules.specs.Ends.{block_ends}
use Rattle.bds_check_typing.specs.Program.{heads_of, names_of, declare_parameters, with_parameters, any_twice, function_breaks, with_head}
use Rattle.bds_check_typing.specs.WellTypedScripts.{AreWellTypedParts, names_behind_part, first_names, globals_in}
use Rattle.bds_check_typing.specs.Known.{AreVariablesWritten, IsPartWritten, IsFullyTyped}
use Rattle.bds_check_typing.specs.WellTypedStmts.{names_behind}
use Rattle.bds_check_size.specs.ScriptSize.{Settings, all_globals, variables_from}
use Rattle.bds_check_typing.proofs.Written.{texts-written}
use Rattle.bds_gen_expr.specs.declared.scope.Numbered.{Numbered}
use Rattle.bds_gen_expr.specs.declared.scope.Scope.{Scope}
use Rattle.bds_gen_expr.specs.Numbers.{variables_of}
use Rattle.bds_gen_expr.specs.Scope.{function_number}
use Rattle.bds_gen_stmt.specs.Spots.{Spot}
use Rattle.bds_gen_stmt.specs.StmtCode.{behind, pars, block_pars}
use Rattle.bds_gen_stmt.specs.FunctionCode.{opening, par_functions, block_par_functions}
use Rattle.bds_gen_stmt.specs.UnitCode.{first_spot, behind_parts, declared_functions, further_functions, top_functions, top_pars, parameter_locals, function_names, first_par, function_scope, in_order, top_function, unit_of}
use Rattle.bds_check_typing.specs.GivenValues.{FitGlobals}
use Rattle.bds_gen_flow.proofs.ExprParts.{when-none}
use Rattle.bds_check_typing.specs.Proper.{IsProperPart}
use Rattle.bds_gen_stmt.proofs.Matched.{AreGlobals, Agrees, Matches}
use Rattle.bds_gen_stmt.proofs.Parameters.{numbered-variables, declared-all, nothing-apart, parameters-written}
use Rattle.bds_gen_stmt.proofs.Pars.{StandAt, stand-append, many, block-many}
use Rattle.bds_gen_stmt.proofs.ParsFlow.{VerifiedIfWhole, AllVerified, all-append, opening-matches, stmt-pars, block-pars}
use Rattle.bds_gen_stmt.proofs.FunctionFlow.{function-verified}
use Rattle.bds_gen_stmt.proofs.Callees.{AreBodiesWritten, find, heads-known}
use Rattle.bds_gen_stmt.proofs.TopNames.{parts-top, globals-typed}
use Rattle.bds_gen_stmt.proofs.TopFlow.{ArePartsWritten, parts-globals, front-globals, top-behind, parts-behind, top-verified, tasks_there as top_tasks}

get-front : {A : Type 0} (xs ys : List A) (k : ℕ) (x : A) → slice_get xs k ≡ Some x → slice_get (xs ++ ys) k ≡ Some x
get-front [] ys k x e = absurd (cc)
get-front (y ∷ xs) ys zero x e = e
get-front (y ∷ xs) ys (suc k) x e = get-front xs ys k x e

stand-self : (u : CodeUnit) (gs fs : List Function) (n : ℕ) → u.functions ≡ gs ++ fs → length gs ≡ n → StandAt u fs n
stand-self u gs [] n e l = tt
stand-self u gs (f ∷ fs) n e l =
    let long = length-append gs (f ∷ []) in
    (ap (λ xs. slice_get xs n) e ∙ at gs n l, stand-self u (gs ++ f ∷ []) fs (suc n) (e ∙ sym (append_assoc gs (f ∷ []) fs)) (omega (arith, long, l)))
  where
    at : (gs : List Function) (n : ℕ) → length gs ≡ n → slice_get (gs ++ f ∷ fs) n ≡ Some f
    at [] n l = subst (λ k. slice_get (f ∷ fs) k ≡ Some f) l refl
    at (g ∷ gs) n l = subst (λ k. slice_get (g ∷ gs ++ f ∷ fs) k ≡ Some f) l (at gs (length gs) refl)

declared-many : (ps : List PartTree) (sc : Scope) (n : ℕ) → length (declared_functions ps sc n) ≡ length (function_names ps)
declared-many [] sc n = refl
declared-many (a_function f ∷ ps) sc n = let e = declared-many ps sc (n + block_pars f.body) in omega (arith, e)
declared-many (a_statement s ∷ ps) sc n = declared-many ps sc n
declared-many (an_include i ∷ ps) sc n = declared-many ps sc n

top-many : (ps : List PartTree) (sp : Spot) (n : ℕ) → length (top_functions ps sp n) ≡ top_pars ps
top-many [] sp n = refl
top-many (a_statement s ∷ ps) sp n =
    let a = length-append (par_functions s sp n) (top_functions ps (behind s sp) (n + pars s)) in let b = many s sp n in let c = top-many ps (behind s sp) (n + pars s) in omega (arith, a, b, c)
top-many (a_function f ∷ ps) sp n = let c = top-many ps sp n in omega (arith, c)
top-many (an_include i ∷ ps) sp n = let c = top-many ps sp n in omega (arith, c)

-- Declared functions

some-ty : (a b : Ty) → Some a ≡ Some b → a ≡ b
some-ty a b e = cc

some-function : (x y : Function) → Some x ≡ Some y → x ≡ y
some-function x y e = cc

-- no parameter is declared twice
pub once : (f : FunctionTree) (before : List Head) → function_breaks before f ≡ None → any_twice f.parameters ≡ false
once f before q = (when-none (any_twice f.parameters) rule.TwiceDeclared others q).0
  where
    others : Option Rule
    others =
        broken_if (is_some (function_named f.name before)) rule.TwiceFunction
        (broken_if (is_known f.result && not (block_ends f.body)) rule.NoReturn
        (broken_if (nat_lt MAX_PARAMETERS (length f.parameters)) rule.TooManyParameters
        (broken_if (are_too_many (length f.parameters + block_slots f.body)) rule.TooManyLocals None)))

module _ (u : CodeUnit) (sc : Scope) (all : Names) (seen : Agrees u all sc) where
  abbrev locals_of : FunctionTree → List Numbered
  locals_of f = parameter_locals f.parameters 0

  pub function-agrees : (f : FunctionTree) (before : List Head) → function_breaks before f ≡ None → AllByRecursion (λ p. is_solid p.ty ≡ true) f.parameters → Agrees u (with_parameters all f.parameters) (opening sc (locals_of f)).scope
  function-agrees f before b pw =
      let locals_are : declare_parameters [] f.parameters ≡ variables_from f.parameters = declared-all f.parameters [] (nothing-apart f.parameters) (once f before b) in
      record {
        locals = λ x. ap (λ vs. last_type x vs None) (locals_are ∙ sym (numbered-variables f.parameters 0 0));
        globals = seen.globals;
        typed_globals = seen.typed_globals;
        locals_written = subst AreVariablesWritten (sym (numbered-variables f.parameters 0 0)) (parameters-written f.parameters pw);
        globals_written = seen.globals_written;
        calls = seen.calls;
        parameters = seen.parameters;
      }

  split : (f : FunctionTree) (ps : List PartTree) (n : ℕ) → StandAt u (block_par_functions f.body (opening sc (locals_of f)) n ++ further_functions ps sc (n + block_pars f.body)) n
      → StandAt u (block_par_functions f.body (opening sc (locals_of f)) n) n × StandAt u (further_functions ps sc (n + block_pars f.body)) (n + block_pars f.body)
  split f ps n st = stand-append u (block_par_functions f.body (opening sc (locals_of f)) n) (further_functions ps sc (n + block_pars f.body)) n (n + block_pars f.body) (ap (λ k. n + k) (block-many f.body (opening sc (locals_of f)) n)) st

  declared-verified : (ps : List PartTree) (before : List Head) (names : Names) (n : ℕ) → AllByRecursion (IsProperPart (length u.files)) ps → AreWellTypedParts ps all before names → AreBodiesWritten ps → StandAt u (further_functions ps sc n) n → AllVerified u (declared_functions ps sc n)
  declared-verified [] before names n h w k st = tt
  declared-verified (a_function f ∷ ps) before names n h w k st =
      let a = function-agrees f before w.0.1 k.0 in
      let both = split f ps n st in
      let m = opening-matches u f.name (locals_of f) f.result sc f.body n (with_parameters all f.parameters) (in_function f.result) a refl (λ t e. some-ty f.result t e) in (
        λ whole. function-verified u f.name (locals_of f) f.result sc f.body n (with_parameters all f.parameters) (in_function f.result) m refl refl h.0.4 w.0.0 k.1 both.0 whole,
        declared-verified ps (with_head before (a_function f)) names (n + block_pars f.body) h.1 w.1 k.2 both.1,
      )
  declared-verified (a_statement s ∷ ps) before names n h w k st = declared-verified ps (with_head before (a_statement s)) (names_behind_part (a_statement s) names) n h.1 w.1 k st
  declared-verified (an_include i ∷ ps) before names n h w k st = declared-verified ps (with_head before (an_include i)) names n h.1 w.1 k st

  -- the functions of the `par` blocks in them
  further-verified : (ps : List PartTree) (before : List Head) (names : Names) (n : ℕ) → AllByRecursion (IsProperPart (length u.files)) ps → AreWellTypedParts ps all before names → AreBodiesWritten ps → StandAt u (further_functions ps sc n) n → AllVerified u (further_functions ps sc n)
  further-verified [] before names n h w k st = tt
  further-verified (a_function f ∷ ps) before names n h w k st =
      let a = function-agrees f before w.0.1 k.0 in
      let both = split f ps n st in
      all-append u (block_par_functions f.body (opening sc (locals_of f)) n) (further_functions ps sc (n + block_pars f.body))
      (block-pars u f.body (opening sc (locals_of f)) (with_parameters all f.parameters) (in_function f.result) n a refl refl h.0.4 w.0.0 k.1 both.0)
      (further-verified ps (with_head before (a_function f)) names (n + block_pars f.body) h.1 w.1 k.2 both.1)
  further-verified (a_statement s ∷ ps) before names n h w k st = further-verified ps (with_head before (a_statement s)) (names_behind_part (a_statement s) names) n h.1 w.1 k st
  further-verified (an_include i ∷ ps) before names n h w k st = further-verified ps (with_head before (an_include i)) names n h.1 w.1 k st

-- those at the top level
module _ (u : CodeUnit) (F : Function) (all : Names) where
  tops-verified : (ps : List PartTree) (sp : Spot) (names : Names) (before : List Head) (n : ℕ) → Matches u F names top sp → AllByRecursion (IsProperPart (length u.files)) ps → AreGlobals u (behind_parts ps sp).scope.globals → AreWellTypedParts ps all before names → ArePartsWritten ps → StandAt u (top_functions ps sp n) n
      → AllVerified u (top_functions ps sp n)
  tops-verified [] sp names before n m h g w k st = tt
  tops-verified (a_statement s ∷ ps) sp names before n m h g w k st =
      let sp2 : Spot = behind s sp in
      let grown = parts-globals ps sp2 in
      let g1 : AreGlobals u sp2.scope.globals = front-globals u sp2.scope.globals grown.0 (subst (AreGlobals u) grown.1 g) in
      let both = stand-append u (par_functions s sp n) (top_functions ps sp2 (n + pars s)) n (n + pars s) (ap (λ k. n + k) (many s sp n)) st in
      all-append u (par_functions s sp n) (top_functions ps sp2 (n + pars s)) (stmt-pars u s sp names top n m.agrees h.0 w.0 k.0 both.0)
      (tops-verified ps sp2 (names_behind s names top) (with_head before (a_statement s)) (n + pars s) (top-behind u F s names sp m m.top g1 w.0 k.0) h.1 g w.1 k.1 both.1)
  tops-verified (a_function f ∷ ps) sp names before n m h g w k st = tops-verified ps sp names (with_head before (a_function f)) n m h.1 g w.1 k st
  tops-verified (an_include i ∷ ps) sp names before n m h g w k st = tops-verified ps sp names (with_head before (an_include i)) n m h.1 g w.1 k st

-- The unit

pub parts-written : (ps : List PartTree) → AllByRecursion IsPartWritten ps → ArePartsWritten ps × AreBodiesWritten ps
parts-written [] h = (tt, tt)
parts-written (a_statement s ∷ ps) h = let r = parts-written ps h.1 in ((h.0, r.0), r.1)
parts-written (a_function f ∷ ps) h = let r = parts-written ps h.1 in (r.0, (h.0.0, h.0.2, r.1))
parts-written (an_include i ∷ ps) h = let r = parts-written ps h.1 in (r.0, r.1)

at-place : (P : Function → Type 0) (fs : List Function) (n : ℕ) (f : Function) → AllByRecursion P fs → slice_get fs n ≡ Some f → P f
at-place P [] n f h e = absurd (cc)
at-place P (g ∷ fs) zero f h e = subst P (some-function g f e) h.0
at-place P (g ∷ fs) (suc n) f h e = at-place P fs n f h.1 e

module _ (ss : Settings) (args : List (List ℕ)) (s : ScriptTree) where
  abbrev U : CodeUnit
  U = unit_of ss args s

  abbrev sc : Scope
  sc = function_scope s.parts

  abbrev names : Names
  names = first_names s.parts

  abbrev all : Names
  all = names_of (heads_of s.parts) (globals_in s)

  abbrev sp : Spot
  sp = first_spot s.parts

  abbrev p1 : ℕ
  p1 = first_par s.parts

  abbrev n1 : ℕ
  n1 = p1 + top_pars s.parts

  abbrev T : Function
  T = top_function ss args s

  module _ (fits : FitGlobals ss s.parts) (proper : AllByRecursion (IsProperPart (length s.files)) s.parts) (typed : IsFullyTyped s) where
    pub written : ArePartsWritten s.parts × AreBodiesWritten s.parts
    written = parts-written s.parts typed.2

    all-stand : StandAt U (top_functions s.parts sp p1 ++ further_functions s.parts sc n1) p1
    all-stand =
        let e = declared-many s.parts sc n1 in
        stand-self U (T ∷ declared_functions s.parts sc n1) (top_functions s.parts sp p1 ++ further_functions s.parts sc n1) p1 refl (omega (arith, e))

    both-stand : StandAt U (top_functions s.parts sp p1) p1 × StandAt U (further_functions s.parts sc n1) n1
    both-stand = stand-append U (top_functions s.parts sp p1) (further_functions s.parts sc n1) p1 n1 (ap (λ k. p1 + k) (top-many s.parts sp p1)) all-stand

    globals-there : AreGlobals U sc.globals
    globals-there = globals-typed U [] (all_globals s.parts) 0 refl refl

    behind-globals : (behind_parts s.parts sp).scope.globals ≡ sc.globals
    behind-globals =
        let r = parts-top s.parts sp (record { high = refl; ordered = refl }) in
        r.0.ordered ∙ ap (λ k. in_order 0 k.globals) r.1

    pub tops-there : AreGlobals U (behind_parts s.parts sp).scope.globals
    tops-there = subst (AreGlobals U) (sym behind-globals) globals-there

    calls-there : (x : List ℕ) (h : Head) → function_named x (heads_of s.parts) ≡ Some h → (g : Function) × (slice_get U.functions (function_number sc x) ≡ Some g) × (g.params ≡ h.parameters) × (g.ret ≡ h.result)
    calls-there x h e =
        let d = find s.parts x h sc 1 n1 e in
        let place : function_number sc x ≡ suc d.index = ap (λ o. unwrap_or o 0) d.number ∙ omega arith in
        (d.function, ap (slice_get U.functions) place ∙ get-front (declared_functions s.parts sc n1) (top_functions s.parts sp p1 ++ further_functions s.parts sc n1) d.index d.function d.there, d.params, d.ret)

    first-globals : AreGlobals U sp.scope.globals
    first-globals = let grown = parts-globals s.parts sp in front-globals U sp.scope.globals grown.0 (subst (AreGlobals U) grown.1 tops-there)

    first-agrees : Agrees U names sp.scope
    first-agrees = record {
      locals = λ x. refl;
      globals = refl;
      typed_globals = first-globals;
      locals_written = tt;
      globals_written = (texts-written, tt);
      calls = calls-there;
      parameters = λ x h e. heads-known s.parts x h written.1 e;
    }

    pub top-matches : Matches U T names top sp
    top-matches = record { agrees = first-agrees; slots = tt; top = refl; returns = λ t e. absurd (cc); tasks = top_tasks U ss args s.at s.parts sp p1 }

    same-globals : globals_in s ≡ variables_of sc.globals
    same-globals = (parts-behind U T s.parts sp names all [] top-matches tops-there typed.0.parts written.0).agrees.globals ∙ ap variables_of behind-globals

    pub function-seen : Agrees U all sc
    function-seen = record {
      locals = λ x. refl;
      globals = same-globals;
      typed_globals = globals-there;
      locals_written = tt;
      globals_written = typed.1;
      calls = calls-there;
      parameters = λ x h e. heads-known s.parts x h written.1 e;
    }

    functions-verified : AllVerified U U.functions
    functions-verified = (
      λ whole. top-verified U ss args s.at s.parts sp p1 names all top-matches refl first-globals.0 fits proper tops-there typed.0.parts written.0 both-stand.0 whole,
      all-append U (declared_functions s.parts sc n1) (top_functions s.parts sp p1 ++ further_functions s.parts sc n1)
          (declared-verified U sc all function-seen s.parts [] names n1 proper typed.0.parts written.1 both-stand.1)
          (all-append U (top_functions s.parts sp p1) (further_functions s.parts sc n1) (tops-verified U T all s.parts sp names [] p1 top-matches proper tops-there typed.0.parts written.0 both-stand.0)
          (further-verified U sc all function-seen s.parts [] names n1 proper typed.0.parts written.1 both-stand.1)),
    )

    -- where the unit is whole
    pub unit-verified : is_whole_unit U ≡ true → AllByRecursion (λ f. is_whole U f ≡ true) U.functions → VerifiedUnit U
    unit-verified unit whole = record {
      whole = unit;
      functions = λ n f e. at-place (VerifiedIfWhole U) U.functions n f functions-verified e (at-place (λ f. is_whole U f ≡ true) U.functions n f whole e);
    }
