-- The unit of a script has the code of its program: that of each declared function, and that of the top level, at which the main thread begins.
use Rattle.std.proofs.Common.{◌≡◌, ℕ, suc, ◌+◌, Bool, true, false, not, List, [], ◌∷◌, ◌++◌, map, length, length-append, Option, Some, None, slice_get, refl, sym, ap, ◌∙◌, subst, arith, append_assoc, if◌then◌else◌, inr}
use Rattle.std.specs.Prelude.{unwrap_or, cond}
use Rattle.std.specs.Str.{bytes_eq}
use Rattle.std.proofs.lemmas.Option.{slice_get_past}
use Rattle.std.proofs.lemmas.Slice.Eq.{bytes_eq-Decides}
use Rattle.bds_value.specs.declared.value.At.{At}
use Rattle.bds_value.specs.declared.value.Ty.{Ty}
use Rattle.bds_value.specs.declared.value.Ty.TheVariants as ty
use Rattle.bds_value.specs.declared.value.Value.{Value}
use Rattle.bds_value.specs.Types.{is_void_at}
use Rattle.bds_value.specs.Value.{default_of}
use Rattle.bds_tree.specs.StmtTree.{PartTree, ScriptTree, a_function, an_include, a_statement}
use Rattle.bds_code.specs.declared.instr.Instr.TheVariants as instr
use Rattle.bds_code.specs.declared.unit.Function.{Function}
use Rattle.bds_code.specs.declared.unit.Unit.{Unit as CodeUnit}
use Rattle.bds_code_frames.specs.Stack.{call_at}
use Rattle.bds_check_typing.proofs.Written.{void-unknown}
use Rattle.bds_check_typing.specs.WellTypedScripts.{first_names}
use Rattle.bds_check_names.specs.declared.names.Names.{Names as Checked}
use Rattle.bds_check_names.specs.declared.names.Variable.{Variable}
use Rattle.bds_check_names.specs.Types.{is_known}
use Rattle.bds_check_size.specs.ScriptSize.{Settings, first_known, all_globals}
use Rattle.bds_gen_expr.specs.Marks.{Mark, does, count, one as one_mark}
use Rattle.bds_gen_expr.specs.Numbers.{first_callee, callees_from}
use Rattle.bds_gen_expr.specs.Scope.{function_number}
use Rattle.bds_gen_expr.specs.declared.scope.Scope.{Scope}
use Rattle.bds_gen_expr.proofs.Written.{ret-is}
use Rattle.bds_gen_stmt.specs.FunctionCode.{fresh, eight, ending, opening, function_of, block_par_functions}
use Rattle.bds_gen_stmt.proofs.Pars.{StandAt, stand-append, block-many}
use Rattle.bds_gen_stmt.specs.Spots.{Spot}
use Rattle.bds_gen_stmt.specs.StmtCode.{block_pars}
use Rattle.bds_gen_stmt.specs.UnitCode.{in_order, parameter_locals, function_names, function_scope, first_spot, first_par, top_pars, args_code, texts_code, top_code, top_function, top_functions, declared_functions, further_functions, unit_of}
use Rattle.bds_meaning.specs.Opening.{args_name, all_names, functions_of, function_of as definition_of, parts_term, source_term, source_code}
use Rattle.bds_meaning.specs.Step.{Function as Definition, function_in}
use Rattle.bds_meaning.specs.Term.{Constant, Declare}
use Rattle.bds_schedule.specs.Values.{of_texts}
use Rattle.bds_meaning.specs.Variables.{global}
use Rattle.bds_sim_terms.specs.steps.Law.{StandFor}
use Rattle.bds_sim_terms.specs.steps.Stands.{Source, position_of, values, names_of, results, Is, Comes, Gives, CodeOf, Codes}
use Rattle.bds_sim_code.specs.ScriptHere.{source_of, FunctionsHere, ScriptHere}
use Rattle.bds_sim_code.proofs.Agree.{turned, names_in}
use Rattle.bds_sim_code.proofs.Blocks.{comes_here}
use Rattle.bds_sim_code.proofs.Declarations.{code_of}
use Rattle.bds_sim_code.proofs.Entered.{has_written}
use Rattle.bds_sim_code.proofs.Given.{texts_row, given_begins}
use Rattle.bds_sim_code.proofs.Marked.{Has, has_both}
use Rattle.bds_sim_code.proofs.Parameters.{agrees_parameters}
use Rattle.bds_sim_code.proofs.StmtBlocks.{Run, done_run, then_begins, global_begins}
use Rattle.bds_sim_code.proofs.TopNames.{AtTop, names_append, same_globals, grows_parts}
use Rattle.bds_sim_code.proofs.Tops.{parts_begin}
use Rattle.bds_sim_code.proofs.UnitFunctions.{functions_stand}

-- Declared functions by their numbers

number_is : (m k : ℕ) → Some m ≡ Some k → m ≡ k
number_is m k e = cc

same_function : (f g : Function) → Some f ≡ Some g → f ≡ g
same_function f g e = cc

middle : (xs : List Function) (x : Function) (ys : List Function) → slice_get (xs ++ x ∷ ys) (length xs) ≡ Some x
middle [] x ys = refl
middle (y ∷ xs) x ys = middle xs x ys

module _ (o : Source) (u : CodeUnit) where
  -- the first function of a name is the one with its number
  chosen : (d : Definition) (ds : List Definition) (x : List ℕ) (m k : ℕ) (rest : Option ℕ) (f : Function) (b : Bool) → (if b then Some m else rest) ≡ Some k → (m ≡ k → CodeOf o u d k f) → (rest ≡ Some k → CodeOf o u (function_in ds x) k f)
      → CodeOf o u (if b then d else function_in ds x) k f
  chosen d ds x m k rest f true e own others = own (number_is m k e)
  chosen d ds x m k rest f false e own others = others e

  -- the code of a function that stands in the unit behind these
  stands_there : (d : Definition) (g f : Function) (front rest : List Function) (m k : ℕ) → u.functions ≡ front ++ g ∷ rest → length front ≡ m → (slice_get u.functions m ≡ Some g → CodeOf o u d m g) → m ≡ k → slice_get u.functions k ≡ Some f → CodeOf o u d k f
  stands_there d g f front rest m k e l code same there =
      let here : slice_get u.functions m ≡ Some g = ap (λ (fs : List Function). slice_get fs m) e ∙ ap (λ (i : ℕ). slice_get (front ++ g ∷ rest) i) (sym l) ∙ middle front g rest in
      let at : slice_get u.functions m ≡ Some f = ap (λ (i : ℕ). slice_get u.functions i) same ∙ there in
      subst (λ (i : ℕ). CodeOf o u d i f) same (subst (λ (h : Function). CodeOf o u d m h) (same_function g f (sym here ∙ at)) (code here))

  module _ (names : Checked) (sc : Scope) (globals : sc.globals ≡ in_order 0 names.globals) (numbers : o.globals ≡ names_in names.globals) (calls : (x : List ℕ) (f : Function) → slice_get u.functions (o.number x) ≡ Some f → function_number sc x ≡ o.number x) where
    functions_coded : (ps : List PartTree) (front rest : List Function) (m n : ℕ) → u.functions ≡ front ++ (declared_functions ps sc n ++ rest) → length front ≡ m → FunctionsHere o u ps names sc → StandAt u (further_functions ps sc n) n
        → (x : List ℕ) (k : ℕ) (f : Function) → first_callee x (callees_from m (function_names ps)) ≡ Some k → slice_get u.functions k ≡ Some f → CodeOf o u (function_in (functions_of names ps) x) k f
    functions_coded [] front rest m n e l asks owned x k f found there = absurd (cc)
    functions_coded (a_function g ∷ ps) front rest m n e l asks owned x k f found there =
        let own : Function = function_of g.name (parameter_locals g.parameters 0) g.result sc g.body n in
        let others : List Function = declared_functions ps sc (n + block_pars g.body) in
        let next : Option ℕ = first_callee x (callees_from (suc m) (function_names ps)) in
        let long = length-append front (own ∷ []) in
        let inside : Spot = opening sc (parameter_locals g.parameters 0) in
        let st = stand-append u (block_par_functions g.body inside n) (further_functions ps sc (n + block_pars g.body)) n (n + block_pars g.body) (ap (λ (k : ℕ). n + k) (block-many g.body inside n)) owned in
        let here : slice_get u.functions m ≡ Some own → CodeOf o u (definition_of names g) m own = λ at. code_of o u g names sc m n at (agrees_parameters o u names sc g.parameters asks.0.0 globals numbers calls) asks.0.1 st.0 in
        chosen (definition_of names g) (functions_of names ps) x m k next f (bytes_eq g.name x) (ap (λ (b : Bool). if b then Some m else next) (turned g.name x) ∙ found)
        (λ same. stands_there (definition_of names g) own f front (others ++ rest) m k e l here same there)
        (λ r. functions_coded ps (front ++ own ∷ []) rest (suc m) (n + block_pars g.body) (e ∙ sym (append_assoc front (own ∷ []) (others ++ rest))) (omega (arith, long, l)) asks.1 st.1 x k f r there)
    functions_coded (a_statement s ∷ ps) front rest m n e l asks owned x k f found there = functions_coded ps front rest m n e l asks owned x k f found there
    functions_coded (an_include i ∷ ps) front rest m n e l asks owned x k f found there = functions_coded ps front rest m n e l asks owned x k f found there

-- a name that no function has stands for none
no_function : (fs : List Function) (f : Function) → slice_get fs (length fs) ≡ Some f → ⊥
no_function fs f e = absurd (let none = slice_get_past fs (length fs) (omega arith) in cc)

same_number : (q : Option ℕ) (fs : List Function) (f : Function) → slice_get fs (unwrap_or q (length fs)) ≡ Some f → unwrap_or q 0 ≡ unwrap_or q (length fs)
same_number None fs f e = absurd (no_function fs f e)
same_number (Some k) fs f e = refl

-- The top level

void_none : 0 ≡ results ty.Void
void_none = sym (ap (λ (b : Bool). cond b 0 1) (ap is_void_at ty.outs-Void))

defaults_are : (gs : List Variable) → map default_of (map (λ (v : Variable). v.ty) gs) ≡ values (map (λ (v : Variable). (v.name, default_of v.ty)) gs)
defaults_are [] = refl
defaults_are (g ∷ gs) = ap (λ (vs : List Value). default_of g.ty ∷ vs) (defaults_are gs)

named_are : (gs : List Variable) → names_of (map (λ (v : Variable). (v.name, default_of v.ty)) gs) ≡ names_in gs
named_are [] = refl
named_are (g ∷ gs) = ap (λ (xs : List (List ℕ)). g.name ∷ xs) (named_are gs)

returns : (b : Bool) (o : Source) (u : CodeUnit) (at : At) (ret : Ty) (pc : ℕ) → b ≡ false → Has o u 0 (if not b then one_mark at instr.Return else does (instr.PushDefault ret) at ∷ does instr.Return at ∷ []) pc → Is o u 0 pc instr.Return
returns false o u at ret pc e h = h.0.is
returns true o u at ret pc e h = absurd (cc)

module _ (ss : Settings) (args : List (List ℕ)) (s : ScriptTree) (here : ScriptHere ss args s) where
  abbrev u : CodeUnit
  u = unit_of ss args s

  abbrev o : Source
  o = source_of s u

  abbrev names : Checked
  names = all_names s.parts

  calls : (x : List ℕ) (f : Function) → slice_get u.functions (o.number x) ≡ Some f → unwrap_or (first_callee x (callees_from 1 (function_names s.parts))) 0 ≡ o.number x
  calls x f there = same_number (first_callee x (callees_from 1 (function_names s.parts))) u.functions f there

  globals_same : all_globals s.parts ≡ names.globals
  globals_same = same_globals o u s.parts (first_names s.parts) first_known (first_spot s.parts) here.tops refl

  by_number : (x : List ℕ) (f : Function) (q : Option ℕ) → first_callee x (callees_from 1 (function_names s.parts)) ≡ q → slice_get u.functions (unwrap_or q (length u.functions)) ≡ Some f → CodeOf o u (function_in o.program x) (unwrap_or q (length u.functions)) f
  by_number x f None found there = absurd (no_function u.functions f there)
  by_number x f (Some k) found there =
      functions_coded o u names (function_scope s.parts) (ap (in_order 0) globals_same) refl calls s.parts (top_function ss args s ∷ [])
      (top_functions s.parts (first_spot s.parts) (first_par s.parts) ++ further_functions s.parts (function_scope s.parts) (first_par s.parts + top_pars s.parts)) 1 (first_par s.parts + top_pars s.parts) refl refl here.functions (functions_stand ss args s).1 x k f found there

  pub unit_codes : Codes o u
  unit_codes = record { code = λ x f there. by_number x f (first_callee x (callees_from 1 (function_names s.parts))) refl there }

  -- The code of the top level
  abbrev behind_args : List Mark
  behind_args = top_code ss s.parts (first_spot s.parts) (first_par s.parts) (length args + 2) ++ ending ty.Void s.at

  abbrev marks : List Mark
  marks = eight ++ (args_code s.at args ++ behind_args)

  abbrev from : Function
  from = fresh [] [] ty.Void

  whole : Has o u 0 (args_code s.at args ++ behind_args) 0
  whole = has_written o u 0 (top_function ss args s) refl marks from refl refl refl

  returns_none : (pc : ℕ) (is : Is o u 0 pc instr.Return) → 0 ≡ results is.f.ret
  returns_none pc is = void_none ∙ sym (ap (λ (f : Function). results f.ret) (same_function is.f (top_function ss args s) (sym is.there)) ∙ ap results (ret-is marks from))

  at_top : AtTop o u (first_names s.parts) (first_spot s.parts)
  at_top = record { high = refl; slots = refl; bare = refl; ordered = refl; calls = calls; room = omega arith }

  first_position : position_of o.globals args_name ≡ 0
  first_position =
      let grows = grows_parts s.parts (first_names s.parts) in
      ap (λ (l : List (List ℕ)). position_of l args_name) (ap names_in grows.is ∙ names_append (first_names s.parts).globals grows.more)
      ∙ ap (λ (b : Bool). if b then 0 else position_of (names_in grows.more) args_name + 1) ((bytes_eq-Decides args_name args_name).1 refl)

  abbrev n : ℕ
  n = length args

  abbrev parts_code : List Mark
  parts_code = top_code ss s.parts (first_spot s.parts) (first_par s.parts) (n + 2)

  -- the place of the last instruction, which returns
  abbrev last : ℕ
  last = n + 2 + count parts_code

  -- the list of the words, and the global that it goes to
  abbrev list_code : List Mark
  list_code = does (instr.MakeList ty.Text n) s.at ∷ does (instr.StoreGlobal 0) s.at ∷ []

  args_begin : Run o u 0 [] None [] (Declare global args_name (Constant (of_texts args))) 0 [] (n + 2)
  args_begin =
      let row = texts_row o u 0 s.at args (list_code ++ behind_args) 0 (subst (λ (ms : List Mark). Has o u 0 ms 0) (append_assoc (texts_code s.at args) list_code behind_args) whole) in
      let mid : ℕ = 0 + n in
      let gives : Gives o u 0 (of_texts args) 0 (mid + 1) = inr (args, (mid, refl, here.words, row.0, (row.1.0.is, refl))) in
      let stores = subst (λ (k : ℕ). Is o u 0 (mid + 1) (instr.StoreGlobal k)) (sym first_position) row.1.1.0.is in
      let e : mid + 1 + 1 ≡ n + 2 = omega arith in
      global_begins o u 0 [] None [] args_name (Constant (of_texts args)) 0 (mid + 1) (n + 2) (given_begins o u 0 [] [] (of_texts args) 0 (mid + 1) (mid + 1) gives (comes_here o u 0 (mid + 1))) stores
      (subst (λ (to : ℕ). Comes o u 0 (mid + 1 + 1) to) e (comes_here o u 0 (mid + 1 + 1)))

  behind_has : Has o u 0 parts_code (n + 2) × Has o u 0 (ending ty.Void s.at) last
  behind_has =
      let row = texts_row o u 0 s.at args (list_code ++ behind_args) 0 (subst (λ (ms : List Mark). Has o u 0 ms 0) (append_assoc (texts_code s.at args) list_code behind_args) whole) in
      let e : 0 + n + 1 + 1 ≡ n + 2 = omega arith in
      has_both o u 0 parts_code (ending ty.Void s.at) (n + 2) (subst (λ (pc : ℕ). Has o u 0 behind_args pc) e row.1.1.1)

  main_begins : Run o u 0 [] None [] (source_term ss args s) 0 [] last
  main_begins =
      let parts = parts_begin o u ss s.parts (first_names s.parts) (first_spot s.parts) (first_par s.parts) (n + 2) last at_top refl here.tops (functions_stand ss args s).0 here.globals here.lists behind_has.0 (comes_here o u 0 last) in
      then_begins o u 0 [] None [] [] [] (Declare global args_name (Constant (of_texts args))) (parts_term ss (first_names s.parts) s.parts) 0 (n + 2) last (done_run o u 0 [] None [] [] (Declare global args_name (Constant (of_texts args))) 0 (n + 2) args_begin) parts

  pub main_stands : (f : Function) → slice_get u.functions 0 ≡ Some f → StandFor o u (source_code ss args s) (map default_of u.globals) (call_at 0 (map default_of f.locals) ∷ [])
  main_stands f there =
      let is = returns (is_known ty.Void) o u s.at ty.Void last void-unknown behind_has.1 in
      record {
        globals_are = ap (λ (gs : List Variable). map default_of (map (λ (v : Variable). v.ty) gs)) globals_same ∙ defaults_are names.globals;
        calls = record {
          number = 0;
          names = [];
          f = f;
          there = there;
          exit = last;
          ends = inr (is, returns_none last is);
          stands = main_begins.at (source_code ss args s).variables (map default_of f.locals) [] [] [] (named_are names.globals) (record { holds = tt; keeps = tt; apart = tt });
        };
      }
