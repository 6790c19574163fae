-- The unit of a program is whole, where it isn't too large; so it is verified.
use Rattle.std.proofs.Common.{◌≡◌, ◌≤◌, ◌<◌, ◌+◌, ◌&&◌, ◌||◌, ℕ, suc, List, [], ◌∷◌, ◌++◌, length, length-append, map, Option, Some, None, is_some, Bool, true, false, not, refl, sym, ◌∙◌, ap, subst, arith, rules, nat_eq, nat_lt, if◌then◌else◌}
use Rattle.std.specs.Prelude.{nat_le}
use Rattle.std.specs.List.{AllByRecursion, list_all}
use Rattle.std.proofs.lemmas.Grind.{common_steps}
use Rattle.bds_value.specs.declared.TheConstants.{MAX_COUNT, MAX_TEXT, MAX_CODE, MAX_GLOBALS, MAX_PARAMETERS}
use Rattle.bds_value.specs.declared.value.Ty.{Ty}
use Rattle.bds_value.specs.declared.value.Ty.TheVariants as ty
use Rattle.bds_value.specs.Fields.{is_solid}
use Rattle.bds_value.specs.Types.{is_void, is_void_at}
use Rattle.bds_tree.specs.declared.stmt.Parameter.{Parameter}
use Rattle.bds_tree.specs.StmtTree.{StmtTree, FunctionTree, PartTree, ScriptTree, stmt, line, declare, infer, a_function, an_include, a_statement}
use Rattle.bds_code.specs.declared.unit.Function.{Function}
use Rattle.bds_code.specs.declared.unit.Unit.{Unit as CodeUnit}
use Rattle.bds_verify.specs.Verified.{VerifiedUnit}
use Rattle.bds_verify.specs.Whole.{is_value_ty, are_value_tys, is_text, is_heading, is_code, are_labels, are_lines, is_whole, is_whole_unit, begins, is_whole_instr}
use Rattle.bds_check_names.specs.declared.names.Names.{Names}
use Rattle.bds_check_names.specs.declared.names.Head.{Head}
use Rattle.bds_check_names.specs.declared.names.Variable.{Variable}
use Rattle.bds_check_names.specs.declared.names.Asked.TheVariants.{Value}
use Rattle.bds_check_names.specs.Scopes.{top, in_function, function_named}
use Rattle.bds_check_names.specs.Slots.{visible, block_slots, are_too_many, parts_slots, parts_globals}
use Rattle.bds_check_names.specs.Types.{is_known}
use Rattle.bds_check_rules.specs.declared.rules.Rule.{Rule}
use Rattle.bds_check_rules.specs.declared.rules.Rule.TheVariants as rule
use Rattle.bds_check_rules.specs.Ends.{block_ends}
use Rattle.bds_check_rules.specs.Pieces.{when as broken_if}
use Rattle.bds_check_rules.specs.StmtBreaks.{right_type}
use Rattle.bds_check_typing.specs.Program.{heads_of, names_of, with_parameters, any_twice, function_breaks, with_head, has_too_many}
use Rattle.bds_check_typing.specs.Proper.{IsProperStmt, IsProperPart, IsProperParameter, IsWrittenResult, IsProgram}
use Rattle.bds_check_typing.specs.Texts.{IsShort, AreShortTexts}
use Rattle.bds_check_typing.specs.GivenValues.{FitGlobals}
use Rattle.bds_check_typing.proofs.Written.{void-unknown}
use Rattle.bds_check_typing.specs.WellTypedScripts.{AreWellTypedParts, names_behind_part, first_names, globals_in}
use Rattle.bds_check_typing.specs.Known.{IsStmtWritten, IsFullyTyped}
use Rattle.bds_check_typing.specs.WellTypedStmts.{IsWellTypedStmt, names_behind}
use Rattle.bds_check_size.specs.Known.{Known}
use Rattle.bds_check_size.specs.ScriptSize.{Settings, behind_top, behind_parts as known_behind_parts, first_known, all_globals, program_size}
use Rattle.bds_gen_expr.specs.Marks.{Mark, count}
use Rattle.bds_gen_expr.specs.declared.scope.Numbered.{Numbered}
use Rattle.bds_gen_expr.specs.declared.scope.Scope.{Scope}
use Rattle.bds_gen_expr.specs.Numbers.{variables_of}
use Rattle.bds_gen_expr.specs.Scope.{with_one_global}
use Rattle.bds_gen_expr.proofs.Written.{ret-is, params-is}
use Rattle.bds_gen_flow.proofs.ExprParts.{when-none, or-none}
use Rattle.bds_gen_flow.proofs.RowEffects.{not_void}
use Rattle.bds_gen_stmt.specs.Spots.{Spot, declared_local}
use Rattle.bds_gen_stmt.specs.StmtCode.{behind, pars, block_pars}
use Rattle.bds_gen_stmt.specs.FunctionCode.{fresh, eight, ending, opening, types_of, par_functions, block_par_functions}
use Rattle.bds_gen_stmt.specs.UnitCode.{first_spot, behind_parts, declared_functions, further_functions, top_functions, top_pars, parameter_locals, first_par, function_scope, top_code, args_code, top_function, unit_of}
use Rattle.bds_gen_stmt.specs.Sizes.{codes_size}
use Rattle.bds_gen_stmt.proofs.StmtCounts.{slot_counts}
use Rattle.bds_gen_stmt.proofs.Matched.{AreGlobals, Agrees, Matches}
use Rattle.bds_gen_stmt.proofs.Parameters.{numbered-variables, declared-all, nothing-apart}
use Rattle.bds_gen_stmt.proofs.Callees.{AreBodiesWritten}
use Rattle.bds_gen_stmt.proofs.ParSizes.{program-size}
use Rattle.bds_gen_stmt.proofs.TopFlow.{ArePartsWritten, parts-globals, front-globals, top-behind, args-slots}
use Rattle.bds_gen_stmt.proofs.UnitFlow.{once, function-agrees, written, function-seen, top-matches, tops-there, unit-verified}
use Rattle.bds_gen_stmt.proofs.Wholes.{AreValueTys, AreWhole, whole-then, within, both-true, written-value, texts-value}
use Rattle.bds_gen_stmt.proofs.Written.{all-true, value-tys, EndsDoing}
use Rattle.bds_gen_stmt.proofs.ActWhole.{right-value}
use Rattle.bds_gen_stmt.proofs.FunctionWhole.{IsWholeIfSmall, result-value, ends-any, ending-ends, ending-whole, eight-whole, eight-slots, ending-slots, room, marks-whole, function-whole}
use Rattle.bds_gen_stmt.proofs.ParsWhole.{Good, AllWhole, all-whole, types-renumbered, types-many, void-here, stmt-pars-whole, block-pars-whole}
use Rattle.bds_gen_stmt.proofs.TopWhole.{top-slots, top-whole, args-count, args-whole}

-- Globals

grown : (vs : List Variable) (v : Variable) → AreValueTys (map (λ v. v.ty) vs) → is_value_ty v.ty ≡ true → AreValueTys (map (λ v. v.ty) (vs ++ v ∷ []))
grown [] v h k = (k, tt)
grown (w ∷ vs) v h k = (h.0, grown vs v h.1 k)

module _ (files : ℕ) where
  top-values : (s : StmtTree) (names : Names) (k : Known) → AreValueTys (map (λ v. v.ty) k.globals) → IsProperStmt files s → IsWellTypedStmt s names top → IsStmtWritten s → AreValueTys (map (λ v. v.ty) (behind_top s k).globals)
  top-values (stmt at (line (declare t x r))) names k h pr w c = grown k.globals (record { name = x; ty = t }) h (written-value t pr.1.0.0 pr.1.0.1)
  top-values (stmt at (line (infer x r))) names k h pr w c = grown k.globals (record { name = x; ty = right_type r }) h (right-value r names Value w.0 c)
  top-values (stmt at (line _)) names k h pr w c = h
  top-values (stmt at _) names k h pr w c = h

  globals-values : (ps : List PartTree) (names all : Names) (before : List Head) (k : Known) → AreValueTys (map (λ v. v.ty) k.globals) → AllByRecursion (IsProperPart files) ps → AreWellTypedParts ps all before names → ArePartsWritten ps → AreValueTys (map (λ v. v.ty) (known_behind_parts ps k).globals)
  globals-values [] names all before k h pr w c = h
  globals-values (a_statement s ∷ ps) names all before k h pr w c = globals-values ps (names_behind s names top) all (with_head before (a_statement s)) (behind_top s k) (top-values s names k h pr.0 w.0 c.0) pr.1 w.1 c.1
  globals-values (a_function f ∷ ps) names all before k h pr w c = globals-values ps names all (with_head before (a_function f)) k h pr.1 w.1 c
  globals-values (an_include i ∷ ps) names all before k h pr w c = absurd (pr.0)

top-many : (s : StmtTree) (k : Known) → length (behind_top s k).globals ≡ length k.globals + parts_globals (a_statement s ∷ [])
top-many (stmt at (line (declare t x r))) k = length-append k.globals (record { name = x; ty = t } ∷ [])
top-many (stmt at (line (infer x r))) k = length-append k.globals (record { name = x; ty = right_type r } ∷ [])
top-many (stmt at (line _)) k = omega arith
top-many (stmt at _) k = omega arith

globals-many : (ps : List PartTree) (k : Known) → length (known_behind_parts ps k).globals ≡ length k.globals + parts_globals ps
globals-many [] k = omega arith
globals-many (a_statement s ∷ ps) k = let a = top-many s k in let b = globals-many ps (behind_top s k) in omega (arith, a, b)
globals-many (a_function f ∷ ps) k = globals-many ps k
globals-many (an_include i ∷ ps) k = globals-many ps k

types-as-many : (vs : List Variable) → length (map (λ v. v.ty) vs) ≡ length vs
types-as-many [] = refl
types-as-many (v ∷ vs) = let e = types-as-many vs in omega (arith, e)

not-less : (a b : ℕ) → nat_lt a b ≡ false → b ≤ a
not-less a b h = grind (arith, common_steps)

less : (a b : ℕ) → nat_lt a b ≡ true → a < b
less a b h = grind (arith, common_steps)

and-left : (a b : Bool) → (a && b) ≡ true → a ≡ true
and-left true b h = refl
and-left false b h = absurd (search (rules, h))

and-right : (a b : Bool) → (a && b) ≡ true → b ≡ true
and-right true b h = h
and-right false b h = absurd (search (rules, h))

-- Parameters

parameter-values : (ps : List Parameter) (n : ℕ) → AllByRecursion IsProperParameter ps → AreValueTys (types_of (parameter_locals ps n))
parameter-values [] n h = tt
parameter-values (p ∷ ps) n h = (written-value p.ty h.0.0.0 h.0.0.1, parameter-values ps (suc n) h.1)

parameter-many : (ps : List Parameter) (n : ℕ) → length (parameter_locals ps n) ≡ length ps
parameter-many [] n = refl
parameter-many (p ∷ ps) n = let e = parameter-many ps (suc n) in omega (arith, e)

-- the locals of a function aren't too many
few-locals : (f : FunctionTree) (before : List Head) → function_breaks before f ≡ None → are_too_many (length f.parameters + block_slots f.body) ≡ false
few-locals f before q =
    let fifth : Option Rule = broken_if (are_too_many (length f.parameters + block_slots f.body)) rule.TooManyLocals None in
    let fourth : Option Rule = broken_if (nat_lt MAX_PARAMETERS (length f.parameters)) rule.TooManyParameters fifth in
    let third : Option Rule = broken_if (is_known f.result && not (block_ends f.body)) rule.NoReturn fourth in
    let second : Option Rule = broken_if (is_some (function_named f.name before)) rule.TwiceFunction third in
    let r1 = when-none (any_twice f.parameters) rule.TwiceDeclared second q in
    let r2 = when-none (is_some (function_named f.name before)) rule.TwiceFunction third r1.1 in
    let r3 = when-none (is_known f.result && not (block_ends f.body)) rule.NoReturn fourth r2.1 in
    let r4 = when-none (nat_lt MAX_PARAMETERS (length f.parameters)) rule.TooManyParameters fifth r3.1 in
    (when-none (are_too_many (length f.parameters + block_slots f.body)) rule.TooManyLocals None r4.1).0

known-value : (t : Ty) → IsWrittenResult t → is_known t ≡ true → is_value_ty t ≡ true
known-value t h k = written-value t (ap (λ b. b || is_solid t) (sym (not_void t k)) ∙ h.0) h.1

-- Functions

module _ (u : CodeUnit) (sc : Scope) (all : Names) (seen : Agrees u all sc) where
  abbrev files : ℕ
  files = length u.files

  declared-whole : (ps : List PartTree) (before : List Head) (names : Names) (n : ℕ) → AllByRecursion (IsProperPart files) ps → AreWellTypedParts ps all before names → AreBodiesWritten ps → AllWhole u (declared_functions ps sc n)
  declared-whole [] before names n pr w k = tt
  declared-whole (a_function f ∷ ps) before names n pr w k =
      let ls : List Numbered = parameter_locals f.parameters 0 in
      let many = parameter-many f.parameters 0 in
      let types = types-many ls in
      let rule : are_too_many (length ls + block_slots f.body) ≡ false = subst (λ m. are_too_many (m + block_slots f.body) ≡ false) (sym many) (few-locals f before w.0.1) in
      let most = room u (length ls + block_slots f.body) rule in (
        function-whole u f.name ls f.result sc f.body n (with_parameters all f.parameters) (in_function f.result) pr.0.2 (parameter-values f.parameters 0 pr.0.3) (omega (arith, types, most)) (result-value f.result pr.0.1)
            (λ e. known-value f.result pr.0.1 e) rule pr.0.4 w.0.0 k.1,
        declared-whole ps (with_head before (a_function f)) names (n + block_pars f.body) pr.1 w.1 k.2,
      )
  declared-whole (a_statement s ∷ ps) before names n pr w k = declared-whole ps (with_head before (a_statement s)) (names_behind_part (a_statement s) names) n pr.1 w.1 k
  declared-whole (an_include i ∷ ps) before names n pr w k = absurd (pr.0)

  function-good : (f : FunctionTree) (before : List Head) → function_breaks before f ≡ None → AllByRecursion (λ p. is_solid p.ty ≡ true) f.parameters → AllByRecursion IsProperParameter f.parameters → Good u (with_parameters all f.parameters) (opening sc (parameter_locals f.parameters 0)).scope
  function-good f before b pw pp = record {
    agrees = function-agrees u sc all seen f before b pw;
    alike = ap visible (declared-all f.parameters [] (nothing-apart f.parameters) (once f before b) ∙ sym (numbered-variables f.parameters 0 0));
    values = subst AreValueTys (sym (types-renumbered (parameter_locals f.parameters 0) 0)) (parameter-values f.parameters 0 pp);
  }

  further-whole : (ps : List PartTree) (before : List Head) (names : Names) (n : ℕ) → AllByRecursion (IsProperPart files) ps → AreWellTypedParts ps all before names → AreBodiesWritten ps → AllWhole u (further_functions ps sc n)
  further-whole [] before names n pr w k = tt
  further-whole (a_function f ∷ ps) before names n pr w k =
      all-whole u (block_par_functions f.body (opening sc (parameter_locals f.parameters 0)) n) (further_functions ps sc (n + block_pars f.body))
      (block-pars-whole u f.body (opening sc (parameter_locals f.parameters 0)) (with_parameters all f.parameters) (in_function f.result) n (function-good f before w.0.1 k.0 pr.0.3) refl refl pr.0.4 w.0.0 k.1)
      (further-whole ps (with_head before (a_function f)) names (n + block_pars f.body) pr.1 w.1 k.2)
  further-whole (a_statement s ∷ ps) before names n pr w k = further-whole ps (with_head before (a_statement s)) (names_behind_part (a_statement s) names) n pr.1 w.1 k
  further-whole (an_include i ∷ ps) before names n pr w k = absurd (pr.0)

-- The functions of `par` blocks at the top level

module _ (u : CodeUnit) (F : Function) (all : Names) where
  -- no locals are in force there
  record NoLocals (names : Names) (sp : Spot) : Type 0 where
    named : names.locals ≡ []
    kept : sp.scope.locals ≡ []

  kept-locals : (b : Bool) (sp : Spot) (x : List ℕ) (t : Ty) → b ≡ true → (if b then record sp { scope = with_one_global sp.scope x t (length sp.scope.globals) } else declared_local sp x t).scope.locals ≡ sp.scope.locals
  kept-locals true sp x t e = refl
  kept-locals false sp x t e = absurd (cc)

  no-locals : (s : StmtTree) (names : Names) (sp : Spot) → sp.at_top ≡ true → NoLocals names sp → NoLocals (names_behind s names top) (behind s sp)
  no-locals (stmt at (line (declare t x r))) names sp e h = record { named = h.named; kept = kept-locals sp.at_top sp x t e ∙ h.kept }
  no-locals (stmt at (line (infer x r))) names sp e h = record { named = h.named; kept = kept-locals sp.at_top sp x (right_type r) e ∙ h.kept }
  no-locals (stmt at (line _)) names sp e h = record { named = h.named; kept = h.kept }
  no-locals (stmt at _) names sp e h = record { named = h.named; kept = h.kept }

  top-good : (names : Names) (sp : Spot) → Agrees u names sp.scope → NoLocals names sp → Good u names sp.scope
  top-good names sp a h = record {
    agrees = a;
    alike = ap visible h.named ∙ sym (ap (λ ls. visible (variables_of ls)) h.kept);
    values = subst (λ ls. AreValueTys (types_of ls)) (sym h.kept) tt;
  }

  tops-whole : (ps : List PartTree) (sp : Spot) (names : Names) (before : List Head) (n : ℕ) → Matches u F names top sp → NoLocals names sp → AreGlobals u (behind_parts ps sp).scope.globals → AllByRecursion (IsProperPart (length u.files)) ps → AreWellTypedParts ps all before names → ArePartsWritten ps
      → AllWhole u (top_functions ps sp n)
  tops-whole [] sp names before n m h g pr w k = tt
  tops-whole (a_statement s ∷ ps) sp names before n m h g pr w k =
      let sp2 : Spot = behind s sp in
      let further = parts-globals ps sp2 in
      let g1 : AreGlobals u sp2.scope.globals = front-globals u sp2.scope.globals further.0 (subst (AreGlobals u) further.1 g) in
      all-whole u (par_functions s sp n) (top_functions ps sp2 (n + pars s)) (stmt-pars-whole u s sp names top n (top-good names sp m.agrees h) pr.0 w.0 k.0)
      (tops-whole ps sp2 (names_behind s names top) (with_head before (a_statement s)) (n + pars s) (top-behind u F s names sp m m.top g1 w.0 k.0) (no-locals s names sp m.top h) g pr.1 w.1 k.1)
  tops-whole (a_function f ∷ ps) sp names before n m h g pr w k = tops-whole ps sp names (with_head before (a_function f)) n m h g pr.1 w.1 k
  tops-whole (an_include i ∷ ps) sp names before n m h g pr w k = absurd (pr.0)

-- All functions

each-within : (fs : List Function) (m : ℕ) → codes_size fs ≤ m → AllByRecursion (λ f. length f.code ≤ m) fs
each-within [] m h = tt
each-within (f ∷ fs) m h = (omega (arith, h), each-within fs m (omega (arith, h)))

made-whole : (u : CodeUnit) (fs : List Function) → AllWhole u fs → AllByRecursion (λ f. length f.code ≤ MAX_CODE) fs → AllByRecursion (λ f. is_whole u f ≡ true) fs
made-whole u [] h l = tt
made-whole u (f ∷ fs) h l = (h.0 l.0, made-whole u fs h.1 l.1)

some-code : (u : CodeUnit) (f : Function) → is_whole u f ≡ true → 1 ≤ length f.code
some-code u f h =
    let behind = and-right (is_heading f) (is_code f.code && (are_labels (length f.code) f.labels && are_lines (length u.files) (length f.code) f.lines)) h in
    let code = and-left (is_code f.code) (are_labels (length f.code) f.labels && are_lines (length u.files) (length f.code) f.lines) behind in
    let l = less 0 (length f.code) (and-left (nat_lt 0 (length f.code)) (nat_le (length f.code) MAX_CODE && list_all is_whole_instr f.code) code) in
    omega (arith, l)

few-functions : (u : CodeUnit) (fs : List Function) → AllByRecursion (λ f. is_whole u f ≡ true) fs → length fs ≤ codes_size fs
few-functions u [] h = omega arith
few-functions u (f ∷ fs) h = let a = some-code u f h.0 in let b = few-functions u fs h.1 in omega (arith, a, b)

module _ (ss : Settings) (args : List (List ℕ)) (s : ScriptTree) (program : IsProgram s) (fits : FitGlobals ss s.parts) (short : AreShortTexts args) (typed : IsFullyTyped s) where
  abbrev U : CodeUnit
  U = unit_of ss args s

  abbrev T : Function
  T = top_function ss args s

  abbrev sc : Scope
  sc = function_scope s.parts

  abbrev names : Names
  names = first_names s.parts

  abbrev all : Names
  all = names_of (heads_of s.parts) (globals_in s)

  abbrev sp : Spot
  sp = first_spot s.parts

  abbrev p1 : ℕ
  p1 = first_par s.parts

  abbrev n1 : ℕ
  n1 = p1 + top_pars s.parts

  parts_written : ArePartsWritten s.parts × AreBodiesWritten s.parts
  parts_written = written ss args s fits program.parts typed

  seen : Agrees U all sc
  seen = function-seen ss args s fits program.parts typed

  few : has_too_many s.parts ≡ false
  few = (when-none (has_too_many s.parts) rule.TooManyLocals None typed.0.breaks).0

  both_few : (are_too_many (parts_slots s.parts) ≡ false) × (nat_lt MAX_GLOBALS (parts_globals s.parts + 1) ≡ false)
  both_few = or-none (are_too_many (parts_slots s.parts)) (nat_lt MAX_GLOBALS (parts_globals s.parts + 1)) few

  top-function-whole : IsWholeIfSmall U T
  top-function-whole size =
      let tops : List Mark = top_code ss s.parts sp p1 (length args + 2) in
      let head : List Mark = args_code s.at args in
      let last : List Mark = ending ty.Void s.at in
      let ms : List Mark = eight ++ (head ++ (tops ++ last)) in
      let from : ℕ = length args + 2 in
      let i = program.file in
      let whole : AreWhole (length s.files) ms 0 =
      eight-whole U (head ++ (tops ++ last)) (whole-then (length s.files) head (tops ++ last) 0 from (let e = args-count s.at args in omega (arith, e)) (args-whole (length s.files) s.at args 0 i short)
      (whole-then (length s.files) tops last from (from + count tops) refl (top-whole (length s.files) ss s.parts sp names all [] p1 from fits program.parts typed.0.parts parts_written.0) (ending-whole U ty.Void s.at (from + count tops) i (λ e. absurd (search (rules, sym void-unknown ∙ e)))))) in
      let ends : EndsDoing (length s.files) ms = ends-any U eight (head ++ (tops ++ last)) (ends-any U head (tops ++ last) (ends-any U tops last (ending-ends U ty.Void s.at))) in
      let s1 = eight-slots U (head ++ (tops ++ last)) in
      let s2 = slot_counts head (tops ++ last) in
      let s3 = slot_counts tops last in
      let s4 = args-slots s.at args in
      let s5 = top-slots ss s.parts sp p1 from (record { high = refl; ordered = refl }) in
      let s6 = ending-slots U ty.Void s.at in
      let most = room U (parts_slots s.parts) both_few.0 in
      marks-whole U [] [] ty.Void ms (omega arith) tt (omega arith) void-here whole ends (omega (arith, s1, s2, s3, s4, s5, s6, most)) size

  functions-whole : AllWhole U U.functions
  functions-whole = (
    top-function-whole,
    all-whole U (declared_functions s.parts sc n1) (top_functions s.parts sp p1 ++ further_functions s.parts sc n1) (declared-whole U sc all seen s.parts [] names n1 program.parts typed.0.parts parts_written.1)
        (all-whole U (top_functions s.parts sp p1) (further_functions s.parts sc n1)
        (tops-whole U T all s.parts sp names [] p1 (top-matches ss args s fits program.parts typed) (record { named = refl; kept = refl }) (tops-there ss args s fits program.parts typed) program.parts typed.0.parts parts_written.0)
        (further-whole U sc all seen s.parts [] names n1 program.parts typed.0.parts parts_written.1)),
  )

  module _ (size : program_size ss args s ≤ MAX_CODE) where
    total : codes_size U.functions ≤ MAX_CODE
    total = let e = program-size ss args s in omega (arith, e, size)

    pub functions_are : AllByRecursion (λ f. is_whole U f ≡ true) U.functions
    functions_are = made-whole U U.functions functions-whole (each-within U.functions MAX_CODE total)

    pub unit-whole : is_whole_unit U ≡ true
    unit-whole =
        let files_few : nat_le (length s.files) MAX_COUNT ≡ true = within (length s.files) MAX_COUNT (let f = program.few in omega (arith, f)) in
        let files_short : list_all is_text s.files ≡ true = all-true is_text s.files (short-files s.files program.paths) in
        let values : AreValueTys U.globals = globals-values (length s.files) s.parts names all [] first_known (texts-value, tt) program.parts typed.0.parts parts_written.0 in
        let many = globals-many s.parts first_known in
        let as_many = types-as-many (all_globals s.parts) in
        let most = not-less MAX_GLOBALS (parts_globals s.parts + 1) both_few.1 in
        let globals_are : are_value_tys U.globals ≡ true = value-tys U.globals values (omega (arith, many, as_many, most)) in
        let t = total in
        let functions_few = few-functions U U.functions functions_are in
        let begins_so : (nat_eq (length T.params) 0 && is_void T.ret) ≡ true =
        both-true (nat_eq (length T.params) 0) (is_void T.ret) (ap (λ ts. nat_eq (length ts) 0) (params-is top_marks (fresh [] [] ty.Void))) (ap is_void (ret-is top_marks (fresh [] [] ty.Void)) ∙ ap is_void_at ty.outs-Void) in
        both-true (nat_le (length s.files) MAX_COUNT && list_all is_text s.files) (are_value_tys U.globals && (nat_le (length U.functions) MAX_COUNT && begins (Some T))) (both-true (nat_le (length s.files) MAX_COUNT) (list_all is_text s.files) files_few files_short)
        (both-true (are_value_tys U.globals) (nat_le (length U.functions) MAX_COUNT && begins (Some T)) globals_are
        (both-true (nat_le (length U.functions) MAX_COUNT) (begins (Some T)) (within (length U.functions) MAX_COUNT (omega (arith, functions_few, t))) begins_so))
      where
        top_marks : List Mark
        top_marks = eight ++ (args_code s.at args ++ (top_code ss s.parts sp p1 (length args + 2) ++ ending ty.Void s.at))

        short-files : (xs : List (List ℕ)) → AllByRecursion IsShort xs → AllByRecursion (λ x. is_text x ≡ true) xs
        short-files [] h = tt
        short-files (x ∷ xs) h = (within (length x) MAX_TEXT h.0, short-files xs h.1)

    pub program-verified : VerifiedUnit U
    program-verified = unit-verified ss args s fits program.parts typed unit-whole functions_are
