-- The program of a test of a typed script is typed.
use Rattle.std.proofs.Common.{arith, ◌≡◌, ◌∙◌, ℕ, ◌+◌, ◌≤◌, ◌&&◌, ◌||◌, Bool, true, false, not, nat_lt, is_some, List}
use Rattle.std.proofs.Common.{[], ◌∷◌, ◌++◌}
use Rattle.std.proofs.Common.{Option, Some, None, if◌then◌else◌, length, refl, ap, ap₂, sym, subst, append_assoc}
use Rattle.std.specs.List.{AllByRecursion}
use Rattle.std.specs.Str.{bytes_eq}
use Rattle.std.specs.Prelude.{codes}
use Rattle.std.specs.List.{slice_get, starts_with}
use Rattle.std.proofs.Common.{◌==◌, map, zero, suc}
use Rattle.std.proofs.lemmas.Bool.{eqb-true, ltb-false, le-ltb}
use Rattle.std.proofs.lemmas.Slice.Eq.{bytes_eq-Decides}
use Rattle.bds_value.specs.declared.value.Ty.{Ty}
use Rattle.bds_tree.specs.Tree.{call, none}
use Rattle.bds_check_names.specs.declared.names.Asked.TheVariants.{Whole}
use Rattle.bds_check_names.specs.Slots.{block_slots, top_slots, top_globals}
use Rattle.bds_check_names.specs.Types.{is_known}
use Rattle.bds_check_rules.specs.Ends.{block_ends}
use Rattle.bds_check_rules.specs.declared.rules.Rule.TheVariants as rule
use Rattle.bds_check_rules.specs.Breaks.{any_argument_differs, breaks, call_rule, or_deep}
use Rattle.bds_check_rules.specs.Typing.{result_of}
use Rattle.bds_value.specs.declared.TheConstants.{MAX_GLOBALS, MAX_NESTING, MAX_PARAMETERS, MAX_SLOTS}
use Rattle.bds_value.specs.Fields.{nesting}
use Rattle.bds_tree.specs.declared.stmt.Parameter.{Parameter}
use Rattle.bds_tree.specs.StmtTree.{FunctionTree, PartTree, ScriptTree, StmtTree, a_function, an_include, a_statement}
use Rattle.bds_check_names.specs.declared.names.Head.{Head}
use Rattle.bds_check_names.specs.declared.names.Names.{Names}
use Rattle.bds_check_names.specs.declared.names.Variable.{Variable}
use Rattle.bds_check_names.specs.Scopes.{function_named, top}
use Rattle.bds_check_names.specs.Slots.{are_too_many, parts_slots, parts_globals, spare_slots}
use Rattle.bds_check_rules.specs.declared.rules.Rule.{Rule}
use Rattle.bds_check_rules.specs.Pieces.{when}
use Rattle.bds_check_typing.specs.Known.{IsPartWritten, IsScriptWritten, AreVariablesWritten}
use Rattle.bds_check_typing.specs.Program.{first_globals, function_breaks, has_too_many, head_of, heads_of, names_of}
use Rattle.bds_check_typing.specs.Program.{script_breaks, with_head, any_twice}
use Rattle.bds_check_typing.specs.Proper.{IsProgram, IsProperFunction, IsProperPart}
use Rattle.bds_check_typing.specs.Typed.{IsTyped}
use Rattle.bds_check_typing.specs.WellTypedScripts.{AreWellTypedParts, IsWellTypedUnder, first_names, globals_in}
use Rattle.bds_check_typing.specs.WellTypedScripts.{names_behind_part, names_behind_parts}
use Rattle.bds_check_typing.specs.WellTypedStmts.{IsWellTypedStmt}
use Rattle.bds_check_tests.specs.Tests.{call_of, is_test, test_program, tests_in, with_call}
use Rattle.bds_check_tests.proofs.KeptParts.{kept_with, heads_kept, names_kept, typed_kept, all_kept, slots_kept}
use Rattle.bds_check_tests.proofs.KeptParts.{globals_kept, height_kept, functions_kept}

-- A function that can be called without arguments, where there are so many files and these functions
pub record IsCallable (files : ℕ) (heads : List Head) (f : FunctionTree) : Type 0 where
  pub proper : IsProperFunction files f
  pub named : function_named f.name heads ≡ Some (head_of f)
  pub alone : f.parameters ≡ []

none_of : (ps : List Parameter) → (length ps == 0) ≡ true → ps ≡ []
none_of [] h = refl
none_of (p ∷ ps) h = let none : length (p ∷ ps) ≡ 0 = eqb-true (length (p ∷ ps)) 0 h in absurd (omega (arith, none))

no_rule : (b : Bool) (r : Rule) (others : Option Rule) → when b r others ≡ None → (b ≡ false) × (others ≡ None)
no_rule true r others h = absurd (cc h)
no_rule false r others h = (refl, h)

not_named : (o : Option Head) → is_some o ≡ false → o ≡ None
not_named None h = refl
not_named (Some h) e = absurd (cc e)

both : (a b : Bool) → (a && b) ≡ true → (a ≡ true) × (b ≡ true)
both true b h = (refl, h)
both false b h = absurd (cc h)

-- The function that a name finds

-- behind functions of other names
found_first : (hs rest : List Head) (h : Head) → function_named h.name hs ≡ None
    → function_named h.name (hs ++ h ∷ rest) ≡ Some h
found_first [] rest h unnamed =
    ap (λ (b : Bool). if b then Some h else function_named h.name rest) ((bytes_eq-Decides h.name h.name).1 refl)
found_first (k ∷ hs) rest h unnamed = by_test (bytes_eq h.name k.name) (λ e. found_first hs rest h e) unnamed
  where
    by_test : (b : Bool)
        → (function_named h.name hs ≡ None → function_named h.name (hs ++ h ∷ rest) ≡ Some h)
        → (if b then Some k else function_named h.name hs) ≡ None
        → (if b then Some k else function_named h.name (hs ++ h ∷ rest)) ≡ Some h
    by_test true next e = absurd (cc e)
    by_test false next e = next e

-- which further rules a function may break
abbrev others_of : FunctionTree → Option Rule
others_of f =
    when (is_known f.result && not (block_ends f.body)) rule.NoReturn
    (when (nat_lt MAX_PARAMETERS (length f.parameters)) rule.TooManyParameters
    (when (are_too_many (length f.parameters + block_slots f.body)) rule.TooManyLocals None))

function_named_so : (f : FunctionTree) (before rest : List Head) → function_breaks before f ≡ None
    → function_named f.name (before ++ head_of f ∷ rest) ≡ Some (head_of f)
function_named_so f before rest unbroken =
    let once = no_rule (any_twice f.parameters) rule.TwiceDeclared
    (when (is_some (function_named f.name before)) rule.TwiceFunction (others_of f)) unbroken in
    let only = no_rule (is_some (function_named f.name before)) rule.TwiceFunction (others_of f) once.1 in
    found_first before rest (head_of f) (not_named (function_named f.name before) only.0)

-- each test is found by its name
pub tests_callable : (files : ℕ) (all : Names) (ps : List PartTree) (before : List Head) (names : Names)
    → AllByRecursion (IsProperPart files) ps → AreWellTypedParts ps all before names
    → AllByRecursion (IsCallable files (before ++ heads_of ps)) (tests_in ps)
tests_callable files all [] before names proper w = tt
tests_callable files all (a_function f ∷ ps) before names proper w =
    let whole : List Head = before ++ head_of f ∷ heads_of ps in
    let others : AllByRecursion (IsCallable files whole) (tests_in ps) =
    subst (λ (hs : List Head). AllByRecursion (IsCallable files hs) (tests_in ps))
    (append_assoc before (head_of f ∷ []) (heads_of ps))
    (tests_callable files all ps (with_head before (a_function f)) names proper.1 w.1) in
    by_test (is_test f) (λ h. record {
      proper = proper.0;
      named = function_named_so f before (heads_of ps) w.0.1;
      alone = none_of f.parameters (both (starts_with (λ a b. a == b) f.name (codes "test")) (length f.parameters == 0)
          h).1;
    }) others
  where
    by_test : (b : Bool) {hs : List Head} → (b ≡ true → IsCallable files hs f)
        → AllByRecursion (IsCallable files hs) (tests_in ps)
        → AllByRecursion (IsCallable files hs) (if b then f ∷ tests_in ps else tests_in ps)
    by_test true one others = (one refl, others)
    by_test false one others = others
tests_callable files all (an_include i ∷ ps) before names proper w =
    tests_callable files all ps before names proper.1 w.1
tests_callable files all (a_statement s ∷ ps) before names proper w =
    tests_callable files all ps before (names_behind_part (a_statement s) names) proper.1 w.1

-- Its call

no_arguments : (ts : List Ty) → any_argument_differs ts none ≡ false
no_arguments [] = refl
no_arguments (t ∷ ts) = refl

-- has the type of its result, and breaks no rule
call_typed : (files : ℕ) (heads : List Head) (f : FunctionTree) (names : Names) → names.functions ≡ heads
    → IsCallable files heads f → IsWellTypedStmt (call_of f) names top
call_typed files heads f names same h =
    let found : function_named f.name names.functions ≡ Some (head_of f) =
    subst (λ (hs : List Head). function_named f.name hs ≡ Some (head_of f)) (sym same) h.named in
    ((sym (ap result_of found), unbroken found, tt), refl)
  where
    few : length (map (λ p. p.ty) f.parameters) ≡ 0
    few = ap (λ (ps : List Parameter). length (map (λ p. p.ty) ps)) h.alone

    ruled : call_rule false (Some (head_of f)) none ≡ None
    ruled =
        ap (λ (b : Bool). when b rule.WrongType (when (not (length (head_of f).parameters == 0)) rule.WrongCount None))
        (no_arguments (head_of f).parameters)
        ∙ ap (λ (n : ℕ). when (not (n == 0)) rule.WrongCount None) few

    shallow : nat_lt MAX_NESTING (nesting f.result) ≡ false
    shallow = le-ltb MAX_NESTING (nesting f.result) h.proper.1.1

    unbroken : function_named f.name names.functions ≡ Some (head_of f) → breaks names Whole (call f.name none) ≡ None
    unbroken found =
        ap (λ (o : Option Head). or_deep (call_rule false o none) (result_of o)) found
        ∙ ap (λ (r : Option Rule). or_deep r f.result) ruled
        ∙ ap (λ (b : Bool). when b rule.DeepType None) shallow

-- The program of the test

-- no more slots and globals than before
within_limits : (ps : List PartTree) (c : StmtTree) → top_slots c ≡ 0 → top_globals c ≡ 0 → script_breaks ps ≡ None
    → script_breaks (kept_with ps c) ≡ None
within_limits ps c slots globals unbroken =
    let few = no_rule (has_too_many ps) rule.TooManyLocals None unbroken in
    let either = neither (are_too_many (parts_slots ps)) (nat_lt MAX_GLOBALS (parts_globals ps + 1)) few.0 in
    let slots_few : parts_slots ps + spare_slots ≤ MAX_SLOTS =
    ltb-false MAX_SLOTS (parts_slots ps + spare_slots) either.0 in
    ap₂ (λ (a b : Bool). when (a || b) rule.TooManyLocals None)
    (le-ltb MAX_SLOTS (parts_slots (kept_with ps c) + spare_slots) (less (slots_kept ps c slots) slots_few))
    (ap (λ (n : ℕ). nat_lt MAX_GLOBALS (n + 1)) (globals_kept ps c globals) ∙ either.1)
  where
    neither : (a b : Bool) → (a || b) ≡ false → (a ≡ false) × (b ≡ false)
    neither true b h = absurd (cc h)
    neither false b h = (refl, h)

    less : {a b : ℕ} → a ≤ b → b + spare_slots ≤ MAX_SLOTS → a + spare_slots ≤ MAX_SLOTS
    less h k = omega (arith, h, k)

module _ (s : ScriptTree) (f : FunctionTree) (t : IsTyped s) (h : IsCallable (length s.files) (heads_of s.parts) f)
  where
    abbrev ps : List PartTree
    ps = with_call s.parts f

    heads_same : heads_of ps ≡ heads_of s.parts
    heads_same = heads_kept s.parts (call_of f)

    globals_same : globals_in (test_program s f) ≡ globals_in s
    globals_same =
        ap (λ (hs : List Head). (names_behind_parts ps (names_of hs first_globals)).globals) heads_same
        ∙ ap (λ (ns : Names). ns.globals) (names_kept s.parts (call_of f) (first_names s.parts) (λ ns. refl))

    program : IsProgram (test_program s f)
    program = record {
      paths = t.program.paths;
      few = t.program.few;
      file = t.program.file;
      parts = all_kept (IsProperPart (length s.files)) s.parts (call_of f) t.program.parts
          (h.proper.0, (refl, (h.proper.0, (h.proper.2, tt))));
      nesting = height_kept s.parts (call_of f) MAX_NESTING t.program.nesting (omega arith);
    }

    under : IsWellTypedUnder (test_program s f) (globals_in (test_program s f))
    under = record {
      parts =
          subst (λ (gs : List Variable). AreWellTypedParts ps (names_of (heads_of ps) gs) [] (first_names ps))
          (sym globals_same)
          (subst (λ (hs : List Head). AreWellTypedParts ps (names_of hs (globals_in s)) [] (names_of hs first_globals))
          (sym heads_same)
          (typed_kept s.parts (call_of f) (names_of (heads_of s.parts) (globals_in s)) [] (first_names s.parts)
          t.types.0.parts
          (call_typed (length s.files) (heads_of s.parts) f (names_behind_parts s.parts (first_names s.parts))
          (functions_kept s.parts (first_names s.parts)) h)));
      breaks = within_limits s.parts (call_of f) refl refl t.types.0.breaks;
    }

    written : IsScriptWritten (test_program s f)
    written = all_kept IsPartWritten s.parts (call_of f) t.types.2 (h.proper.1.0, tt)

    pub test_typed : IsTyped (test_program s f)
    test_typed = record {
      program = program;
      types = (under, subst AreVariablesWritten (sym globals_same) t.types.1, written);
    }

-- so is the program of each test
pub tests_typed : (s : ScriptTree) (index : ℕ) (f : FunctionTree) → IsTyped s
    → slice_get (tests_in s.parts) index ≡ Some f
    → IsTyped (test_program s f)
tests_typed s index f t is =
    let each : AllByRecursion (IsCallable (length s.files) (heads_of s.parts)) (tests_in s.parts) =
    tests_callable (length s.files) (names_of (heads_of s.parts) (globals_in s)) s.parts [] (first_names s.parts)
    t.program.parts t.types.0.parts in
    test_typed s f t (each_at (IsCallable (length s.files) (heads_of s.parts)) (tests_in s.parts) index f each is)
  where
    each_at : (P : FunctionTree → Type 0) (fs : List FunctionTree) (i : ℕ) (f : FunctionTree) → AllByRecursion P fs
        → slice_get fs i ≡ Some f → P f
    each_at P [] i f all is = absurd (cc is)
    each_at P (g ∷ gs) zero f all is = subst P (cc is) all.0
    each_at P (g ∷ gs) (suc i) f all is = each_at P gs i f all.1 is
