-- What words give fits the globals of a typed script.
use Rattle.std.proofs.Common.{◌≡◌, ◌≤◌, ◌++◌, ◌||◌, ℕ, Bool, true, false, Option, Some, None, Ok, List, [], ◌∷◌, length, refl, ap, sym, subst, ◌∙◌, arith}
use Rattle.std.specs.Prelude.{if◌then◌else◌}
use Rattle.std.specs.List.{AllByRecursion}
use Rattle.std.specs.Str.{bytes_eq}
use Rattle.std.proofs.lemmas.Slice.Eq.{bytes_eq-Decides}
use Rattle.bds_value.specs.declared.TheConstants.{MAX_ITEMS}
use Rattle.bds_value.specs.declared.value.Ty.{Ty}
use Rattle.bds_value.specs.declared.value.Value.{Value, out-Value}
use Rattle.bds_tree.specs.StmtTree.{StmtTree, no_right, a_right, PartTree, ScriptTree, stmt, line, declare, infer, a_function, an_include, a_statement}
use Rattle.bds_check_names.specs.declared.names.Head.{Head}
use Rattle.bds_check_names.specs.declared.names.Names.{Names}
use Rattle.bds_check_names.specs.declared.names.Variable.{Variable}
use Rattle.bds_check_names.specs.Scopes.{any_named, declare_in, first_type, is_declared, top, variable}
use Rattle.bds_check_rules.specs.declared.rules.Rule.{Rule}
use Rattle.bds_check_rules.specs.declared.rules.Rule.TheVariants as rule
use Rattle.bds_check_rules.specs.StmtBreaks.{given_rule, right_type, twice_rule}
use Rattle.bds_check_size.specs.ScriptSize.{Settings, later, set_value}
use Rattle.bds_check_typing.specs.GivenValues.{AreShortLists, FitGlobals, IsGivenAt, IsGivenFor, IsPartSet}
use Rattle.bds_check_typing.specs.Program.{with_head}
use Rattle.bds_check_typing.specs.Texts.{AreShortTexts}
use Rattle.bds_check_typing.specs.Typed.{IsTyped, IsTypedWith}
use Rattle.bds_check_typing.specs.WellTypedScripts.{AreWellTypedParts, first_names, globals_in, names_behind_parts}
use Rattle.bds_check_typing.specs.WellTypedStmts.{IsWellTypedStmt, names_behind}
use Rattle.bds_check_typing.proofs.Agreeing.{when-none}
use Rattle.bds_check_words.specs.WordSettings.{words_give}
use Rattle.bds_check_words.proofs.Fitting.{Fit, FitsVariable, words-fit}

-- The value that is set for a name

same-name : (x y : List ℕ) → bytes_eq x y ≡ true → x ≡ y
same-name x y e = (bytes_eq-Decides x y).0 e

some-is : {A : Type 0} (a b : A) → Some a ≡ Some b → a ≡ b
some-is a b e = cc

module _ (globals : List Variable) (x : List ℕ) (t : Ty) (found : first_type x globals ≡ Some t) where
  one-fits : (s : List ℕ × Value) (b : Bool) → bytes_eq s.0 x ≡ b → FitsVariable globals s → IsGivenFor (if b then Some s.1 else None) t
  one-fits s false e f = tt
  one-fits s true e f =
      let is : f.type_found ≡ t = some-is f.type_found t (sym f.found ∙ ap (λ (y : List ℕ). first_type y globals) (same-name s.0 x e) ∙ found) in
      subst (IsGivenAt (out-Value s.1)) is f.given

  later-fits : (o p : Option Value) → IsGivenFor o t → IsGivenFor p t → IsGivenFor (later o p) t
  later-fits (Some v) p h k = h
  later-fits None p h k = k

  value-fits : (ss : Settings) → AllByRecursion (FitsVariable globals) ss → IsGivenFor (set_value ss x) t
  value-fits [] h = tt
  value-fits (s ∷ ss) h = later-fits (set_value ss x) (if bytes_eq s.0 x then Some s.1 else None) (value-fits ss h.1) (one-fits s (bytes_eq s.0 x) refl h.0)

-- The type of a global is that of the line that declares it

first-kept : (x : List ℕ) (vs more : List Variable) (t : Ty) → first_type x vs ≡ Some t → first_type x (vs ++ more) ≡ Some t
first-kept x [] more t e = absurd (cc)
first-kept x (v ∷ vs) more t e = by (bytes_eq x v.name) (first-kept x vs more t) e
  where
    by : (b : Bool) → (first_type x vs ≡ Some t → first_type x (vs ++ more) ≡ Some t) → (if b then Some v.ty else first_type x vs) ≡ Some t → (if b then Some v.ty else first_type x (vs ++ more)) ≡ Some t
    by true others q = q
    by false others q = others q

still-first : (x : List ℕ) (t : Ty) (v : Variable) (vs : List Variable) → first_type x vs ≡ Some t → first_type x (declare_in 0 v vs) ≡ Some t
still-first x t v vs e = by (any_named v.name vs)
  where
    by : (b : Bool) → first_type x (if b then vs else vs ++ v ∷ []) ≡ Some t
    by true = e
    by false = first-kept x vs (v ∷ []) t e

new-first : (x : List ℕ) (t : Ty) (vs : List Variable) → any_named x vs ≡ false → first_type x (vs ++ variable x t ∷ []) ≡ Some t
new-first x t [] e = ap (λ (b : Bool). if b then Some t else None) ((bytes_eq-Decides x x).1 refl)
new-first x t (v ∷ vs) e = by (bytes_eq x v.name) (new-first x t vs) e
  where
    by : (b : Bool) → (any_named x vs ≡ false → first_type x (vs ++ variable x t ∷ []) ≡ Some t) → (b || any_named x vs) ≡ false → (if b then Some v.ty else first_type x (vs ++ variable x t ∷ [])) ≡ Some t
    by true others q = absurd (cc)
    by false others q = others q

declared-first : (x : List ℕ) (t : Ty) (vs : List Variable) → any_named x vs ≡ false → first_type x (declare_in 0 (variable x t) vs) ≡ Some t
declared-first x t vs e = ap (λ (b : Bool). first_type x (if b then vs else vs ++ variable x t ∷ [])) e ∙ new-first x t vs e

behind-kept : (s : StmtTree) (names : Names) (x : List ℕ) (t : Ty) → first_type x names.globals ≡ Some t → first_type x (names_behind s names top).globals ≡ Some t
behind-kept (stmt at (line (declare u y r))) names x t e = still-first x t (variable y u) names.globals e
behind-kept (stmt at (line (infer y r))) names x t e = still-first x t (variable y (right_type r)) names.globals e
behind-kept (stmt at (line _)) names x t e = e
behind-kept (stmt at _) names x t e = e

parts-kept : (ps : List PartTree) (names : Names) (x : List ℕ) (t : Ty) → first_type x names.globals ≡ Some t → first_type x (names_behind_parts ps names).globals ≡ Some t
parts-kept [] names x t e = e
parts-kept (a_function f ∷ ps) names x t e = parts-kept ps names x t e
parts-kept (an_include i ∷ ps) names x t e = parts-kept ps names x t e
parts-kept (a_statement s ∷ ps) names x t e = parts-kept ps (names_behind s names top) x t (behind-kept s names x t e)

undeclared : (names : Names) (x : List ℕ) (others : Option Rule) → twice_rule names top x others ≡ None → any_named x names.globals ≡ false
undeclared names x others q = (when-none (is_declared names top x) rule.TwiceDeclared others q).0

-- Scripts

module _ (globals : List Variable) (ss : Settings) (fits : AllByRecursion (FitsVariable globals) ss) where
  line-fits : (ps : List PartTree) (names : Names) (x : List ℕ) (t : Ty) → first_type x names.globals ≡ Some t → (names_behind_parts ps names).globals ≡ globals → IsGivenFor (set_value ss x) t
  line-fits ps names x t e all = value-fits globals x t (ap (first_type x) (sym all) ∙ parts-kept ps names x t e) ss fits

  stmt-fits : (s : StmtTree) (names : Names) (ps : List PartTree) → IsWellTypedStmt s names top → (names_behind_parts ps (names_behind s names top)).globals ≡ globals → IsPartSet ss (a_statement s)
  stmt-fits (stmt at (line (declare t x no_right))) names ps w all =
      line-fits ps (names_behind (stmt at (line (declare t x no_right))) names top) x t (declared-first x t names.globals (undeclared names x None w.1)) all
  stmt-fits (stmt at (line (declare t x (a_right r)))) names ps w all =
      line-fits ps (names_behind (stmt at (line (declare t x (a_right r)))) names top) x t (declared-first x t names.globals (undeclared names x (given_rule t (Some (right_type r))) w.1)) all
  stmt-fits (stmt at (line (infer x r))) names ps w all =
      line-fits ps (names_behind (stmt at (line (infer x r))) names top) x (right_type r) (declared-first x (right_type r) names.globals (undeclared names x None w.1)) all
  stmt-fits (stmt at (line _)) names ps w all = tt
  stmt-fits (stmt at _) names ps w all = tt

  parts-fit : (ps : List PartTree) (all : Names) (before : List Head) (names : Names) → AreWellTypedParts ps all before names → (names_behind_parts ps names).globals ≡ globals → FitGlobals ss ps
  parts-fit [] all before names w e = tt
  parts-fit (a_function f ∷ ps) all before names w e = (tt, parts-fit ps all (with_head before (a_function f)) names w.1 e)
  parts-fit (an_include i ∷ ps) all before names w e = (tt, parts-fit ps all (with_head before (an_include i)) names w.1 e)
  parts-fit (a_statement s ∷ ps) all before names w e =
      (stmt-fits s names ps w.0 e, parts-fit ps all (with_head before (a_statement s)) (names_behind s names top) w.1 e)

lists-short : (globals : List Variable) (ss : Settings) → AllByRecursion (FitsVariable globals) ss → AreShortLists ss
lists-short globals [] h = tt
lists-short globals (s ∷ ss) h = (h.0.few, lists-short globals ss h.1)

pub typed-with : (s : ScriptTree) (words : List (List ℕ)) (settings : Settings) (args : List (List ℕ)) → IsTyped s → length words ≤ MAX_ITEMS → AreShortTexts words → words_give (globals_in s) words ≡ Ok (settings, args) → IsTypedWith s settings args
typed-with s words settings args typed few short e =
    let f : Fit (globals_in s) words (settings, args) = words-fit (globals_in s) words 0 (settings, args) few short e in
    record {
      script = typed;
      globals = parts-fit (globals_in s) settings f.settings s.parts _ [] (first_names s.parts) typed.types.0.parts refl;
      lists = lists-short (globals_in s) settings f.settings;
      args = f.args;
      few = omega (arith, f.fewer, few);
    }
