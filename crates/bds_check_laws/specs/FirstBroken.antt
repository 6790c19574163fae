-- The first node that breaks a rule, said without the walk: all nodes before it break none, where the parts of a node come before it, in the order of the text.
use Rattle.std.specs.Prelude.{◌≡◌, Bool, true, false, ◌&&◌, is_none, Option, Some, None, List, [], ◌∷◌, ◌⊎◌}
use Rattle.bds_value.specs.declared.value.Ty.{Ty}
use Rattle.bds_value.specs.declared.value.Ty.TheVariants as ty
use Rattle.bds_tree.specs.declared.stmt.Command.{Command}
use Rattle.bds_tree.specs.Tree.{Tree, FormTree, Trees, TreePairs, node, number, text, truth, name, call, group, list, mapping, item, key, method, prefix, binary, choice, dependency, none, more, no_pairs, more_pairs, type_of}
use Rattle.bds_tree.specs.StmtTree.{SuffixTree, at_index, at_key, PlaceTree, StepTree, step_after, step_before, SmallFormTree, small_declare, small_infer, small_assign, small_update, small_step, small_call, SmallTree, SettingFormTree, setting_named, setting_plain, SettingTree, StmtTree, StmtFormTree, LineTree, RightTree, ActTree, ActFormTree, BlockTree, StmtTrees, MaybeStmt, MaybeRight, FunctionTree, PartTree, ScriptTree, stmt, inner_block, empty, line, when, while, for, each, declare, infer, assign, update, step, call_line, print, println, error, exit, break, continue, return, wait, checkpoint, act_line, right_expr, right_act, act, sys, task, dep, goal, par_call, par_block, block, no_stmts, more_stmts, no_stmt, a_stmt, no_right, a_right, a_function, an_include, a_statement, CaseTrees, CaseTree, switch, no_cases, more_cases, a_case}
use Rattle.bds_check_names.specs.declared.names.Names.{Names}
use Rattle.bds_check_names.specs.declared.names.Head.{Head}
use Rattle.bds_check_names.specs.declared.names.Variable.{Variable}
use Rattle.bds_check_names.specs.declared.names.Asked.{Asked}
use Rattle.bds_check_names.specs.declared.names.Asked.TheVariants.{Whole, Value, This}
use Rattle.bds_check_names.specs.declared.names.Site.{Site}
use Rattle.bds_check_names.specs.declared.names.Seen.{Seen}
use Rattle.bds_check_names.specs.Scopes.{variable, declare_in, function_named, with_local, inner, in_loop, apart, top, in_function, in_switch}
use Rattle.bds_check_rules.specs.Typing.{asked_list_item, asked_map_item}
use Rattle.bds_check_rules.specs.Breaks.{breaks}
use Rattle.bds_check_rules.specs.Pieces.{sys_rule}
use Rattle.bds_check_rules.specs.StmtBreaks.{right_type, place_breaks, place_ty, small_breaks, stmt_breaks, none_seen, seen_behind, setting_breaks, commands_of, act_breaks}
use Rattle.bds_check_typing.specs.Walk.{Broken, placed, unasked, items_asked, is_open, no_whole, parameters_of}
use Rattle.bds_check_typing.specs.WellTyped.{asked_of_item, taken_behind}
use Rattle.bds_check_typing.specs.StmtParts.{block_at, par_rule, returned}
use Rattle.bds_check_typing.specs.WellTypedParts.{names_behind_small}
use Rattle.bds_check_typing.specs.WellTypedStmts.{names_behind}
use Rattle.bds_check_typing.specs.Program.{heads_of, with_head, names_of, finding_names, first_globals, with_parameters, with_body, function_breaks, script_breaks}
use Rattle.bds_check_laws.specs.TypedAs.{IsTypedAs, IsFormTypedAs, IsMaybeTypedAs, IsSuffixTypedAs, AreSuffixesTypedAs, IsPlaceTypedAs, IsSmallFormTypedAs, IsSmallTypedAs, IsSettingFormTypedAs, IsSettingTypedAs, AreSettingsTypedAs, IsStmtTypedAs, IsStmtFormTypedAs, IsRightTypedAs, IsActFormTypedAs, IsBlockTypedAs, IsPartTypedAs, ArePartsTypedAs, IsCaseTypedAs}
use Rattle.bds_check_typing.specs.WellTypedScripts.{names_behind_part}

-- it is in the one; or the one has types, each of its nodes breaking no rule, and it is in what stands behind that
abbrev pub InOneOf : {X : Type 0} → Type 0 → (X → Type 0) → (X → Type 0) → Type 0
InOneOf {X = X} One IsTyped Behind = One ⊎ ((x : X) × IsTyped x × Behind x)

-- the one has these types, or none, since one of its nodes breaks a rule
abbrev pub TypedOrNot : {X : Type 0} → (X → Type 0) → (X → Type 0) → Type 0 → Type 0
TypedOrNot {X = X} IsTyped With Without = ((x : X) × IsTyped x × With x) ⊎ (((x : X) → IsTyped x → ⊥) × Without)

-- What the first item of a literal that isn't open asks of the others: its type, or a value alone where it breaks a rule.

abbrev pub AsksBeside : Tree → Names → Asked → Type 0
AsksBeside e names a = TypedOrNot (IsTypedAs e names Value) (λ d. a ≡ This (type_of d)) (a ≡ Value)

abbrev pub OneOrOther : Bool → Type 0 → Type 0 → Type 0
OneOrOther true One Other = One
OneOrOther false One Other = Other

abbrev pub IsBeside : Trees → Names → Asked → Asked → Type 0
IsBeside none names asked a = a ≡ unasked asked
IsBeside (more e es) names asked a = OneOrOther (is_open e) (IsBeside es names asked a) (AsksBeside e names a)

abbrev pub IsBesideValues : TreePairs → Names → Asked → Asked → Type 0
IsBesideValues no_pairs names asked a = a ≡ unasked asked
IsBesideValues (more_pairs k v ps) names asked a = OneOrOther (is_open v) (IsBesideValues ps names asked a) (AsksBeside v names a)

-- Expressions

abbrev mutual
  -- the first of the nodes of an expression
  pub IsFirstIn : Tree → Names → Asked → Broken → Type 0
  IsFirstIn (node at t f) names asked b =
      InOneOf (IsFirstInForm f names asked b) (IsFormTypedAs f names asked) (λ g. placed at (breaks names asked g) ≡ Some b)

  pub IsFirstInForm : FormTree → Names → Asked → Broken → Type 0
  IsFirstInForm (number v) names asked b = ⊥
  IsFirstInForm (text ps) names asked b = ⊥
  IsFirstInForm (truth v) names asked b = ⊥
  IsFirstInForm (name x) names asked b = ⊥
  IsFirstInForm (call f es) names asked b = IsFirstInArguments es names (parameters_of (function_named f names.functions)) b
  IsFirstInForm (group e) names asked b = IsFirstIn e names (no_whole asked) b
  IsFirstInForm (list es) names asked b = (a : Asked) × IsBeside es names asked a × IsFirstInItems es names (is_none (asked_list_item asked)) (items_asked (asked_list_item asked) a) b
  IsFirstInForm (mapping ps) names asked b = (a : Asked) × IsBesideValues ps names asked a × IsFirstInPairs ps names (is_none (asked_map_item asked)) (items_asked (asked_map_item asked) a) b
  IsFirstInForm (item a i) names asked b = InOneOf (IsFirstIn a names Value b) (IsTypedAs a names Value) (λ _. IsFirstIn i names Value b)
  IsFirstInForm (key a k) names asked b = InOneOf (IsFirstIn a names Value b) (IsTypedAs a names Value) (λ _. IsFirstIn k names Value b)
  IsFirstInForm (method a m es) names asked b = InOneOf (IsFirstIn a names Value b) (IsTypedAs a names Value) (λ c. IsFirstInArguments es names (taken_behind (type_of c) m es) b)
  IsFirstInForm (prefix o a) names asked b = IsFirstIn a names Value b
  IsFirstInForm (binary x o y) names asked b = InOneOf (IsFirstIn x names Value b) (IsTypedAs x names Value) (λ _. IsFirstIn y names Value b)
  IsFirstInForm (choice c x y) names asked b = InOneOf (IsFirstIn c names Value b) (IsTypedAs c names Value) (λ _. InOneOf (IsFirstIn x names Value b) (IsTypedAs x names Value) (λ _. IsFirstIn y names Value b))
  IsFirstInForm (dependency x y) names asked b = InOneOf (IsFirstIn x names Value b) (IsTypedAs x names Value) (λ _. IsFirstIn y names Value b)

  pub IsFirstInArguments : Trees → Names → List Ty → Broken → Type 0
  IsFirstInArguments none names ts b = ⊥
  IsFirstInArguments (more e es) names [] b = InOneOf (IsFirstIn e names Value b) (IsTypedAs e names Value) (λ _. IsFirstInArguments es names [] b)
  IsFirstInArguments (more e es) names (t ∷ ts) b = InOneOf (IsFirstIn e names (This t) b) (IsTypedAs e names (This t)) (λ _. IsFirstInArguments es names ts b)

  pub IsFirstInItems : Trees → Names → Bool → Asked → Broken → Type 0
  IsFirstInItems none names lone asked b = ⊥
  IsFirstInItems (more e es) names lone asked b =
      InOneOf (IsFirstIn e names (asked_of_item lone e asked) b) (IsTypedAs e names (asked_of_item lone e asked)) (λ _. IsFirstInItems es names (lone && is_open e) asked b)

  pub IsFirstInPairs : TreePairs → Names → Bool → Asked → Broken → Type 0
  IsFirstInPairs no_pairs names lone asked b = ⊥
  IsFirstInPairs (more_pairs k v ps) names lone asked b =
      InOneOf (IsFirstIn k names Value b) (IsTypedAs k names Value)
      (λ _. InOneOf (IsFirstIn v names (asked_of_item lone v asked) b) (IsTypedAs v names (asked_of_item lone v asked)) (λ _. IsFirstInPairs ps names (lone && is_open v) asked b))

-- Expressions in statements

abbrev pub IsFirstInMaybe : Option Tree → Names → Broken → Type 0
IsFirstInMaybe None names b = ⊥
IsFirstInMaybe (Some e) names b = IsFirstIn e names Value b

abbrev pub IsFirstInSuffix : SuffixTree → Names → Broken → Type 0
IsFirstInSuffix (at_index e) names b = IsFirstIn e names Value b
IsFirstInSuffix (at_key e) names b = IsFirstIn e names Value b

abbrev pub IsFirstInSuffixes : List SuffixTree → Names → Broken → Type 0
IsFirstInSuffixes [] names b = ⊥
IsFirstInSuffixes (s ∷ ss) names b = InOneOf (IsFirstInSuffix s names b) (IsSuffixTypedAs s names) (λ _. IsFirstInSuffixes ss names b)

-- a place comes behind its indexes and keys
abbrev pub IsFirstInPlace : PlaceTree → Names → Broken → Type 0
IsFirstInPlace p names b = InOneOf (IsFirstInSuffixes p.suffixes names b) (AreSuffixesTypedAs p.suffixes names) (λ ss. placed p.at (place_breaks names (record { at = p.at; name = p.name; suffixes = ss })) ≡ Some b)

abbrev pub IsFirstInStep : StepTree → Names → Broken → Type 0
IsFirstInStep (step_after p o) names b = IsFirstInPlace p names b
IsFirstInStep (step_before o p) names b = IsFirstInPlace p names b

abbrev pub IsFirstInSmallForm : SmallFormTree → Names → Broken → Type 0
IsFirstInSmallForm (small_declare t x None) names b = ⊥
IsFirstInSmallForm (small_declare t x (Some e)) names b = IsFirstIn e names (This t) b
IsFirstInSmallForm (small_infer x e) names b = IsFirstIn e names Value b
IsFirstInSmallForm (small_assign p e) names b = InOneOf (IsFirstInPlace p names b) (IsPlaceTypedAs p names) (λ _. IsFirstIn e names (This (place_ty names p)) b)
IsFirstInSmallForm (small_update p o e) names b = InOneOf (IsFirstInPlace p names b) (IsPlaceTypedAs p names) (λ _. IsFirstIn e names Value b)
IsFirstInSmallForm (small_step s) names b = IsFirstInStep s names b
IsFirstInSmallForm (small_call e) names b = IsFirstIn e names Whole b

abbrev pub IsFirstInSmall : Option SmallTree → Names → Site → Broken → Type 0
IsFirstInSmall None names site b = ⊥
IsFirstInSmall (Some s) names site b = InOneOf (IsFirstInSmallForm s.form names b) (IsSmallFormTypedAs s.form names) (λ g. placed s.at (small_breaks names site g) ≡ Some b)

abbrev pub IsFirstInSettingForm : SettingFormTree → Names → Broken → Type 0
IsFirstInSettingForm (setting_named x e) names b = IsFirstIn e names Value b
IsFirstInSettingForm (setting_plain e) names b = IsFirstIn e names Value b

-- an option of a `dep`, or else of a task, behind those that were seen
abbrev pub IsFirstInSetting : SettingTree → Names → Bool → Seen → Broken → Type 0
IsFirstInSetting s names of_dep seen b = InOneOf (IsFirstInSettingForm s.form names b) (IsSettingFormTypedAs s.form names) (λ g. placed s.at (setting_breaks of_dep seen g) ≡ Some b)

abbrev pub IsFirstInSettings : List SettingTree → Names → Bool → Seen → Broken → Type 0
IsFirstInSettings [] names of_dep seen b = ⊥
IsFirstInSettings (s ∷ ss) names of_dep seen b = InOneOf (IsFirstInSetting s names of_dep seen b) (IsSettingTypedAs s names of_dep seen) (λ _. IsFirstInSettings ss names of_dep (seen_behind seen s.form) b)

abbrev pub IsFirstInCommands : List Command → Names → Broken → Type 0
IsFirstInCommands [] names b = ⊥
IsFirstInCommands (c ∷ cs) names b = (placed c.at (sys_rule names c.text) ≡ Some b) ⊎ ((sys_rule names c.text ≡ None) × IsFirstInCommands cs names b)

-- Statements

abbrev mutual
  pub IsFirstInStmt : StmtTree → Names → Site → Broken → Type 0
  IsFirstInStmt (stmt at f) names site b = InOneOf (IsFirstInStmtForm f names site b) (IsStmtFormTypedAs f names site) (λ g. placed at (stmt_breaks names site g) ≡ Some b)

  pub IsFirstInStmtForm : StmtFormTree → Names → Site → Broken → Type 0
  IsFirstInStmtForm (inner_block x) names site b = IsFirstInBlock x names (inner names site) b
  IsFirstInStmtForm empty names site b = ⊥
  IsFirstInStmtForm (line l) names site b = IsFirstInLine l names site b
  IsFirstInStmtForm (when c s other) names site b =
      InOneOf (IsFirstIn c names Value b) (IsTypedAs c names Value)
      (λ _. InOneOf (IsFirstInStmt s names (inner names site) b) (IsStmtTypedAs s names (inner names site)) (λ _. IsFirstInElse other names (inner names site) b))
  IsFirstInStmtForm (while c s) names site b = InOneOf (IsFirstIn c names Value b) (IsTypedAs c names Value) (λ _. IsFirstInStmt s names (in_loop names site) b)
  -- the last part of the head comes before the body
  IsFirstInStmtForm (for first c next s) names site b =
      InOneOf (IsFirstInSmall first names (inner names site) b) (IsSmallTypedAs first names (inner names site)) (λ head.
      let behind : Names = names_behind_small head names (inner names site) in
      InOneOf (IsFirstInMaybe c behind b) (IsMaybeTypedAs c behind) (λ _.
      InOneOf (IsFirstInSmall next behind (inner behind site) b) (IsSmallTypedAs next behind (inner behind site)) (λ _. IsFirstInStmt s behind (in_loop behind site) b)))
  IsFirstInStmtForm (each t x e s) names site b =
      let behind : Names = with_local names x t in
      InOneOf (IsFirstIn e names Value b) (IsTypedAs e names Value) (λ _. IsFirstInStmt s behind (in_loop behind site) b)
  IsFirstInStmtForm (switch e cs) names site b = InOneOf (IsFirstIn e names Value b) (IsTypedAs e names Value) (λ _. IsFirstInCases cs names site b)

  pub IsFirstInCases : CaseTrees → Names → Site → Broken → Type 0
  IsFirstInCases no_cases names site b = ⊥
  IsFirstInCases (more_cases c cs) names site b = InOneOf (IsFirstInCase c names site b) (IsCaseTypedAs c names site) (λ _. IsFirstInCases cs names site b)

  -- the rules of the labels stand at the `switch`, behind all cases
  pub IsFirstInCase : CaseTree → Names → Site → Broken → Type 0
  IsFirstInCase (a_case at l ss) names site b = InOneOf (IsFirstInMaybe l names b) (IsMaybeTypedAs l names) (λ _. IsFirstInStmts ss names (in_switch names site) b)

  pub IsFirstInElse : MaybeStmt → Names → Site → Broken → Type 0
  IsFirstInElse no_stmt names site b = ⊥
  IsFirstInElse (a_stmt s) names site b = IsFirstInStmt s names site b

  pub IsFirstInLine : LineTree → Names → Site → Broken → Type 0
  IsFirstInLine (declare t x r) names site b = IsFirstInMaybeRight r names (This t) b
  IsFirstInLine (infer x r) names site b = IsFirstInRight r names Value b
  IsFirstInLine (assign p r) names site b = InOneOf (IsFirstInPlace p names b) (IsPlaceTypedAs p names) (λ _. IsFirstInRight r names (This (place_ty names p)) b)
  IsFirstInLine (update p o r) names site b = InOneOf (IsFirstInPlace p names b) (IsPlaceTypedAs p names) (λ _. IsFirstInRight r names Value b)
  IsFirstInLine (step s) names site b = IsFirstInStep s names b
  IsFirstInLine (call_line e) names site b = IsFirstIn e names Whole b
  IsFirstInLine (print e) names site b = IsFirstIn e names Value b
  IsFirstInLine (println e) names site b = IsFirstInMaybe e names b
  IsFirstInLine (error e) names site b = IsFirstIn e names Value b
  IsFirstInLine (exit e) names site b = IsFirstIn e names Value b
  IsFirstInLine break names site b = ⊥
  IsFirstInLine continue names site b = ⊥
  IsFirstInLine (return r) names site b = IsFirstInMaybeRight r names (returned site.returns) b
  IsFirstInLine (wait e) names site b = IsFirstInMaybe e names b
  IsFirstInLine (checkpoint e) names site b = IsFirstInMaybe e names b
  IsFirstInLine (act_line a) names site b = IsFirstInAct a names Whole b

  pub IsFirstInRight : RightTree → Names → Asked → Broken → Type 0
  IsFirstInRight (right_expr e) names asked b = IsFirstIn e names asked b
  IsFirstInRight (right_act a) names asked b = IsFirstInAct a names asked b

  pub IsFirstInMaybeRight : MaybeRight → Names → Asked → Broken → Type 0
  IsFirstInMaybeRight no_right names asked b = ⊥
  IsFirstInMaybeRight (a_right r) names asked b = IsFirstInRight r names asked b

  pub IsFirstInAct : ActTree → Names → Asked → Broken → Type 0
  IsFirstInAct (act at f) names asked b = InOneOf (IsFirstInActForm f names b) (IsActFormTypedAs f names) (λ g. placed at (act_breaks names asked g) ≡ Some b)

  -- the rule of the slots of a `par` block stands at the block, behind its statements
  pub IsFirstInActForm : ActFormTree → Names → Broken → Type 0
  IsFirstInActForm (sys ps) names b = ⊥
  IsFirstInActForm (task None y) names b = IsFirstInCommands (commands_of y) names b
  IsFirstInActForm (task (Some os) y) names b = InOneOf (IsFirstInSettings os names false none_seen b) (AreSettingsTypedAs os names false none_seen) (λ _. IsFirstInCommands (commands_of y) names b)
  IsFirstInActForm (dep os y) names b = InOneOf (IsFirstInSettings os names true none_seen b) (AreSettingsTypedAs os names true none_seen) (λ _. IsFirstInCommands (commands_of y) names b)
  IsFirstInActForm (goal e) names b = IsFirstIn e names Value b
  IsFirstInActForm (par_call f es) names b = IsFirstInArguments es names (parameters_of (function_named f names.functions)) b
  IsFirstInActForm (par_block y) names b =
      InOneOf (IsFirstInBlock y names (apart names) b) (IsBlockTypedAs y names (apart names))
      (λ z. placed (block_at z) (par_rule names z) ≡ Some b)

  pub IsFirstInBlock : BlockTree → Names → Site → Broken → Type 0
  IsFirstInBlock (block at ss) names site b = IsFirstInStmts ss names site b

  pub IsFirstInStmts : StmtTrees → Names → Site → Broken → Type 0
  IsFirstInStmts no_stmts names site b = ⊥
  IsFirstInStmts (more_stmts s ss) names site b = InOneOf (IsFirstInStmt s names site b) (IsStmtTypedAs s names site) (λ r. IsFirstInStmts ss (names_behind r names site) site b)

-- Scripts

-- behind the functions before
abbrev pub IsFirstInFunction : FunctionTree → Names → List Head → Broken → Type 0
IsFirstInFunction f names before b =
    let inside : Names = with_parameters names f.parameters in
    InOneOf (IsFirstInBlock f.body inside (in_function f.result) b) (IsBlockTypedAs f.body inside (in_function f.result))
    (λ z. placed f.at (function_breaks before (with_body f z)) ≡ Some b)

abbrev pub IsFirstInPart : PartTree → Names → List Head → Names → Broken → Type 0
IsFirstInPart (a_function f) all before names b = IsFirstInFunction f all before b
IsFirstInPart (an_include i) all before names b = ⊥
IsFirstInPart (a_statement s) all before names b = IsFirstInStmt s names top b

-- `all` are the names in force in functions, `names` those in force here
abbrev pub IsFirstInParts : List PartTree → Names → List Head → Names → Broken → Type 0
IsFirstInParts [] all before names b = ⊥
IsFirstInParts (p ∷ ps) all before names b =
    InOneOf (IsFirstInPart p all before names b) (IsPartTypedAs p all before names) (λ q. IsFirstInParts ps all (with_head before p) (names_behind_part q names) b)

-- The globals that functions see

-- the type of a global declared by `:=`: none where a node of the declaration breaks a rule or names a global without a type
abbrev pub IsFoundType : List Head → List Variable → RightTree → Ty → Type 0
IsFoundType heads globals r t = TypedOrNot (IsRightTypedAs r (finding_names heads globals) Value) (λ q. t ≡ right_type q) (t ≡ ty.Void)

abbrev pub AreGlobalsBehindForm : List Head → List Variable → StmtFormTree → List Variable → Type 0
AreGlobalsBehindForm heads globals (line (declare t x r)) behind = behind ≡ declare_in 0 (variable x t) globals
AreGlobalsBehindForm heads globals (line (infer x r)) behind = (t : Ty) × IsFoundType heads globals r t × (behind ≡ declare_in 0 (variable x t) globals)
AreGlobalsBehindForm heads globals _ behind = behind ≡ globals

abbrev pub AreGlobalsBehindPart : List Head → List Variable → PartTree → List Variable → Type 0
AreGlobalsBehindPart heads globals (a_statement (stmt at f)) behind = AreGlobalsBehindForm heads globals f behind
AreGlobalsBehindPart heads globals _ behind = behind ≡ globals

-- found in the order of the text
abbrev pub AreGlobalsBehind : List Head → List Variable → List PartTree → List Variable → Type 0
AreGlobalsBehind heads globals [] behind = behind ≡ globals
AreGlobalsBehind heads globals (p ∷ ps) behind = (next : List Variable) × AreGlobalsBehindPart heads globals p next × AreGlobalsBehind heads next ps behind

-- the first node of a script that breaks a rule; the script is the last of its nodes
abbrev pub IsFirstBroken : ScriptTree → Broken → Type 0
IsFirstBroken s b =
    let heads : List Head = heads_of s.parts in
    let start : Names = names_of heads first_globals in
    (globals : List Variable) × AreGlobalsBehind heads first_globals s.parts globals
    × InOneOf (IsFirstInParts s.parts (names_of heads globals) [] start b) (ArePartsTypedAs s.parts (names_of heads globals) [] start) (λ qs. placed s.at (script_breaks qs) ≡ Some b)
