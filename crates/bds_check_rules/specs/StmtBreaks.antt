-- The least rule that a place, a statement, an option or an act breaks whose parts have their types.
use Rattle.std.specs.Prelude.{ℕ, Bool, true, false, ◌||◌, ◌&&◌, not, is_some, Option, Some, None, List, [], ◌∷◌, ◌++◌, codes, if◌then◌else◌}
use Rattle.std.specs.List.{list_any}
use Rattle.std.specs.Str.{bytes_eq}
use Rattle.bds_value.specs.declared.value.Ty.{Ty}
use Rattle.bds_value.specs.declared.value.Ty.TheVariants as ty
use Rattle.bds_value.specs.Types.{same_ty, list_item, map_item, is_plain}
use Rattle.bds_tree.specs.declared.stmt.Body.{Body}
use Rattle.bds_tree.specs.declared.stmt.Body.TheVariants as body
use Rattle.bds_tree.specs.declared.stmt.Command.{Command}
use Rattle.bds_tree.specs.declared.stmt.UpdateOp.{UpdateOp}
use Rattle.bds_tree.specs.declared.stmt.UpdateOp.TheVariants as op
use Rattle.bds_tree.specs.Tree.{Tree, FormTree, dependency, type_of, form_of}
use Rattle.bds_tree.specs.StmtTree.{SuffixTree, at_index, at_key, PlaceTree, StepTree, step_after, step_before, SmallFormTree, small_declare, small_infer, small_assign, small_update, small_step, small_call, SettingFormTree, setting_named, setting_plain, SettingTree, StmtFormTree, LineTree, RightTree, ActTree, ActFormTree, MaybeRight, inner_block, empty, line, when, while, for, each, declare, infer, assign, update, step, call_line, print, println, error, exit, break, continue, return, wait, checkpoint, act_line, right_expr, right_act, act, sys, task, dep, goal, par_call, par_block, no_right, a_right, switch, CaseTrees, CaseTree, no_cases, more_cases, a_case}
use Rattle.bds_check_names.specs.declared.names.Names.{Names}
use Rattle.bds_check_names.specs.declared.names.Asked.{Asked}
use Rattle.bds_check_names.specs.declared.names.Site.{Site}
use Rattle.bds_check_names.specs.declared.names.Seen.{Seen}
use Rattle.bds_check_rules.specs.declared.rules.Rule.{Rule}
use Rattle.bds_check_rules.specs.declared.rules.Rule.TheVariants as rule
use Rattle.bds_check_names.specs.Types.{is_known, differ, or_void, sum_ty, lacks}
use Rattle.bds_check_names.specs.Scopes.{found, type_named, function_named, is_missing, is_declared, is_value}
use Rattle.bds_check_rules.specs.Pieces.{when as broken_if, sys_rule}
use Rattle.bds_check_rules.specs.Breaks.{files_rule, call_rule}

-- Places

-- the type of a part
abbrev pub into : Ty → SuffixTree → Ty
into t (at_index e) = or_void (list_item t)
into t (at_key e) = or_void (map_item t)

-- the type of the part behind these steps
abbrev pub part_ty : Ty → List SuffixTree → Ty
part_ty t [] = t
part_ty t (s ∷ ss) = part_ty (into t s) ss

abbrev pub place_ty : Names → PlaceTree → Ty
place_ty names p = part_ty (type_named p.name names) p.suffixes

-- an index isn't a number, or a key isn't a text
abbrev pub is_wrong_suffix : SuffixTree → Bool
is_wrong_suffix (at_index e) = differ ty.Int (type_of e)
is_wrong_suffix (at_key e) = differ ty.Text (type_of e)

-- an index stands behind something that isn't a list, or a key behind what isn't a map
abbrev pub is_bad_suffix : Ty → SuffixTree → Bool
is_bad_suffix t (at_index e) = lacks t (is_some (list_item t))
is_bad_suffix t (at_key e) = lacks t (is_some (map_item t))

abbrev pub any_bad_suffix : Ty → List SuffixTree → Bool
any_bad_suffix t [] = false
any_bad_suffix t (s ∷ ss) = is_bad_suffix t s || any_bad_suffix (into t s) ss

abbrev pub place_breaks : Names → PlaceTree → Option Rule
place_breaks names p =
    broken_if (is_missing names.finding (found p.name names)) rule.UnknownName
    (broken_if (list_any is_wrong_suffix p.suffixes) rule.WrongType
    (broken_if (any_bad_suffix (type_named p.name names) p.suffixes) rule.BadItem None))

-- Right sides

-- `dep` has no value
abbrev pub act_form_type : ActFormTree → Ty
act_form_type (sys ps) = ty.Text
act_form_type (task os b) = ty.Text
act_form_type (dep os b) = ty.Void
act_form_type (goal e) = ty.List ty.Text
act_form_type (par_call f es) = ty.Text
act_form_type (par_block b) = ty.Text

abbrev pub act_type : ActTree → Ty
act_type (act at f) = act_form_type f

abbrev pub right_type : RightTree → Ty
right_type (right_expr e) = type_of e
right_type (right_act a) = act_type a

-- Declarations, assignments, updates and steps, on lines and in heads of loops

abbrev pub twice_rule : Names → Site → List ℕ → Option Rule → Option Rule
twice_rule names site x others = broken_if (is_declared names site x) rule.TwiceDeclared others

-- this type is wanted and another is there
abbrev pub wrong_rule : Ty → Ty → Option Rule
wrong_rule wanted given = broken_if (differ wanted given) rule.WrongType None

abbrev pub given_rule : Ty → Option Ty → Option Rule
given_rule t None = None
given_rule t (Some given) = wrong_rule t given

abbrev pub declare_rule : Names → Site → Ty → List ℕ → Option Ty → Option Rule
declare_rule names site t x given = twice_rule names site x (given_rule t given)

abbrev pub update_rule : UpdateOp → Ty → Ty → Option Rule
update_rule op.Add p e = broken_if (is_known p && is_known e && not (same_ty (sum_ty p e) p)) rule.WrongType None
update_rule _ p e = broken_if (differ ty.Int p || differ ty.Int e) rule.WrongType None

abbrev pub stepped : StepTree → PlaceTree
stepped (step_after p o) = p
stepped (step_before o p) = p

abbrev pub step_rule : Names → StepTree → Option Rule
step_rule names s = wrong_rule ty.Int (place_ty names (stepped s))

abbrev pub small_breaks : Names → Site → SmallFormTree → Option Rule
small_breaks names site (small_declare t x None) = declare_rule names site t x None
small_breaks names site (small_declare t x (Some e)) = declare_rule names site t x (Some (type_of e))
small_breaks names site (small_infer x e) = twice_rule names site x None
small_breaks names site (small_assign p e) = wrong_rule (place_ty names p) (type_of e)
small_breaks names site (small_update p o e) = update_rule o (place_ty names p) (type_of e)
small_breaks names site (small_step s) = step_rule names s
small_breaks names site (small_call e) = None

-- Statements

-- a `return` where this is the result of the function, with a value of this type or none
abbrev pub return_rule : Option Ty → Option Ty → Option Rule
return_rule None given = Some rule.ReturnOutside
return_rule (Some t) None = broken_if (is_known t) rule.WrongType None
return_rule (Some t) (Some given) = broken_if (not (is_known t) || differ t given) rule.WrongType None

abbrev pub maybe_right_type : MaybeRight → Option Ty
maybe_right_type no_right = None
maybe_right_type (a_right r) = Some (right_type r)

abbrev pub break_rule : Site → Option Rule
break_rule site = broken_if (not site.may_break) rule.BreakOutside None

abbrev pub continue_rule : Site → Option Rule
continue_rule site = broken_if (not site.in_loop) rule.BreakOutside None

abbrev pub maybe_files_rule : Option Tree → Option Rule
maybe_files_rule None = None
maybe_files_rule (Some e) = files_rule (type_of e)

abbrev pub maybe_wrong_rule : Ty → Option Tree → Option Rule
maybe_wrong_rule t None = None
maybe_wrong_rule t (Some e) = wrong_rule t (type_of e)

abbrev pub line_breaks : Names → Site → LineTree → Option Rule
line_breaks names site (declare t x r) = declare_rule names site t x (maybe_right_type r)
line_breaks names site (infer x r) = twice_rule names site x None
line_breaks names site (assign p r) = wrong_rule (place_ty names p) (right_type r)
line_breaks names site (update p o r) = update_rule o (place_ty names p) (right_type r)
line_breaks names site (step s) = step_rule names s
line_breaks names site (call_line e) = None
line_breaks names site (print e) = None
line_breaks names site (println e) = None
line_breaks names site (error e) = wrong_rule ty.Text (type_of e)
line_breaks names site (exit e) = wrong_rule ty.Int (type_of e)
line_breaks names site break = break_rule site
line_breaks names site continue = continue_rule site
line_breaks names site (return r) = return_rule site.returns (maybe_right_type r)
line_breaks names site (wait e) = maybe_files_rule e
line_breaks names site (checkpoint e) = maybe_wrong_rule ty.Text e
line_breaks names site (act_line a) = None

-- a label has another type than the value
abbrev pub is_wrong_label : Ty → Option Tree → Bool
is_wrong_label t None = false
is_wrong_label t (Some e) = differ t (type_of e)

abbrev pub is_wrong_case : Ty → CaseTree → Bool
is_wrong_case t (a_case at l ss) = is_wrong_label t l

abbrev pub any_wrong_case : Ty → CaseTrees → Bool
any_wrong_case t no_cases = false
any_wrong_case t (more_cases c cs) = is_wrong_case t c || any_wrong_case t cs

abbrev pub is_default : CaseTree → Bool
is_default (a_case at None ss) = true
is_default (a_case at (Some e) ss) = false

abbrev pub any_default : CaseTrees → Bool
any_default no_cases = false
any_default (more_cases c cs) = is_default c || any_default cs

abbrev pub are_two_defaults : CaseTrees → Bool
are_two_defaults no_cases = false
are_two_defaults (more_cases c cs) = (if is_default c then any_default cs else are_two_defaults cs)

abbrev pub switch_rule : Ty → CaseTrees → Option Rule
switch_rule t cs =
    broken_if (lacks t (is_plain t) || any_wrong_case t cs) rule.WrongType
    (broken_if (are_two_defaults cs) rule.TwoDefaults None)

-- the least rule that a statement breaks, where these names are in force before it
abbrev pub stmt_breaks : Names → Site → StmtFormTree → Option Rule
stmt_breaks names site (inner_block b) = None
stmt_breaks names site empty = None
stmt_breaks names site (line l) = line_breaks names site l
stmt_breaks names site (when c then_part else_part) = wrong_rule ty.Bool (type_of c)
stmt_breaks names site (while c s) = wrong_rule ty.Bool (type_of c)
stmt_breaks names site (for first c next s) = maybe_wrong_rule ty.Bool c
stmt_breaks names site (each t x e s) = wrong_rule (ty.List t) (type_of e)
stmt_breaks names site (switch e cs) = switch_rule (type_of e) cs

-- Acts

abbrev pub none_seen : Seen
none_seen = record { names = []; dependency = false }

abbrev pub is_dependency_form : FormTree → Bool
is_dependency_form (dependency a b) = true
is_dependency_form _ = false

-- without parentheses around it
abbrev pub is_dependency : Tree → Bool
is_dependency e = is_dependency_form (form_of e)

abbrev pub seen_behind : Seen → SettingFormTree → Seen
seen_behind seen (setting_named x e) = record { names = seen.names ++ x ∷ []; dependency = seen.dependency }
seen_behind seen (setting_plain e) = record { names = seen.names; dependency = seen.dependency || is_dependency e }

-- the type of an option
abbrev pub option_type : List ℕ → Option Ty
option_type x =
    if bytes_eq x (codes "cpus") then Some ty.Int else
    (if bytes_eq x (codes "canFail") then Some ty.Bool else
    (if bytes_eq x (codes "retry") then Some ty.Int else
    (if bytes_eq x (codes "taskName") then Some ty.Text else None)))

abbrev pub named_rule : Bool → Option Ty → Ty → Option Rule
named_rule twice None given = Some rule.UnknownOption
named_rule twice (Some t) given = broken_if twice rule.TwiceOption (wrong_rule t given)

-- of a `dep`, or else of a task
abbrev pub condition_rule : Bool → Ty → Option Rule
condition_rule true given = Some rule.UnknownOption
condition_rule false given = wrong_rule ty.Bool given

abbrev pub setting_breaks : Bool → Seen → SettingFormTree → Option Rule
setting_breaks of_dep seen (setting_named x e) = named_rule (list_any (λ y. bytes_eq y x) seen.names) (option_type x) (type_of e)
setting_breaks of_dep seen (setting_plain e) = (if is_dependency e then broken_if seen.dependency rule.TwoDeps None else condition_rule of_dep (type_of e))

abbrev pub any_dependency : List SettingTree → Bool
any_dependency [] = false
any_dependency (s ∷ ss) = (seen_behind none_seen s.form).dependency || any_dependency ss

abbrev pub commands_of : Body → List Command
commands_of (body.Sys c) = c ∷ []
commands_of (body.Block cs) = cs

abbrev pub is_empty_list : List Command → Bool
is_empty_list [] = true
is_empty_list (c ∷ cs) = false

abbrev pub body_rule : Body → Option Rule → Option Rule
body_rule b others = broken_if (is_empty_list (commands_of b)) rule.NoCommand others

-- the least rule that an act breaks; only `dep` has no value
abbrev pub act_breaks : Names → Asked → ActFormTree → Option Rule
act_breaks names asked (sys ps) = sys_rule names ps
act_breaks names asked (task os b) = body_rule b None
act_breaks names asked (dep os b) =
    broken_if (not (any_dependency os)) rule.NoDep (body_rule b (broken_if (is_value asked) rule.VoidValue None))
act_breaks names asked (goal e) = files_rule (type_of e)
act_breaks names asked (par_call f es) = call_rule false (function_named f names.functions) es
act_breaks names asked (par_block b) = None
