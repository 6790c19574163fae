-- The least rule that an expression breaks whose parts have their types.
use Rattle.std.specs.Prelude.{ℕ, ◌==◌, Bool, true, false, ◌||◌, ◌&&◌, not, is_some, Option, Some, None, List, [], ◌∷◌, length, nat_lt}
use Rattle.bds_value.specs.declared.value.Ty.{Ty}
use Rattle.bds_value.specs.declared.value.Ty.TheVariants as ty
use Rattle.bds_value.specs.Types.{list_item, map_item, is_plain, is_ordered}
use Rattle.bds_value.specs.Fields.{nesting}
use Rattle.bds_value.specs.declared.TheConstants.{MAX_NESTING}
use Rattle.bds_tree.specs.declared.expr.PrefixOp.{PrefixOp}
use Rattle.bds_tree.specs.declared.expr.PrefixOp.TheVariants as sign
use Rattle.bds_tree.specs.declared.expr.BinaryOp.{BinaryOp}
use Rattle.bds_tree.specs.declared.expr.BinaryOp.TheVariants as op
use Rattle.bds_tree.specs.Tree.{Tree, FormTree, Trees, TreePairs, node, number, text, truth, name, call, group, list, mapping, item, key, method, prefix, binary, choice, dependency, none, more, no_pairs, more_pairs, type_of}
use Rattle.bds_check_names.specs.declared.names.Names.{Names}
use Rattle.bds_check_names.specs.declared.names.Head.{Head}
use Rattle.bds_check_names.specs.declared.names.Asked.{Asked}
use Rattle.bds_check_names.specs.declared.names.Asked.TheVariants.{This}
use Rattle.bds_check_names.specs.declared.rows.Row.{Row}
use Rattle.bds_check_rules.specs.declared.rules.Rule.{Rule}
use Rattle.bds_check_rules.specs.declared.rules.Rule.TheVariants as rule
use Rattle.bds_check_names.specs.Types.{is_known, lacks, differ, is_files, sum_ty}
use Rattle.bds_check_names.specs.Scopes.{found, function_named, is_missing, is_value}
use Rattle.bds_check_names.specs.Rows.{row_of}
use Rattle.bds_check_rules.specs.Typing.{type_at, item_type, asked_list_item, asked_map_item, count}
use Rattle.bds_check_rules.specs.Pieces.{when, text_rule}

-- an empty literal that can't have the type that is asked for
abbrev pub is_open_under : Asked → Option Ty → Bool
is_open_under (This t) None = is_known t
is_open_under _ None = true
is_open_under _ (Some t) = false

-- an item has another type than this
abbrev pub any_differs : Ty → Trees → Bool
any_differs t none = false
any_differs t (more e es) = differ t (type_of e) || any_differs t es

-- a key isn't a text, or a value has another type than this
abbrev pub any_pair_differs : Ty → TreePairs → Bool
any_pair_differs t no_pairs = false
any_pair_differs t (more_pairs k v ps) = (differ ty.Text (type_of k) || differ t (type_of v)) || any_pair_differs t ps

-- an argument has another type than its parameter
abbrev pub any_argument_differs : List Ty → Trees → Bool
any_argument_differs [] es = false
any_argument_differs (t ∷ ts) none = false
any_argument_differs (t ∷ ts) (more e es) = differ t (type_of e) || any_argument_differs ts es

abbrev mutual
  -- a variable, or a part of a place
  pub is_place : Tree → Bool
  is_place (node at t f) = is_place_form f

  pub is_place_form : FormTree → Bool
  is_place_form (name x) = true
  is_place_form (item a i) = is_place a
  is_place_form (key a k) = is_place a
  is_place_form _ = false

abbrev pub name_rule : Names → List ℕ → Option Rule
name_rule names x = when (is_missing names.finding (found x names)) rule.UnknownName None

abbrev pub list_rule : Asked → Trees → Option Rule
list_rule asked none = when (is_open_under asked (asked_list_item asked)) rule.OpenLiteral None
list_rule asked (more e es) = when (any_differs (item_type (asked_list_item asked) (type_of e)) (more e es)) rule.WrongType None

abbrev pub map_rule : Asked → TreePairs → Option Rule
map_rule asked no_pairs = when (is_open_under asked (asked_map_item asked)) rule.OpenLiteral None
map_rule asked (more_pairs k v ps) = when (any_pair_differs (item_type (asked_map_item asked) (type_of v)) (more_pairs k v ps)) rule.WrongType None

-- of arguments behind a name; `void` tells that the result is needed and isn't there
abbrev pub call_rule : Bool → Option Head → Trees → Option Rule
call_rule void None es = Some rule.UnknownFunction
call_rule void (Some h) es =
    when (any_argument_differs h.parameters es) rule.WrongType
    (when (not (length h.parameters == count es)) rule.WrongCount
    (when (void && not (is_known h.result)) rule.VoidValue None))

abbrev pub method_rule : Asked → Tree → Option Row → Trees → Option Rule
method_rule asked receiver None es = when (is_known (type_of receiver)) rule.UnknownMethod None
method_rule asked receiver (Some row) es =
    when (any_argument_differs row.takes es) rule.WrongType
    (when (is_value asked && not row.changes && not (is_known row.gives)) rule.VoidValue
    (when (row.changes && not (is_place receiver)) rule.NotPlace
    (when (row.changes && is_value asked) rule.MutatorValue None)))

-- a part behind a value, with its index or key, and the type of an index or key
abbrev pub part_rule : Ty → Ty → Option Ty → Ty → Option Rule
part_rule wanted whole part given = when (differ wanted given) rule.WrongType (when (lacks whole (is_some part)) rule.BadItem None)

abbrev pub prefix_rule : PrefixOp → Ty → Option Rule
prefix_rule sign.Neg t = when (differ ty.Int t) rule.WrongType None
prefix_rule sign.Not t = when (differ ty.Bool t) rule.WrongType None

-- both have this type
abbrev pub both_rule : Ty → Ty → Ty → Option Rule
both_rule t a b = when (differ t a || differ t b) rule.WrongType None

abbrev pub sum_rule : Ty → Ty → Option Rule
sum_rule a b = when (is_known a && is_known b && not (is_known (sum_ty a b))) rule.WrongType None

-- both have one type, one of these
abbrev pub compared_rule : (Ty → Bool) → Ty → Ty → Option Rule
compared_rule among a b = when (lacks a (among a) || lacks b (among b) || differ a b) rule.WrongType None

abbrev pub binary_rule : BinaryOp → Ty → Ty → Option Rule
binary_rule op.Or a b = both_rule ty.Bool a b
binary_rule op.And a b = both_rule ty.Bool a b
binary_rule op.Equal a b = compared_rule is_plain a b
binary_rule op.NotEqual a b = compared_rule is_plain a b
binary_rule op.Less a b = compared_rule is_ordered a b
binary_rule op.AtMost a b = compared_rule is_ordered a b
binary_rule op.Greater a b = compared_rule is_ordered a b
binary_rule op.AtLeast a b = compared_rule is_ordered a b
binary_rule op.Add a b = sum_rule a b
binary_rule op.Sub a b = both_rule ty.Int a b
binary_rule op.Mul a b = both_rule ty.Int a b
binary_rule op.Div a b = both_rule ty.Int a b
binary_rule op.Rem a b = both_rule ty.Int a b

abbrev pub choice_rule : Ty → Ty → Ty → Option Rule
choice_rule c a b = when (differ ty.Bool c || differ a b) rule.WrongType None

abbrev pub files_rule : Ty → Option Rule
files_rule t = when (lacks t (is_files t)) rule.WrongType None

abbrev pub dependency_rule : Ty → Ty → Option Rule
dependency_rule a b = when (lacks a (is_files a) || lacks b (is_files b)) rule.WrongType None

abbrev pub rule_at : Names → Asked → FormTree → Option Rule
rule_at names asked (number v) = None
rule_at names asked (text ps) = text_rule names ps
rule_at names asked (truth b) = None
rule_at names asked (name x) = name_rule names x
rule_at names asked (call f es) = call_rule (is_value asked) (function_named f names.functions) es
rule_at names asked (group e) = None
rule_at names asked (list es) = list_rule asked es
rule_at names asked (mapping ps) = map_rule asked ps
rule_at names asked (item a i) = part_rule ty.Int (type_of a) (list_item (type_of a)) (type_of i)
rule_at names asked (key a k) = part_rule ty.Text (type_of a) (map_item (type_of a)) (type_of k)
rule_at names asked (method a m es) = method_rule asked a (row_of (type_of a) m (count es)) es
rule_at names asked (prefix o a) = prefix_rule o (type_of a)
rule_at names asked (binary a o b) = binary_rule o (type_of a) (type_of b)
rule_at names asked (choice c a b) = choice_rule (type_of c) (type_of a) (type_of b)
rule_at names asked (dependency a b) = dependency_rule (type_of a) (type_of b)

abbrev pub or_deep : Option Rule → Ty → Option Rule
or_deep (Some r) t = Some r
or_deep None t = when (nat_lt MAX_NESTING (nesting t)) rule.DeepType None

-- the least rule that an expression breaks, under these names, and with this asked of it
abbrev pub breaks : Names → Asked → FormTree → Option Rule
breaks names asked f = or_deep (rule_at names asked f) (type_at names asked f)
