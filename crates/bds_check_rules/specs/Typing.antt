-- The type of an expression whose parts have their types.
use Rattle.std.specs.Prelude.{ℕ, ◌+◌, Option, Some, None}
use Rattle.bds_value.specs.declared.value.Ty.{Ty}
use Rattle.bds_value.specs.declared.value.Ty.TheVariants as ty
use Rattle.bds_value.specs.Types.{list_item, map_item}
use Rattle.bds_tree.specs.declared.expr.PrefixOp.{PrefixOp}
use Rattle.bds_tree.specs.declared.expr.PrefixOp.TheVariants as sign
use Rattle.bds_tree.specs.declared.expr.BinaryOp.{BinaryOp}
use Rattle.bds_tree.specs.declared.expr.BinaryOp.TheVariants as op
use Rattle.bds_tree.specs.Tree.{FormTree, Trees, TreePairs, number, text, truth, name, call, group, list, mapping, item, key, method, prefix, binary, choice, dependency, none, more, no_pairs, more_pairs, type_of}
use Rattle.bds_check_names.specs.declared.names.Names.{Names}
use Rattle.bds_check_names.specs.declared.names.Head.{Head}
use Rattle.bds_check_names.specs.declared.names.Asked.{Asked}
use Rattle.bds_check_names.specs.declared.names.Asked.TheVariants.{Whole, Value, This}
use Rattle.bds_check_names.specs.declared.rows.Row.{Row}
use Rattle.bds_check_names.specs.Types.{or_void, list_of, map_of, sum_ty, common_ty}
use Rattle.bds_check_names.specs.Scopes.{type_named, function_named}
use Rattle.bds_check_names.specs.Rows.{row_of}

abbrev pub count : Trees → ℕ
count none = 0
count (more e es) = count es + 1

abbrev pub result_of : Option Head → Ty
result_of None = ty.Void
result_of (Some h) = h.result

abbrev pub given_by : Option Row → Ty
given_by None = ty.Void
given_by (Some row) = row.gives

-- the item type of the list that is asked for
abbrev pub asked_list_item : Asked → Option Ty
asked_list_item (This t) = list_item t
asked_list_item Whole = None
asked_list_item Value = None

-- the value type of the map that is asked for
abbrev pub asked_map_item : Asked → Option Ty
asked_map_item (This t) = map_item t
asked_map_item Whole = None
asked_map_item Value = None

abbrev pub first_type : Trees → Ty
first_type none = ty.Void
first_type (more e es) = type_of e

abbrev pub first_value_type : TreePairs → Ty
first_value_type no_pairs = ty.Void
first_value_type (more_pairs k v ps) = type_of v

-- of a literal: what is asked for, and else the type of its first item
abbrev pub item_type : Option Ty → Ty → Ty
item_type None first = first
item_type (Some asked) first = asked

abbrev pub prefix_type : PrefixOp → Ty
prefix_type sign.Neg = ty.Int
prefix_type sign.Not = ty.Bool

abbrev pub binary_type : BinaryOp → Ty → Ty → Ty
binary_type op.Add a b = sum_ty a b
binary_type op.Sub a b = ty.Int
binary_type op.Mul a b = ty.Int
binary_type op.Div a b = ty.Int
binary_type op.Rem a b = ty.Int
binary_type _ a b = ty.Bool

-- under these names, and with this asked of it
abbrev pub type_at : Names → Asked → FormTree → Ty
type_at names asked (number v) = ty.Int
type_at names asked (text ps) = ty.Text
type_at names asked (truth b) = ty.Bool
type_at names asked (name x) = type_named x names
type_at names asked (call f es) = result_of (function_named f names.functions)
type_at names asked (group e) = type_of e
type_at names asked (list es) = list_of (item_type (asked_list_item asked) (first_type es))
type_at names asked (mapping ps) = map_of (item_type (asked_map_item asked) (first_value_type ps))
type_at names asked (item a i) = or_void (list_item (type_of a))
type_at names asked (key a k) = or_void (map_item (type_of a))
type_at names asked (method a m es) = given_by (row_of (type_of a) m (count es))
type_at names asked (prefix o a) = prefix_type o
type_at names asked (binary a o b) = binary_type o (type_of a) (type_of b)
type_at names asked (choice c a b) = common_ty (type_of a) (type_of b)
type_at names asked (dependency a b) = ty.Bool
