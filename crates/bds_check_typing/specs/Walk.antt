-- The walk through an expression: its parts in the order of the text, then itself.
use Rattle.std.specs.Prelude.{ℕ, ◌+◌, Bool, true, false, ◌&&◌, not, is_none, Option, Some, None, List, [], ◌∷◌, if◌then◌else◌}
use Rattle.bds_value.specs.declared.value.At.{At}
use Rattle.bds_value.specs.declared.value.Ty.{Ty}
use Rattle.bds_value.specs.declared.value.Ty.TheVariants as ty
use Rattle.bds_tree.specs.Tree.{Tree, FormTree, Trees, TreePairs, node, number, text, truth, name, call, group, list, mapping, item, key, method, prefix, binary, choice, dependency, none, more, no_pairs, more_pairs, joined, joined_pairs, type_of}
use Rattle.bds_check_names.specs.declared.names.Names.{Names}
use Rattle.bds_check_names.specs.declared.names.Head.{Head}
use Rattle.bds_check_names.specs.declared.names.Asked.{Asked}
use Rattle.bds_check_names.specs.declared.names.Asked.TheVariants.{Whole, Value, This}
use Rattle.bds_check_names.specs.declared.rows.Row.{Row}
use Rattle.bds_check_rules.specs.declared.rules.Rule.{Rule}
use Rattle.bds_check_names.specs.Types.{is_known}
use Rattle.bds_check_names.specs.Scopes.{function_named}
use Rattle.bds_check_names.specs.Rows.{row_of}
use Rattle.bds_check_rules.specs.Typing.{type_at, asked_list_item, asked_map_item, count}
use Rattle.bds_check_rules.specs.Breaks.{breaks}

-- a node that breaks a rule
pub record Broken : Type 0 where
  pub rule : Rule
  pub at : At

-- an expression with its types, and the first of its nodes that breaks a rule
pub record Judged : Type 0 where
  pub tree : Tree
  pub broken : Option Broken

pub record JudgedForm : Type 0 where
  pub form : FormTree
  pub broken : Option Broken

pub record JudgedTrees : Type 0 where
  pub trees : Trees
  pub broken : Option Broken

pub record JudgedPairs : Type 0 where
  pub pairs : TreePairs
  pub broken : Option Broken

abbrev pub first : Option Broken → Option Broken → Option Broken
first None later = later
first (Some b) later = Some b

abbrev pub placed : At → Option Rule → Option Broken
placed at None = None
placed at (Some r) = Some (record { rule = r; at = at })

-- a node behind its parts
abbrev pub close : At → Names → Asked → JudgedForm → Judged
close at names asked j = record {
  tree = node at (type_at names asked j.form) j.form;
  broken = first j.broken (placed at (breaks names asked j.form));
}

abbrev pub alone : FormTree → JudgedForm
alone f = record { form = f; broken = None }

abbrev pub with_one : (Tree → FormTree) → Judged → JudgedForm
with_one make a = record { form = make a.tree; broken = a.broken }

abbrev pub with_two : (Tree → Tree → FormTree) → Judged → Judged → JudgedForm
with_two make a b = record { form = make a.tree b.tree; broken = first a.broken b.broken }

abbrev pub with_three : (Tree → Tree → Tree → FormTree) → Judged → Judged → Judged → JudgedForm
with_three make c a b = record { form = make c.tree a.tree b.tree; broken = first c.broken (first a.broken b.broken) }

abbrev pub with_all : (Trees → FormTree) → JudgedTrees → JudgedForm
with_all make js = record { form = make js.trees; broken = js.broken }

abbrev pub with_pairs : JudgedPairs → JudgedForm
with_pairs js = record { form = mapping js.pairs; broken = js.broken }

abbrev pub with_receiver : List ℕ → Judged → JudgedTrees → JudgedForm
with_receiver m a js = record { form = method a.tree m js.trees; broken = first a.broken js.broken }

abbrev pub no_trees : JudgedTrees
no_trees = record { trees = none; broken = None }

abbrev pub also : Judged → JudgedTrees → JudgedTrees
also j js = record { trees = more j.tree js.trees; broken = first j.broken js.broken }

abbrev pub no_tree_pairs : JudgedPairs
no_tree_pairs = record { pairs = no_pairs; broken = None }

abbrev pub also_pair : Judged → Judged → JudgedPairs → JudgedPairs
also_pair k v js = record { pairs = more_pairs k.tree v.tree js.pairs; broken = first k.broken (first v.broken js.broken) }

abbrev mutual
  -- a literal that holds no item with a type of its own
  pub is_open : Tree → Bool
  is_open (node at t f) = is_open_form f

  pub is_open_form : FormTree → Bool
  is_open_form (group e) = is_open e
  is_open_form (list es) = are_open es
  is_open_form (mapping ps) = are_values_open ps
  is_open_form _ = false

  pub are_open : Trees → Bool
  are_open none = true
  are_open (more e es) = is_open e && are_open es

  pub are_values_open : TreePairs → Bool
  are_values_open no_pairs = true
  are_values_open (more_pairs k v ps) = is_open v && are_values_open ps

-- how many items stand before the first that isn't open
abbrev pub open_count : Trees → ℕ
open_count none = 0
open_count (more e es) = if is_open e then open_count es + 1 else 0

abbrev pub open_value_count : TreePairs → ℕ
open_value_count no_pairs = 0
open_value_count (more_pairs k v ps) = if is_open v then open_value_count ps + 1 else 0

-- what is asked of `(e)` is asked of `e`, which is no whole statement
abbrev pub no_whole : Asked → Asked
no_whole Whole = Value
no_whole Value = Value
no_whole (This t) = This t

-- of items of which nothing tells the type; where the type of the whole is asked for and isn't known, neither is theirs
abbrev pub unasked : Asked → Asked
unasked (This t) = (if is_known t then Value else This t)
unasked Whole = Value
unasked Value = Value

-- what is asked of items: the type that is asked for, or else what one of them asks of the others
abbrev pub items_asked : Option Ty → Asked → Asked
items_asked None besides = besides
items_asked (Some t) besides = This t

-- what an item asks of those beside it
abbrev pub asked_beside : Ty → Option Broken → Asked
asked_beside t None = This t
asked_beside t (Some b) = Value

abbrev pub parameters_of : Option Head → List Ty
parameters_of None = []
parameters_of (Some h) = h.parameters

abbrev pub taken_by : Option Row → List Ty
taken_by None = []
taken_by (Some row) = row.takes

abbrev mutual
  -- under these names, and with this asked of it
  pub judge : Tree → Names → Asked → Judged
  judge (node at t f) names asked = close at names asked (judge_form f names asked)

  -- the parts of a form
  pub judge_form : FormTree → Names → Asked → JudgedForm
  judge_form (number v) names asked = alone (number v)
  judge_form (text ps) names asked = alone (text ps)
  judge_form (truth b) names asked = alone (truth b)
  judge_form (name x) names asked = alone (name x)
  judge_form (call f es) names asked = with_all (call f) (judge_arguments es names (parameters_of (function_named f names.functions)))
  judge_form (group e) names asked = with_one group (judge e names (no_whole asked))
  judge_form (list es) names asked = with_all list (judge_items es names (is_none (asked_list_item asked)) (items_asked (asked_list_item asked) (beside es names asked)))
  judge_form (mapping ps) names asked = with_pairs (judge_values ps names (is_none (asked_map_item asked)) (items_asked (asked_map_item asked) (value_beside ps names asked)))
  judge_form (item a i) names asked = with_two item (judge a names Value) (judge i names Value)
  judge_form (key a k) names asked = with_two key (judge a names Value) (judge k names Value)
  judge_form (method a m es) names asked =
      with_receiver m (judge a names Value)
      (if is_known (type_of (judge a names Value).tree)
      then judge_arguments es names (taken_by (row_of (type_of (judge a names Value).tree) m (count es)))
      else judge_items es names false (This ty.Void))
  judge_form (prefix o a) names asked = with_one (prefix o) (judge a names Value)
  judge_form (binary a o b) names asked = with_two (λ x y. binary x o y) (judge a names Value) (judge b names Value)
  judge_form (choice c a b) names asked = with_three choice (judge c names Value) (judge a names Value) (judge b names Value)
  judge_form (dependency a b) names asked = with_two dependency (judge a names Value) (judge b names Value)

  -- each with the type of its parameter asked of it
  pub judge_arguments : Trees → Names → List Ty → JudgedTrees
  judge_arguments none names ts = no_trees
  judge_arguments (more e es) names [] = also (judge e names Value) (judge_arguments es names [])
  judge_arguments (more e es) names (t ∷ ts) = also (judge e names (This t)) (judge_arguments es names ts)

  -- the items of a literal, with the same asked of each; where no type is asked for, nothing is asked of the first that isn't open
  pub judge_items : Trees → Names → Bool → Asked → JudgedTrees
  judge_items none names lone asked = no_trees
  judge_items (more e es) names lone asked =
      (if lone && not (is_open e) then also (judge e names Value) (judge_items es names false asked)
      else also (judge e names asked) (judge_items es names lone asked))

  -- what the first item that isn't open asks of the others
  pub beside : Trees → Names → Asked → Asked
  beside none names asked = unasked asked
  beside (more e es) names asked =
      (if is_open e then beside es names asked
      else asked_beside (type_of (judge e names Value).tree) (judge e names Value).broken)

  -- the same of the values of a map
  pub judge_values : TreePairs → Names → Bool → Asked → JudgedPairs
  judge_values no_pairs names lone asked = no_tree_pairs
  judge_values (more_pairs k v ps) names lone asked =
      (if lone && not (is_open v) then also_pair (judge k names Value) (judge v names Value) (judge_values ps names false asked)
      else also_pair (judge k names Value) (judge v names asked) (judge_values ps names lone asked))

  pub value_beside : TreePairs → Names → Asked → Asked
  value_beside no_pairs names asked = unasked asked
  value_beside (more_pairs k v ps) names asked =
      (if is_open v then value_beside ps names asked
      else asked_beside (type_of (judge v names Value).tree) (judge v names Value).broken)

-- the arguments behind a receiver of this type; where it isn't known, neither is the type that is asked of each
abbrev pub judge_behind : Trees → Names → Ty → List ℕ → JudgedTrees
judge_behind es names receiver m =
    if is_known receiver then judge_arguments es names (taken_by (row_of receiver m (count es)))
    else judge_items es names false (This ty.Void)

-- items, then further ones
abbrev pub both : JudgedTrees → JudgedTrees → JudgedTrees
both a b = record { trees = joined a.trees b.trees; broken = first a.broken b.broken }

abbrev pub both_pairs : JudgedPairs → JudgedPairs → JudgedPairs
both_pairs a b = record { pairs = joined_pairs a.pairs b.pairs; broken = first a.broken b.broken }

-- pairs of which the first value was judged
abbrev pub judge_from : TreePairs → Names → Asked → Tree → JudgedPairs
judge_from no_pairs names asked value = no_tree_pairs
judge_from (more_pairs k v ps) names asked value =
    also_pair (judge k names Value) (record { tree = value; broken = None }) (judge_values ps names false asked)

-- the first broken node of the first key
abbrev pub key_broken : TreePairs → Names → Option Broken
key_broken no_pairs names = None
key_broken (more_pairs k v ps) names = (judge k names Value).broken
