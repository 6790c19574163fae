-- What a typed expression is: each node has its type and breaks no rule, under the names in force and with what is asked of it.
use Rattle.std.specs.Prelude.{◌≡◌, Bool, ◌&&◌, not, is_none, None, List, [], ◌∷◌, ℕ, ⊤, if◌then◌else◌}
use Rattle.bds_value.specs.declared.value.Ty.{Ty}
use Rattle.bds_value.specs.declared.value.Ty.TheVariants as ty
use Rattle.bds_tree.specs.Tree.{Tree, FormTree, Trees, TreePairs, node, number, text, truth, name, call, group, list, mapping, item, key, method, prefix, binary, choice, dependency, none, more, no_pairs, more_pairs, type_of}
use Rattle.bds_check_names.specs.declared.names.Names.{Names}
use Rattle.bds_check_names.specs.declared.names.Asked.{Asked}
use Rattle.bds_check_names.specs.declared.names.Asked.TheVariants.{Value, This}
use Rattle.bds_check_names.specs.Types.{is_known}
use Rattle.bds_check_names.specs.Scopes.{function_named}
use Rattle.bds_check_names.specs.Rows.{row_of}
use Rattle.bds_check_rules.specs.Typing.{type_at, asked_list_item, asked_map_item, count}
use Rattle.bds_check_rules.specs.Breaks.{breaks}
use Rattle.bds_check_typing.specs.Walk.{is_open, no_whole, unasked, items_asked, parameters_of, taken_by}

-- what items ask of one another: the type of the first that isn't open, and where all are open, what `unasked` says
abbrev pub asked_among : Trees → Asked → Asked
asked_among none asked = unasked asked
asked_among (more e es) asked = (if is_open e then asked_among es asked else This (type_of e))

abbrev pub asked_among_values : TreePairs → Asked → Asked
asked_among_values no_pairs asked = unasked asked
asked_among_values (more_pairs k v ps) asked = (if is_open v then asked_among_values ps asked else This (type_of v))

-- of the first item that isn't open nothing is asked, where nothing else tells the type of the items
abbrev pub asked_of_item : Bool → Tree → Asked → Asked
asked_of_item lone e asked = (if lone && not (is_open e) then Value else asked)

abbrev pub unknown_types : Trees → List Ty
unknown_types none = []
unknown_types (more e es) = ty.Void ∷ unknown_types es

-- the types of arguments behind a receiver of this type; where it isn't known, neither are they
abbrev pub taken_behind : Ty → List ℕ → Trees → List Ty
taken_behind receiver m es = (if is_known receiver then taken_by (row_of receiver m (count es)) else unknown_types es)

abbrev mutual
  -- under these names, and with this asked of it
  pub IsWellTyped : Tree → Names → Asked → Type 0
  IsWellTyped (node at t f) names asked = (t ≡ type_at names asked f) × (breaks names asked f ≡ None) × ArePartsWellTyped f names asked

  pub ArePartsWellTyped : FormTree → Names → Asked → Type 0
  ArePartsWellTyped (number v) names asked = ⊤
  ArePartsWellTyped (text ps) names asked = ⊤
  ArePartsWellTyped (truth b) names asked = ⊤
  ArePartsWellTyped (name x) names asked = ⊤
  ArePartsWellTyped (call f es) names asked = AreArgumentsWellTyped es names (parameters_of (function_named f names.functions))
  ArePartsWellTyped (group e) names asked = IsWellTyped e names (no_whole asked)
  ArePartsWellTyped (list es) names asked = AreItemsWellTyped es names (is_none (asked_list_item asked)) (items_asked (asked_list_item asked) (asked_among es asked))
  ArePartsWellTyped (mapping ps) names asked = ArePairsWellTyped ps names (is_none (asked_map_item asked)) (items_asked (asked_map_item asked) (asked_among_values ps asked))
  ArePartsWellTyped (item a i) names asked = IsWellTyped a names Value × IsWellTyped i names Value
  ArePartsWellTyped (key a k) names asked = IsWellTyped a names Value × IsWellTyped k names Value
  ArePartsWellTyped (method a m es) names asked = IsWellTyped a names Value × AreArgumentsWellTyped es names (taken_behind (type_of a) m es)
  ArePartsWellTyped (prefix o a) names asked = IsWellTyped a names Value
  ArePartsWellTyped (binary a o b) names asked = IsWellTyped a names Value × IsWellTyped b names Value
  ArePartsWellTyped (choice c a b) names asked = IsWellTyped c names Value × IsWellTyped a names Value × IsWellTyped b names Value
  ArePartsWellTyped (dependency a b) names asked = IsWellTyped a names Value × IsWellTyped b names Value

  -- each with the type of its parameter asked of it
  pub AreArgumentsWellTyped : Trees → Names → List Ty → Type 0
  AreArgumentsWellTyped none names ts = ⊤
  AreArgumentsWellTyped (more e es) names [] = IsWellTyped e names Value × AreArgumentsWellTyped es names []
  AreArgumentsWellTyped (more e es) names (t ∷ ts) = IsWellTyped e names (This t) × AreArgumentsWellTyped es names ts

  -- the items of a literal; `lone` where nothing but them tells their type, and none before these did
  pub AreItemsWellTyped : Trees → Names → Bool → Asked → Type 0
  AreItemsWellTyped none names lone asked = ⊤
  AreItemsWellTyped (more e es) names lone asked = IsWellTyped e names (asked_of_item lone e asked) × AreItemsWellTyped es names (lone && is_open e) asked

  -- the same of the values of a map
  pub ArePairsWellTyped : TreePairs → Names → Bool → Asked → Type 0
  ArePairsWellTyped no_pairs names lone asked = ⊤
  ArePairsWellTyped (more_pairs k v ps) names lone asked = IsWellTyped k names Value × IsWellTyped v names (asked_of_item lone v asked) × ArePairsWellTyped ps names (lone && is_open v) asked
