-- The rules of texts with variables in them, in quotes or behind `sys`.
use Rattle.std.specs.Prelude.{ℕ, Bool, true, false, ◌||◌, ◌&&◌, is_some, Option, Some, None, List}
use Rattle.std.specs.List.{list_any}
use Rattle.bds_value.specs.declared.value.Ty.TheVariants as ty
use Rattle.bds_tree.specs.declared.token.Piece.{Piece}
use Rattle.bds_tree.specs.declared.token.Piece.TheVariants as piece
use Rattle.bds_tree.specs.declared.token.Index.TheVariants as index
use Rattle.bds_tree.specs.declared.token.KeyName.TheVariants as key
use Rattle.bds_check_names.specs.declared.names.Names.{Names}
use Rattle.bds_value.specs.declared.value.Ty.{Ty}
use Rattle.bds_value.specs.Types.{list_item, map_item}
use Rattle.bds_check_rules.specs.declared.rules.Rule.{Rule}
use Rattle.bds_check_rules.specs.declared.rules.Rule.TheVariants as rule
use Rattle.bds_check_names.specs.Types.{differ}
use Rattle.bds_check_names.specs.Scopes.{found, type_named, is_missing, is_untyped}

-- this rule where the test holds, and else what comes behind it
abbrev pub when : Bool → Rule → Option Rule → Option Rule
when true r behind = Some r
when false r behind = behind

-- the variable is a list, so that an index behind it isn't plain text
abbrev pub is_list_named : List ℕ → Names → Bool
is_list_named x names = is_some (list_item (type_named x names))

abbrev pub is_map_named : List ℕ → Names → Bool
is_map_named x names = is_some (map_item (type_named x names))

-- a name that the piece looks for passes the test
abbrev pub any_name : (Option Ty → Bool) → Names → Piece → Bool
any_name test names (piece.Plain t) = false
any_name test names (piece.Name x) = test (found x names)
any_name test names (piece.Item x (index.Number n)) = test (found x names)
any_name test names (piece.Item x (index.Name y)) = test (found x names) || (is_list_named x names && test (found y names))
any_name test names (piece.Key x (key.Text t)) = test (found x names)
any_name test names (piece.Key x (key.Name y)) = test (found x names) || (is_map_named x names && test (found y names))

-- the index behind a list isn't a number, or the key behind a map isn't a text
abbrev pub is_wrong_piece : Names → Piece → Bool
is_wrong_piece names (piece.Item x (index.Name y)) = is_list_named x names && differ ty.Int (type_named y names)
is_wrong_piece names (piece.Key x (key.Name y)) = is_map_named x names && differ ty.Text (type_named y names)
is_wrong_piece names _ = false

abbrev pub pieces_rule : (Option Ty → Bool) → Names → List Piece → Option Rule
pieces_rule test names ps =
    when (list_any (any_name test names) ps) rule.UnknownName
    (when (list_any (is_wrong_piece names) ps) rule.WrongType None)

-- in quotes each name that is looked for has to be in force
abbrev pub text_rule : Names → List Piece → Option Rule
text_rule names ps = pieces_rule (is_missing names.finding) names ps

-- behind `sys` a piece is plain where its name isn't in force
abbrev pub sys_rule : Names → List Piece → Option Rule
sys_rule names ps = pieces_rule (is_untyped names.finding) names ps
