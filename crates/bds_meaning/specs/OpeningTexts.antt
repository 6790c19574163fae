-- The terms of texts with pieces. What each piece is says the checker, by the names in force and their types.
use Rattle.std.specs.Prelude.{ℕ, List, [], ◌∷◌, is_some, None, map, if◌then◌else◌}
use Rattle.bds_value.specs.declared.value.At.{At}
use Rattle.bds_value.specs.declared.value.Op.TheVariants.{Concat}
use Rattle.bds_value.specs.declared.value.Value.TheVariants as value
use Rattle.bds_tree.specs.declared.token.Piece.{Piece}
use Rattle.bds_check_names.specs.declared.names.Names.{Names}
use Rattle.bds_check_names.specs.Scopes.{found, last_type}
use Rattle.bds_check_size.specs.Parts.{Part, says, shows, shows_at, shows_at_name, shows_key, shows_key_name, parts_of}
use Rattle.bds_meaning.specs.Term.{Term, Constant, Variable, Compute, Nothing, More, Operated, Pieced, ItemTaken, KeyTaken}
use Rattle.bds_meaning.specs.Variables.{Scope, local, global}

-- a local counts before a global
abbrev pub scope_of : Names → List ℕ → Scope
scope_of names x = if is_some (last_type x names.locals None) then local else global

abbrev pub variable : Names → List ℕ → Term
variable names x = Variable (scope_of names x) x

-- one operand, and two
abbrev pub one : Term → Term
one a = More a Nothing

abbrev pub two : Term → Term → Term
two a b = More a (More b Nothing)

abbrev pub plain : List ℕ → Term
plain text = Constant (value.Text text)

-- a part behind those before it
abbrev pub joined : At → Term → Term → Term
joined at a b = Compute (Operated Concat) at (two a b)

-- parts, of which each is joined to those before it
abbrev pub joined_all : At → Term → List Term → Term
joined_all at a [] = a
joined_all at a (b ∷ bs) = joined_all at (joined at a b) bs

-- no part is an empty text
abbrev pub text_of_parts : At → List Term → Term
text_of_parts at [] = plain []
text_of_parts at (a ∷ others) = joined_all at a others

-- a variable as it stands in a text
abbrev pub pieced : At → Term → Term
pieced at a = Compute Pieced at (one a)

-- an item of a list, and the value of a key in a map
abbrev pub item_term : Names → At → List ℕ → Term → Term
item_term names at x i = pieced at (Compute ItemTaken at (two (variable names x) i))

abbrev pub entry_term : Names → At → List ℕ → Term → Term
entry_term names at x k = pieced at (Compute KeyTaken at (two (variable names x) k))

abbrev pub part_term : Names → At → Part → Term
part_term names at (says t) = plain t
part_term names at (shows x) = pieced at (variable names x)
part_term names at (shows_at x n) = item_term names at x (Constant (value.Int n))
part_term names at (shows_at_name x y) = item_term names at x (variable names y)
part_term names at (shows_key x t) = entry_term names at x (plain t)
part_term names at (shows_key_name x y) = entry_term names at x (variable names y)

-- a text in quotes or of a command: a piece with a name that isn't in force is plain as it is written, which no accepted text in quotes has
abbrev pub text_term : Names → At → List Piece → Term
text_term names at ps = text_of_parts at (map (part_term names at) (parts_of (λ x. found x names) ps))
