-- For contracts within the parser alone: reading an expression off the front of the tokens, as the parser does.
use Rattle.std.specs.Prelude.{ℕ, ℤ, zero, suc, ◌+◌, Bool, true, false, List, [], ◌∷◌, length, Option, Some, None, nat_lt, if◌then◌else◌}
use Rattle.bds_value.specs.declared.value.Ty.TheVariants as ty
use Rattle.bds_value.specs.Options.{◌>>=◌}
use Rattle.bds_tree.specs.declared.token.Word.{Word}
use Rattle.bds_tree.specs.declared.token.Word.TheVariants as w
use Rattle.bds_tree.specs.declared.token.Token.{Token}
use Rattle.bds_tree.specs.declared.token.Piece.{Piece}
use Rattle.bds_tree.specs.declared.expr.BinaryOp.TheVariants as op
use Rattle.bds_tree.specs.declared.expr.PrefixOp.{PrefixOp}
use Rattle.bds_tree.specs.declared.expr.PrefixOp.TheVariants as pre
use Rattle.bds_tree.specs.Tree.{Tree, FormTree, Trees, TreePairs, node, number, text, truth, name, call, group, list, mapping, item, key, method, prefix, binary, choice, dependency, none, more, no_pairs, more_pairs, line_of}
use Rattle.bds_tree.specs.Shape.{level_of, follow, height}
pub use Rattle.bds_parse_expr.specs.declared.words.Next.{Next}
use Rattle.bds_parse_expr.specs.declared.words.Close.{Close}
use Rattle.bds_parse_expr.specs.declared.words.Close.TheVariants as c
pub use Rattle.bds_parse_expr.specs.declared.words.Next.TheVariants.{Joins as joins, Chooses as chooses, Depends as depends, Indexes as indexes, Keys as keys, Asks as asks, Calls as calls, Stops as stops}

-- a node as it is read: of file 0, without a type
abbrev pub fresh : ℕ → FormTree → Tree
fresh l f = node (record { file = 0; line = l }) ty.Void f

-- the line of the token at the front, and 0 where there is none
abbrev pub line_ahead : List Token → ℕ
line_ahead [] = 0
line_ahead (t ∷ ts) = t.line

-- how a token may begin an expression
pub data First : Type 0 where
  numbers : ℤ → First
  texts : List Piece → First
  truths : Bool → First
  names : List ℕ → First
  groups : First
  lists : First
  maps : First
  prefixes : PrefixOp → First
  begins_none : First

abbrev pub first_of : Word → First
first_of (w.Number v) = numbers v
first_of (w.Text ps) = texts ps
first_of w.True = truths true
first_of w.False = truths false
first_of (w.Name n) = names n
first_of w.OpenRound = groups
first_of w.OpenSquare = lists
first_of w.OpenValue = maps
first_of w.Minus = prefixes pre.Neg
first_of w.Not = prefixes pre.Not
first_of _ = begins_none

abbrev pub next_of : Word → Next
next_of w.Or = joins op.Or
next_of w.And = joins op.And
next_of w.Equal = joins op.Equal
next_of w.NotEqual = joins op.NotEqual
next_of w.Less = joins op.Less
next_of w.AtMost = joins op.AtMost
next_of w.Greater = joins op.Greater
next_of w.AtLeast = joins op.AtLeast
next_of w.Plus = joins op.Add
next_of w.Minus = joins op.Sub
next_of w.Star = joins op.Mul
next_of w.Slash = joins op.Div
next_of w.Percent = joins op.Rem
next_of w.Question = chooses
next_of w.From = depends
next_of w.OpenSquare = indexes
next_of w.OpenValue = keys
next_of w.Dot = asks
next_of w.OpenRound = calls
next_of _ = stops

abbrev pub strength : Next → ℕ
strength (joins o) = level_of o
strength chooses = 2
strength depends = 1
strength indexes = 10
strength keys = 10
strength asks = 10
strength calls = 11
strength stops = 0

-- how tightly the token at the front would bind to what stands before it
abbrev pub ahead : List Token → ℕ
ahead [] = 0
ahead (t ∷ ts) = strength (next_of t.word)

abbrev pub is_open_round : Word → Bool
is_open_round w.OpenRound = true
is_open_round _ = false

abbrev pub is_close_round : Word → Bool
is_close_round w.CloseRound = true
is_close_round _ = false

abbrev pub is_close_square : Word → Bool
is_close_square w.CloseSquare = true
is_close_square _ = false

abbrev pub is_close_value : Word → Bool
is_close_value w.CloseValue = true
is_close_value _ = false

abbrev pub closes : Close → Word → Bool
closes c.Round = is_close_round
closes c.Square = is_close_square
closes c.Value = is_close_value

abbrev pub is_comma : Word → Bool
is_comma w.Comma = true
is_comma _ = false

abbrev pub is_colon : Word → Bool
is_colon w.Colon = true
is_colon _ = false

abbrev pub is_arrow : Word → Bool
is_arrow w.Arrow = true
is_arrow _ = false

abbrev pub Read : Type 0 → Type 0
Read A = Option (A × List Token)

-- what stands behind a sign, where it is there
abbrev pub behind : (Word → Bool) → List Token → Option (List Token)
behind test [] = None
behind test (t ∷ ts) = if test t.word then Some ts else None

abbrev pub name_in : Word → List Token → Read (List ℕ)
name_in (w.Name n) ts = Some (n, ts)
name_in _ ts = None

-- a name at the front
abbrev pub name_at : List Token → Read (List ℕ)
name_at [] = None
name_at (t ∷ ts) = name_in t.word ts

-- how an expression of at least this level is read, one node further down
abbrev pub Sub : Type 0
Sub = ℕ → List Token → Read Tree

-- a front of members, and what stands behind the sign that closes them
abbrev pub tail_step : Read Tree → (List Token → Read Trees) → Read Trees
tail_step first tail = first >>= λ e. tail e.1 >>= λ es. Some (more e.0 es.0, es.1)

unfoldable pub tail_of : (Word → Bool) → Sub → ℕ → List Token → Read Trees
tail_of close sub n [] = None
tail_of close sub zero (t ∷ ts) = if close t.word then Some (none, ts) else None
tail_of close sub (suc n) (t ∷ ts) = if close t.word then Some (none, ts) else (if is_comma t.word then tail_step (sub 1 ts) (tail_of close sub n) else None)

abbrev pub members : (Word → Bool) → Sub → List Token → Read Trees
members close sub [] = None
members close sub (t ∷ ts) = if close t.word then Some (none, ts) else tail_step (sub 1 (t ∷ ts)) (tail_of close sub (length ts))

-- a key and its value
abbrev pub pair : Sub → List Token → Read (Tree × Tree)
pair sub ts = sub 1 ts >>= λ k. behind is_arrow k.1 >>= λ rest. sub 1 rest >>= λ v. Some ((k.0, v.0), v.1)

abbrev pub pair_step : Read (Tree × Tree) → (List Token → Read TreePairs) → Read TreePairs
pair_step first tail = first >>= λ p. tail p.1 >>= λ ps. Some (more_pairs p.0.0 p.0.1 ps.0, ps.1)

unfoldable pub pair_tail_of : Sub → ℕ → List Token → Read TreePairs
pair_tail_of sub n [] = None
pair_tail_of sub zero (t ∷ ts) = if is_close_value t.word then Some (no_pairs, ts) else None
pair_tail_of sub (suc n) (t ∷ ts) = if is_close_value t.word then Some (no_pairs, ts) else (if is_comma t.word then pair_step (pair sub ts) (pair_tail_of sub n) else None)

abbrev pub pairs : Sub → List Token → Read TreePairs
pairs sub [] = None
pairs sub (t ∷ ts) = if is_close_value t.word then Some (no_pairs, ts) else pair_step (pair sub (t ∷ ts)) (pair_tail_of sub (length ts))

abbrev pub named : Sub → ℕ → List ℕ → List Token → Read Tree
named sub l n [] = Some (fresh l (name n), [])
named sub l n (t ∷ ts) = if is_open_round t.word then (members is_close_round sub ts >>= λ es. Some (fresh l (call n es.0), es.1)) else Some (fresh l (name n), t ∷ ts)

abbrev pub plain : Sub → ℕ → First → List Token → Read Tree
plain sub l (numbers v) ts = Some (fresh l (number v), ts)
plain sub l (texts ps) ts = Some (fresh l (text ps), ts)
plain sub l (truths b) ts = Some (fresh l (truth b), ts)
plain sub l (names n) ts = named sub l n ts
plain sub l groups ts = sub 1 ts >>= λ e. behind is_close_round e.1 >>= λ rest. Some (fresh l (group e.0), rest)
plain sub l lists ts = members is_close_square sub ts >>= λ es. Some (fresh l (list es.0), es.1)
plain sub l maps ts = pairs sub ts >>= λ ps. Some (fresh l (mapping ps.0), ps.1)
plain sub l (prefixes o) ts = sub 9 ts >>= λ e. Some (fresh l (prefix o e.0), e.1)
plain sub l begins_none ts = None

abbrev pub front : Sub → List Token → Read Tree
front sub [] = None
front sub (t ∷ ts) = plain sub t.line (first_of t.word) ts

-- a tree that isn't too high
abbrev pub low : ℕ → Tree → List Token → Read Tree
low most e ts = if nat_lt most (height e) then None else Some (e, ts)

-- a method's name and arguments
abbrev pub method_of : ℕ → Sub → Tree → List Token → Read Tree
method_of most sub e ts = name_at ts >>= λ n. behind is_open_round n.1 >>= λ rest. members is_close_round sub rest >>= λ es. low most (fresh (line_of e) (method e n.0 es.0)) es.1

-- a longer tree, by a sign that stands behind one
abbrev pub join : ℕ → Sub → Tree → Next → List Token → Read Tree
join most sub e (joins o) ts = sub (level_of o + 1) ts >>= λ b. low most (fresh (line_of e) (binary e o b.0)) b.1
join most sub e chooses ts = sub 2 ts >>= λ a. behind is_colon a.1 >>= λ rest. sub 2 rest >>= λ b. low most (fresh (line_of e) (choice e a.0 b.0)) b.1
join most sub e depends ts = sub 2 ts >>= λ b. low most (fresh (line_of e) (dependency e b.0)) b.1
join most sub e indexes ts = sub 1 ts >>= λ i. behind is_close_square i.1 >>= λ rest. low most (fresh (line_of e) (item e i.0)) rest
join most sub e keys ts = sub 1 ts >>= λ k. behind is_close_value k.1 >>= λ rest. low most (fresh (line_of e) (key e k.0)) rest
join most sub e asks ts = method_of most sub e ts
join most sub e calls ts = None
join most sub e stops ts = None

-- the longest expression that begins with a tree that stands before the tokens, by signs of at least the strength
unfoldable pub climb : ℕ → Sub → ℕ → ℕ → Tree → List Token → Read Tree
climb most sub n least e [] = Some (e, [])
climb most sub zero least e (t ∷ ts) = if nat_lt (strength (next_of t.word)) least then Some (e, t ∷ ts) else None
climb most sub (suc n) least e (t ∷ ts) =
    if nat_lt (strength (next_of t.word)) least then Some (e, t ∷ ts)
    else (if nat_lt (follow e) (strength (next_of t.word)) then None
    else (join most sub e (next_of t.word) ts >>= λ p. climb most sub n least p.0 p.1))

-- an expression of at least the level, of a height below the number
unfoldable pub expression : ℕ → Sub
expression zero least ts = None
expression (suc most) least ts = front (expression most) ts >>= λ e. climb most (expression most) (length e.1) least e.0 e.1
