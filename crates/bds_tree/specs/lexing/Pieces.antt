-- The pieces of double-quoted and `sys` texts.
use Rattle.std.specs.Prelude.{ℕ, ℤ, zero, suc, ◌^◌, pos, Bool, true, false, not, ◌||◌, ◌==◌, nat_lt, List, [], ◌∷◌, ◌++◌, length, Option, Some, None, Result, Ok, Err, if◌then◌else◌}
use Rattle.std.specs.Char.{is_ascii_digit}
use Rattle.std.specs.Str.Parse.{digits_value}
use Rattle.bds_value.specs.Results.{◌>>=◌}
use Rattle.bds_tree.specs.declared.lexing.Flaw.{Flaw}
use Rattle.bds_tree.specs.declared.lexing.Flaw.TheVariants as flaw
use Rattle.bds_tree.specs.declared.token.Piece.{Piece}
use Rattle.bds_tree.specs.declared.token.Piece.TheVariants as piece
use Rattle.bds_tree.specs.declared.token.Index.{Index}
use Rattle.bds_tree.specs.declared.token.Index.TheVariants as index
use Rattle.bds_tree.specs.declared.token.KeyName.{KeyName}
use Rattle.bds_tree.specs.declared.token.KeyName.TheVariants as key
use Rattle.bds_tree.specs.declared.lexing.Style.{Style}
use Rattle.bds_tree.specs.declared.lexing.Style.TheVariants as style
use Rattle.bds_tree.specs.declared.lexing.TextStep.{TextStep}
use Rattle.bds_tree.specs.declared.lexing.TextStep.TheVariants as step
use Rattle.bds_tree.specs.lexing.Bytes.{line_end, double_quote, dollar, single_quote, zero_digit, open_square, backslash, close_square, open_brace, close_brace}
use Rattle.bds_tree.specs.lexing.Scan.{split_while, behind, name_at}

-- the number that these digits write, which is at most the greatest of 64 bits with a sign
unfoldable pub number : List ℕ → Result ℤ Flaw
number digits = if nat_lt (digits_value 10 digits) (2 ^ 63) then Ok (pos (digits_value 10 digits)) else Err flaw.BigNumber

-- one digit or more, with no leading 0 unless they are `0`
abbrev pub has_no_leading_zero : List ℕ → Bool
has_no_leading_zero [] = false
has_no_leading_zero (d ∷ []) = true
has_no_leading_zero (d ∷ e ∷ ds) = not (d == zero_digit)

-- `digits]`
unfoldable pub number_index : List ℕ → List ℕ → Result (Option (Index × List ℕ)) Flaw
number_index digits behind_digits = elim (behind close_square behind_digits) [
  | None ↦ Ok None
  | Some rest ↦ if has_no_leading_zero digits then (number digits >>= λ n. Ok (Some (index.Number n, rest))) else Ok None
]

-- `name]`
abbrev pub name_index : List ℕ × List ℕ → Option (Index × List ℕ)
name_index name = elim (behind close_square name.1) [ None ↦ None | Some rest ↦ Some (index.Name name.0, rest) ]

-- `digits]` or `name]`
unfoldable pub index_at : List ℕ → Result (Option (Index × List ℕ)) Flaw
index_at bytes = elim (name_at bytes) [
  | Some name ↦ Ok (name_index name)
  | None ↦ let digits = split_while is_ascii_digit bytes in number_index digits.0 digits.1
]

-- a byte that may stand in `{'bytes'}`
abbrev pub is_key_byte : ℕ → Bool
is_key_byte b = not ((b == single_quote) || (b == double_quote) || (b == backslash) || (b == line_end))

-- `bytes'}`
abbrev pub quoted_key : List ℕ → Option (KeyName × List ℕ)
quoted_key bytes =
    let text = split_while is_key_byte bytes in
    elim (behind single_quote text.1) [
      | None ↦ None
      | Some more ↦ elim (behind close_brace more) [ None ↦ None | Some rest ↦ Some (key.Text text.0, rest) ]
    ]

-- `name}`
abbrev pub named_key : List ℕ → Option (KeyName × List ℕ)
named_key bytes = elim (name_at bytes) [
  | None ↦ None
  | Some name ↦ elim (behind close_brace name.1) [ None ↦ None | Some rest ↦ Some (key.Name name.0, rest) ]
]

-- `'bytes'}` or `name}`
unfoldable pub key_at : List ℕ → Option (KeyName × List ℕ)
key_at bytes = elim (behind single_quote bytes) [ Some more ↦ quoted_key more | None ↦ named_key bytes ]

-- the piece of a name with the suffix that stands behind it
unfoldable pub with_key : List ℕ → List ℕ → Piece × List ℕ
with_key name bytes = elim (behind open_brace bytes) [
  | None ↦ (piece.Name name, bytes)
  | Some more ↦ elim (key_at more) [ None ↦ (piece.Name name, bytes) | Some k ↦ (piece.Key name k.0, k.1) ]
]

unfoldable pub with_suffix : List ℕ → List ℕ → Result (Piece × List ℕ) Flaw
with_suffix name bytes = elim (behind open_square bytes) [
  | None ↦ Ok (with_key name bytes)
  | Some more ↦ index_at more >>= λ found. Ok (elim found [ None ↦ (piece.Name name, bytes) | Some i ↦ (piece.Item name i.0, i.1) ])
]

-- behind a `$`
unfoldable pub variable_at : List ℕ → Result (TextStep × List ℕ) Flaw
variable_at bytes = elim (name_at bytes) [
  | None ↦ Ok (step.Byte dollar, bytes)
  | Some name ↦ with_suffix name.0 name.1 >>= λ found. Ok (step.Found found.0, found.1)
]

-- the byte that an escape stands for
abbrev pub escape_of : ℕ → Option ℕ
escape_of c =
    if c == 98 then Some 8
    else (if c == 116 then Some 9
    else (if c == 110 then Some 10
    else (if c == 102 then Some 12
    else (if c == 114 then Some 13
    else (if (c == double_quote) || (c == single_quote) || (c == backslash) || (c == dollar) then Some c
    else None)))))

-- behind a backslash
unfoldable pub escape_at : Style → List ℕ → Result (TextStep × List ℕ) Flaw
escape_at kind [] = Ok (step.Byte backslash, [])
escape_at style.Quoted (c ∷ bytes) = elim (escape_of c) [ Some b ↦ Ok (step.Byte b, bytes) | None ↦ Err (flaw.BadEscape c) ]
escape_at style.Sys (c ∷ bytes) = if c == dollar then Ok (step.Bytes backslash dollar, bytes) else Ok (step.Byte backslash, c ∷ bytes)

-- the next byte, pair of bytes or variable of a text
unfoldable pub step_at : Style → ℕ → List ℕ → Result (TextStep × List ℕ) Flaw
step_at kind b bytes =
    if b == backslash then escape_at kind bytes else (if b == dollar then variable_at bytes else Ok (step.Byte b, bytes))

-- plain bytes as a piece, if there are any
abbrev pub plain_piece : List ℕ → List Piece
plain_piece [] = []
plain_piece (b ∷ bytes) = piece.Plain (b ∷ bytes) ∷ []

-- A step behind plain bytes that are no piece yet: the pieces that it ends, and the plain bytes that are no piece yet behind it.
abbrev pub pieces_closed_by : TextStep → List ℕ → List Piece
pieces_closed_by (step.Byte b) plain = []
pieces_closed_by (step.Bytes b c) plain = []
pieces_closed_by (step.Found p) plain = plain_piece plain ++ p ∷ []

abbrev pub plain_left_by : TextStep → List ℕ → List ℕ
plain_left_by (step.Byte b) plain = plain ++ b ∷ []
plain_left_by (step.Bytes b c) plain = plain ++ b ∷ c ∷ []
plain_left_by (step.Found p) plain = []

-- The pieces of a text behind these plain bytes. Each step takes a byte at least, so that as many steps as the text has bytes
-- suffice; that they do is proved.
unfoldable pub pieces_in : ℕ → Style → List ℕ → List ℕ → Result (List Piece) Flaw
pieces_in steps kind plain [] = Ok (plain_piece plain)
pieces_in zero kind plain (b ∷ bytes) = Err flaw.NoMemory
pieces_in (suc steps) kind plain (b ∷ bytes) = do
  s ← step_at kind b bytes
  others ← pieces_in steps kind (plain_left_by s.0 plain) s.1
  Ok (pieces_closed_by s.0 plain ++ others)

unfoldable pub pieces_of : Style → List ℕ → Result (List Piece) Flaw
pieces_of kind bytes = pieces_in (length bytes) kind [] bytes
