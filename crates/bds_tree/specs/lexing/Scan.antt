-- Where names, digits, texts, comments and `sys` lines end.
use Rattle.std.specs.Prelude.{ℕ, ◌+◌, ◌-◌, length, Bool, true, false, not, ◌&&◌, ◌==◌, List, [], ◌∷◌, take, drop, Option, Some, None, if◌then◌else◌}
use Rattle.std.specs.List.{prefix_len, suffix_len}
use Rattle.bds_tree.specs.lexing.Bytes.{double_quote, star, slash, backslash, is_blank, is_line_end, begins_name, is_name_byte}

-- the bytes up to a place, and those from there on
abbrev pub split : ℕ → List ℕ → List ℕ × List ℕ
split n bytes = (take n bytes, drop n bytes)

-- the longest front whose bytes pass, and the rest
abbrev pub split_while : (ℕ → Bool) → List ℕ → List ℕ × List ℕ
split_while passes bytes = split (prefix_len passes bytes) bytes

-- the bytes behind this one, if it stands at the front
abbrev pub behind : ℕ → List ℕ → Option (List ℕ)
behind c [] = None
behind c (b ∷ bytes) = if b == c then Some bytes else None

-- the longest Name at the front, and the bytes behind it; a reserved word counts as one
abbrev pub name_at : List ℕ → Option (List ℕ × List ℕ)
name_at [] = None
name_at (b ∷ bytes) = if begins_name b then Some (split_while is_name_byte (b ∷ bytes)) else None

-- How many bytes a double-quoted text has before the `"` that no escape took, or before the end of the file.
-- `escaped` says that a backslash, which no escape took, stands directly before.
abbrev pub quoted_len : Bool → List ℕ → ℕ
quoted_len escaped [] = 0
quoted_len true (b ∷ bytes) = 1 + quoted_len false bytes
quoted_len false (b ∷ bytes) = if b == double_quote then 0 else 1 + quoted_len (b == backslash) bytes

-- How many bytes a `sys` line has. It goes on behind a line end that a backslash stands directly before, as `escaped` says.
abbrev pub sys_len : Bool → List ℕ → ℕ
sys_len escaped [] = 0
sys_len escaped (b ∷ bytes) = if not escaped && is_line_end b then 0 else 1 + sys_len (b == backslash) bytes

-- the bytes behind the next `*/`, where `starred` says that a `*` of the comment stands directly before
abbrev pub behind_comment : Bool → List ℕ → Option (List ℕ)
behind_comment starred [] = None
behind_comment starred (b ∷ bytes) = if starred && (b == slash) then Some bytes else behind_comment (b == star) bytes

abbrev pub without_leading_blanks : List ℕ → List ℕ
without_leading_blanks bytes = drop (prefix_len is_blank bytes) bytes

abbrev pub without_trailing_blanks : List ℕ → List ℕ
without_trailing_blanks bytes = take (length bytes - suffix_len is_blank bytes) bytes

abbrev pub without_blanks : List ℕ → List ℕ
without_blanks bytes = without_trailing_blanks (without_leading_blanks bytes)
