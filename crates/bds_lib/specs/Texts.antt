-- The methods of a text.
use Rattle.std.specs.Prelude.{ℕ, ℤ, List, length, take, drop, map, slice_range, Bool, ◌==◌, ◌||◌, ◌-◌, Option, Some, None, Result, Ok, Err, if◌then◌else◌}
use Rattle.std.specs.Char.{to_ascii_lowercase, to_ascii_uppercase}
use Rattle.std.specs.List.{join_by, prefix_len, suffix_len}
use Rattle.bds_value.specs.declared.method_numbers.TheConstants.{LENGTH, TO_UPPER, TO_LOWER, TRIM, SUBSTR, STARTS_WITH, ENDS_WITH, INDEX_OF, LAST_INDEX_OF, REPLACE, SPLIT, PARSE_INT, BASE_NAME, DIR_NAME, EXT_NAME, REMOVE_EXT, SWAP_EXT, LINES}
use Rattle.bds_value.specs.declared.value.Ty.TheVariants as ty
use Rattle.bds_value.specs.declared.value.Value.{Value}
use Rattle.bds_value.specs.declared.value.Value.TheVariants as value
use Rattle.bds_value.specs.declared.value.Value.TheOpen.{Value-F}
use Rattle.bds_lib.specs.declared.faults.LibFault.{LibFault}
use Rattle.bds_lib.specs.declared.faults.LibFault.TheVariants.{NoIndex, NotANumber}
use Rattle.bds_lib.specs.Numbers.{number_of}
use Rattle.bds_lib.specs.Paths.{base_name, dir_name, ext_name, remove_ext, swap_ext}
use Rattle.bds_lib.specs.Places.{place_within}
use Rattle.bds_lib.specs.Results.{counted, short_text, short_list, no_row}
use Rattle.bds_lib.specs.Searching.{begins_with, closes_with, first_place, last_place, place_number, pieces, lines}

-- a space, tab, line end or carriage return
abbrev pub is_blank : ℕ → Bool
is_blank c = c == 32 || (c == 9 || (c == 10 || c == 13))

abbrev pub trim_start : List ℕ → List ℕ
trim_start s = drop (prefix_len is_blank s) s

abbrev pub trim_end : List ℕ → List ℕ
trim_end s = take (length s - suffix_len is_blank s) s

-- the text without blanks at both ends
abbrev pub trim : List ℕ → List ℕ
trim s = trim_end (trim_start s)

abbrev pub part_to : List ℕ → ℤ → ℕ → Option ℕ → Result Value LibFault
part_to s b from None = Err (NoIndex b (length s))
part_to s b from (Some to) = Ok (value.Text (slice_range s from to))

abbrev pub part_from : List ℕ → ℤ → ℤ → Option ℕ → Result Value LibFault
part_from s a b None = Err (NoIndex a (length s))
part_from s a b (Some from) = part_to s b from (place_within from (length s) b)

-- the bytes from place a up to before place b
abbrev pub part : List ℕ → ℤ → ℤ → Result Value LibFault
part s a b = part_from s a b (place_within 0 (length s) a)

-- the text with each a replaced by b, from the left without overlap
abbrev pub replaced : List ℕ → List ℕ → List ℕ → List ℕ
replaced a b s = join_by (λ p. p) b (pieces a s)

-- texts as a list of values
abbrev pub text_list : List (List ℕ) → Result Value LibFault
text_list ts = short_list ty.Text (map value.Text ts)

abbrev pub parsed : List ℕ → Option ℤ → Result Value LibFault
parsed s None = Err (NotANumber s)
parsed s (Some n) = Ok (value.Int n)

-- the methods without an argument
abbrev pub text_alone : ℕ → List ℕ → Result Value LibFault
text_alone m s =
    if m == LENGTH then Ok (value.Int (counted (length s))) else
    if m == TO_UPPER then Ok (value.Text (map to_ascii_uppercase s)) else
    if m == TO_LOWER then Ok (value.Text (map to_ascii_lowercase s)) else
    if m == TRIM then Ok (value.Text (trim s)) else
    if m == PARSE_INT then parsed s (number_of s) else
    if m == BASE_NAME then Ok (value.Text (base_name s)) else
    if m == DIR_NAME then Ok (value.Text (dir_name s)) else
    if m == EXT_NAME then Ok (value.Text (ext_name s)) else
    if m == REMOVE_EXT then Ok (value.Text (remove_ext s)) else
    if m == LINES then text_list (lines s) else
    no_row

-- the methods with a text
abbrev pub text_with_text : ℕ → List ℕ → List ℕ → Result Value LibFault
text_with_text m s t =
    if m == STARTS_WITH then Ok (value.Bool (begins_with t s)) else
    if m == ENDS_WITH then Ok (value.Bool (closes_with t s)) else
    if m == INDEX_OF then Ok (value.Int (place_number (first_place t s))) else
    if m == LAST_INDEX_OF then Ok (value.Int (place_number (last_place t s))) else
    if m == SPLIT then text_list (pieces t s) else
    if m == SWAP_EXT then short_text (swap_ext s t) else
    no_row

abbrev pub text_with : ℕ → List ℕ → Value-F Value → Result Value LibFault
text_with m s (Value-F.Text t) = text_with_text m s t
text_with m s _ = no_row

-- the methods with two arguments
abbrev pub text_with_two : ℕ → List ℕ → Value-F Value → Value-F Value → Result Value LibFault
text_with_two m s (Value-F.Int a) (Value-F.Int b) = if m == SUBSTR then part s a b else no_row
text_with_two m s (Value-F.Text a) (Value-F.Text b) = if m == REPLACE then short_text (replaced a b s) else no_row
text_with_two m s _ _ = no_row
