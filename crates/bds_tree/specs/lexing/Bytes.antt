-- Bytes by name.
use Rattle.std.specs.Prelude.{ℕ, Bool, ◌==◌, ◌||◌}
use Rattle.std.specs.Char.{is_ascii_digit, is_ascii_alphabetic}

abbrev pub tab : ℕ
tab = 9

abbrev pub line_end : ℕ
line_end = 10

abbrev pub carriage_return : ℕ
carriage_return = 13

abbrev pub space : ℕ
space = 32

abbrev pub double_quote : ℕ
double_quote = 34

abbrev pub hash : ℕ
hash = 35

abbrev pub dollar : ℕ
dollar = 36

abbrev pub single_quote : ℕ
single_quote = 39

abbrev pub star : ℕ
star = 42

abbrev pub slash : ℕ
slash = 47

abbrev pub zero_digit : ℕ
zero_digit = 48

abbrev pub open_square : ℕ
open_square = 91

abbrev pub backslash : ℕ
backslash = 92

abbrev pub close_square : ℕ
close_square = 93

abbrev pub underscore : ℕ
underscore = 95

abbrev pub open_brace : ℕ
open_brace = 123

abbrev pub close_brace : ℕ
close_brace = 125

abbrev pub is_line_end : ℕ → Bool
is_line_end b = b == line_end

abbrev pub is_blank : ℕ → Bool
is_blank b = (b == space) || (b == tab) || (b == carriage_return)

-- a letter or `_`
abbrev pub begins_name : ℕ → Bool
begins_name b = is_ascii_alphabetic b || (b == underscore)

abbrev pub is_name_byte : ℕ → Bool
is_name_byte b = begins_name b || is_ascii_digit b
