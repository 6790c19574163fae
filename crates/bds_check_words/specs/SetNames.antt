-- Which global a word sets.
use Rattle.std.specs.Prelude.{ℕ, Bool, false, not, ◌&&◌, ◌||◌, is_some, unwrap_or, Option, Some, None, List, [], ◌∷◌, codes, if◌then◌else◌}
use Rattle.std.specs.List.{list_all}
use Rattle.std.specs.Str.{bytes_eq}
use Rattle.bds_value.specs.declared.value.Ty.{Ty, out-Ty}
use Rattle.bds_value.specs.declared.value.Ty.TheVariants as ty
use Rattle.bds_value.specs.declared.value.Ty.TheOpen.{Ty-F}
use Rattle.bds_value.specs.Options.{◌>>=◌}
use Rattle.bds_value.specs.Types.{same_ty}
use Rattle.bds_tree.specs.lexing.Bytes.{begins_name, is_name_byte}
use Rattle.bds_tree.specs.lexing.ReservedWords.{reserved}
use Rattle.bds_tree.specs.lexing.Scan.{behind}
use Rattle.bds_check_names.specs.declared.names.Variable.{Variable}
use Rattle.bds_check_names.specs.Scopes.{first_type}
use Rattle.bds_check_words.specs.declared.kinds.Kind.{Kind}
use Rattle.bds_check_words.specs.declared.kinds.Kind.TheVariants as kind

-- Names

abbrev pub dash : ℕ
dash = 45

abbrev pub is_reserved : List ℕ → Bool
is_reserved x = is_some (reserved x) || bytes_eq x (codes "sys")

-- a letter or `_`, and then letters, digits and `_`, which are no reserved word
abbrev pub is_name : List ℕ → Bool
is_name [] = false
is_name (b ∷ bs) = begins_name b && list_all is_name_byte bs && not (is_reserved (b ∷ bs))

abbrev pub if_name : List ℕ → Option (List ℕ)
if_name x = if is_name x then Some x else None

-- the name in `-NAME` or `--NAME`; a word of another form sets nothing
abbrev pub name_in : List ℕ → Option (List ℕ)
name_in word = behind dash word >>= λ x. if_name (unwrap_or (behind dash x) x)

-- Globals that can be set

abbrev pub kind_at : Ty-F Ty → Option Kind
kind_at Ty-F.Bool = Some kind.Truth
kind_at Ty-F.Int = Some kind.Number
kind_at Ty-F.Text = Some kind.Text
kind_at (Ty-F.List t) = if same_ty t ty.Text then Some kind.Texts else None
kind_at _ = None

-- what words give a variable of a type: `bool`, `int`, `string` or `string[]`
abbrev pub kind_of : Ty → Option Kind
kind_of t = kind_at (out-Ty t)

-- what words give the global of a name; `args` is not set by its name
abbrev pub kind_named : List Variable → List ℕ → Option Kind
kind_named globals x = if bytes_eq x (codes "args") then None else first_type x globals >>= kind_of
