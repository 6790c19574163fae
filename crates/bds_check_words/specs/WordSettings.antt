-- What the words behind a script set: values of globals, and the items of `args`.
use Rattle.std.specs.Prelude.{ℕ, suc, zero, Bool, true, false, not, Option, Some, None, List, [], ◌∷◌, length, map, take_while, is_some, ok_or, option_map, Result, Ok, codes, if◌then◌else◌}
use Rattle.std.specs.Str.{bytes_eq}
use Rattle.bds_value.specs.declared.value.Ty.TheVariants as ty
use Rattle.bds_value.specs.declared.value.Value.{Value}
use Rattle.bds_value.specs.declared.value.Value.TheVariants as value
use Rattle.bds_value.specs.Results.{◌>>=◌, result_map}
use Rattle.bds_lib.specs.Numbers.{number_of}
use Rattle.bds_tree.specs.lexing.Scan.{behind}
use Rattle.bds_check_names.specs.declared.names.Variable.{Variable}
use Rattle.bds_check_size.specs.ScriptSize.{Settings}
use Rattle.bds_check_words.specs.declared.kinds.Kind.{Kind}
use Rattle.bds_check_words.specs.declared.kinds.Kind.TheVariants as kind
use Rattle.bds_check_words.specs.SetNames.{dash, name_in, kind_named}
use Rattle.bds_check_words.specs.declared.faults.WordsFault.{WordsFault}
use Rattle.bds_check_words.specs.declared.faults.WordsFault.TheVariants as fault

-- The value that the words behind the name give, and how many of them it takes

-- `true` or `false`, where that is the next word, and else true
abbrev pub truth_behind : List (List ℕ) → Value × ℕ
truth_behind [] = (value.Bool true, 0)
truth_behind (w ∷ ws) =
    if bytes_eq w (codes "true") then (value.Bool true, 1) else
    if bytes_eq w (codes "false") then (value.Bool false, 1) else
    (value.Bool true, 0)

-- the next word, as the method `parseInt` reads it
abbrev pub number_behind : List (List ℕ) → Option (Value × ℕ)
number_behind [] = None
number_behind (w ∷ ws) = option_map (λ n. (value.Int n, 1)) (number_of w)

-- the next word
abbrev pub text_behind : List (List ℕ) → Option (Value × ℕ)
text_behind [] = None
text_behind (w ∷ ws) = Some (value.Text w, 1)

abbrev pub is_dashed : List ℕ → Bool
is_dashed word = is_some (behind dash word)

-- all words up to the next that begins with `-`
abbrev pub words_before_dash : List (List ℕ) → List (List ℕ)
words_before_dash ws = take_while (λ w. not (is_dashed w)) ws

abbrev pub text_list : List (List ℕ) → Value × ℕ
text_list ts = (value.List ty.Text (map value.Text ts), length ts)

-- none where the word is missing or can't be read
abbrev pub value_behind : Kind → List (List ℕ) → Option (Value × ℕ)
value_behind kind.Truth ws = Some (truth_behind ws)
value_behind kind.Number ws = number_behind ws
value_behind kind.Text ws = text_behind ws
value_behind kind.Texts ws = Some (text_list (words_before_dash ws))

-- the value that is set for a name, and how many words it takes; or why nothing is
abbrev pub setting : List Variable → List ℕ → List (List ℕ) → Result (Value × ℕ) WordsFault
setting globals x ws =
    ok_or (kind_named globals x) (fault.NoVariable x) >>= λ k.
    ok_or (value_behind k ws) (fault.BadValue x)

-- All words

abbrev pub with_setting : List ℕ → Value → Settings × List (List ℕ) → Settings × List (List ℕ)
with_setting x v given = ((x, v) ∷ given.0, given.1)

abbrev pub with_item : List ℕ → Settings × List (List ℕ) → Settings × List (List ℕ)
with_item w given = (given.0, w ∷ given.1)

-- what the words give behind the first so many, which a setting before them took
abbrev pub words_behind : List Variable → ℕ → List (List ℕ) → Result (Settings × List (List ℕ)) WordsFault
words_behind globals taken [] = Ok ([], [])
words_behind globals (suc taken) (w ∷ ws) = words_behind globals taken ws
words_behind globals zero (w ∷ ws) = elim (name_in w) [
  | None ↦ result_map (with_item w) (words_behind globals 0 ws)
  | Some x ↦ setting globals x ws >>= λ s. result_map (with_setting x s.0) (words_behind globals s.1 ws)
]

-- the settings in the order of the words, and the other words in their order; or the fault of the first word that has one
abbrev pub words_give : List Variable → List (List ℕ) → Result (Settings × List (List ℕ)) WordsFault
words_give globals words = words_behind globals 0 words
