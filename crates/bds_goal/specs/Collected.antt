-- For private contracts alone: the files that a goal reaches, collected, and without repeats where they stand in order.
use Rattle.std.specs.Prelude.{ℕ, ◌+◌, Bool, true, false, List, [], ◌∷◌, ◌++◌, Option, Some, None}
use Rattle.bds_value.specs.Order.{is_before}
use Rattle.bds_rules.specs.declared.rule.Rule.{Rule}
use Rattle.bds_goal.specs.Marks.{is_marked}

abbrev pub files_where : Bool → Rule → List (List ℕ)
files_where true r = r.ins ++ r.outs
files_where false r = []

-- the files of the rules that are marked, where the first has this number
abbrev pub files_from : List Bool → ℕ → List Rule → List (List ℕ)
files_from marks n [] = []
files_from marks n (r ∷ rs) = files_where (is_marked marks n) r ++ files_from marks (n + 1) rs

abbrev pub collected : List Rule → List Bool → List (List ℕ) → List (List ℕ)
collected rules marks targets = targets ++ files_from marks 1 rules

abbrev pub last_text : List (List ℕ) → Option (List ℕ)
last_text [] = None
last_text (t ∷ []) = Some t
last_text (t ∷ u ∷ ts) = last_text (u ∷ ts)

abbrev pub is_behind : Option (List ℕ) → List ℕ → Bool
is_behind None text = true
is_behind (Some last) text = is_before last text

abbrev pub put_where : Bool → List (List ℕ) → List ℕ → List (List ℕ)
put_where true texts text = texts ++ text ∷ []
put_where false texts text = texts

-- each of the others is put at the end, where it comes behind the last
abbrev pub unrepeated : List (List ℕ) → List (List ℕ) → List (List ℕ)
unrepeated texts [] = texts
unrepeated texts (x ∷ xs) = unrepeated (put_where (is_behind (last_text texts) x) texts x) xs
