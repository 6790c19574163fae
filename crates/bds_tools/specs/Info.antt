-- What is told of a state.
use Rattle.std.specs.Prelude.{ℕ, List, [], ◌∷◌, ◌++◌, length, codes}
use Rattle.std.specs.List.{sum_by, count_by}
use Rattle.bds_code.specs.declared.unit.Function.{Function}
use Rattle.bds_state.specs.Parts.{Parts}
use Rattle.bds_tasks.specs.Tasks.{is_good}
use Rattle.bds_tools.specs.Lines.{lines, counted}

-- how many instructions all functions have together
abbrev pub instructions : List Function → ℕ
instructions functions = sum_by (λ f. length f.code) functions

abbrev pub info_text : Parts → List ℕ
info_text s = lines (
    (codes "script " ++ s.path)
    ∷ counted (codes "functions") (length s.unit.functions)
    ∷ counted (codes "instructions") (instructions s.unit.functions)
    ∷ counted (codes "threads") (length s.threads)
    ∷ counted (codes "tasks") (length s.tasks)
    ∷ counted (codes "ended well") (count_by is_good s.tasks)
    ∷ counted (codes "rules") (length s.rules)
    ∷ [])
