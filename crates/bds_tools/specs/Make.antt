-- A large script that is made from a number.
use Rattle.std.specs.Prelude.{ℕ, ◌+◌, ◌%◌, List, [], ◌∷◌, ◌++◌, codes}
use Rattle.std.specs.List.{flat_map, range_with_len}
use Rattle.bds_tools.specs.Lines.{lines, numbered}

-- a task that sorts the file `i0` into the file `o0`, for the number 0, with one to three processors
abbrev pub task_line : ℕ → List ℕ
task_line i =
    numbered (codes "task('o") i ++ numbered (codes "' <- 'i") i ++ numbered (codes "', cpus := ") (1 + i % 3)
    ++ numbered (codes ") sys sort i") i ++ numbered (codes " > o") i

-- its file among those that the last task takes
abbrev pub add_line : ℕ → List ℕ
add_line i = numbered (codes "outs += 'o") i ++ codes "'"

abbrev pub task_lines : ℕ → List ℕ
task_lines i = lines (task_line i ∷ add_line i ∷ [])

abbrev pub make_text : ℕ → List ℕ
make_text number =
    lines (codes "string[] outs" ∷ [])
    ++ flat_map task_lines (range_with_len 0 number)
    ++ lines (codes "task('all' <- outs) sys cat $outs > all" ∷ codes "wait" ∷ codes "println \"$outs\"" ∷ [])
