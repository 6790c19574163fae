-- The name of a task in texts.
use Rattle.std.specs.Prelude.{ℕ, List, ◌++◌, codes, decimal}

abbrev pub task_name : ℕ → List ℕ
task_name task = codes "task." ++ decimal task
