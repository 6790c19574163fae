use Rattle.std.proofs.Common.{◌≡◌, ◌++◌, [], ◌∷◌, codes}
use Rattle.std.specs.List.{flat_map, range_with_len}
use Rattle.bds_tools.specs.Lines.{lines}
use Rattle.bds_tools.specs.Make.{task_lines}
use Rattle.bds_tools.proofs.scripts.make.Given as goal

-- the lines of the numbers so far
abbrev pub invariant-loop-i : goal.invariant-loop-i
invariant-loop-i l = l.out.items ≡ lines (codes "string[] outs" ∷ []) ++ flat_map task_lines (range_with_len 0 l.i)
