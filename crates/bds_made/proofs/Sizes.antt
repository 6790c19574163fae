-- How many instructions the code of the script has.
use Rattle.std.proofs.Common.{ℕ, zero, suc, ◌+◌, ◌*◌, ◌%◌, ◌≤◌, List, [], ◌∷◌, arith}
use Rattle.std.specs.Prelude.{codes, decimal, pos, ℤ}
use Rattle.bds_value.specs.declared.value.Ty.TheVariants as ty
use Rattle.bds_tree.specs.StmtTree.{StmtTree}
use Rattle.bds_check_names.specs.declared.names.Variable.{Variable}
use Rattle.bds_check_names.specs.Scopes.{variable}
use Rattle.bds_check_size.specs.Known.{Known}
use Rattle.bds_check_size.specs.ParSize.{pars_size}
use Rattle.bds_check_size.specs.ScriptSize.{program_size, script_parts_size, top_size, all_globals}
use Rattle.bds_made.proofs.Script.{judged, task_stmt, add_stmt, all_stmt, tasks_parts, made_tree, made_parts}
use Rattle.bds_made.proofs.Typing.{text_text, list_text}

abbrev known : Known
known = record {
  locals = [];
  globals = variable (codes "args") (ty.List ty.Text) ∷ variable (codes "outs") (ty.List ty.Text) ∷ [];
}

-- at the top level, without a value that is set
abbrev size_of : StmtTree → ℕ
size_of s = top_size [] s known + pars_size s known

task_fits : (l : ℕ) (d : List ℕ) (z : ℤ) → size_of (task_stmt judged l d z) ≤ 60
task_fits l d z = rw text_text (omega arith)

add_fits : (l : ℕ) (d : List ℕ) → size_of (add_stmt judged l d) ≤ 10
add_fits l d = omega arith

all_fits : (l : ℕ) → size_of (all_stmt judged l) ≤ 60
all_fits l = rw (text_text, list_text) (omega arith)

tasks_fit : (k i l : ℕ) (globals : List Variable)
    → script_parts_size [] (tasks_parts judged k i l) globals known ≤ 100 * k + 100
tasks_fit zero i l globals = let e = all_fits l in omega (arith, e)
tasks_fit (suc k) i l globals =
    let e = task_fits l (decimal i) (pos (1 + i % 3)) in
    let f = add_fits (l + 1) (decimal i) in
    let g = tasks_fit k (i + 1) ((l + 1) + 1) globals in
    omega (arith, e, f, g)

pub made_fits : (files : List (List ℕ)) (n : ℕ) → program_size [] [] (made_tree judged files n) ≤ 100 * n + 200
made_fits files n = let e = tasks_fit n 0 2 (all_globals (made_parts judged n)) in omega (arith, e)
